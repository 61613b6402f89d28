use Rattle.std.proofs.Common.{arith, sym, subst, List, ℕ}
use Rattle.std.specs.Prelude.{IsTrue}
use Rattle.cc_connections.specs.Held.{is_partial}
use Rattle.cc_connections.proofs.Feeds.{nothing_partial}
use Rattle.cc_connections.proofs.frame_reader.FrameReader.new.Goals as goal

pub invariant_of-result : goal.invariant_of-result
invariant_of-result c = record {
  partial = subst (λ (held : List ℕ). IsTrue (is_partial held)) (sym c.in_ok-held.ensures.items) nothing_partial;
  room = omega (arith, c.in_ok-held.ensures.capacity);
}
