use Rattle.std.proofs.Common.{◌≡◌, ◌+◌, ◌≤◌, Bool, List, true, false, nat_lt, not, refl, sym, ap, subst, ◌∙◌}
use Rattle.std.specs.Prelude.{◌||◌}
use Rattle.cc_views.specs.Limits.{counter_limit}
use Rattle.cc_ops.specs.declared.pending_operation.Asked.{Asked}
use Rattle.cc_ops.specs.Ops.{Ops, after_ack}
use Rattle.cc_ops.specs.Refusals.{passes}
use Rattle.cc_ops.specs.Rounds.{first_round}
use Rattle.cc_ops.specs.WaitingAsks.{writes_by}
use Rattle.cc_ops.proofs.Rooms.{ack_raises, passes_by, some_there, none_overruns}
use Rattle.cc_ops.proofs.ops.Ops.ack_is_spent.Goals as goal

pub returns-else-self-eq-COUNTER_LIMIT : goal.returns-else-self-eq-COUNTER_LIMIT
returns-else-self-eq-COUNTER_LIMIT c me quorum =
    let s = c.args.self.now in
    let own = c.self.inside in
    let there = c.is_none.ensures ∙ ap not c.if-is_none.false in
    let first = some_there (λ asked. asked.now) c.begun_by_ack.result _ there c.begun_by_ack.ensures.asked in
    let some : 1 ≤ s.share = subst (λ (o : Ops). 1 ≤ o.share) c.self.view_is c.self.invariant.some in
    let within : s.number ≤ counter_limit = subst (λ (o : Ops). o.number ≤ counter_limit) c.self.view_is c.self.invariant.number in
    let below : s.tag ≡ counter_limit → ⊥ = subst (λ (o : Ops). o.tag ≡ counter_limit → ⊥) c.self.view_is c.if-self-eq-COUNTER_LIMIT.false in
    let raises = ack_raises me quorum s.phase first.0 s first.1 some in
    let k = writes_by (first_round s.share s.line) in
    let count : own.number + c.writes_of_round-writes.result ≡ s.number + k =
    ap (λ w. own.number + w) (c.writes_of_round-writes.ensures.count ∙ ap (λ (l : List Asked). writes_by (first_round own.share l)) c.asks.ensures.asks)
    ∙ ap (λ (o : Ops). o.number + writes_by (first_round o.share o.line)) c.self.view_is in
    ap (nat_lt counter_limit) count ∙ sym (passes_by s.number k within) ∙ ap (passes s.number) (sym raises.number)
    ∙ sym (either_false (passes s.number (after_ack me quorum s.phase s).number))
    ∙ sym (ap (λ (b : Bool). passes s.number (after_ack me quorum s.phase s).number || b) (none_overruns s.tag (after_ack me quorum s.phase s).tag below))
  where
    either_false : (b : Bool) → (b || false) ≡ b
    either_false true = refl
    either_false false = refl
