use Rattle.std.proofs.Common.{subst, ◌++◌, ℕ}
use Rattle.std.specs.Int.{w32, w64, to_be_bytes}
use Rattle.cc_wire.specs.Spellings.{value_spelling}
use Rattle.cc_wire.specs.Writers.{Writes}
use Rattle.cc_wire.proofs.Writes.{writes_then}
use Rattle.cc_wire.proofs.writer.put_row.Goals as goal

pub returns-clause-writes : goal.returns-clause-writes
returns-clause-writes c =
    let row = c.args.row.now in
    let rest = writes_then c.put_u32.new.out c.put_u64.new.out c.put_value.new.out _ _ c.put_value.result c.in_ok-put_u64.ensures c.put_value.ensures.writes in
    subst
    (λ (n : ℕ). Writes c.args.out.now c.put_value.new.out (to_be_bytes w32 n ++ (to_be_bytes w64 row.number ++ value_spelling row.value)) c.put_value.result)
    c.number.ensures.number
    (writes_then c.args.out.now c.put_u32.new.out c.put_value.new.out _ _ c.put_value.result c.in_ok-put_u32.ensures rest)
