use Rattle.std.proofs.Common.{ap, subst, ◌++◌, List, ℕ, length, arith}
use Rattle.std.specs.Int.{w16, to_be_bytes}
use Rattle.std.specs.List.{flat_map}
use Rattle.cc_views.specs.declared.row.Row.{Row}
use Rattle.cc_views.specs.Rows.{rows_of}
use Rattle.cc_wire.specs.Writers.{Writes}
use Rattle.cc_wire.specs.Spellings.{row_spelling}
use Rattle.cc_wire.proofs.Writes.{writes_then}
use Rattle.cc_wire.proofs.Views.{len-rows_of}
use Rattle.cc_wire.proofs.writer.put_view.Goals as goal

pub overflow_cast-rows : goal.overflow_cast-rows
overflow_cast-rows c = omega (arith, ap length c.rows-rows.ensures.rows, len-rows_of c.args.view.now, c.rows-rows.ensures.fits)

pub returns-clause-writes : goal.returns-clause-writes
returns-clause-writes c =
    let rows = c.rows-rows.result.now in
    let all = writes_then c.args.out.now c.put_u16.new.out c.put_rows.new.out (to_be_bytes w16 (length rows)) (flat_map row_spelling rows)
    c.put_rows.result c.in_ok-put_u16.ensures c.put_rows.ensures.writes in
    let by_rows = subst (λ (rs : List Row). Writes c.args.out.now c.put_rows.new.out (to_be_bytes w16 (length rs) ++ flat_map row_spelling rs)
    c.put_rows.result) c.rows-rows.ensures.rows all in
    subst (λ (n : ℕ). Writes c.args.out.now c.put_rows.new.out (to_be_bytes w16 n ++ flat_map row_spelling (rows_of c.args.view.now)) c.put_rows.result)
    (len-rows_of c.args.view.now) by_rows
