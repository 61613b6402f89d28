use Rattle.cc_wire.specs.Spellings.{IsRow}
use Rattle.cc_wire.proofs.Writes.{all_more}
use Rattle.cc_wire.proofs.spellable.rows_are_spellable.Goals as goal

pub loop-row-preserved : goal.loop-row-preserved
loop-row-preserved c = all_more IsRow c.args.rows.now c.loop-row.row-index c.row-item.result c.loop-row-test.true c.row-item.is c.loop-row.invariant
    c.row_is_spellable.ensures
