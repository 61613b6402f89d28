use Rattle.cc_wire.specs.Spellings.{IsId}
use Rattle.cc_wire.proofs.Writes.{all_more}
use Rattle.cc_wire.proofs.spellable.ids_are_spellable.Goals as goal

pub loop-id-preserved : goal.loop-id-preserved
loop-id-preserved c = all_more IsId c.args.ids.now c.loop-id.id-index c.id-item.result c.loop-id-test.true c.id-item.is c.loop-id.invariant
    c.id_is_spellable.ensures
