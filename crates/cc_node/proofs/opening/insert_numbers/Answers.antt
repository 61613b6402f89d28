use Rattle.cc_links.proofs.KnownSets.{first_fits, next_number}
use Rattle.cc_node.proofs.opening.insert_numbers.Goals as goal

pub insert-requires : goal.insert-requires
insert-requires c =
    first_fits _ _ _ (next_number _ _ _ _ _ 0 c.loop-number-test.true (rw c.unwrap.ensures at c.new.ensures.id) c.loop-number.invariant) c.requires.few

pub loop-number-preserved : goal.loop-number-preserved
loop-number-preserved c =
    rw c.insert.ensures (next_number _ _ _ _ _ 0 c.loop-number-test.true (rw c.unwrap.ensures at c.new.ensures.id) c.loop-number.invariant)
