use Rattle.cc_links.proofs.AddedPeers.{fewer_fit, next_number}
use Rattle.cc_node.proofs.opening.link_numbers.Goals as goal

pub add-requires : goal.add-requires
add-requires c =
    fewer_fit 0 _ _ _ (next_number 0 _ _ _ 0 _ _ c.loop-number-test.true (rw c.unwrap.ensures at c.new.ensures.id) c.loop-number.invariant) c.requires.few

pub loop-number-preserved : goal.loop-number-preserved
loop-number-preserved c = rw c.add.ensures (next_number 0 _ _ _ 0 _ _ c.loop-number-test.true (rw c.unwrap.ensures at c.new.ensures.id) c.loop-number.invariant)
