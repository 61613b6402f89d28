use Rattle.cc_links.proofs.AddedPeers.{fewer_fit, next_peer}
use Rattle.cc_links.proofs.links.Links.add_all.Goals as goal

pub add-requires : goal.add-requires
add-requires c = fewer_fit c.args.posts _ _ _ (next_peer _ _ _ _ _ _ c.loop-peer-test.true c.peer-item.is c.loop-peer.invariant) c.requires

pub loop-peer-preserved : goal.loop-peer-preserved
loop-peer-preserved c = rw c.add.ensures (next_peer _ _ _ _ _ _ c.loop-peer-test.true c.peer-item.is c.loop-peer.invariant)
