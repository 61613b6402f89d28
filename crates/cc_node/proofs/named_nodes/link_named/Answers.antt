use Rattle.cc_node.specs.Core.{ids_of}
use Rattle.cc_node.proofs.Named.{NamedRoom, named_links, named_room}
use Rattle.cc_node.proofs.named_nodes.link_named.Goals as goal
use Rattle.cc_node.proofs.named_nodes.link_named.Goals.{After-named_by}

room : (c : After-named_by) → NamedRoom c.args.posts c.args.peers.now c.named_by.result
room c = named_room c.args.posts c.args.peers.now c.named_by.result (ids_of c.args.message.now) c.named_by.ensures c.requires

pub add_nodes-requires : goal.add_nodes-requires
add_nodes-requires c = (room (goal.at.add_nodes-requires c).After-named_by).rows

pub add_all-requires : goal.add_all-requires
add_all-requires c = rw c.add_nodes.ensures (room (goal.at.add_all-requires c).After-named_by).left

pub add_all-requires-2 : goal.add_all-requires-2
add_all-requires-2 c = rw (c.add_all.ensures, c.add_nodes.ensures) (room (goal.at.add_all-requires-2 c).After-named_by).joined

pub add_all-requires-3 : goal.add_all-requires-3
add_all-requires-3 c =
    rw (c.add_all-2.ensures, c.add_all.ensures, c.add_nodes.ensures) (room (goal.at.add_all-requires-3 c).After-named_by).entered

pub add_all-requires-4 : goal.add_all-requires-4
add_all-requires-4 c =
    rw (c.add_all-3.ensures, c.add_all-2.ensures, c.add_all.ensures, c.add_nodes.ensures) (room (goal.at.add_all-requires-4 c).After-named_by).node

pub returns : goal.returns
returns c =
    rw (c.add_all-4.ensures, c.add_all-3.ensures, c.add_all-2.ensures, c.add_all.ensures, c.add_nodes.ensures)
    (named_links c.args.posts c.args.peers.now c.named_by.result (ids_of c.args.message.now) c.named_by.ensures)
