use Rattle.std.proofs.Common.{◌≡◌, drop}
use Rattle.cc_links.specs.Links as links
use Rattle.cc_links.proofs.links.Links.add_all.Given as goal

abbrev pub invariant-loop-peer : goal.invariant-loop-peer
invariant-loop-peer l = links.add_all l.posts (drop l.peer-index l.peers) l.self ≡ links.add_all l.posts l.peers l.fn.self
