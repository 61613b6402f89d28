use Rattle.std.proofs.Common.{◌≡◌, drop}
use Rattle.cc_links.specs.Links as links
use Rattle.cc_node.proofs.opening.link_numbers.Given as goal

abbrev pub invariant-loop-number : goal.invariant-loop-number
invariant-loop-number l = links.add_all 0 (drop l.number-index l.numbers) l.peers ≡ links.add_all 0 l.numbers l.fn.peers
