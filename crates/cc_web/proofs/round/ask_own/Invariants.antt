use Rattle.std.proofs.Common.{◌≡◌, List}
use Rattle.std.specs.List.{AllByRecursion}
use Rattle.cc_web.specs.declared.asked.Asked.{Asked}
use Rattle.cc_web.specs.Steps.{Step, Leads, left_in}
use Rattle.cc_web.specs.Rounds.{Rounds, IsBehind}
use Rattle.cc_web.proofs.round.ask_own.Given as goal

abbrev pub invariant-loop-became : goal.invariant-loop-became
invariant-loop-became g l =
    (before : List Step) × (earlier : List Asked) × Leads g.A.NodeAccess.does l.fn.asking before l.asking
    × Rounds l.command l.timeout_ms before earlier × AllByRecursion IsBehind earlier × (l.left ≡ left_in l.timeout_ms before)

abbrev pub decreases-loop-became : goal.decreases-loop-became
decreases-loop-became g l = l.left
