use Rattle.std.proofs.Common.{◌≡◌, List}
use Rattle.std.specs.List.{AllByRecursion}
use Rattle.cc_messages.specs.declared.command.Command.TheVariants as command
use Rattle.cc_web.specs.declared.asked.Asked.{Asked}
use Rattle.cc_web.specs.Conducts.{IsKnown}
use Rattle.cc_web.specs.Rounds.{Rounds}
use Rattle.cc_web.specs.Steps.{Step, Leads, left_in}
use Rattle.cc_web.proofs.follow.follow_changes.Given as goal

abbrev pub invariant-turns : goal.invariant-turns
invariant-turns g l =
    (before : List Step) × (earlier : List Asked) × Leads g.A.NodeAccess.does l.fn.asking before l.asking × Rounds command.Collect l.timeout_ms before earlier
    × AllByRecursion (IsKnown l.known) earlier × (l.left ≡ left_in l.timeout_ms before)

abbrev pub decreases-turns : goal.decreases-turns
decreases-turns g l = l.left
