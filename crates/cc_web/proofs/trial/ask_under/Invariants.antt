use Rattle.std.proofs.Common.{◌≡◌, ◌≤◌, List}
use Rattle.std.specs.List.{AllByRecursion}
use Rattle.cc_web.specs.Steps.{Step, Leads, left_in}
use Rattle.cc_web.specs.Trials.{IsAgain}
use Rattle.cc_web.proofs.trial.ask_under.Given as goal

abbrev pub invariant-loop-became : goal.invariant-loop-became
invariant-loop-became g l =
    (before : List Step) × Leads g.A.NodeAccess.does l.fn.asking before l.asking × AllByRecursion (IsAgain l.key l.command) before
    × (l.left_ms ≡ left_in l.fn.left_ms before) × (l.left_ms ≤ l.fn.left_ms)

abbrev pub decreases-loop-became : goal.decreases-loop-became
decreases-loop-became g l = l.left_ms
