-- What clients read of the simple objects after what was written.
--     IsDone c q s r command     this command was accepted as request r of session s of node q, and was answered Stored
use Rattle.std.specs.Prelude.{◌≡◌, ℕ, Some}
use Rattle.std.specs.List.{Contains}
use Rattle.std.specs.FinMap as table
use Rattle.cc_messages.specs.declared.answer.Answer.TheVariants as answer
use Rattle.cc_messages.specs.declared.command.Command.{Command}
use Rattle.cc_messages.specs.declared.event.Event.TheVariants as event
use Rattle.cc_laws.specs.Clusters.{Member, Cluster}
use Rattle.cc_laws.specs.Regular.{released_events, IsAnswered}

abbrev pub IsDone : Cluster → ℕ → ℕ → ℕ → Command → Type 0
IsDone c q s r command =
    (m : Member) × (table.get c.members q ≡ Some m) × Contains (released_events m) (event.Ask s r command) × IsAnswered c q s r answer.Stored
