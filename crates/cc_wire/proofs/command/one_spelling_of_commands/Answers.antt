use Rattle.std.proofs.Common.{sym, ◌∙◌}
use Rattle.cc_wire.proofs.CommandFormat.{command_spelled}
use Rattle.cc_wire.proofs.Whole.{only_spelling}
use Rattle.cc_wire.proofs.command.one_spelling_of_commands.Goals as goal

pub returns : goal.returns
returns c = record { one = only_spelling command_spelled; same = λ a b x p q. p.spelled ∙ sym q.spelled }
