use Rattle.cc_command_line.proofs.SaidLines.{lines_are_list}
use Rattle.cc_command_line.proofs.peer_lines.lines_are_a_list.Goals as goal

pub returns : goal.returns
returns c = lines_are_list
