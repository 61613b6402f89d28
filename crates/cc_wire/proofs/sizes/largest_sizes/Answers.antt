use Rattle.std.proofs.Common.{arith}
use Rattle.cc_wire.proofs.Lengths.{length-value, length-row, length-view, length-message, length-command, length-number_list, length-answer, length-event}
use Rattle.cc_wire.proofs.sizes.largest_sizes.Goals as goal

pub returns : goal.returns
returns c = record {
  value = length-value;
  row = length-row;
  view = length-view;
  message = length-message;
  command = length-command;
  set = λ s is. omega (arith, length-number_list s is);
  answer = length-answer;
  event = length-event;
}
