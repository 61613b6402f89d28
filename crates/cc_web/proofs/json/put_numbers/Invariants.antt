use Rattle.std.proofs.Common.{◌≡◌, ◌++◌, take}
use Rattle.cc_web.proofs.Arrays.{glue, inside, number_json}
use Rattle.cc_web.proofs.json.put_numbers.Given as goal

abbrev pub invariant-loop-number : goal.invariant-loop-number
invariant-loop-number l = record {
  out : l.out.items ≡ l.initial.out.items ++ inside number_json (take l.number-index l.numbers);
  mark : l.mark ≡ glue (take l.number-index l.numbers);
}
