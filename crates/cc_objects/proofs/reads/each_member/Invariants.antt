use Rattle.std.proofs.Common.{◌≡◌, ◌≤◌, ◌*◌, length, take}
use Rattle.std.specs.List.{flat_map}
use Rattle.cc_views.specs.NatSets.{items}
use Rattle.cc_objects.proofs.reads.each_member.Given as goal

abbrev pub invariant-loop-row : goal.invariant-loop-row
invariant-loop-row l = record {
  numbers : l.numbers.items ≡ flat_map (λ row. items row.value.set) (take l.row-index l.rows);
  fits : length l.numbers.items ≤ 32 * l.row-index;
}
