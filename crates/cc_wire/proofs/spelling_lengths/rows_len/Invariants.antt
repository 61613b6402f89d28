use Rattle.std.proofs.Common.{◌≡◌, ◌≤◌, ◌*◌, length, take}
use Rattle.std.specs.List.{flat_map}
use Rattle.cc_wire.specs.Spellings.{row_spelling}
use Rattle.cc_wire.proofs.spelling_lengths.rows_len.Given as goal

abbrev pub invariant-loop-row : goal.invariant-loop-row
invariant-loop-row l = record {
  counted : l.len ≡ length (flat_map row_spelling (take l.row-index l.rows));
  fits : l.len ≤ 215 * l.row-index;
}
