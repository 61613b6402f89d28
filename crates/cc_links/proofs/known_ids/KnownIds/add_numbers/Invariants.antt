use Rattle.std.proofs.Common.{◌≡◌, ◌≤◌, take, drop}
use Rattle.cc_views.specs.NatSets as set
use Rattle.cc_links.proofs.known_ids.KnownIds.add_numbers.Given as goal

abbrev pub invariant-loop-number : goal.invariant-loop-number
invariant-loop-number l = record {
  within : set.len l.self ≤ 256;
  rest : set.insert_all l.self (drop l.number-index l.numbers) ≡ set.insert_all l.fn.self l.numbers;
  front : l.self ≡ set.insert_all l.fn.self (take l.number-index l.numbers);
}
