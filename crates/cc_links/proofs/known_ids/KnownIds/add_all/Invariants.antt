use Rattle.std.proofs.Common.{◌≡◌, ◌≤◌, take, drop}
use Rattle.cc_views.specs.NatSets as set
use Rattle.cc_links.proofs.known_ids.KnownIds.add_all.Given as goal

abbrev pub invariant-loop-id : goal.invariant-loop-id
invariant-loop-id l = record {
  within : set.len l.self ≤ 256;
  rest : set.insert_all l.self (drop l.id-index l.ids) ≡ set.insert_all l.fn.self l.ids;
  front : l.self ≡ set.insert_all l.fn.self (take l.id-index l.ids);
}
