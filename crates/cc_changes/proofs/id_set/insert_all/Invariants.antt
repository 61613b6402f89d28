use Rattle.std.proofs.Common.{◌≡◌, take}
use Rattle.std.specs.Vec.{vec_capacity}
use Rattle.cc_views.specs.NatSets as set
use Rattle.cc_views.specs.NatSets.{marked}
use Rattle.cc_views.specs.Tables.{IsTable, table_of}
use Rattle.cc_changes.proofs.id_set.insert_all.Given as goal

abbrev pub invariant-loop-id : goal.invariant-loop-id
invariant-loop-id l = record {
  table : IsTable marked 256 l.ids.items (vec_capacity l.ids);
  so_far : table_of marked l.ids.items ≡ set.insert_all (table_of marked l.fn.ids.items) (take l.id-index l.others);
}
