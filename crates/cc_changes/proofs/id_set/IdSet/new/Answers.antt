use Rattle.std.proofs.Common.{refl, ap, ◌∙◌, []}
use Rattle.cc_views.specs.NatSets.{marked, items, len, len-empty}
use Rattle.cc_views.specs.NatLists.{items-table_of}
use Rattle.cc_views.specs.Tables.{table_of}
use Rattle.cc_changes.proofs.id_set.IdSet.new.Goals as goal

pub returns-clause-items : goal.returns-clause-items
returns-clause-items c = ap (λ ids. items (table_of marked ids)) c.in_ok-ids.ensures.items ∙ items-table_of [] refl

pub returns-clause-len : goal.returns-clause-len
returns-clause-len c = ap (λ ids. len (table_of marked ids)) c.in_ok-ids.ensures.items ∙ len-empty
