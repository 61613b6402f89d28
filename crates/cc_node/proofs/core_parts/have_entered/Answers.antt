use Rattle.cc_node.proofs.RestoredRows.{ids_within}
use Rattle.cc_node.proofs.core_parts.have_entered.Goals as goal

pub returns : goal.returns
returns c = rw (c.all_entered.ensures, c.joined.ensures.ids) (ids_within _ _)
