use Rattle.cc_node.proofs.RestoredRows.{view_within}
use Rattle.cc_node.proofs.core_parts.knows_view.Goals as goal

pub returns : goal.returns
returns c = rw (c.knows_rows.ensures, c.rows.ensures.rows) (view_within _ _)
