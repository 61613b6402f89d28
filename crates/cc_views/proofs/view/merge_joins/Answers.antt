use Rattle.cc_views.specs.MergeLaws.{merge_comm, merge_assoc, merge_same, at_most_merge, merged_at_most}
use Rattle.cc_views.proofs.view.merge_joins.Goals as goal

pub returns : goal.returns
returns c = record { commutative = merge_comm; associative = merge_assoc; idempotent = merge_same; has_first = at_most_merge; has_second = merged_at_most }
