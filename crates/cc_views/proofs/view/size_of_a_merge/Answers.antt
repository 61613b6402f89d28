use Rattle.cc_views.specs.MergeLaws.{merge_is_no_larger, len_merge_within}
use Rattle.cc_views.proofs.view.size_of_a_merge.Goals as goal

pub returns : goal.returns
returns c = record { sum = merge_is_no_larger; within = λ v w ids. len_merge_within v w ids }
