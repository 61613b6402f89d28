use Rattle.cc_node.proofs.SkipLaws.{decides_skipped, step_skipped, puts_skipped}
use Rattle.cc_node.proofs.laws.answers_to_others_are_skipped.Goals as goal

pub returns : goal.returns
returns c = record { refused = decides_skipped; step = step_skipped; puts = puts_skipped }
