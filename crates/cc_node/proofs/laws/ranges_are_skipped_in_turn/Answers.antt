use Rattle.cc_node.proofs.SkipLaws.{next_twice, next_in_turn}
use Rattle.cc_node.proofs.laws.ranges_are_skipped_in_turn.Goals as goal

pub returns : goal.returns
returns c = record { numbers = next_in_turn; parts = next_twice }
