use Rattle.std.proofs.Common.{refl}
use Rattle.cc_node.proofs.PartDecisions.{spent_share}
use Rattle.cc_node.proofs.ShareLaws.{next_share, share_last, share_again}
use Rattle.cc_node.proofs.laws.share_changes_alone.Goals as goal

pub returns : goal.returns
returns c = record {
  leaves = next_share;
  begins = λ k share. refl;
  puts = λ k share. refl;
  last = share_last;
  again = share_again;
  spent = spent_share;
}
