use Rattle.cc_laws.proofs.LaterViews.{next_follows, views_follow, comparable, one_value}
use Rattle.cc_laws.proofs.histories.views_follow.Goals as goal

pub returns : goal.returns
returns c = record {
  event = next_follows;
  goes_on = views_follow;
  comparable = comparable;
  one_value = one_value;
}
