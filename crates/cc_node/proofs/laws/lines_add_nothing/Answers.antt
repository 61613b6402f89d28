use Rattle.cc_node.proofs.AloneLaws.{refused_alone, step_same, after_same, line_same, lawful_alone, lawful_within, leaves_line}
use Rattle.cc_node.proofs.Unaware.{next_unaware, post_unaware, decides_unaware}
use Rattle.cc_node.proofs.laws.lines_add_nothing.Goals as goal

pub returns : goal.returns
returns c = record {
  refused = refused_alone;
  step = step_same;
  lawful = λ n es none. (lawful_within n es none, lawful_alone n es none);
  after = after_same;
  line = line_same;
  leaves = leaves_line;
  unaware = λ c asks e. (next_unaware c asks e, post_unaware c asks e, decides_unaware c asks e);
}
