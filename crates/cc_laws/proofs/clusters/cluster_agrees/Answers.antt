use Rattle.cc_laws.proofs.Agreement.{all_written, one_value, views_commute}
use Rattle.cc_laws.proofs.clusters.cluster_agrees.Goals as goal

pub returns : goal.returns
returns c = record {
  written = λ start end moves v p k x fresh run occurs has. all_written start end moves fresh run v occurs p k x has;
  agree = λ start end moves v w p k x y fresh run first second here there. one_value start end moves fresh run v w first second p k x y here there;
  commutes = λ start end moves v w fresh run first second. views_commute start end moves fresh run v w first second;
}
