use Rattle.std.proofs.Common.{subst}
use Rattle.cc_views.specs.Rows.{ViewMap}
use Rattle.cc_laws.specs.Shown.{Has}
use Rattle.cc_laws.proofs.Appearances.{views_appear}
use Rattle.cc_laws.proofs.OwnWrites.{own_last, own_written}
use Rattle.cc_laws.proofs.histories.one_line.Goals as goal

pub returns : goal.returns
returns c = record {
  views = views_appear;
  last = own_last;
  own = λ o es opens lawful old v of k x has. own_written o es opens lawful old of.0 k x (subst (λ (u : ViewMap). Has u o.me k x) of.1 has);
}
