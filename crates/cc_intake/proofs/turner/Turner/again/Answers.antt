use Rattle.std.proofs.Common.{◌≡◌, subst}
use Rattle.std.specs.Prelude.{None}
use Rattle.cc_flush.specs.Commits.{PutsAgain}
use Rattle.cc_flush.specs.Resends.{reply_again}
use Rattle.cc_intake.proofs.turner.Turner.again.Goals as goal

pub returns-clause-puts : goal.returns-clause-puts
returns-clause-puts g c = subst (λ e. e.engine.failed ≡ None → PutsAgain g.S.Site (reply_again c.args.session e.engine.twin) e.engine c.again.new.self)
    c.self.view_is c.again.ensures.puts
