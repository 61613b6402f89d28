use Rattle.std.proofs.Common.{◌≡◌, subst}
use Rattle.std.specs.Prelude.{None}
use Rattle.cc_flush.specs.Commits.{PutsAgain}
use Rattle.cc_flush.specs.Resends.{resends}
use Rattle.cc_intake.proofs.turner.Turner.resend.Goals as goal

pub returns-clause-puts : goal.returns-clause-puts
returns-clause-puts g c = subst (λ e. e.engine.failed ≡ None → PutsAgain g.S.Site (resends e.engine.twin) e.engine c.resend.new.self) c.self.view_is
    c.resend.ensures.puts
