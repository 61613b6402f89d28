use Rattle.std.proofs.Common.{subst, sym}
use Rattle.cc_changes.specs.ChangeSets.{FitsRoom}
use Rattle.cc_churn.specs.Churn.{Churn, united}
use Rattle.cc_churn.proofs.Fits.{before_counted}
use Rattle.cc_churn.proofs.churn.Churn.apply.Goals as goal

pub union-requires : goal.union-requires
union-requires c =
    let fits = rw c.in-EnterEcho.is at c.requires.fits in
    subst (λ (s : Churn). FitsRoom (united c.in-EnterEcho.changes s).changes) (sym c.self-in-EnterEcho.view_is)
    (before_counted c.args.me c.args.gamma c.in-EnterEcho.is_joined c.in-EnterEcho.node (united c.in-EnterEcho.changes c.args.self.now) fits)
