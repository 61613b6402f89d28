use Rattle.std.proofs.Common.{◌≡◌, sym, subst}
use Rattle.std.specs.Prelude.{false, None}
use Rattle.cc_flush.specs.Resends.{resends}
use Rattle.cc_flush.proofs.KeptSides.{sound_put}
use Rattle.cc_flush.proofs.PutOutputs.{put_again}
use Rattle.cc_flush.proofs.Resends.{resends_stand}
use Rattle.cc_flush.proofs.flusher.Flusher.resend.Goals as goal

pub returns-clause-puts : goal.returns-clause-puts
returns-clause-puts g c none =
    let view = sym c.self.view_is in
    rw view (put_again g.S.Site g.met.S.Site.may_read _ c.put_kept_posts.new.site c.self.invariant (resends c.self.inside.node) c.put_kept_posts.ensures.puts
    (resends_stand c.self.inside.node)
    (subst (λ e. e.failed ≡ None) view none) (subst (λ e. e.owes ≡ false) view c.requires.owes))

pub invariant_of-self : goal.invariant_of-self
invariant_of-self g c = sound_put g.S.Site _ c.put_kept_posts.new.site _ c.self.invariant c.put_kept_posts.ensures.puts
