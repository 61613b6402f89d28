use Rattle.std.proofs.Common.{◌≡◌, sym, subst}
use Rattle.std.specs.Prelude.{false, None}
use Rattle.cc_flush.specs.Resends.{ack_again}
use Rattle.cc_flush.proofs.KeptSides.{sound_put}
use Rattle.cc_flush.proofs.PutOutputs.{put_again}
use Rattle.cc_flush.proofs.Resends.{ack_stands}
use Rattle.cc_flush.proofs.flusher.Flusher.reack.Goals as goal

pub returns-clause-puts : goal.returns-clause-puts
returns-clause-puts g c none =
    let view = sym c.self.view_is in
    rw view (put_again g.S.Site g.met.S.Site.may_read _ c.put_ack_again.new.site c.self.invariant
    (ack_again c.args.peer c.self.inside.node) c.put_ack_again.ensures.puts (ack_stands c.self.inside.node c.args.peer)
    (subst (λ e. e.failed ≡ None) view none) (subst (λ e. e.owes ≡ false) view c.requires.owes))

pub invariant_of-self : goal.invariant_of-self
invariant_of-self g c = sound_put g.S.Site _ c.put_ack_again.new.site _ c.self.invariant c.put_ack_again.ensures.puts
