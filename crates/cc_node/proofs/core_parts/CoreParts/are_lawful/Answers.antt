use Rattle.std.proofs.Common.{sym, subst, ◌∙◌}
use Rattle.cc_changes.specs.ChangeLaws.{IsAmong}
use Rattle.cc_views.specs.NatSets.{IsWithin}
use Rattle.cc_node.proofs.core_parts.CoreParts.are_lawful.Goals as goal

pub returns : goal.returns
returns c =
    let p = c.args.self.now in (
      λ h. record {
        beta = c.is_share.ensures.0 c.if-not-is_share.false;
        gamma = c.is_share-2.ensures.0 c.if-not-is_share-2.false;
        me = sym c.is_known.ensures ∙ c.if-not-is_known.false;
        changes = subst (λ changes. IsAmong changes p.links) c.changes.ensures (c.knows_changes.ensures.0 c.if-not-knows_changes.false);
        view = subst (λ view. IsWithin view p.links) c.view.ensures (c.knows_view.ensures.0 c.if-not-knows_view.false);
        link_count = c.links_fit.ensures.few;
        joined = subst (λ changes. IsWithin changes.joined changes.entered) c.changes-2.ensures (c.have_entered.ensures.0 c.if-not-have_entered.false);
        links = c.links_fit.ensures.fit.0 c.if-not-links_fit.false;
        phase = c.phase_fits.ensures.0 c.if-not-phase_fits.false;
        sessions = c.sessions_fit.ensures.fit.0 c.if-not-sessions_fit.false;
        session_count = c.sessions_fit.ensures.few;
        line = c.line_fits.ensures.fits.0 c.if-not-line_fits.false;
        counts = c.counts_fit.ensures.0 c.if-not-counts_fit.false;
        need = c.need_fits.ensures.0 h;
        set = c.line_fits.ensures.room;
      },
      λ lawful. c.need_fits.ensures.1 lawful.need,
    )
