use Rattle.std.proofs.Common.{subst, ◌≡◌, [], ◌∷◌}
use Rattle.std.proofs.lemmas.Result.{on_ok_weaker}
use Rattle.cc_site.specs.declared.site.Side.{Side}
use Rattle.cc_site.specs.Sides.{touch, other, settled, written}
use Rattle.cc_node_state.specs.Sides.{OPEN}
use Rattle.cc_site.specs.Moments.{Within}
use Rattle.cc_site.specs.Runs.{EachMoment}
use Rattle.cc_flush.proofs.RearmedSides.{sync_stays, gate_stays}
use Rattle.cc_flush.proofs.AnewOpenings.{gate_reads_same}
use Rattle.cc_flush.proofs.reopen.write_gate_again.Goals as goal

pub returns-in_err-sync-clause-good : goal.returns-in_err-sync-clause-good
returns-in_err-sync-clause-good g c h armed =
    let met = g.met.S.Site in
    let old = c.args.site.now in
    let mid = c.sync.new.self in
    sync_stays g.S.Site old mid (met.only_now old h) (met.counts_now mid (c.sync.ensures.honest.0 h)) (c.sync.ensures.time h)

pub returns-clause-good : goal.returns-clause-good
returns-clause-good g c h armed =
    let s = g.S.Site in
    let met = g.met.S.Site in
    let old = c.args.site.now in
    let mid = c.sync.new.self in
    let new = c.write_durably.new.site in
    let h1 = c.sync.ensures.honest.0 h in
    let run = subst (λ (newer : Side). EachMoment s mid new (Within newer (touch (s.state mid newer) 0 1) (s.state mid) (s.sent mid))) c.other.ensures
    (c.write_durably.ensures.every_moment h1) in
    gate_stays s old mid (met.only_now old h) (met.counts_now mid h1) (c.sync.ensures.time h)
    new c.args.older (met.counts_now new (c.write_durably.ensures.honest.0 h1)) armed
    (c.in_ok-sync.ensures.value h) (c.sync.ensures.other_side h) run

pub returns-clause-same : goal.returns-clause-same
returns-clause-same g c h armed =
    on_ok_weaker c.write_durably.result
    (λ value. gate_reads_same g.S.Site c.args.site.now c.sync.new.self c.write_durably.new.site c.args.older armed
    (c.in_ok-sync.ensures.value h) (c.sync.ensures.other_side h)
    (subst (λ (newer : Side). g.S.Site.state c.write_durably.new.site newer ≡ settled (written (g.S.Site.state c.sync.new.self newer) 0 (OPEN ∷ [])))
    c.other.ensures value)
    (subst (λ (newer : Side). g.S.Site.state c.write_durably.new.site (other newer) ≡ g.S.Site.state c.sync.new.self (other newer)) c.other.ensures
    (c.write_durably.ensures.other_side (c.sync.ensures.honest.0 h))))
    (c.write_durably.ensures.value (c.sync.ensures.honest.0 h))
