use Rattle.std.proofs.Common.{◌≡◌, [], ◌++◌, length, sym, subst}
use Rattle.std.proofs.lemmas.Result.{IfErr-weaker, MatchResult-weaker}
use Rattle.std.specs.Prelude.{IfOk, IfErr, MatchResult}
use Rattle.cc_site.specs.declared.site.Side.TheVariants.{A}
use Rattle.cc_site.specs.Runs.{EachMoment}
use Rattle.cc_node.specs.Node.{line}
use Rattle.cc_node.specs.Openings.{told, fresh, IsOpening}
use Rattle.cc_journal.specs.Batches.{AreLawful, events_in}
use Rattle.cc_journal.specs.Journals.{IsGood, IsGoodNow}
use Rattle.cc_flush.specs.FormatSides.{FormatFails}
use Rattle.cc_laws.specs.FirstLife.{LeavesAll, LifeStops}
use Rattle.cc_laws.proofs.FirstLives.{batch_lawful, first_moments, format_moments, found_is, reads_stand, rests_good_now, stops_more}
use Rattle.cc_laws.proofs.first_life.live_once.Given.{Over}
use Rattle.cc_laws.proofs.first_life.live_once.Goals.{In-Ok}
use Rattle.cc_laws.proofs.first_life.live_once.Goals as goal

-- what was formatted is good for the fresh node
formatted : (g : Over) (c : In-Ok g)
    → IsGoodNow g.S.Site c.in-Ok.site (fresh (told c.args.opening.now)) [] (length (g.S.Site.sent c.in-Ok.site))
formatted g c =
    let s = g.S.Site in
    let site = c.in-Ok.site in
    let rests = c.in-Ok.ensures.at_rest c.requires.honest in
    rests_good_now s site (record { side = A; place = rests.0 }) 1 (fresh (told c.args.opening.now)) [] (length (s.sent site)) rests.1

pub live_on-requires-clause-lawful : goal.live_on-requires-clause-lawful
live_on-requires-clause-lawful g c found stands =
    let site = c.in-Ok.site in
    let good = formatted g (goal.at.live_on-requires-clause-lawful g c).In-Ok in
    let may_read = g.met.S.Site.may_read site (c.in-Ok.ensures.outlet.keeps_honesty.0 c.requires.honest) in
    let same = found_is g.S.Site c.one_node.ensures.node site (fresh (told c.args.opening.now)) found (length (g.S.Site.sent site)) may_read good stands in
    subst (λ n. AreLawful n c.args.batch) (sym same) c.requires.lawful

pub returns-in-Ok-clause-lived : goal.returns-in-Ok-clause-lived
returns-in-Ok-clause-lived g c =
    let s = g.S.Site in
    let node = fresh (told c.args.opening.now) in
    let good = formatted g (goal.at.returns-in-Ok-clause-lived g c).In-Ok in
    subst (λ l. IfOk c.live_on.result (λ r. s.tells r → LeavesAll (s.state r) (s.sent r) node (events_in c.args.batch) (length l)))
    c.in-Ok.ensures.outlet.same (c.live_on.ensures.lived node (length (s.sent c.in-Ok.site)) good)

pub returns-in-Ok-clause-put : goal.returns-in-Ok-clause-put
returns-in-Ok-clause-put g c =
    let s = g.S.Site in
    let site = c.in-Ok.site in
    let node = fresh (told c.args.opening.now) in
    let good = formatted g (goal.at.returns-in-Ok-clause-put g c).In-Ok in
    let may_read = g.met.S.Site.may_read site (c.in-Ok.ensures.outlet.keeps_honesty.0 c.requires.honest) in
    subst (λ l. IfOk c.live_on.result (λ r. s.tells r → s.sent r ≡ l ++ line node (events_in c.args.batch))) c.in-Ok.ensures.outlet.same
    (c.live_on.ensures.put node (reads_stand s site node (length (s.sent site)) may_read good))

pub returns-in-Ok-clause-stops : goal.returns-in-Ok-clause-stops
returns-in-Ok-clause-stops g c =
    let s = g.S.Site in
    let old = c.args.site in
    let node = fresh (told c.args.opening.now) in
    let events = events_in c.args.batch in
    let good = formatted g (goal.at.returns-in-Ok-clause-stops g c).In-Ok in
    IfErr-weaker c.live_on.result _ _
    (λ b. stops_more (λ _. ⊥) (FormatFails s (IsOpening (told c.args.opening.now)) old b.site) (s.state b.site) (s.sent b.site) node events
    (length (s.sent old)) (λ fault none. absurd none) b.fault)
    (subst (λ l. IfErr c.live_on.result (λ b. LifeStops (λ _. ⊥) (s.state b.site) (s.sent b.site) node events (length l) b.fault))
    c.in-Ok.ensures.outlet.same (c.live_on.ensures.stops node (length (s.sent c.in-Ok.site)) good))

pub returns-in-Ok-clause-every_moment : goal.returns-in-Ok-clause-every_moment
returns-in-Ok-clause-every_moment g c shut =
    let s = g.S.Site in
    let old = c.args.site in
    let mid = c.in-Ok.site in
    let node = fresh (told c.args.opening.now) in
    let events = events_in c.args.batch in
    let good = formatted g (goal.at.returns-in-Ok-clause-every_moment g c).In-Ok in
    let living = subst (λ l. MatchResult c.live_on.result (λ r. s.tells r → EachMoment s mid r (IsGood node events 0 (length l)))
    (λ b. EachMoment s mid b.site (IsGood node events 0 (length l)))) c.in-Ok.ensures.outlet.same
    (c.live_on.ensures.moments node (length (s.sent mid)) good) in
    let formatting = c.in-Ok.ensures.every_moment c.requires.honest shut in
    let lawful = batch_lawful node c.args.batch c.requires.lawful in
    MatchResult-weaker c.live_on.result living (λ r run tells. first_moments s old mid r node events lawful formatting (run tells))
    (λ b run. first_moments s old mid b.site node events lawful formatting run)

pub returns-in-Err-clause-every_moment : goal.returns-in-Err-clause-every_moment
returns-in-Err-clause-every_moment g c shut =
    let run = c.in-Err.ensures.every_moment c.requires.honest shut in
    format_moments g.S.Site c.args.site c.in-Err.field-0.site (fresh (told c.args.opening.now)) (events_in c.args.batch) run
