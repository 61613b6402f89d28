use Rattle.std.proofs.Common.{◌≡◌, [], ◌++◌, ap, ◌∙◌, ℕ}
use Rattle.cc_site.specs.declared.site.Side.TheVariants.{A, B}
use Rattle.cc_site.specs.Reads.{bytes_of}
use Rattle.cc_site.specs.Runs.{EachMoment, joined}
use Rattle.cc_node.specs.Node.{line, Node}
use Rattle.cc_journal.specs.Batches.{events_in}
use Rattle.cc_journal.specs.Journals.{IsGood, IsGoodNow}
use Rattle.cc_laws.specs.FirstLife.{LeavesAll, LifeStops}
use Rattle.cc_laws.proofs.FirstLives.{good_leaves, open_moments, reads_stand, stands_whole, still_good, Opened, opened, given_back}
use Rattle.cc_laws.proofs.first_life.live_on.Given.{Over}
use Rattle.cc_laws.proofs.first_life.live_on.Goals.{In-Ok}
use Rattle.cc_laws.proofs.first_life.live_on.Goals as goal

engine : (g : Over) (c : In-Ok g) (start : Node) (opening : ℕ) → IsGoodNow g.S.Site c.args.site start [] opening
    → Opened g.S.Site c.args.site c.in-Ok.engine start opening
engine g c =
    let h = c.requires.honest in
    let e = c.in-Ok.engine in
    opened g.S.Site c.one_node.ensures.node c.args.site e (g.met.S.Site.may_read c.args.site h) (c.in-Ok.ensures.stands h)
    (g.met.S.Site.counts_now e.site (c.in-Ok.ensures.outlet.keeps_honesty.0 h)) (c.in-Ok.ensures.every_moment h)

pub turn-outcome-requires-clause-lawful : goal.turn-outcome-requires-clause-lawful
turn-outcome-requires-clause-lawful g c =
    let e = c.in-Ok.engine in
    c.requires.lawful e.twin
    (stands_whole (bytes_of g.S.Site c.args.site) e.at.side e.generation e.at.place e.twin (c.in-Ok.ensures.stands c.requires.honest))

pub returns-in-Err-clause-stops : goal.returns-in-Err-clause-stops
returns-in-Err-clause-stops g c start opening good =
    let s = g.S.Site in
    let old = c.args.site in
    let new = c.in-Err.field-0.site in
    let h = c.requires.honest in
    let stands = reads_stand s old start opening (g.met.S.Site.may_read old h) good in
    let counts = g.met.S.Site.counts_now new (c.in-Err.ensures.outlet.keeps_honesty.0 h) in (
      λ reading. c.node_or_fault.ensures.apart (bytes_of s old) start c.in-Err.field-0.fault stands reading (c.in-Err.ensures.faults h reading),
      good_leaves s new start [] opening tt (still_good s old new start [] opening counts (c.in-Err.ensures.every_moment h) good),
    )

pub returns-in-Ok-outcome-clause-lived : goal.returns-in-Ok-outcome-clause-lived
returns-in-Ok-outcome-clause-lived g c start opening good =
    let s = g.S.Site in
    let e = engine g (goal.at.returns-in-Ok-outcome-clause-lived g c).In-Ok start opening good in
    given_back (λ r n. s.tells r → LeavesAll (s.state r) (s.sent r) n (events_in c.args.batch) opening) c.close-site.ensures e.same
    (λ tells. c.in-Ok-outcome.ensures.lived tells opening e.good)

pub returns-in-Ok-outcome-clause-put : goal.returns-in-Ok-outcome-clause-put
returns-in-Ok-outcome-clause-put g c start stands =
    let s = g.S.Site in
    let old = c.args.site in
    let e = c.in-Ok.engine in
    let events = events_in c.args.batch in
    let found = stands_whole (bytes_of s old) e.at.side e.generation e.at.place e.twin (c.in-Ok.ensures.stands c.requires.honest) in
    let same = c.one_node.ensures.node (s.state old A).bytes (s.state old B).bytes e.twin start found stands in
    given_back (λ r n. s.tells r → s.sent r ≡ s.sent old ++ line n events) c.close-site.ensures same
    (λ tells. c.in-Ok-outcome.ensures.put tells ∙ ap (λ l. l ++ line e.twin events) c.in-Ok.ensures.outlet.same)

pub returns-in-Err-outcome-clause-stops : goal.returns-in-Err-outcome-clause-stops
returns-in-Err-outcome-clause-stops g c start opening good =
    let s = g.S.Site in
    let e = engine g (goal.at.returns-in-Err-outcome-clause-stops g c).In-Ok start opening good in
    given_back (λ r n. LifeStops (λ _. ⊥) (s.state r) (s.sent r) n (events_in c.args.batch) opening c.in-Err-outcome.fault)
    c.close-site.ensures e.same (c.in-Err-outcome.ensures.stops opening e.good)

pub returns-in-Err-clause-moments : goal.returns-in-Err-clause-moments
returns-in-Err-clause-moments g c start opening good =
    let run = c.in-Err.ensures.every_moment c.requires.honest in
    open_moments g.S.Site c.args.site c.in-Err.field-0.site start (events_in c.args.batch) opening good run

pub returns-in-Ok-outcome-clause-moments : goal.returns-in-Ok-outcome-clause-moments
returns-in-Ok-outcome-clause-moments g c start opening good =
    let s = g.S.Site in
    let old = c.args.site in
    let events = events_in c.args.batch in
    let twin = c.in-Ok.engine.twin in
    let e = engine g (goal.at.returns-in-Ok-outcome-clause-moments g c).In-Ok start opening good in
    given_back (λ r n. s.tells r → EachMoment s old r (IsGood n events 0 opening)) c.close-site.ensures e.same
    (λ tells. joined s old c.in-Ok.engine.site c.turn-outcome.new.engine.site (IsGood twin events 0 opening) (e.moments events)
    (c.in-Ok-outcome.ensures.moments opening e.good tells))

pub returns-in-Err-outcome-clause-moments : goal.returns-in-Err-outcome-clause-moments
returns-in-Err-outcome-clause-moments g c start opening good =
    let s = g.S.Site in
    let old = c.args.site in
    let events = events_in c.args.batch in
    let twin = c.in-Ok.engine.twin in
    let e = engine g (goal.at.returns-in-Err-outcome-clause-moments g c).In-Ok start opening good in
    given_back (λ r n. EachMoment s old r (IsGood n events 0 opening)) c.close-site.ensures e.same
    (joined s old c.in-Ok.engine.site c.turn-outcome.new.engine.site (IsGood twin events 0 opening) (e.moments events)
    (c.in-Err-outcome.ensures.moments opening e.good))
