use Rattle.std.proofs.Common.{◌≡◌, ℕ, ◌+◌, List, length, drop, refl, subst, arith}
use Rattle.std.proofs.lemmas.Option.{MatchOption-at_some, MatchOption-at_none}
use Rattle.std.proofs.lemmas.Result.{err_from_is_err_and}
use Rattle.cc_journal.specs.Scans.{NoRecord}
use Rattle.cc_journal.specs.EventReads.{BytesLead, LeadNowhere, RecordLeads, NoBody}
use Rattle.cc_journal.proofs.RecordReads.{damaged_weaker, no_body_no_record, nowhere_no_record, record_leads, few_events}
use Rattle.cc_journal.proofs.record_scan.read_record.Given.{Over}
use Rattle.cc_journal.proofs.record_scan.read_record.Goals as goal
use Rattle.cc_journal.proofs.record_scan.read_record.Goals.{In-Some}

pub returns-in_err-read_body-clause-damaged : goal.returns-in_err-read_body-clause-damaged
returns-in_err-read_body-clause-damaged g c =
    let rest = drop c.args.place (g.S.Site.state c.args.site.now c.args.side).bytes in
    let p = err_from_is_err_and c.from_residual.result c.from_residual.ensures.1 in
    rw (p.1, p.2) (λ honest.
    damaged_weaker (λ (q : ℕ). (q ≡ c.args.place) × NoBody rest) (λ (q : ℕ). (q ≡ c.args.place) × NoRecord rest c.args.node.now)
    c.in_err-read_body.field-0.0 (λ q is. (is.0, no_body_no_record rest c.args.node.now is.1)) (c.in_err-read_body.ensures.damaged honest))

pub returns-in_default-clause-damaged : goal.returns-in_default-clause-damaged
returns-in_default-clause-damaged g c honest =
    let start = c.args.node.now in
    let none = MatchOption-at_none (LeadNowhere c.deref.result.now start) _ c.in_default.is c.in_ok-events.ensures in
    let body = c.in_ok-read_body.ensures.found honest in
    (refl, nowhere_no_record _ _ start body (subst (λ (l : List ℕ). LeadNowhere l start) c.deref.ensures.value none))

-- the events were taken in
led : (g : Over) (c : In-Some g) → BytesLead c.read_body.new.body.items c.args.node.now c.take_events.new.node c.in-Some.events
led g c =
    let lead = λ (l : List ℕ) (n : ℕ). BytesLead l c.args.node.now c.take_events.new.node n in
    subst (λ (l : List ℕ). lead l c.in-Some.events) c.deref.ensures.value
    (MatchOption-at_some _ (lead c.deref.result.now) c.in-Some.events c.in-Some.is c.in_ok-events.ensures)

pub returns-clause-found : goal.returns-clause-found
returns-clause-found g c honest =
    let rest = drop c.args.place (g.S.Site.state c.args.site.now c.args.side).bytes in
    let size : 4 + length c.read_body.new.body.items ≡ 4 + c.len.result = omega (arith, c.len.ensures) in
    subst (λ (n : ℕ). RecordLeads rest c.args.node.now c.take_events.new.node n c.in-Some.events) size
    (record_leads _ _ _ _ _ (c.in_ok-read_body.ensures.found honest) (led g (goal.at.returns-clause-found g c).In-Some))

pub returns-clause-few : goal.returns-clause-few
returns-clause-few g c = omega (arith, c.len.ensures, few_events _ _ _ _ (led g (goal.at.returns-clause-few g c).In-Some))
