use Rattle.std.proofs.Common.{◌≡◌, ℕ, ◌+◌, Bool, drop, sym, ap, subst, subst₂, ◌∙◌, arith}
use Rattle.std.specs.Prelude.{MatchBool}
use Rattle.std.proofs.lemmas.Result.{err_from_is_err_and}
use Rattle.cc_site.specs.declared.site.Side.{Side}
use Rattle.cc_site.specs.Sides.{SideState}
use Rattle.cc_site.specs.Reads.{OnlyReads, reads_then}
use Rattle.cc_journal.specs.Scans.{NoRecord}
use Rattle.cc_journal.specs.EventReads.{RecordLeads, BeginsOpen, BeginsClosed, IsStopped}
use Rattle.cc_journal.proofs.RecordReads.{damaged_weaker}
use Rattle.cc_journal.proofs.Scans.{goes_on, ends_shut, stops_behind, stops_past}
use Rattle.cc_journal.proofs.record_scan.scan_records.Given.{Over}
use Rattle.cc_journal.proofs.record_scan.scan_records.Goals as goal
use Rattle.cc_journal.proofs.record_scan.scan_records.Goals.{After-read_record}

-- what was told of a gate, of a side that is as it was
gate_was : (now old : Side → SideState) (side : Side) (place : ℕ) (told is : Bool) → told ≡ is → now ≡ old
    → MatchBool told (BeginsOpen (drop place (now side).bytes)) (BeginsClosed (drop place (now side).bytes))
    → MatchBool is (BeginsOpen (drop place (old side).bytes)) (BeginsClosed (drop place (old side).bytes))
gate_was now old side place told is so same =
    subst₂ (λ (b : Bool) (t : Side → SideState). MatchBool b (BeginsOpen (drop place (t side).bytes)) (BeginsClosed (drop place (t side).bytes))) so same

pub returns-then-not-branch-clause-scanned : goal.returns-then-not-branch-clause-scanned
returns-then-not-branch-clause-scanned g c honest =
    let s = g.S.Site in
    let inv = c.loop-place.invariant in
    let place = c.loop-place.place in
    let on = inv.so_far honest in
    let here : c.in_ok-journal.journal.place ≡ place = ap (λ j. j.place) c.in_ok-journal.ensures in
    record {
      same_side = ap (λ j. j.side) c.in_ok-journal.ensures;
      onward = omega (arith, on.onward, here);
      within = omega (arith, inv.size honest, c.loop-place-test.true, here);
      scans = rw here (ends_shut on (gate_was (s.state c.loop-place.site) (s.state c.args.site.now) c.args.side place _ _ c.if-not-branch.true
          (inv.reads.keeps_state honest) (c.in_ok-gate_is_open.ensures.value (inv.reads.keeps_honesty.0 honest))));
    }

-- behind an open gate
module _ (g : Over) (c : After-read_record g) where
  read_gate : OnlyReads g.S.Site c.args.site.now c.gate_is_open.new.site
  read_gate = reads_then g.S.Site c.args.site.now c.loop-place.site c.gate_is_open.new.site c.loop-place.invariant.reads c.gate_is_open.ensures.reads

  opened : g.S.Site.honest c.args.site.now → BeginsOpen (drop c.loop-place.place (g.S.Site.state c.args.site.now c.args.side).bytes)
  opened honest =
      let reads = c.loop-place.invariant.reads in
      gate_was (g.S.Site.state c.loop-place.site) (g.S.Site.state c.args.site.now) c.args.side c.loop-place.place _ _ c.if-not-branch.false
      (reads.keeps_state honest) (c.in_ok-gate_is_open.ensures.value (reads.keeps_honesty.0 honest))

pub returns-in_err-taken-clause-damaged : goal.returns-in_err-taken-clause-damaged
returns-in_err-taken-clause-damaged g c =
    let s = g.S.Site in
    let side = c.args.side in
    let place = c.loop-place.place in
    let node = c.loop-place.node in
    let shared = (goal.at.returns-in_err-taken-clause-damaged g c).After-read_record in
    let reads = read_gate g shared in
    let p = err_from_is_err_and c.from_residual-in_err-taken.result c.from_residual-in_err-taken.ensures.1 in
    rw (p.1, p.2) (λ honest.
    let stopped = IsStopped (s.state c.args.site.now side).bytes c.args.place c.args.node.now in
    damaged_weaker (λ (q : ℕ). (q ≡ place + 1) × NoRecord (drop (place + 1) (s.state c.gate_is_open.new.site side).bytes) node) stopped
    c.in_err-taken.field-0.0 (λ q is. subst stopped (sym is.0) (stops_behind (c.loop-place.invariant.so_far honest) (opened g shared honest)
    (subst (λ (t : Side → SideState). NoRecord (drop (place + 1) (t side).bytes) node) (reads.keeps_state honest) is.1)))
    (c.in_err-taken.ensures.damaged (reads.keeps_honesty.0 honest)))

pub loop-place-preserved : goal.loop-place-preserved
loop-place-preserved g c =
    let inv = c.loop-place.invariant in
    let next = c.read_record.new.node in
    let taken = c.in_ok-taken.taken in
    let shared = (goal.at.loop-place-preserved g c).After-read_record in
    let reads = read_gate g shared in
    record {
      reads = reads_then g.S.Site c.args.site.now c.gate_is_open.new.site c.read_record.new.site reads c.read_record.ensures.reads;
      size = inv.size;
      few_records = omega (arith, inv.few_records);
      few_events = omega (arith, inv.few_events, c.in_ok-taken.ensures.few);
      so_far = λ honest. goes_on (inv.so_far honest) next taken.size taken.events (opened g shared honest) (subst
          (λ (t : Side → SideState). RecordLeads (drop (c.loop-place.place + 1) (t c.args.side).bytes) c.loop-place.node next taken.size taken.events)
          (reads.keeps_state honest) (c.in_ok-taken.ensures.found (reads.keeps_honesty.0 honest)));
      failures = c.in_ok-taken.ensures.fault ∙ c.in_ok-gate_is_open.ensures.fault ∙ inv.failures;
    }

pub returns-clause-damaged : goal.returns-clause-damaged
returns-clause-damaged g c honest =
    let inv = c.loop-place.invariant in
    stops_past (inv.so_far honest) (omega (arith, inv.size honest, c.loop-place-test.false))
