use Rattle.std.proofs.Common.{◌∙◌, inr, length, ap, subst, ℕ, ◌+◌, ◌-◌, ◌≤◌, max, arith, ◌≡◌}
use Rattle.std.proofs.lemmas.Result.{err_from_is_err_and}
use Rattle.cc_site.specs.Reads.{bytes_of, reads_then}
use Rattle.cc_checkpoint.specs.Heads.{HeadAt}
use Rattle.cc_journal.specs.EventReads.{IsScanned}
use Rattle.cc_flush.specs.Openings.{RecordsFail}
use Rattle.cc_flush.proofs.FoundSides.{found_there, reads_four}
use Rattle.cc_flush.proofs.opening.read_sides.Goals as goal

furthest : (m n : ℕ) → n ≤ m → max m n ≡ m
furthest m n le = omega (arith, le)

onward_to : (first place : ℕ) → first ≤ place → first + (place - first) ≡ place
onward_to first place le = omega (arith, le)

pub returns-in_err-journal-clause-failed : goal.returns-in_err-journal-clause-failed
returns-in_err-journal-clause-failed g c honest =
    let used = c.in_ok-side.field-0 in
    let start = c.in_ok-start.start in
    let first = c.in_ok-start.first in
    let chose = c.in_ok-side.ensures.reads in
    let read = reads_then g.S.Site c.args.site.now c.choose.new.site c.read_state.new.site chose c.in_ok-start.ensures.reads in
    let head = subst (λ st. HeadAt (st used.side).bytes start first) (chose.keeps_state honest) (c.in_ok-start.ensures.exact (chose.keeps_honesty.0 honest)) in
    let p = err_from_is_err_and c.from_residual-in_err-journal.result c.from_residual-in_err-journal.ensures.1 in
    rw (p.1, p.2) (λ is.
    let fails = subst (λ st. RecordsFail used.side (st used.side).bytes start first c.in_err-journal.field-0.0) (read.keeps_state honest)
    (c.in_err-journal.ensures.failed (read.keeps_honesty.0 honest) is) in
    inr (used, c.in_ok-side.ensures.exact honest, inr (start, first, head, fails)))

pub returns-clause-found : goal.returns-clause-found
returns-clause-found g c honest =
    let s = g.S.Site in
    let old = c.args.site.now in
    let used = c.in_ok-side.field-0 in
    let start = c.in_ok-start.start in
    let first = c.in_ok-start.first in
    let found = c.in_ok-journal.field-0 in
    let chose = c.in_ok-side.ensures.reads in
    let read = reads_then s old c.choose.new.site c.read_state.new.site chose c.in_ok-start.ensures.reads in
    let scan = reads_then s old c.read_state.new.site c.read_records.new.site read c.in_ok-journal.ensures.reads in
    let head = subst (λ st. HeadAt (st used.side).bytes start first) (chose.keeps_state honest) (c.in_ok-start.ensures.exact (chose.keeps_honesty.0 honest)) in
    let scanned = subst (λ st. IsScanned (st used.side).bytes used.side first start found) (read.keeps_state honest)
    (c.in_ok-journal.ensures.scanned (read.keeps_honesty.0 honest)) in
    let len_is = c.in-Ok.ensures.value (scan.keeps_honesty.0 honest) ∙ ap (λ st. length (st used.side).bytes) (scan.keeps_state honest) in
    let fits : c.place.result ≤ c.in-Ok.len = omega (arith, len_is, scanned.within, c.place.ensures, ap (λ p. p.place) c.journal.view_is) in
    found_there (bytes_of s old) used start found.node first (found.journal.place - first) found.records found.events (g.met.S.Site.are_bytes old honest)
    (c.in_ok-side.ensures.exact honest) head scanned.scans found.journal c.greatest-used.result scanned.same_side
    (onward_to first found.journal.place scanned.onward) (c.greatest-used.ensures ∙ furthest c.in-Ok.len c.place.result fits ∙ len_is)

pub returns-in-Err-clause-reads : goal.returns-in-Err-clause-reads
returns-in-Err-clause-reads g c =
    reads_four g.S.Site c.args.site.now c.choose.new.site c.read_state.new.site c.read_records.new.site c.length_of.new.site
    c.choose.ensures.reads c.read_state.ensures.reads c.read_records.ensures.reads c.length_of.ensures.reads

pub returns-clause-reads : goal.returns-clause-reads
returns-clause-reads g c =
    reads_four g.S.Site c.args.site.now c.choose.new.site c.read_state.new.site c.read_records.new.site c.length_of.new.site
    c.choose.ensures.reads c.read_state.ensures.reads c.read_records.ensures.reads c.length_of.ensures.reads
