use Rattle.std.proofs.Common.{◌≡◌, ◌-◌, ◌≤◌, length}
use Rattle.cc_site.specs.Reads.{OnlyReads}
use Rattle.cc_journal.proofs.Scans.{LeadsOn}
use Rattle.cc_journal.proofs.record_scan.scan_records.Given as goal

abbrev pub invariant-loop-place : goal.invariant-loop-place
invariant-loop-place g l =
    let s = g.S.Site in
    let bytes = (s.state l.fn.site l.side).bytes in
    record {
      reads : OnlyReads s l.fn.site l.site;
      size : s.honest l.fn.site → l.len ≡ length bytes;
      few_records : l.records ≤ l.place;
      few_events : l.events ≤ l.place;
      so_far : s.honest l.fn.site → LeadsOn bytes l.fn.place l.place l.fn.node l.node l.records l.events;
      failures : s.failures l.site ≡ s.failures l.fn.site;
    }

abbrev pub decreases-loop-place : goal.decreases-loop-place
decreases-loop-place g l = l.len - l.place
