use Rattle.std.proofs.Common.{drop, arith}
use Rattle.std.proofs.lemmas.List.{length-drop}
use Rattle.cc_journal.proofs.BodyReads.{gate_read}
use Rattle.cc_journal.proofs.record_scan.gate_is_open.Goals as goal

pub returns-clause-value : goal.returns-clause-value
returns-clause-value g c honest =
    let bytes = (g.S.Site.state c.args.site.now c.args.side).bytes in
    gate_read (drop c.args.place bytes) c.read_into.new.into (omega (arith, length-drop c.args.place bytes, c.requires honest))
    (c.in_ok-read_into.ensures.value honest)
