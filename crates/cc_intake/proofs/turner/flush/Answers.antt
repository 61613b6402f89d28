use Rattle.std.proofs.Common.{arith}
use Rattle.std.proofs.lemmas.Result.{err_from_is_err_and}
use Rattle.cc_intake.proofs.Flushed.{no_entry, flushed_none}
use Rattle.cc_intake.proofs.turner.flush.Goals as goal

pub returns-in_err-flush-clause-flushed : goal.returns-in_err-flush-clause-flushed
returns-in_err-flush-clause-flushed g c =
    let p = err_from_is_err_and c.from_residual.result c.from_residual.ensures.1 in
    rw (p.1, p.2) (c.in_err-flush.ensures.flushed c.requires.goes_on)

pub returns-in_ok-flush-clause-flushed : goal.returns-in_ok-flush-clause-flushed
returns-in_ok-flush-clause-flushed g c = c.in_ok-flush.ensures.flushed c.requires.goes_on

pub returns-else-len-gt0-clause-empties : goal.returns-else-len-gt0-clause-empties
returns-else-len-gt0-clause-empties g c = no_entry c.args.batch.now (omega arith)

pub returns-else-len-gt0-clause-flushed : goal.returns-else-len-gt0-clause-flushed
returns-else-len-gt0-clause-flushed g c =
    let s = g.S.Site in
    let e = c.args.engine.now in
    flushed_none s c.args.batch.now e (omega arith) c.requires.owes c.requires.goes_on (g.met.S.Site.only_now e.site)
