use Rattle.cc_checkpoint.proofs.OffRuns.{reads_off, closed_off}
use Rattle.cc_checkpoint.proofs.checkpoint.close_gate.Goals as goal

pub returns-in_err-read_into-clause-every_moment : goal.returns-in_err-read_into-clause-every_moment
returns-in_err-read_into-clause-every_moment g c honest =
    let old = c.args.site.now in
    reads_off g.S.Site c.args.side old c.read_into.new.site honest (g.met.S.Site.only_now old honest) c.read_into.ensures.reads

pub returns-else-gate-clause-every_moment : goal.returns-else-gate-clause-every_moment
returns-else-gate-clause-every_moment g c honest =
    let old = c.args.site.now in
    reads_off g.S.Site c.args.side old c.read_into.new.site honest (g.met.S.Site.only_now old honest) c.read_into.ensures.reads

pub returns-in_err-write_durably-clause-every_moment : goal.returns-in_err-write_durably-clause-every_moment
returns-in_err-write_durably-clause-every_moment g c honest =
    let old = c.args.site.now in
    let mid = c.read_into.new.site in
    let reads = c.read_into.ensures.reads in
    let still = reads.keeps_honesty.0 honest in
    closed_off g.S.Site c.args.side old mid c.write_durably.new.site c.read_into.new.into
    honest (g.met.S.Site.only_now old honest) (g.met.S.Site.counts_now mid still) reads
    (c.in_ok-read_into.ensures.value honest) c.if-gate.true (c.write_durably.ensures.every_moment still)

pub returns-in_ok-write_durably-clause-every_moment : goal.returns-in_ok-write_durably-clause-every_moment
returns-in_ok-write_durably-clause-every_moment g c honest =
    let old = c.args.site.now in
    let mid = c.read_into.new.site in
    let reads = c.read_into.ensures.reads in
    let still = reads.keeps_honesty.0 honest in
    closed_off g.S.Site c.args.side old mid c.write_durably.new.site c.read_into.new.into
    honest (g.met.S.Site.only_now old honest) (g.met.S.Site.counts_now mid still) reads
    (c.in_ok-read_into.ensures.value honest) c.if-gate.true (c.write_durably.ensures.every_moment still)
