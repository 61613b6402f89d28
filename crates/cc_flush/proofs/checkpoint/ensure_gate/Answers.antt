use Rattle.std.proofs.Common.{arith}
use Rattle.cc_site.specs.Reads.{read_each}
use Rattle.cc_flush.proofs.checkpoint.ensure_gate.Goals as goal

pub returns-in_err-length_of-clause-every_moment : goal.returns-in_err-length_of-clause-every_moment
returns-in_err-length_of-clause-every_moment g c honest some =
    let old = c.args.site.now in
    read_each g.S.Site old c.length_of.new.site _ c.length_of.ensures.reads honest (g.met.S.Site.only_now old honest)

pub returns-in_err-write_durably-clause-every_moment : goal.returns-in_err-write_durably-clause-every_moment
returns-in_err-write_durably-clause-every_moment g c honest some =
    absurd (omega (arith, some, c.if-branch-eq0.true, c.in_ok-length_of.ensures.value honest))

pub returns-in_ok-write_durably-clause-every_moment : goal.returns-in_ok-write_durably-clause-every_moment
returns-in_ok-write_durably-clause-every_moment g c honest some =
    absurd (omega (arith, some, c.if-branch-eq0.true, c.in_ok-length_of.ensures.value honest))

pub returns-else-branch-eq0-clause-every_moment : goal.returns-else-branch-eq0-clause-every_moment
returns-else-branch-eq0-clause-every_moment g c honest some =
    let old = c.args.site.now in
    read_each g.S.Site old c.length_of.new.site _ c.length_of.ensures.reads honest (g.met.S.Site.only_now old honest)
