use Rattle.std.proofs.Common.{arith}
use Rattle.cc_checkpoint.proofs.OffRuns.{then_off, closing_off}
use Rattle.cc_checkpoint.proofs.BehindRuns.{behind_rests, cut_run_behind, closed_shut, written_there}
use Rattle.cc_checkpoint.proofs.checkpoint.retire.Goals as goal

pub returns-in_err-write_durably-clause-every_moment : goal.returns-in_err-write_durably-clause-every_moment
returns-in_err-write_durably-clause-every_moment g c honest armed =
    closing_off g.S.Site c.args.side c.args.site.now c.write_durably.new.site armed (c.write_durably.ensures.every_moment honest)

pub returns-clause-every_moment : goal.returns-clause-every_moment
returns-clause-every_moment g c honest armed =
    let s = g.S.Site in
    let side = c.args.side in
    let old = c.args.site.now in
    let mid = c.write_durably.new.site in
    let new = c.cut_durably.new.site in
    let still = c.write_durably.ensures.honest.0 honest in
    let wrote = c.in_ok-write_durably.ensures.value honest in
    then_off s side old mid new (closing_off s side old mid armed (c.write_durably.ensures.every_moment honest)) (g.met.S.Site.counts_now mid still)
    (behind_rests s side mid new (closed_shut (s.state old side) (s.state mid side) 0 (omega arith) wrote)
    (cut_run_behind s side mid new (written_there (s.state old side) (s.state mid side) 0 wrote) (c.cut_durably.ensures.every_moment still)))
