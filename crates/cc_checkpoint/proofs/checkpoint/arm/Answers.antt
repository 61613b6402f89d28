use Rattle.cc_site.specs.Sides.{touch}
use Rattle.cc_site.specs.Moments.{Within}
use Rattle.cc_site.specs.Runs.{weaker}
use Rattle.cc_checkpoint.specs.Checkpoints.{IsGoodForAll}
use Rattle.cc_node_state.proofs.TableWrites.{on_ok}
use Rattle.cc_checkpoint.proofs.OffRuns.{arming_good, armed_rest}
use Rattle.cc_checkpoint.proofs.checkpoint.arm.Goals as goal

pub returns-clause-every_moment : goal.returns-clause-every_moment
returns-clause-every_moment g c honest next start events opening arms =
    let s = g.S.Site in
    let old = c.args.site.now in
    let bound = touch (s.state old c.args.side) 0 1 in
    weaker s old c.write_durably.new.site (Within c.args.side bound (s.state old) (s.sent old)) (IsGoodForAll start events opening)
    (c.write_durably.ensures.every_moment honest) (arming_good s c.args.side old next start events opening arms)

pub returns-clause-at_rest : goal.returns-clause-at_rest
returns-clause-at_rest g c honest next start events opening arms =
    let wrote = c.write_durably.ensures in
    on_ok c.write_durably.result
    (λ opened. armed_rest g.S.Site c.args.side c.args.site.now next start events opening arms c.write_durably.new.site
    opened (wrote.other_side honest) wrote.tells.1)
    (wrote.value honest)
