use Rattle.std.proofs.lemmas.Result.{on_ok_weaker}
use Rattle.cc_flush.proofs.CheckpointRuns.{off_stays, arms, armed_stays, armed_holds, armed_stops}
use Rattle.cc_flush.proofs.checkpoint.put_on_side.Goals as goal

pub returns-in_err-gate_and_fill-clause-good : goal.returns-in_err-gate_and_fill-clause-good
returns-in_err-gate_and_fill-clause-good g c h settled place lower below =
    let first = c.gate_and_fill.new.site in
    off_stays g.S.Site g.met.S.Site.may_read c.args.site.now h c.args.node.now lower c.args.side place first
    (g.met.S.Site.counts_now first (c.gate_and_fill.ensures.honest.0 h)) (c.gate_and_fill.ensures.every_moment h settled)

pub returns-clause-good : goal.returns-clause-good
returns-clause-good g c h settled place lower below =
    let counts = g.met.S.Site.counts_now in
    let first = c.gate_and_fill.new.site in
    let h1 = c.gate_and_fill.ensures.honest.0 h in
    armed_stays g.S.Site g.met.S.Site.may_read c.args.site.now h c.args.node.now lower c.args.side place first (counts first h1)
    (c.gate_and_fill.ensures.every_moment h settled) c.args.generation below (c.in_ok-gate_and_fill.ensures.filled h)
    c.arm.new.site (counts c.arm.new.site (c.arm.ensures.honest.0 h1)) (c.arm.ensures.every_moment h1)

pub returns-clause-rests : goal.returns-clause-rests
returns-clause-rests g c h settled place lower below start events opening led =
    let first = c.gate_and_fill.new.site in
    let h1 = c.gate_and_fill.ensures.honest.0 h in
    c.arm.ensures.at_rest h1 c.args.generation start events opening
    (arms g.S.Site g.met.S.Site.may_read c.args.site.now h c.args.node.now lower c.args.side place first (g.met.S.Site.counts_now first h1)
    (c.gate_and_fill.ensures.every_moment h settled) c.args.generation below (c.in_ok-gate_and_fill.ensures.filled h) start events opening led)

pub returns-clause-holds : goal.returns-clause-holds
returns-clause-holds g c h =
    let s = g.S.Site in
    let side = c.args.side in
    on_ok_weaker c.arm.result
    (armed_holds (s.state c.gate_and_fill.new.site side) (s.state c.arm.new.site side) c.args.generation c.args.node.now
    (c.in_ok-gate_and_fill.ensures.filled h))
    (c.arm.ensures.value (c.gate_and_fill.ensures.honest.0 h))

pub returns-clause-spelled : goal.returns-clause-spelled
returns-clause-spelled g c h =
    on_ok_weaker c.arm.result (λ value. (c.in_ok-gate_and_fill.ensures.filled h).spelled)
    (c.arm.ensures.value (c.gate_and_fill.ensures.honest.0 h))

pub returns-clause-failed : goal.returns-clause-failed
returns-clause-failed g c h =
    let s = g.S.Site in
    let side = c.args.side in
    let first = c.gate_and_fill.new.site in
    let second = c.arm.new.site in
    armed_stops (s.state first side) (s.state second side) c.args.generation c.args.node.now (c.in_ok-gate_and_fill.ensures.filled h)
    (s.state c.args.site.now side) (s.failures first) (s.failures second) side c.arm.result
    (c.arm.ensures.failed (c.gate_and_fill.ensures.honest.0 h)) c.arm.ensures.fault
