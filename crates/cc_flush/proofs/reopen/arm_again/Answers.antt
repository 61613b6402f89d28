use Rattle.std.proofs.Common.{◌∙◌, sym}
use Rattle.cc_site.specs.Reads.{reads_then}
use Rattle.cc_flush.proofs.RearmedSides.{reads_stay, looked_stays}
use Rattle.cc_flush.proofs.AnewOpenings.{only_reads_same, looked_reads_same}
use Rattle.cc_flush.proofs.reopen.arm_again.Goals as goal

pub returns-in_err-first-clause-good : goal.returns-in_err-first-clause-good
returns-in_err-first-clause-good g c h =
    let met = g.met.S.Site in
    let new = c.peek.new.site in
    reads_stay g.S.Site c.args.site.now new h (met.only_now c.args.site.now h) (met.counts_now new (c.peek.ensures.reads.keeps_honesty.0 h)) c.peek.ensures.reads

pub returns-in_err-second-clause-good : goal.returns-in_err-second-clause-good
returns-in_err-second-clause-good g c h =
    let met = g.met.S.Site in
    let old = c.args.site.now in
    let new = c.peek-2.new.site in
    let reads = reads_then g.S.Site old c.peek.new.site new c.peek.ensures.reads c.peek-2.ensures.reads in
    reads_stay g.S.Site old new h (met.only_now old h) (met.counts_now new (reads.keeps_honesty.0 h)) reads

pub returns-in_default-clause-good : goal.returns-in_default-clause-good
returns-in_default-clause-good g c h =
    let met = g.met.S.Site in
    let old = c.args.site.now in
    let new = c.peek-2.new.site in
    let reads = reads_then g.S.Site old c.peek.new.site new c.peek.ensures.reads c.peek-2.ensures.reads in
    reads_stay g.S.Site old new h (met.only_now old h) (met.counts_now new (reads.keeps_honesty.0 h)) reads

pub returns-in_err-write_gate_again-clause-good : goal.returns-in_err-write_gate_again-clause-good
returns-in_err-write_gate_again-clause-good g c h =
    let met = g.met.S.Site in
    let old = c.args.site.now in
    let one = c.peek.ensures.reads in
    let two = c.peek-2.ensures.reads in
    let new = c.write_gate_again.new.site in
    let h1 = one.keeps_honesty.0 h in
    looked_stays g.S.Site old c.peek.new.site c.peek-2.new.site new h (met.only_now old h)
    (met.counts_now new (c.write_gate_again.ensures.honest.0 (two.keeps_honesty.0 h1))) one two
    c.in_ok-first.first c.in_ok-second.second c.in-Some.older (c.in_ok-first.ensures.exact h) (c.in_ok-second.ensures.exact h1)
    (sym c.in-Some.is ∙ c.older_of.ensures) c.write_gate_again.ensures.good

pub returns-in_ok-write_gate_again-clause-good : goal.returns-in_ok-write_gate_again-clause-good
returns-in_ok-write_gate_again-clause-good g c h =
    let met = g.met.S.Site in
    let old = c.args.site.now in
    let one = c.peek.ensures.reads in
    let two = c.peek-2.ensures.reads in
    let new = c.write_gate_again.new.site in
    let h1 = one.keeps_honesty.0 h in
    looked_stays g.S.Site old c.peek.new.site c.peek-2.new.site new h (met.only_now old h)
    (met.counts_now new (c.write_gate_again.ensures.honest.0 (two.keeps_honesty.0 h1))) one two
    c.in_ok-first.first c.in_ok-second.second c.in-Some.older (c.in_ok-first.ensures.exact h) (c.in_ok-second.ensures.exact h1)
    (sym c.in-Some.is ∙ c.older_of.ensures) c.write_gate_again.ensures.good

pub returns-in_default-clause-same : goal.returns-in_default-clause-same
returns-in_default-clause-same g c h =
    only_reads_same g.S.Site c.args.site.now c.peek-2.new.site h
    (reads_then g.S.Site c.args.site.now c.peek.new.site c.peek-2.new.site c.peek.ensures.reads c.peek-2.ensures.reads)

pub returns-in_ok-write_gate_again-clause-same : goal.returns-in_ok-write_gate_again-clause-same
returns-in_ok-write_gate_again-clause-same g c h =
    let one = c.peek.ensures.reads in
    let two = c.peek-2.ensures.reads in
    let h1 = one.keeps_honesty.0 h in
    looked_reads_same g.S.Site c.args.site.now c.peek.new.site c.peek-2.new.site c.write_gate_again.new.site h one two
    c.in_ok-first.first c.in_ok-second.second c.in-Some.older (c.in_ok-first.ensures.exact h) (c.in_ok-second.ensures.exact h1)
    (sym c.in-Some.is ∙ c.older_of.ensures) c.in_ok-write_gate_again.ensures.same
