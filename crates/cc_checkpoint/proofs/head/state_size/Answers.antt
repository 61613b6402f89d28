use Rattle.std.proofs.Common.{refl, sym, inl, inr, ◌∙◌, ap, arith}
use Rattle.cc_site.specs.declared.site.Call.TheVariants.{Read}
use Rattle.cc_site.specs.Reads.{reads_then}
use Rattle.cc_node_state.specs.Layouts.{layout_of}
use Rattle.cc_checkpoint.proofs.Ahead.{err_is}
use Rattle.cc_checkpoint.proofs.StateReads.{looked, read_there, at_version, version_there, size_read, state_there}
use Rattle.cc_checkpoint.proofs.head.state_size.Goals as goal

pub returns-in_err-read_into-clause-reads : goal.returns-in_err-read_into-clause-reads
returns-in_err-read_into-clause-reads g c = reads_then g.S.Site _ _ _ c.length_of.ensures.reads c.read_into.ensures.reads

pub returns-in_default-clause-reads : goal.returns-in_default-clause-reads
returns-in_default-clause-reads g c = reads_then g.S.Site _ _ _ c.length_of.ensures.reads c.read_into.ensures.reads

pub returns-then-len-lt14-clause-reads : goal.returns-then-len-lt14-clause-reads
returns-then-len-lt14-clause-reads g c = reads_then g.S.Site _ _ _ c.length_of.ensures.reads c.read_into.ensures.reads

pub returns-in_err-read_into-2-clause-reads : goal.returns-in_err-read_into-2-clause-reads
returns-in_err-read_into-2-clause-reads g c =
    reads_then g.S.Site _ _ _ (reads_then g.S.Site _ _ _ c.length_of.ensures.reads c.read_into.ensures.reads) c.read_into-2.ensures.reads

pub returns-then-len-from-clause-reads : goal.returns-then-len-from-clause-reads
returns-then-len-from-clause-reads g c =
    reads_then g.S.Site _ _ _ (reads_then g.S.Site _ _ _ c.length_of.ensures.reads c.read_into.ensures.reads) c.read_into-2.ensures.reads

pub returns-clause-reads : goal.returns-clause-reads
returns-clause-reads g c =
    reads_then g.S.Site _ _ _ (reads_then g.S.Site _ _ _ c.length_of.ensures.reads c.read_into.ensures.reads) c.read_into-2.ensures.reads

pub returns-in_default-clause-exact : goal.returns-in_default-clause-exact
returns-in_default-clause-exact g c honest =
    let s = g.S.Site in
    let bytes = (s.state c.args.site.now c.args.side).bytes in
    let read = read_there s c.args.side 1 9 c.length_of.ensures.reads honest c.in_ok-read_into.ensures.value in
    (omega (arith, c.in_ok-len.ensures.value honest, c.if-len-lt10.false), sym (at_version bytes c.read_into.new.into read), c.in_default.ensures)

pub returns-then-len-lt14-clause-exact : goal.returns-then-len-lt14-clause-exact
returns-then-len-lt14-clause-exact g c honest =
    let s = g.S.Site in
    let bytes = (s.state c.args.site.now c.args.side).bytes in
    let len = c.in_ok-len.ensures.value honest in
    let read = read_there s c.args.side 1 9 c.length_of.ensures.reads honest c.in_ok-read_into.ensures.value in
    let version = version_there bytes c.read_into.new.into c.in_ok-len.len len c.if-len-lt10.false read c.in-Some.ensures.0 in
    (refl, inr (inl (refl, version, inl (omega (arith, len, c.if-len-lt14.true)))))

pub returns-then-len-from-clause-exact : goal.returns-then-len-from-clause-exact
returns-then-len-from-clause-exact g c honest =
    let s = g.S.Site in
    let bytes = (s.state c.args.site.now c.args.side).bytes in
    let len = c.in_ok-len.ensures.value honest in
    let reads = reads_then s _ _ _ c.length_of.ensures.reads c.read_into.ensures.reads in
    let read = read_there s c.args.side 1 9 c.length_of.ensures.reads honest c.in_ok-read_into.ensures.value in
    let version = version_there bytes c.read_into.new.into c.in_ok-len.len len c.if-len-lt10.false read c.in-Some.ensures.0 in
    let number = read_there s c.args.side 4 10 reads honest c.in_ok-read_into-2.ensures.value in
    let size = size_read bytes c.read_into-2.new.into c.from_be_bytes-size.result c.from_be_bytes-size.ensures number in
    (refl, inr (inl (refl, version, inr (omega (arith, len, size, c.from.ensures, c.if-len-from.true)))))

pub returns-clause-exact : goal.returns-clause-exact
returns-clause-exact g c honest =
    let s = g.S.Site in
    let bytes = (s.state c.args.site.now c.args.side).bytes in
    let len = c.in_ok-len.ensures.value honest in
    let reads = reads_then s _ _ _ c.length_of.ensures.reads c.read_into.ensures.reads in
    let read = read_there s c.args.side 1 9 c.length_of.ensures.reads honest c.in_ok-read_into.ensures.value in
    let version = version_there bytes c.read_into.new.into c.in_ok-len.len len c.if-len-lt10.false read c.in-Some.ensures.0 in
    let number = read_there s c.args.side 4 10 reads honest c.in_ok-read_into-2.ensures.value in
    let size = size_read bytes c.read_into-2.new.into c.from_be_bytes-size.result c.from_be_bytes-size.ensures number in (
      state_there bytes c.in_ok-len.len c.from_be_bytes-size.result len version size (omega (arith, c.from.ensures, c.if-len-from.false)),
      c.in-Some.ensures.1 ∙ ap layout_of (at_version bytes c.read_into.new.into read),
      size,
    )

pub returns-in_default-clause-fault : goal.returns-in_default-clause-fault
returns-in_default-clause-fault g c = c.in_ok-read_into.ensures.fault ∙ c.in_ok-len.ensures.fault

pub returns-then-len-lt14-clause-fault : goal.returns-then-len-lt14-clause-fault
returns-then-len-lt14-clause-fault g c = c.in_ok-read_into.ensures.fault ∙ c.in_ok-len.ensures.fault

pub returns-then-len-from-clause-fault : goal.returns-then-len-from-clause-fault
returns-then-len-from-clause-fault g c = c.in_ok-read_into-2.ensures.fault ∙ c.in_ok-read_into.ensures.fault ∙ c.in_ok-len.ensures.fault

pub returns-clause-fault : goal.returns-clause-fault
returns-clause-fault g c = c.in_ok-read_into-2.ensures.fault ∙ c.in_ok-read_into.ensures.fault ∙ c.in_ok-len.ensures.fault

pub returns-in_err-read_into-clause-fault : goal.returns-in_err-read_into-clause-fault
returns-in_err-read_into-clause-fault g c =
    let s = g.S.Site in
    let told = c.in_err-read_into.ensures.fault in
    let stop = c.from_residual-in_err-read_into in
    rw (err_is stop.result stop.ensures.1)
    (looked c.args.side Read (s.failures c.args.site.now) (s.failures c.length_of.new.site) (s.failures c.read_into.new.site) _
    (inr refl) c.in_ok-len.ensures.fault told)

pub returns-in_err-read_into-2-clause-fault : goal.returns-in_err-read_into-2-clause-fault
returns-in_err-read_into-2-clause-fault g c =
    let s = g.S.Site in
    let told = c.in_err-read_into-2.ensures.fault in
    let stop = c.from_residual-in_err-read_into-2 in
    rw (err_is stop.result stop.ensures.1)
    (looked c.args.side Read (s.failures c.args.site.now) (s.failures c.read_into.new.site) (s.failures c.read_into-2.new.site) _
    (inr refl) (c.in_ok-read_into.ensures.fault ∙ c.in_ok-len.ensures.fault) told)
