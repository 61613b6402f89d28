use Rattle.std.proofs.Common.{take, ◌∙◌, ap, arith}
use Rattle.cc_flush.proofs.FormatMoments.{first_read}
use Rattle.cc_flush.proofs.format_sides.begins_with.Goals as goal

pub returns-clause-exact : goal.returns-clause-exact
returns-clause-exact g c honest =
    let bytes = (g.S.Site.state c.args.site.now c.args.side).bytes in
    let reads = c.length_of.ensures.reads in
    first_read bytes c.read_into.new.into c.args.byte (omega (arith, c.in_ok-len.ensures.value honest, c.if-len-eq0.false))
    (c.in_ok-read_into.ensures.value (reads.keeps_honesty.0 honest) ∙ ap (λ t. take 1 (t c.args.side).bytes) (reads.keeps_state honest))
