use Rattle.std.proofs.Common.{sym, ap, subst, arith}
use Rattle.cc_site.specs.declared.site.Side.{Side}
use Rattle.cc_site.specs.Sides.{SideState}
use Rattle.cc_checkpoint.specs.Windows.{AreBytes, at}
use Rattle.cc_checkpoint.proofs.Ahead.{ahead_bytes, read_further}
use Rattle.cc_checkpoint.proofs.window.refill.Goals as goal

pub returns-then-held-size-clause-bytes : goal.returns-then-held-size-clause-bytes
returns-then-held-size-clause-bytes g c honest =
    let site = c.args.site.now in
    let unread = c.args.unread.now in
    ahead_bytes g.S.Site (at site c.args.piece.now unread) c.len-held.ensures.bytes (g.met.S.Site.are_bytes site honest unread.side)

pub returns-clause-same : goal.returns-clause-same
returns-clause-same g c honest =
    let s = g.S.Site in
    let unread = c.args.unread.now in
    read_further c.args.piece.now c.read_on.new.self (s.state c.args.site.now unread.side).bytes (s.state c.read_on.new.site unread.side).bytes
    unread.place c.min-count.result unread.end (ap (λ (t : Side → SideState). (t unread.side).bytes) (c.read_on.ensures.reads.keeps_state honest))
    (c.in_ok-read_on.ensures.held honest) (omega (arith, c.min-count.ensures, unread.ordered))

pub returns-clause-bytes : goal.returns-clause-bytes
returns-clause-bytes g c honest =
    let s = g.S.Site in
    let site = c.args.site.now in
    let unread = c.args.unread.now in
    subst AreBytes
    (sym (read_further c.args.piece.now c.read_on.new.self (s.state site unread.side).bytes (s.state c.read_on.new.site unread.side).bytes
    unread.place c.min-count.result unread.end (ap (λ (t : Side → SideState). (t unread.side).bytes) (c.read_on.ensures.reads.keeps_state honest))
    (c.in_ok-read_on.ensures.held honest) (omega (arith, c.min-count.ensures, unread.ordered))))
    (ahead_bytes s (at site c.args.piece.now unread) c.len-held.ensures.bytes (g.met.S.Site.are_bytes site honest unread.side))
