use Rattle.std.proofs.Common.{◌≡◌, ◌-◌, length, arith}
use Rattle.std.specs.Prelude.{min}
use Rattle.cc_outbox.proofs.Edits.{outbox_of-trim}
use Rattle.cc_outbox.proofs.outbox.Outbox.trim.Goals as goal

pub returns : goal.returns
returns c =
    let inside = c.self.inside in
    let kept : c.min-kept.result ≡ min (inside.last - c.args.lowest) (length inside.posts.items) =
    omega (arith, c.min-kept.ensures, c.saturating_sub-above.ensures, c.len.ensures, inside.posts.ok) in
    rw (← c.self.view_is, c.keep_last.ensures.items) (outbox_of-trim _ _ _ c.self.invariant.numbers _ _ kept)
