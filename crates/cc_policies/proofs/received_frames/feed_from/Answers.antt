use Rattle.std.proofs.Common.{◌-◌, ◌≤◌, drop, List, ℕ, subst, arith}
use Rattle.std.specs.Prelude.{IfSome}
use Rattle.std.proofs.lemmas.List.{length-take-le, length-drop}
use Rattle.cc_policies.specs.ReceivedFrames.{ahead, unused, Passes}
use Rattle.cc_policies.proofs.ReceivedFrameLaws.{unused_step}
use Rattle.cc_policies.proofs.received_frames.feed_from.Goals as goal

pub returns-in-Ok-clause-gives : goal.returns-in-Ok-clause-gives
returns-in-Ok-clause-gives c rest =
    let piece = c.args.piece.now in
    let start = c.args.start.now in
    let end = c.args.end in
    let used = c.in-Ok.given.used in
    let within : used ≤ end - start = subst (λ n. used ≤ n) (length-take-le (end - start) (drop start piece)
    (omega (arith, c.requires.within.1, length-drop start piece))) c.in-Ok.ensures.used in
    subst (λ (left : List ℕ). IfSome (ahead c.args.frames.now (unused piece start end) rest)
    (λ bytes. Passes bytes c.in-Ok.given.frame (ahead c.feed.new.frames left rest)))
    (unused_step piece start used end within) (c.in-Ok.ensures.gives rest)

pub returns-in-Err-clause-gives : goal.returns-in-Err-clause-gives
returns-in-Err-clause-gives c rest = c.in-Err.ensures.gives rest
