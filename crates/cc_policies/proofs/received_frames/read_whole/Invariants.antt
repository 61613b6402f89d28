use Rattle.std.specs.Prelude.{◌≡◌, ◌≤◌, Some, IfSome}
use Rattle.cc_policies.specs.ReceivedFrames.{ahead, unused, IsUnused, Begins, held_length}
use Rattle.cc_policies.proofs.received_frames.read_whole.Given as goal

-- no byte was used up yet, and each feed has added one to what is held
abbrev pub invariant-loop : goal.invariant-loop
invariant-loop g l =
    Begins l.frames
    × IsUnused l.window.piece.items l.window.start l.window.end
    × (l.counter ≤ held_length l.frames)
    × IfSome (ahead l.fn.frames (unused l.fn.window.piece.items l.fn.window.start l.fn.window.end) (g.I.Input.remaining l.fn.reader))
    (λ bytes. ahead l.frames (unused l.window.piece.items l.window.start l.window.end) (g.I.Input.remaining l.reader) ≡ Some bytes)
