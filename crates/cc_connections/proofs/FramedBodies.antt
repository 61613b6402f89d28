-- A body behind the place of its length, into which the length is written.
use Rattle.std.proofs.Common.{◌≡◌, ℕ, ◌+◌, ◌-◌, List, ◌++◌, length, take, drop, refl, append_assoc, arith}
use Rattle.std.specs.Int.{w32, to_be_bytes}
use Rattle.std.proofs.lemmas.List.{length-append}
use Rattle.std.proofs.Math.Seq.{take-append_seam, drop-append-add}
use Rattle.cc_connections.specs.declared.frame.Frame.{Frame}
use Rattle.cc_connections.specs.Frames.{body_spelling, frame_spelling}

-- the place of a length, and behind it a body
abbrev kept : List ℕ → List ℕ → List ℕ
kept old body = (old ++ to_be_bytes w32 0) ++ body

closed : (old body : List ℕ)
    → take (length old) (kept old body) ++ (to_be_bytes w32 (length (kept old body) - length old - 4) ++ drop (length old + 4) (kept old body))
    ≡ old ++ (to_be_bytes w32 (length body) ++ body)
closed old body =
    let long : length (kept old body) - length old - 4 ≡ length body =
    omega (arith, length-append (old ++ to_be_bytes w32 0) body, length-append old (to_be_bytes w32 0)) in
    rw (
      long,
      append_assoc old (to_be_bytes w32 0) body,
      take-append_seam old (to_be_bytes w32 0 ++ body),
      drop-append-add old (to_be_bytes w32 0 ++ body) 4,
    ) refl

-- what stands where a frame was put behind other bytes
pub framed : (f : Frame) (old zeros put now : List ℕ) (start : ℕ) → start ≡ length old → zeros ≡ old ++ to_be_bytes w32 0 → put ≡ zeros ++ body_spelling f
    → now ≡ take start put ++ (to_be_bytes w32 (length put - start - 4) ++ drop (start + 4) put) → now ≡ old ++ frame_spelling f
framed f old zeros put now start at z p is = rw (is, p, z, at) (closed old (body_spelling f))
