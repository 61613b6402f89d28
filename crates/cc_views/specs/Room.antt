-- A room of a fixed size of which a front is used. The rest is zero, so that what is used tells the whole room.
use Rattle.std.specs.Prelude.{◌≡◌, ℕ, ◌-◌, ◌≤◌, List, ◌++◌, length, take, drop}
use Rattle.std.proofs.Common.{sym, ap, ◌∙◌, arith, take-append-drop, length-take-le}
use Rattle.std.proofs.Math.ListN.{replicate}

-- of `size` cells the first `len` are used, and the others are zero
pub record IsRoom (size : ℕ) (cells : List ℕ) (len : ℕ) : Type 0 where
  pub within : len ≤ size
  pub whole : length cells ≡ size
  pub rest : drop len cells ≡ replicate (size - len) 0

-- the room of which `used` is the front
abbrev pub filled : ℕ → List ℕ → List ℕ
filled size used = used ++ replicate (size - length used) 0

pub filled_of_used : (size : ℕ) (cells : List ℕ) (len : ℕ) → IsRoom size cells len → (filled size (take len cells) ≡ cells) × (length (take len cells) ≡ len)
filled_of_used size cells len h =
    let used : length (take len cells) ≡ len = length-take-le len cells (omega (arith, h.within, h.whole)) in
    (ap (λ (n : ℕ). take len cells ++ replicate (size - n) 0) used ∙ ap (λ (t : List ℕ). take len cells ++ t) (sym h.rest) ∙ take-append-drop len cells, used)
