-- What is missing to a multiple.
--     reaches_multiple       with it a length is one
use Rattle.std.proofs.Common.{◌≡◌, ℕ, ◌+◌, ◌-◌, ◌*◌, ◌/◌, ◌%◌, ◌<◌, ◌≤◌, ◌∙◌, ap, arith}
use Rattle.std.proofs.Math.Nat.{add-mod-mod, add-mod_right, mul-mod_left}
use Rattle.std.proofs.lemmas.Nat.{mod_below, div-add-mod'}
use Rattle.cc_journal.specs.Journals.{to_multiple}

pub reaches_multiple : (stride len : ℕ) → 1 ≤ stride → (len + to_multiple stride len) % stride ≡ 0
reaches_multiple stride len some =
    let quotient : ℕ = len / stride in
    let rest : ℕ = len % stride in
    let parts : quotient * stride + rest ≡ len = div-add-mod' len stride in
    let below : rest < stride = mod_below len stride some in
    let whole : len + (stride - rest) ≡ quotient * stride + stride = omega (arith, parts, below) in
    add-mod-mod len (stride - rest) stride ∙ ap (λ (n : ℕ). n % stride) whole ∙ add-mod_right (quotient * stride) stride ∙ mul-mod_left quotient stride
