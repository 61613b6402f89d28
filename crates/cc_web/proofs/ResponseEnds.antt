-- What a response has once a field was to be added to it.
--     with_field       it has the field, or what it had
use Rattle.std.proofs.Common.{◌≡◌, ◌∙◌, ap, ◌⊎◌, inl, inr, ℕ, List, [], ◌∷◌, ◌++◌}
use Rattle.std.specs.Prelude.{Result, Ok, Err, OnOk, OnErr}
use Rattle.http1.specs.Fields.{Header}

pub with_field : {A E : Type 0} (old new : List Header) (name value n v : List ℕ) → (r : Result A E) → n ≡ name → v ≡ value
    → OnOk r (new ≡ old ++ (n, v) ∷ []) → OnErr r (new ≡ old) → (new ≡ old) ⊎ (new ≡ old ++ (name, value) ∷ [])
with_field old new name value n v (Ok a) e f p q =
    inr (p ∙ ap (λ (x : List ℕ). old ++ (x, v) ∷ []) e ∙ ap (λ (x : List ℕ). old ++ (name, x) ∷ []) f)
with_field old new name value n v (Err why) e f p q = inl q
