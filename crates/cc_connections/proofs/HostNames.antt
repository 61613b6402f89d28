-- The names of machines.
--     label_alone, label_after     a name without a dot is its last label;  else that is what follows the last dot
--     without_dot, after_dot       as `rsplit_once` answers
use Rattle.std.proofs.Common.{◌≡◌, inl, inr, ℕ, suc, List, [], ◌∷◌, ◌++◌, ◌||◌, true, false, Option, Some, None, Bor, refl, sym, ap, ap₂, ◌∙◌, arith, lit<}
use Rattle.std.proofs.Common.{eqb}
use Rattle.std.specs.List.{list_any}
use Rattle.std.proofs.lemmas.Bool.{cases_Bool, cond-true, cond-false, ne_eqb}
use Rattle.cc_connections.specs.Hosts.{last_label}
use Rattle.cc_connections.proofs.LastParts.{Lacks, IsCut, cut_parts}

has_dot : (xs ys : List ℕ) → list_any (λ b. eqb b 46) (xs ++ 46 ∷ ys) ≡ true
has_dot [] ys = refl
has_dot (x ∷ xs) ys = elim (cases_Bool (eqb x 46)) [
  | inl dot ↦ ap (λ b. b || list_any (λ b. eqb b 46) (xs ++ 46 ∷ ys)) dot
  | inr other ↦ ap₂ (λ a b. a || b) other (has_dot xs ys)
]

no_dot : (xs : List ℕ) → Lacks 46 xs → list_any (λ b. eqb b 46) xs ≡ false
no_dot [] lacks = refl
no_dot (x ∷ xs) lacks = ap₂ (λ a b. a || b) (ne_eqb x 46 (lacks 0 (omega arith))) (no_dot xs (λ i within. lacks (suc i) (omega (arith, within))))

pub label_alone : (xs : List ℕ) → Lacks 46 xs → last_label xs ≡ xs
label_alone [] lacks = refl
label_alone (x ∷ xs) lacks = cond-false _ _ _ (no_dot (x ∷ xs) lacks)

pub label_after : (xs ys : List ℕ) → Lacks 46 ys → last_label (xs ++ 46 ∷ ys) ≡ ys
label_after [] ys lacks = label_alone ys lacks
label_after (x ∷ xs) ys lacks = cond-true _ _ _ (has_dot (x ∷ xs) ys) ∙ label_after xs ys lacks

pub without_dot : (name : List ℕ) (r : Option (Bor (List ℕ) × Bor (List ℕ))) → IsCut 46 name r → r ≡ None → name ≡ last_label name
without_dot name r cut none =
    let lacks : Lacks 46 name = rw none at (cut_parts 46 name r cut (lit< tt)) in
    sym (label_alone name lacks)

pub after_dot : (name : List ℕ) (r : Option (Bor (List ℕ) × Bor (List ℕ))) (x y : Bor (List ℕ)) → IsCut 46 name r → r ≡ Some (x, y)
    → y.now ≡ last_label name
after_dot name r x y cut some =
    let parts : (name ≡ x.now ++ 46 ∷ y.now) × Lacks 46 y.now = rw some at (cut_parts 46 name r cut (lit< tt)) in
    sym (label_after x.now y.now parts.1) ∙ ap last_label (sym parts.0)
