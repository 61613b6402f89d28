-- Texts that are cut at the last of a character.
--     Lacks                  no character of a text is that one
--     cut_later, last_split  a text that lacks it isn't cut there;  a text has one cut at the last of it
--     IsCut, cut_parts       as `rsplit_once` answers
use Rattle.std.proofs.Common.{◌≡◌, ◌≢◌, ℕ, ◌<◌, ◌≤◌, ◌+◌, List, [], ◌∷◌, ◌++◌, length, take, drop, get_or, Option, Some, None, Bor, refl, sym, ap, ap₂, subst, ◌∙◌}
use Rattle.std.proofs.Common.{arith, eqb, length-append, take-append-drop}
use Rattle.std.specs.Prelude.{MatchOption}
use Rattle.std.specs.Str.{NoCharPasses}
use Rattle.std.specs.Str.Pattern.{RFindsChar}
use Rattle.std.proofs.lemmas.Str.Pattern.{NoCharPasses-char, drop_at_char}

abbrev pub Lacks : ℕ → List ℕ → Type 0
Lacks c text = (i : ℕ) → i < length text → get_or text i 0 ≢ c

seam : (c : ℕ) (xs ys : List ℕ) → get_or (xs ++ c ∷ ys) (length xs) 0 ≡ c
seam c [] ys = refl
seam c (x ∷ xs) ys = seam c xs ys

pub cut_later : (c : ℕ) (xs ys text : List ℕ) → Lacks c text → text ≡ xs ++ c ∷ ys → ⊥
cut_later c xs ys text lacks same =
    lacks (length xs) (omega (arith, ap length same, length-append xs (c ∷ ys))) (ap (λ (l : List ℕ). get_or l (length xs) 0) same ∙ seam c xs ys)

pub last_split : (c : ℕ) (xs ys us vs : List ℕ) → Lacks c ys → Lacks c vs → xs ++ c ∷ ys ≡ us ++ c ∷ vs → (xs ≡ us) × (ys ≡ vs)
last_split c [] ys [] vs first second same = (refl, ap (λ (l : List ℕ). drop 1 l) same)
last_split c [] ys (u ∷ us) vs first second same = absurd (cut_later c us vs ys first (ap (λ (l : List ℕ). drop 1 l) same))
last_split c (x ∷ xs) ys [] vs first second same = absurd (cut_later c xs ys vs second (ap (λ (l : List ℕ). drop 1 l) (sym same)))
last_split c (x ∷ xs) ys (u ∷ us) vs first second same =
    let rest = last_split c xs ys us vs first second (ap (λ (l : List ℕ). drop 1 l) same) in
    (ap₂ (λ (h : ℕ) (t : List ℕ). h ∷ t) (ap (λ (l : List ℕ). get_or l 0 0) same) rest.0, rest.1)

-- the clause of `rsplit_once` at a character
abbrev pub IsCut : ℕ → List ℕ → Option (Bor (List ℕ) × Bor (List ℕ)) → Type 0
IsCut c text r = MatchOption r (RFindsChar c text None) (λ x. (i : ℕ) × (j : ℕ) × RFindsChar c text (Some (i, j)) × (x.0.now ≡ take i text)
    × (x.1.now ≡ drop j text) × (i ≤ j) × (length x.0.now ≡ i) × (length x.1.now + j ≡ length text))

pub cut_parts : (c : ℕ) (text : List ℕ) (r : Option (Bor (List ℕ) × Bor (List ℕ))) → IsCut c text r → c < 128
    → MatchOption r (Lacks c text) (λ x. (text ≡ x.0.now ++ c ∷ x.1.now) × Lacks c x.1.now)
cut_parts c text None cut low = λ i. NoCharPasses-char c text i cut low
cut_parts c text (Some x) cut low = (
  sym (take-append-drop cut.0 text) ∙ (λ k. sym cut.3 k ++ (drop_at_char c text cut.0 cut.1 cut.2.1 low ∙ ap (λ (l : List ℕ). c ∷ l) (sym cut.4)) k),
  λ i. NoCharPasses-char c x.1.now i (subst (NoCharPasses (λ d. eqb d c)) (sym cut.4) cut.2.0) low,
)
