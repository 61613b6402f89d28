-- Which side is found to be in use.
--     IsInUse                          it is armed with this generation, and the other one yields to it
--     chosen_takes, chosen_again       such a side is chosen, and no other
use Rattle.std.proofs.Common.{◌≡◌, ◌⊎◌, inl, inr, ℕ, zero, suc, ◌<◌, ◌≤◌, Bool, true, false, cond, eqb, ltb, List, length, get_or}
use Rattle.std.proofs.Common.{Option, Some, None, Result, Ok, Err, refl, sym, ◌∙◌, ap, subst, arith}
use Rattle.std.proofs.lemmas.Bool.{cases_Bool, eqb-true, eqb-false, eq-eqb, ne_eqb, ltb-true, ltb-false, lt-ltb, le-ltb}
use Rattle.std.proofs.lemmas.Bool.{or_parts, or_from, cond-true, cond-false}
use Rattle.cc_site.specs.declared.site.Side.{Side}
use Rattle.cc_site.specs.declared.site.Side.TheVariants.{A, B}
use Rattle.cc_site.specs.Sides.{other}
use Rattle.cc_site.specs.Moments.{Contents}
use Rattle.cc_node_state.specs.Sides.{OPEN, IsArmed, generation_of, Yields}
use Rattle.cc_checkpoint.specs.declared.side_choice.InUse.{InUse}
use Rattle.cc_checkpoint.specs.declared.open_fault.OpenFault.{OpenFault}
use Rattle.cc_checkpoint.specs.declared.open_fault.OpenFault.TheVariants.{Damaged}
use Rattle.cc_checkpoint.specs.Faults.{◌>>=◌}
use Rattle.cc_checkpoint.specs.SideChoice.{generation_in, in_use, greater, chosen}

bind_ok : {A B : Type 0} (r : Result A OpenFault) (f : A → Result B OpenFault) (y : B) → (r >>= f) ≡ Ok y → (x : A) × (r ≡ Ok x) × (f x ≡ Ok y)
bind_ok (Ok x) f y e = (x, refl, e)
bind_ok (Err d) f y e = absurd cc

unless : {A : Type 0} (b : Bool) (fault : OpenFault) (r : Result A OpenFault) (y : A) → cond b (Err fault) r ≡ Ok y → (b ≡ false) × (r ≡ Ok y)
unless true fault r y e = absurd cc
unless false fault r y e = (refl, e)

abbrev done : {A : Type 0} → A → Result A OpenFault
done x = Ok x

ok_is : {A : Type 0} (x y : A) → done x ≡ done y → x ≡ y
ok_is x y e = cc

-- ---- the side in use

-- what the generation of a side says of it
abbrev GenerationIs : List ℕ → Option ℕ → Type 0
GenerationIs bytes None = ¬ IsArmed bytes
GenerationIs bytes (Some g) = IsArmed bytes × (9 ≤ length bytes) × (1 ≤ g) × (generation_of bytes ≡ g)

generation_takes : (side : Side) (bytes : List ℕ) (o : Option ℕ) → generation_in side bytes ≡ Ok o → GenerationIs bytes o
unfolding generation_in
generation_takes side bytes o read = elim (cases_Bool (eqb (get_or bytes 0 0) OPEN)) [
  | inl armed ↦
      let inner = unless _ (Damaged side 1) (Ok (Some (generation_of bytes))) o (sym (cond-true (eqb (get_or bytes 0 0) OPEN) _ (Ok None) armed) ∙ read) in
      let tests = or_parts _ _ inner.0 in
      subst (GenerationIs bytes) (ok_is (Some (generation_of bytes)) o inner.1)
      (eqb-true _ _ armed, ltb-false _ _ tests.0, positive (generation_of bytes) (eqb-false _ _ tests.1), refl)
  | inr shut ↦ subst (GenerationIs bytes) (ok_is None o (sym (cond-false (eqb (get_or bytes 0 0) OPEN) _ (Ok None) shut) ∙ read)) (eqb-false _ _ shut)
]
  where
    positive : (n : ℕ) → (n ≡ 0 → ⊥) → 1 ≤ n
    positive zero not = absurd (not refl)
    positive (suc n) not = omega arith

generation_unarmed : (side : Side) (bytes : List ℕ) → ¬ IsArmed bytes → generation_in side bytes ≡ Ok None
unfolding generation_in
generation_unarmed side bytes unarmed = cond-false _ _ _ (ne_eqb _ _ unarmed)

generation_armed : (side : Side) (bytes : List ℕ)
    → IsArmed bytes → 9 ≤ length bytes → 1 ≤ generation_of bytes → generation_in side bytes ≡ Ok (Some (generation_of bytes))
unfolding generation_in
generation_armed side bytes armed long from_one =
    cond-true _ _ _ (eq-eqb _ _ armed) ∙ cond-false _ _ _ (or_from _ _ (le-ltb _ _ long) (ne_eqb _ _ (λ is. absurd (omega (arith, is, from_one)))))

-- the side is armed with this generation, and the other one yields to it
pub record IsInUse (left : Contents) (used : InUse) : Type 0 where
  pub armed : IsArmed (left used.side)
  pub long : 9 ≤ length (left used.side)
  pub from_one : 1 ≤ used.generation
  pub is : generation_of (left used.side) ≡ used.generation
  pub yields : Yields (left (other used.side)) used.generation

greater_takes : (left : Contents) (a b : Option ℕ) (used : InUse)
    → GenerationIs (left A) a → GenerationIs (left B) b → greater a b ≡ Ok used → IsInUse left used
unfolding greater
greater_takes left None None used at_a at_b read = absurd cc
greater_takes left (Some a) None used at_a at_b read =
    subst (IsInUse left) (ok_is (in_use A a) used read) (record { armed = at_a.0; long = at_a.1; from_one = at_a.2; is = at_a.3; yields = inl at_b })
greater_takes left None (Some b) used at_a at_b read =
    subst (IsInUse left) (ok_is (in_use B b) used read) (record { armed = at_b.0; long = at_b.1; from_one = at_b.2; is = at_b.3; yields = inl at_a })
greater_takes left (Some a) (Some b) used at_a at_b read =
    let inner = unless (eqb a b) (Damaged B 1) _ used read in
    elim (cases_Bool (ltb a b)) [
      | inl below ↦
          subst (IsInUse left) (ok_is (in_use B b) used (sym (cond-true (ltb a b) (Ok (in_use B b)) (Ok (in_use A a)) below) ∙ inner.1))
          (record {
            armed = at_b.0;
            long = at_b.1;
            from_one = at_b.2;
            is = at_b.3;
            yields = inr (at_a.1, omega (arith, at_a.2, at_a.3), omega (arith, at_a.3, ltb-true a b below));
          })
      | inr above ↦
          let yields = strictly (generation_of (left B)) a b at_b.3 (ltb-false a b above) (eqb-false a b inner.0) in
          subst (IsInUse left) (ok_is (in_use A a) used (sym (cond-false (ltb a b) (Ok (in_use B b)) (Ok (in_use A a)) above) ∙ inner.1))
          (record { armed = at_a.0; long = at_a.1; from_one = at_a.2; is = at_a.3; yields = inr (at_b.1, omega (arith, at_b.2, at_b.3), yields) })
    ]
  where
    strictly : (n a b : ℕ) → n ≡ b → b ≤ a → (a ≡ b → ⊥) → n < a
    strictly n a b is le not = omega (arith, is, le, not)

pub chosen_takes : (left : Contents) (used : InUse) → chosen (left A) (left B) ≡ Ok used → IsInUse left used
unfolding chosen
chosen_takes left used read =
    let first = bind_ok (generation_in A (left A)) _ used read in
    let second = bind_ok (generation_in B (left B)) _ used first.2 in
    greater_takes left first.0 second.0 used (generation_takes A (left A) first.0 first.1) (generation_takes B (left B) second.0 second.1) second.2

greater_first : (a b : ℕ) → b < a → greater (Some a) (Some b) ≡ Ok (in_use A a)
unfolding greater
greater_first a b below = cond-false _ _ _ (ne_eqb a b (λ is. absurd (omega (arith, is, below)))) ∙ cond-false _ _ _ (le-ltb a b (omega arith))

greater_second : (a b : ℕ) → a < b → greater (Some a) (Some b) ≡ Ok (in_use B b)
unfolding greater
greater_second a b below = cond-false _ _ _ (ne_eqb a b (λ is. absurd (omega (arith, is, below)))) ∙ cond-true _ _ _ (lt-ltb a b below)

greater_only_first : (a : ℕ) → greater (Some a) None ≡ Ok (in_use A a)
unfolding greater
greater_only_first a = refl

greater_only_second : (b : ℕ) → greater None (Some b) ≡ Ok (in_use B b)
unfolding greater
greater_only_second b = refl

-- the armed side's generation, whatever the other's
either_way : (side : Side) (bytes : List ℕ) (above : ℕ) → Yields bytes above
    → (o : Option ℕ) × (generation_in side bytes ≡ Ok o) × ((o ≡ None) ⊎ ((g : ℕ) × (o ≡ Some g) × (g < above)))
either_way side bytes above yields = elim yields [
  | inl unarmed ↦ (None, generation_unarmed side bytes unarmed, inl refl)
  | inr below ↦ elim (cases_Bool (eqb (get_or bytes 0 0) OPEN)) [
    | inl armed ↦ (Some (generation_of bytes), generation_armed side bytes (eqb-true _ _ armed) below.0 below.1, inr (generation_of bytes, refl, below.2))
    | inr shut ↦ (None, generation_unarmed side bytes (eqb-false _ _ shut), inl refl)
  ]
]

pub chosen_again : (left : Contents) (used : InUse) → IsInUse left used → chosen (left A) (left B) ≡ Ok used
unfolding chosen
chosen_again left used is = at used.side used.generation is
  where
    at : (side : Side) (generation : ℕ) → IsInUse left (in_use side generation) → chosen (left A) (left B) ≡ Ok (in_use side generation)
    at A generation is =
        let here : generation_in A (left A) ≡ Ok (Some generation) =
        generation_armed A (left A) is.armed is.long (omega (arith, is.is, is.from_one)) ∙ ap (λ (g : ℕ). done (Some g)) is.is in
        let there = either_way B (left B) generation is.yields in
        ap (λ (r : Result (Option ℕ) OpenFault). r >>= λ first. generation_in B (left B) >>= λ second. greater first second) here
        ∙ ap (λ (r : Result (Option ℕ) OpenFault). r >>= λ second. greater (Some generation) second) there.1
        ∙ elim there.2 [
          | inl none ↦ ap (λ (o : Option ℕ). greater (Some generation) o) none ∙ greater_only_first generation
          | inr some ↦ ap (λ (o : Option ℕ). greater (Some generation) o) some.1 ∙ greater_first generation some.0 some.2
        ]
    at B generation is =
        let here : generation_in B (left B) ≡ Ok (Some generation) =
        generation_armed B (left B) is.armed is.long (omega (arith, is.is, is.from_one)) ∙ ap (λ (g : ℕ). done (Some g)) is.is in
        let there = either_way A (left A) generation is.yields in
        ap (λ (r : Result (Option ℕ) OpenFault). r >>= λ first. generation_in B (left B) >>= λ second. greater first second) there.1
        ∙ ap (λ (r : Result (Option ℕ) OpenFault). r >>= λ second. greater there.0 second) here
        ∙ elim there.2 [
          | inl none ↦ ap (λ (o : Option ℕ). greater o (Some generation)) none ∙ greater_only_second generation
          | inr some ↦ ap (λ (o : Option ℕ). greater o (Some generation)) some.1 ∙ greater_second some.0 generation some.2
        ]
