-- Reading all of the bytes.
use Rattle.std.proofs.Common.{◌≡◌, ℕ, Bool, true, false, cond, eqb, List, [], ◌++◌, length, Result, Ok, Err, refl, sym, ap, subst, ◌∙◌}
use Rattle.std.specs.Prelude.{IfOk}
use Rattle.std.proofs.lemmas.Bool.{eqb-true}
use Rattle.std.proofs.lemmas.List.{append-nil, nil_from_length}
use Rattle.cc_wire.specs.declared.fault.WireFault.{WireFault}
use Rattle.cc_wire.specs.declared.fault.WireFault.TheVariants.{Short, BadKind, NotAscending, TooLarge, Trailing, NoMemory, Broken}
use Rattle.cc_wire.specs.Readers.{◌>>=◌, Reading, Gives, TakesNoMemory, ended, whole}
use Rattle.cc_wire.specs.Spellings.{Spells}
use Rattle.cc_wire.proofs.Spelled.{IsBytes, bind_ok, ok_is, Spelled}

is_ended : (b : Bool) (u : Unit {0}) (d : WireFault) → cond b (Ok tt) (Err d) ≡ Ok u → b ≡ true
is_ended true u d e = refl
is_ended false u d e = absurd cc

ended_ok : (rest : List ℕ) (u : Unit {0}) → ended rest ≡ Ok u → rest ≡ []
unfolding ended
ended_ok rest u e = nil_from_length rest (eqb-true _ _ (is_ended (eqb (length rest) 0) u Trailing e))

module _ {X : Type 0} {read : Reading X} {Is : X → Type 0} {spelling : X → List ℕ} (spelled : Spelled read Is spelling) where
  pub whole_takes : (bytes : List ℕ) (x : X) → IsBytes bytes → whole read bytes ≡ Ok x → Is x × (bytes ≡ spelling x)
  unfolding whole
  whole_takes bytes x fits e =
      let a = bind_ok (read bytes) (λ a. ended a.1 >>= λ _. Ok a.0) x e in
      let b = bind_ok (ended a.0.1) (λ _. Ok a.0.0) x a.2 in
      let t = spelled.takes bytes a.0.0 a.0.1 fits a.1 in
      let all : bytes ≡ spelling a.0.0 = t.0.parts ∙ ap (λ (r : List ℕ). spelling a.0.0 ++ r) (ended_ok a.0.1 b.0 b.1) ∙ append-nil (spelling a.0.0) in
      subst (λ (y : X). Is y × (bytes ≡ spelling y)) (ok_is a.0.0 x b.2) (t.1, all)

  pub whole_again : (x : X) → Is x → whole read (spelling x) ≡ Ok x
  unfolding whole ended
  whole_again x is =
      let e : read (spelling x) ≡ Ok (x, []) = ap read (sym (append-nil (spelling x))) ∙ spelled.again x [] is in
      rw e refl

  -- what is read is spelled so
  pub whole_found : (bytes : List ℕ) (r : Result X WireFault) → IsBytes bytes → Gives (λ x. x) r (whole read bytes) → IfOk r (Spells Is spelling bytes)
  whole_found bytes (Ok x) fits given = let t = whole_takes bytes x fits given in record { lawful = t.0; spelled = t.1 }
  whole_found bytes (Err e) fits given = tt

  -- and what is spelled so is read
  pub whole_only : (bytes : List ℕ) (x : X) → Spells Is spelling bytes x → whole read bytes ≡ Ok x
  whole_only bytes x is = ap (whole read) is.spelled ∙ whole_again x is.lawful

  pub given_only : (bytes : List ℕ) (r : Result X WireFault) → Gives (λ x. x) r (whole read bytes) → (x : X) → Spells Is spelling bytes x
      → Gives (λ x. x) r (Ok x)
  given_only bytes r given x is = subst (λ f. Gives (λ x. x) r f) (whole_only bytes x is) given

  -- no spelling begins another
  pub one_spelling : (a b u w : List ℕ) (x y : X) → Is x → Is y → a ≡ spelling x → b ≡ spelling y → a ++ u ≡ b ++ w → (x ≡ y) × (a ≡ b)
  one_spelling a b u w x y is-x is-y a-is b-is e =
      let first : read (a ++ u) ≡ Ok (x, u) = ap (λ (t : List ℕ). read (t ++ u)) a-is ∙ spelled.again x u is-x in
      let second : read (b ++ w) ≡ Ok (y, w) = ap (λ (t : List ℕ). read (t ++ w)) b-is ∙ spelled.again y w is-y in
      let one : (x, u) ≡ (y, w) = ok_is (x, u) (y, w) (sym first ∙ ap read e ∙ second) in
      let same : x ≡ y = ap (λ (p : X × List ℕ). p.0) one in
      (same, a-is ∙ ap spelling same ∙ sym b-is)

  pub only_spelling : (a b u w : List ℕ) (x y : X) → Spells Is spelling a x → Spells Is spelling b y → a ++ u ≡ b ++ w → (x ≡ y) × (a ≡ b)
  only_spelling a b u w x y p q e = one_spelling a b u w x y p.lawful q.lawful p.spelled q.spelled e

-- what takes no memory gives just what is read
pub just_read : {X : Type 0} (r read : Result X WireFault) → TakesNoMemory r → Gives (λ x. x) r read → r ≡ read
just_read (Ok x) read free given = sym given
just_read (Err Short) read free given = sym given
just_read (Err (BadKind k)) read free given = sym given
just_read (Err NotAscending) read free given = sym given
just_read (Err TooLarge) read free given = sym given
just_read (Err Trailing) read free given = sym given
just_read (Err NoMemory) read free given = absurd (free refl)
just_read (Err Broken) read free given = sym given
