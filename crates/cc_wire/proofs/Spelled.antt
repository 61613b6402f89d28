-- A format is read as it is spelled: what was taken from the front is the spelling of what was read, and a
-- spelling is read again, whatever follows it.
use Rattle.std.proofs.Common.{◌≡◌, ℕ, zero, suc, ◌+◌, ◌<◌, ◌≤◌, Bool, true, false, cond, ltb, eqb, List, [], ◌∷◌, ◌++◌, length, get_or, take, drop}
use Rattle.std.proofs.Common.{Result, Ok, Err, refl, sym, ap, subst, ◌∙◌, append_assoc, arith, inl, inr}
use Rattle.std.specs.Int.{Width, byte_len, from_be_bytes, to_be_bytes}
use Rattle.std.specs.List.{flat_map}
use Rattle.std.proofs.lemmas.Bool.{eqb-true, cases_lt, ltb-false, le-ltb}
use Rattle.std.proofs.lemmas.List.{take_at, drop_at, take-append-drop, length-append, length-take, get_or-drop, get_or-take, get_or_past}
use Rattle.std.proofs.lemmas.List.Concat.{flat_map-cons}
use Rattle.cc_wire.specs.declared.fault.WireFault.{WireFault}
use Rattle.cc_wire.specs.declared.fault.WireFault.TheVariants.{Short}
use Rattle.cc_wire.specs.Readers.{◌>>=◌, Reading, ◌⊗◌, via, byte_at, kinded, bytes_at, number_at, items_at, nothing_at}

abbrev pub IsBytes : List ℕ → Type 0
IsBytes bytes = (i : ℕ) → get_or bytes i 0 < 256

pub IsBytes-drop : (n : ℕ) (bytes : List ℕ) → IsBytes bytes → IsBytes (drop n bytes)
IsBytes-drop n bytes h i = rw get_or-drop (h (n + i))

pub IsBytes-take : (n : ℕ) (bytes : List ℕ) → IsBytes bytes → IsBytes (take n bytes)
IsBytes-take n bytes h i =
    elim (cases_lt i n) [
      | inl lt ↦ rw (get_or-take n bytes i 0 lt) (h i)
      | inr le ↦ rw (get_or_past (take n bytes) i 0 (omega (arith, length-take n bytes))) (omega arith)
    ]

pub bind_ok : {A B : Type 0} (r : Result A WireFault) (f : A → Result B WireFault) (y : B) → (r >>= f) ≡ Ok y → (x : A) × (r ≡ Ok x) × (f x ≡ Ok y)
bind_ok (Ok x) f y e = (x, refl, e)
bind_ok (Err d) f y e = absurd cc

pub guard_ok : {A : Type 0} (b : Bool) (d : WireFault) (x y : A) → cond b (Err d) (Ok x) ≡ Ok y → (b ≡ false) × (x ≡ y)
guard_ok true d x y e = absurd cc
guard_ok false d x y e = (refl, cc)

abbrev done : {A : Type 0} → A → Result A WireFault
done x = Ok x

pub ok_is : {A : Type 0} (x y : A) → done x ≡ done y → x ≡ y
ok_is x y e = cc

-- what was taken from the front, and that bytes are left
pub record Takes (bytes text rest : List ℕ) : Type 0 where
  pub parts : bytes ≡ text ++ rest
  pub left : IsBytes rest

pub Takes-then : (a x b y c : List ℕ) → Takes a x b → Takes b y c → Takes a (x ++ y) c
Takes-then a x b y c p q = record { parts = p.parts ∙ ap (λ (t : List ℕ). x ++ t) q.parts ∙ sym (append_assoc x y c); left = q.left }

pub record Spelled {X : Type 0} (read : Reading X) (Is : X → Type 0) (spelling : X → List ℕ) : Type 0 where
  pub takes : (bytes : List ℕ) (x : X) (rest : List ℕ) → IsBytes bytes → read bytes ≡ Ok (x, rest) → Takes bytes (spelling x) rest × Is x
  pub again : (x : X) (rest : List ℕ) → Is x → read (spelling x ++ rest) ≡ Ok (x, rest)

-- ---- one after another

pub both : {A B : Type 0} {r : Reading A} {s : Reading B} {P : A → Type 0} {Q : B → Type 0} {f : A → List ℕ} {g : B → List ℕ}
    → Spelled r P f → Spelled s Q g → Spelled (r ⊗ s) (λ p. P p.0 × Q p.1) (λ p. f p.0 ++ g p.1)
both {A} {B} {r} {s} {P} {Q} {f} {g} first second = record {
  takes = λ bytes x rest fits e.
      let a = bind_ok (r bytes) (λ a. s a.1 >>= λ b. Ok ((a.0, b.0), b.1)) (x, rest) e in
      let b = bind_ok (s a.0.1) (λ b. Ok ((a.0.0, b.0), b.1)) (x, rest) a.2 in
      let t = first.takes bytes a.0.0 a.0.1 fits a.1 in
      let u = second.takes a.0.1 b.0.0 b.0.1 t.0.left b.1 in
      let made : (A × B) × List ℕ = ((a.0.0, b.0.0), b.0.1) in
      subst (λ (y : (A × B) × List ℕ). Takes bytes (f y.0.0 ++ g y.0.1) y.1 × (P y.0.0 × Q y.0.1)) (ok_is made (x, rest) b.2)
      (Takes-then bytes (f a.0.0) a.0.1 (g b.0.0) b.0.1 t.0 u.0, (t.1, u.1));
  again = λ x rest fits.
      ap (r ⊗ s) (append_assoc (f x.0) (g x.1) rest) ∙ rw (first.again x.0 (g x.1 ++ rest) fits.0, second.again x.1 rest fits.1) refl;
}

-- a value that is its fields
pub as_fields : {A B : Type 0} {r : Reading A} {P : A → Type 0} {f : A → List ℕ} (make : A → B) (fields : B → A) → ((b : B) → make (fields b) ≡ b)
    → ((a : A) → P a → fields (make a) ≡ a)
    → Spelled r P f → Spelled (via make r) (λ b. P (fields b)) (λ b. f (fields b))
as_fields {A} {B} {r} {P} {f} make fields there back spelled = record {
  takes = λ bytes x rest fits e.
      let a = bind_ok (r bytes) (λ a. Ok (make a.0, a.1)) (x, rest) e in
      let t = spelled.takes bytes a.0.0 a.0.1 fits a.1 in
      let made : B × List ℕ = (make a.0.0, a.0.1) in
      subst (λ (y : B × List ℕ). Takes bytes (f (fields y.0)) y.1 × P (fields y.0)) (ok_is made (x, rest) a.2)
      (subst (λ (q : A). Takes bytes (f q) a.0.1 × P q) (sym (back a.0.0 t.1)) t);
  again = λ x rest fits. rw (spelled.again (fields x) rest fits) (ap (λ (b : B). Ok (b, rest)) (there x));
}

-- the same under facts that say as much
pub as_facts : {A : Type 0} {r : Reading A} {P : A → Type 0} {f : A → List ℕ} (Q : A → Type 0) → ((a : A) → P a → Q a) → ((a : A) → Q a → P a)
    → Spelled r P f → Spelled r Q f
as_facts Q to from spelled = record {
  takes = λ bytes x rest fits e. let t = spelled.takes bytes x rest fits e in (t.0, to x t.1);
  again = λ x rest fits. spelled.again x rest (from x fits);
}

-- a value that a test lets pass
pub tested : {A : Type 0} {r : Reading A} {P : A → Type 0} {f : A → List ℕ} (test : A → Bool) (d : WireFault) (Q : A → Type 0)
    → ((a : A) → test a ≡ false → Q a) → ((a : A) → Q a → test a ≡ false)
    → Spelled r P f → Spelled (λ bytes. r bytes >>= λ a. cond (test a.0) (Err d) (Ok a)) (λ a. P a × Q a) f
tested {A} {r} {P} {f} test d Q to from spelled = record {
  takes = λ bytes x rest fits e.
      let a = bind_ok (r bytes) (λ a. cond (test a.0) (Err d) (Ok a)) (x, rest) e in
      let g = guard_ok (test a.0.0) d a.0 (x, rest) a.2 in
      let t = spelled.takes bytes a.0.0 a.0.1 fits a.1 in
      subst (λ (y : A × List ℕ). Takes bytes (f y.0) y.1 × (P y.0 × Q y.0)) g.1 (t.0, (t.1, to a.0.0 g.0));
  again = λ x rest fits. rw (spelled.again x rest fits.0, from x fits.1) refl;
}

-- a count, and so many
pub counted : {A : Type 0} {count : Reading ℕ} {P : ℕ → Type 0} {c : ℕ → List ℕ} {items : ℕ → Reading A} {Q : A → Type 0} {f : A → List ℕ} (size : A → ℕ)
    → Spelled count P c → ((n : ℕ) → Spelled (items n) (λ a. (size a ≡ n) × Q a) f)
    → Spelled (λ bytes. count bytes >>= λ n. items n.0 n.1) (λ a. P (size a) × Q a) (λ a. c (size a) ++ f a)
counted {A} {count} {P} {c} {items} {Q} {f} size first second = record {
  takes = λ bytes x rest fits e.
      let n = bind_ok (count bytes) (λ n. items n.0 n.1) (x, rest) e in
      let t = first.takes bytes n.0.0 n.0.1 fits n.1 in
      let u = (second n.0.0).takes n.0.1 x rest t.0.left n.2 in
      subst (λ (k : ℕ). Takes bytes (c k ++ f x) rest × (P k × Q x)) (sym u.1.0) (Takes-then bytes (c n.0.0) n.0.1 (f x) rest t.0 u.0, (t.1, u.1.1));
  again = λ x rest fits.
      ap (λ (t : List ℕ). count t >>= λ n. items n.0 n.1) (append_assoc (c (size x)) (f x) rest)
      ∙ rw (first.again (size x) (f x ++ rest) fits.0) ((second (size x)).again x rest (refl, fits.1));
}

-- ---- items whose keys rise

-- keys from `least` on, each above the one before
abbrev pub IsRun : {X : Type 0} → (X → ℕ) → (X → Type 0) → ℕ → List X → Type 0
IsRun key Q least [] = Unit {0}
IsRun key Q least (x ∷ xs) = (Q x × (least ≤ key x)) × IsRun key Q (key x + 1) xs

module _ {X : Type 0} (item : ℕ → Reading X) (key : X → ℕ) (Q : X → Type 0) (f : X → List ℕ)
    (each : (least : ℕ) → Spelled (item least) (λ x. Q x × (least ≤ key x)) f) where
  items_take : (n least : ℕ) (bytes : List ℕ) (xs : List X) (rest : List ℕ) → IsBytes bytes → items_at item key n least bytes ≡ Ok (xs, rest)
      → Takes bytes (flat_map f xs) rest × ((length xs ≡ n) × IsRun key Q least xs)
  unfolding items_at
  items_take zero least bytes xs rest fits e =
      subst (λ (y : List X × List ℕ). Takes bytes (flat_map f y.0) y.1 × ((length y.0 ≡ 0) × IsRun key Q least y.0)) (ok_is ([], bytes) (xs, rest) e)
      (record { parts = refl; left = fits }, (refl, tt))
  items_take (suc n) least bytes xs rest fits e =
      let a = bind_ok (item least bytes) (λ first. items_at item key n (key first.0 + 1) first.1 >>= λ others. Ok (first.0 ∷ others.0, others.1))
      (xs, rest) e in
      let b = bind_ok (items_at item key n (key a.0.0 + 1) a.0.1) (λ others. Ok (a.0.0 ∷ others.0, others.1)) (xs, rest) a.2 in
      let t = (each least).takes bytes a.0.0 a.0.1 fits a.1 in
      let u = items_take n (key a.0.0 + 1) a.0.1 b.0.0 b.0.1 t.0.left b.1 in
      let all = Takes-then bytes (f a.0.0) a.0.1 (flat_map f b.0.0) b.0.1 t.0 u.0 in
      let made : List X × List ℕ = (a.0.0 ∷ b.0.0, b.0.1) in
      subst (λ (y : List X × List ℕ). Takes bytes (flat_map f y.0) y.1 × ((length y.0 ≡ suc n) × IsRun key Q least y.0)) (ok_is made (xs, rest) b.2)
      (rw flat_map-cons all, (ap suc u.1.0, (t.1, u.1.1)))

  items_again : (xs : List X) (least : ℕ) (rest : List ℕ) → IsRun key Q least xs → items_at item key (length xs) least (flat_map f xs ++ rest) ≡ Ok (xs, rest)
  unfolding items_at
  items_again [] least rest fits = refl
  items_again (x ∷ xs) least rest fits =
      let regrouped : flat_map f (x ∷ xs) ++ rest ≡ f x ++ (flat_map f xs ++ rest) =
      ap (λ (t : List ℕ). t ++ rest) (flat_map-cons f x xs) ∙ append_assoc (f x) (flat_map f xs) rest in
      ap (items_at item key (suc (length xs)) least) regrouped ∙ rw (
        (each least).again x (flat_map f xs ++ rest) fits.0,
        items_again xs (key x + 1) rest fits.1,
      ) refl

  pub items_spelled : (n least : ℕ) → Spelled (items_at item key n least) (λ xs. (length xs ≡ n) × IsRun key Q least xs) (flat_map f)
  items_spelled n least = record {
    takes = λ bytes xs rest fits e. items_take n least bytes xs rest fits e;
    again = λ xs rest fits. subst (λ (k : ℕ). items_at item key k least (flat_map f xs ++ rest) ≡ Ok (xs, rest)) fits.0 (items_again xs least rest fits.1);
  }

-- ---- fields

byte_takes : (bytes : List ℕ) (x : ℕ) (rest : List ℕ) → IsBytes bytes → byte_at bytes ≡ Ok (x, rest) → Takes bytes (x ∷ []) rest × (x < 256)
byte_takes [] x rest fits e = absurd cc
byte_takes (b ∷ bytes) x rest fits e =
    subst (λ (y : ℕ × List ℕ). Takes (b ∷ bytes) (y.0 ∷ []) y.1 × (y.0 < 256)) (ok_is (b, bytes) (x, rest) e)
    (record { parts = refl; left = λ i. fits (suc i) }, fits 0)

pub byte_spelled : Spelled byte_at (λ b. b < 256) (λ b. b ∷ [])
byte_spelled = record { takes = byte_takes; again = λ x rest fits. refl }

pub bytes_spelled : (n : ℕ) → Spelled (bytes_at n) (λ bs. (length bs ≡ n) × IsBytes bs) (λ bs. bs)
bytes_spelled n = record {
  takes = λ bytes x rest fits e.
      let g = guard_ok (ltb (length bytes) n) Short (take n bytes, drop n bytes) (x, rest) e in
      let long : n ≤ length bytes = ltb-false _ _ g.0 in
      subst (λ (y : List ℕ × List ℕ). Takes bytes y.0 y.1 × ((length y.0 ≡ n) × IsBytes y.0)) g.1
      (record { parts = sym (take-append-drop n bytes); left = IsBytes-drop n bytes fits }, (omega (arith, length-take n bytes), IsBytes-take n bytes fits));
  again = λ x rest fits.
      let long : ltb (length (x ++ rest)) n ≡ false = le-ltb _ _ (omega (arith, length-append x rest, fits.0)) in
      rw (long, take_at x rest n fits.0, drop_at x rest n fits.0) refl;
}

-- a width whose numbers have one spelling each
pub record IsWide (w : Width) (limit : ℕ) : Type 0 where
  pub len : (n : ℕ) → length (to_be_bytes w n) ≡ byte_len w
  pub fit : (n : ℕ) → IsBytes (to_be_bytes w n)
  pub back : (bytes : List ℕ) → length bytes ≡ byte_len w → IsBytes bytes → to_be_bytes w (from_be_bytes w bytes) ≡ bytes
  pub again : (n : ℕ) → n < limit → from_be_bytes w (to_be_bytes w n) ≡ n
  pub below : (bytes : List ℕ) → length bytes ≡ byte_len w → IsBytes bytes → from_be_bytes w bytes < limit

pub number_spelled : (w : Width) (limit : ℕ) → IsWide w limit → Spelled (number_at w) (λ n. n < limit) (to_be_bytes w)
number_spelled w limit wide = record {
  takes = λ bytes x rest fits e.
      let a = bind_ok (bytes_at (byte_len w) bytes) (λ a. Ok (from_be_bytes w a.0, a.1)) (x, rest) e in
      let t = (bytes_spelled (byte_len w)).takes bytes a.0.0 a.0.1 fits a.1 in
      let made : ℕ × List ℕ = (from_be_bytes w a.0.0, a.0.1) in
      subst (λ (y : ℕ × List ℕ). Takes bytes (to_be_bytes w y.0) y.1 × (y.0 < limit)) (ok_is made (x, rest) a.2)
      (subst (λ (b : List ℕ). Takes bytes b a.0.1) (sym (wide.back a.0.0 t.1.0 t.1.1)) t.0, wide.below a.0.0 t.1.0 t.1.1);
  again = λ x rest lt. rw ((bytes_spelled (byte_len w)).again (to_be_bytes w x) rest (wide.len x, wide.fit x)) (ap (λ (n : ℕ). Ok (n, rest)) (wide.again x lt));
}

-- ---- a kind, and then its fields

module _ {M : Type 0} (spelling : M → List ℕ) (Is : M → Type 0) (bytes after : List ℕ) (k : ℕ) (m : M) (rest : List ℕ) (fits : IsBytes after)
    (front : Takes bytes (k ∷ []) after) where
  pub kind_takes : {A : Type 0} {r : Reading A} {P : A → Type 0} {f : A → List ℕ} (spelled : Spelled r P f) (make : A → M) (kind : ℕ)
      → ((a : A) → P a → Is (make a)) → ((a : A) → spelling (make a) ≡ kind ∷ f a)
      → k ≡ kind → via make r after ≡ Ok (m, rest) → Takes bytes (spelling m) rest × Is m
  kind_takes {A} {r} {P} {f} spelled make kind lawful text is e =
      let a = bind_ok (r after) (λ a. Ok (make a.0, a.1)) (m, rest) e in
      let t = spelled.takes after a.0.0 a.0.1 fits a.1 in
      let all : Takes bytes (k ∷ f a.0.0) a.0.1 = Takes-then bytes (k ∷ []) after (f a.0.0) a.0.1 front t.0 in
      let spelt : Takes bytes (spelling (make a.0.0)) a.0.1 = subst (λ (x : List ℕ). Takes bytes x a.0.1)
      (ap (λ (n : ℕ). n ∷ f a.0.0) is ∙ sym (text a.0.0)) all in
      let made : M × List ℕ = (make a.0.0, a.0.1) in
      subst (λ (y : M × List ℕ). Takes bytes (spelling y.0) y.1 × Is y.0) (ok_is made (m, rest) a.2) (spelt, lawful a.0.0 t.1)

  -- one kind of several
  pub kind_or : {A : Type 0} {r : Reading A} {P : A → Type 0} {f : A → List ℕ} (spelled : Spelled r P f) (make : A → M) (kind : ℕ)
      → ((a : A) → P a → Is (make a)) → ((a : A) → spelling (make a) ≡ kind ∷ f a)
      → (other : Reading M) → (other after ≡ Ok (m, rest) → Takes bytes (spelling m) rest × Is m)
      → (cond (eqb k kind) (via make r) other) after ≡ Ok (m, rest) → Takes bytes (spelling m) rest × Is m
  kind_or {A} {r} {P} {f} spelled make kind lawful text other next e =
      elim (eqb k kind) as (λ b. eqb k kind ≡ b → (cond b (via make r) other) after ≡ Ok (m, rest) → Takes bytes (spelling m) rest × Is m) [
        | true ↦ λ is e. kind_takes spelled make kind lawful text (eqb-true k kind is) e
        | false ↦ λ _ e. next e
      ] refl e

-- where the fields of each kind are read as they are spelled, so is the whole
pub kinded_takes : {M : Type 0} {spelling : M → List ℕ} {Is : M → Type 0} {fields : ℕ → Reading M}
    → ((bytes after : List ℕ) (k : ℕ) (m : M) (rest : List ℕ) → IsBytes after → Takes bytes (k ∷ []) after → fields k after ≡ Ok (m, rest)
    → Takes bytes (spelling m) rest × Is m)
    → (bytes : List ℕ) (m : M) (rest : List ℕ) → IsBytes bytes → kinded fields bytes ≡ Ok (m, rest) → Takes bytes (spelling m) rest × Is m
kinded_takes {fields} fields_take bytes m rest fits e =
    let k = bind_ok (byte_at bytes) (λ kind. fields kind.0 kind.1) (m, rest) e in
    let front = byte_spelled.takes bytes k.0.0 k.0.1 fits k.1 in
    fields_take bytes k.0.1 k.0.0 m rest front.0.left front.0 k.2

-- nothing stands behind a kind that has no fields
pub nothing_spelled : Spelled nothing_at (λ _. Unit {0}) (λ _. [])
nothing_spelled = record {
  takes = λ bytes x rest fits e. (
    record {
      parts = ap (λ (p : Unit {0} × List ℕ). p.1) (ok_is (tt, bytes) (x, rest) e);
      left = subst IsBytes (ap (λ (p : Unit {0} × List ℕ). p.1) (ok_is (tt, bytes) (x, rest) e)) fits;
    },
    tt,
  );
  again = λ x rest fits. refl;
}
