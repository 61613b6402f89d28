-- What a table of greetings keeps, and what its rows say.
--     kept_greetings                 without some of them
--     told_again                     one more greeting of a node, of what the others told
--     are_remembered, are_all_remembered     a row is what the greetings of its node told;  each has one while there is room
use Rattle.std.proofs.Common.{◌≡◌, ℕ, ◌+◌, ◌≤◌, ◌<◌, ◌⊎◌, Bool, true, false, cond, not, eqb, ltb, List, [], ◌∷◌, ◌++◌, length, Option, Some, None}
use Rattle.std.proofs.Common.{refl, sym, ap, subst, ◌∙◌, arith, inl, inr}
use Rattle.std.specs.Prelude.{filter, find, unwrap_or, option_map}
use Rattle.std.proofs.lemmas.Bool.{cases_eq, eqb-true, eq-eqb, ne_eqb, ltb-true, ltb-false, cond-true, cond-false}
use Rattle.std.proofs.lemmas.List.{length-append}
use Rattle.cc_connections.specs.declared.hello.Hello.{Hello}
use Rattle.cc_policies.specs.declared.greetings.PeerGreeting.{PeerGreeting}
use Rattle.cc_policies.specs.Greetings.{Greetings, IsGreetings, found, others, row_after, after_welcome, of_node, first_birth}
use Rattle.cc_policies.specs.Greetings.{last_other, told_by, told, table_of, AreRemembered, AreAllRemembered}
use Rattle.cc_policies.proofs.RouteLaws.{shorter}

pub kept_greetings : (rows : Greetings) (capacity : ℕ) → IsGreetings rows capacity → (p : PeerGreeting → Bool) → IsGreetings (filter p rows) capacity
kept_greetings rows capacity is p = record { fits = omega (arith, shorter p rows, is.fits); room = is.room }

-- ---- the row of a node in a table into which a row was put

-- how many rows a node has
abbrev count : ℕ → Greetings → ℕ
count n rows = length (filter (λ (r : PeerGreeting). eqb r.node n) rows)

module _ (n : ℕ) where
  none_if : (b : Bool) (r : PeerGreeting) (rest : Greetings) → eqb r.node n ≡ b → found n rest ≡ None → found n (cond (not b) (r ∷ rest) rest) ≡ None
  none_if true r rest e none = none
  none_if false r rest e none = cond-false (eqb r.node n) (Some r) (found n rest) e ∙ none

  none_left : (rows : Greetings) → found n (others n rows) ≡ None
  none_left [] = refl
  none_left (r ∷ rows) = none_if (eqb r.node n) r (others n rows) refl (none_left rows)

  all_if : (b : Bool) (r : PeerGreeting) (rows kept : Greetings) → cond b (Some r) (found n rows) ≡ None → (found n rows ≡ None → kept ≡ rows)
      → cond (not b) (r ∷ kept) kept ≡ r ∷ rows
  all_if true r rows kept none same = absurd cc
  all_if false r rows kept none same = ap (λ (t : Greetings). r ∷ t) (same none)

  all_left : (rows : Greetings) → found n rows ≡ None → others n rows ≡ rows
  all_left [] none = refl
  all_left (r ∷ rows) none = all_if (eqb r.node n) r rows (others n rows) none (all_left rows)

  own_if : (b : Bool) (r : PeerGreeting) (rest more : Option PeerGreeting) (row : PeerGreeting) → cond b (Some r) rest ≡ None → (rest ≡ None → more ≡ Some row)
      → cond b (Some r) more ≡ Some row
  own_if true r rest more row none next = absurd cc
  own_if false r rest more row none next = next none

  own_found : (rows : Greetings) (row : PeerGreeting) → row.node ≡ n → found n rows ≡ None → found n (rows ++ row ∷ []) ≡ Some row
  own_found [] row own none = cond-true (eqb row.node n) (Some row) None (eq-eqb row.node n own)
  own_found (r ∷ rows) row own none = own_if (eqb r.node n) r (found n rows) (found n (rows ++ row ∷ [])) row none (own_found rows row own)

  counts_if : (b : Bool) (r : PeerGreeting) (rest mine rows : Greetings) → length rest + length mine ≡ length rows
      → length (cond (not b) (r ∷ rest) rest) + length (cond b (r ∷ mine) mine) ≡ length (r ∷ rows)
  counts_if true r rest mine rows e = omega (arith, e)
  counts_if false r rest mine rows e = omega (arith, e)

  parted : (rows : Greetings) → length (others n rows) + count n rows ≡ length rows
  parted [] = omega arith
  parted (r ∷ rows) = counts_if (eqb r.node n) r (others n rows) (filter (λ (q : PeerGreeting). eqb q.node n) rows) rows (parted rows)

  more_if : (b : Bool) (r : PeerGreeting) (longer mine : Greetings) (k : ℕ) → length longer ≡ length mine + k
      → length (cond b (r ∷ longer) longer) ≡ length (cond b (r ∷ mine) mine) + k
  more_if true r longer mine k e = omega (arith, e)
  more_if false r longer mine k e = omega (arith, e)

  counted : (rows : Greetings) (row : PeerGreeting) → count n (rows ++ row ∷ []) ≡ count n rows + count n (row ∷ [])
  counted [] row = omega arith
  counted (r ∷ rows) row =
      more_if (eqb r.node n) r (filter (λ (q : PeerGreeting). eqb q.node n) (rows ++ row ∷ [])) (filter (λ (q : PeerGreeting). eqb q.node n) rows)
      (count n (row ∷ [])) (counted rows row)

  zero_if : (b : Bool) (r : PeerGreeting) (rest : Greetings) → eqb r.node n ≡ b → count n rest ≡ 0 → count n (cond (not b) (r ∷ rest) rest) ≡ 0
  zero_if true r rest e none = none
  zero_if false r rest e none =
      ap length (cond-false (eqb r.node n) (r ∷ filter (λ (q : PeerGreeting). eqb q.node n) rest) (filter (λ (q : PeerGreeting). eqb q.node n) rest) e) ∙ none

  zero_left : (rows : Greetings) → count n (others n rows) ≡ 0
  zero_left [] = refl
  zero_left (r ∷ rows) = zero_if (eqb r.node n) r (others n rows) refl (zero_left rows)

  one_if : (b : Bool) (row : PeerGreeting) → length (cond b (row ∷ []) []) ≤ 1
  one_if true row = omega arith
  one_if false row = omega arith

module _ (n m : ℕ) (apart : n ≡ m → ⊥) where
  not_both : (node : ℕ) → eqb node m ≡ true → eqb node n ≡ false
  not_both node e = ne_eqb node n (λ same. apart (sym same ∙ eqb-true node m e))

  found_if : (b : Bool) (r : PeerGreeting) (rest rows : Greetings) → eqb r.node m ≡ b → found n rest ≡ found n rows
      → found n (cond (not b) (r ∷ rest) rest) ≡ cond (eqb r.node n) (Some r) (found n rows)
  found_if true r rest rows e same = same ∙ sym (cond-false (eqb r.node n) (Some r) (found n rows) (not_both r.node e))
  found_if false r rest rows e same = ap (λ (t : Option PeerGreeting). cond (eqb r.node n) (Some r) t) same

  found_left : (rows : Greetings) → found n (others m rows) ≡ found n rows
  found_left [] = refl
  found_left (r ∷ rows) = found_if (eqb r.node m) r (others m rows) rows refl (found_left rows)

  found_before : (rows : Greetings) (row : PeerGreeting) → row.node ≡ m → found n (rows ++ row ∷ []) ≡ found n rows
  found_before [] row own = cond-false (eqb row.node n) (Some row) None (not_both row.node (eq-eqb row.node m own))
  found_before (r ∷ rows) row own = ap (λ (t : Option PeerGreeting). cond (eqb r.node n) (Some r) t) (found_before rows row own)

  fewer_if : (b : Bool) (r : PeerGreeting) (rest rows : Greetings) → eqb r.node m ≡ b → count n rest ≤ count n rows
      → count n (cond (not b) (r ∷ rest) rest) ≤ count n (r ∷ rows)
  fewer_if true r rest rows e le =
      subst (λ (k : ℕ). count n rest ≤ k) (sym (ap length (cond-false (eqb r.node n) (r ∷ filter (λ (q : PeerGreeting). eqb q.node n) rows)
      (filter (λ (q : PeerGreeting). eqb q.node n) rows) (not_both r.node e)))) le
  fewer_if false r rest rows e le = fewer (eqb r.node n) r (filter (λ (q : PeerGreeting). eqb q.node n) rest) (filter (λ (q : PeerGreeting). eqb q.node n) rows) le
    where
      fewer : (b : Bool) (r : PeerGreeting) (a c : Greetings) → length a ≤ length c → length (cond b (r ∷ a) a) ≤ length (cond b (r ∷ c) c)
      fewer true r a c le = omega (arith, le)
      fewer false r a c le = le

  fewer_left : (rows : Greetings) → count n (others m rows) ≤ count n rows
  fewer_left [] = omega arith
  fewer_left (r ∷ rows) = fewer_if (eqb r.node m) r (others m rows) rows refl (fewer_left rows)

-- ---- each node has one row

abbrev AreSingle : Greetings → Type 0
AreSingle rows = (n : ℕ) → count n rows ≤ 1

single_then : (row : PeerGreeting) (rows : Greetings) → AreSingle rows → AreSingle (others row.node rows ++ row ∷ [])
single_then row rows single n =
    elim (cases_eq n row.node) [
      | inl own ↦ subst (λ (m : ℕ). count m (others row.node rows ++ row ∷ []) ≤ 1) (sym own)
          (omega (arith, counted row.node (others row.node rows) row, zero_left row.node rows, one_if row.node (eqb row.node row.node) row))
      | inr apart ↦ omega (
        arith,
        counted n (others row.node rows) row,
        fewer_left n row.node apart rows,
        single n,
        ap length (cond-false (eqb row.node n) (row ∷ []) [] (ne_eqb row.node n (λ same. apart (sym same)))),
      )
    ]

single_left : (m : ℕ) (rows : Greetings) → AreSingle rows → AreSingle (others m rows)
single_left m rows single n =
    elim (cases_eq n m) [
      | inl own ↦ subst (λ (k : ℕ). count k (others m rows) ≤ 1) (sym own) (omega (arith, zero_left m rows))
      | inr apart ↦ omega (arith, fewer_left n m apart rows, single n)
    ]

-- ---- what a row has to be

other_if : (b : Bool) (h g : Hello) (gs : List Hello) → eqb g.run h.run ≡ b
    → option_map (λ (q : Hello). q.run) (cond (not b) (Some g) (find (λ (q : Hello). not (eqb q.run h.run)) gs)) ≡ cond b (last_other g.run gs) (Some g.run)
other_if true h g gs e = ap (λ (run : ℕ). last_other run gs) (sym (eqb-true g.run h.run e))
other_if false h g gs e = refl

abbrev row_with : Hello → ℕ → Option ℕ → PeerGreeting
row_with h birth other = record { node = h.from; birth = birth; run = h.run; other_run = other }

told_again : (h : Hello) (hs : List Hello) → told_by (h ∷ hs) ≡ Some (row_after h (told_by hs))
told_again h [] = refl
told_again h (g ∷ gs) =
    ap (λ (other : Option ℕ). Some (row_with h (unwrap_or (first_birth gs) g.birth) other)) (other_if (eqb g.run h.run) h g gs refl)

-- of a node that greets, and of another
told_own : (h : Hello) (hs : List Hello) → told h.from (h ∷ hs) ≡ Some (row_after h (told h.from hs))
told_own h hs = ap told_by (cond-true (eqb h.from h.from) (h ∷ of_node h.from hs) (of_node h.from hs) (eq-eqb h.from h.from refl))
    ∙ told_again h (of_node h.from hs)

told_other : (n : ℕ) (h : Hello) (hs : List Hello) → (n ≡ h.from → ⊥) → told n (h ∷ hs) ≡ told n hs
told_other n h hs apart = ap told_by (cond-false (eqb h.from n) (h ∷ of_node n hs) (of_node n hs) (ne_eqb h.from n (λ same. apart (sym same))))

-- ---- the table after any greetings

-- a row is what was told, or there is none and no room
abbrev Says : Greetings → List Hello → ℕ → Type 0
Says rows hellos n = (found n rows ≡ told n hellos) ⊎ ((found n rows ≡ None) × (256 ≤ length rows))

own_node : (h : Hello) (known : Option PeerGreeting) → (row_after h known).node ≡ h.from
own_node h None = refl
own_node h (Some row) = refl

module _ (h : Hello) (hs : List Hello) (rows : Greetings) (single : AreSingle rows) (says : (n : ℕ) → Says rows hs n) where
  abbrev row : PeerGreeting
  row = row_after h (found h.from rows)

  abbrev left : Greetings
  left = others h.from rows

  -- there is room
  own_says : length left < 256 → found h.from (left ++ row ∷ []) ≡ told h.from (h ∷ hs)
  own_says room =
      elim (says h.from) [
        | inl same ↦ own_found h.from left row (own_node h (found h.from rows)) (none_left h.from rows)
            ∙ ap (λ (known : Option PeerGreeting). Some (row_after h known)) same ∙ sym (told_own h hs)
        | inr full ↦ absurd (omega (arith, ap length (all_left h.from rows full.0), full.1, room))
      ]

  other_says : (n : ℕ) → (n ≡ h.from → ⊥) → length left < 256 → Says (left ++ row ∷ []) (h ∷ hs) n
  other_says n apart room =
      let kept : found n (left ++ row ∷ []) ≡ found n rows =
      found_before n h.from apart left row (own_node h (found h.from rows)) ∙ found_left n h.from apart rows in
      elim (says n) [
        | inl same ↦ inl (kept ∙ same ∙ sym (told_other n h hs apart))
        | inr full ↦ inr (
          kept ∙ full.0,
          omega (arith, length-append left (row ∷ []), parted h.from rows, single h.from, full.1),
        )
      ]

  -- there is none
  other_full : (n : ℕ) → (n ≡ h.from → ⊥) → 256 ≤ length left → Says left (h ∷ hs) n
  other_full n apart full =
      elim (says n) [
        | inl same ↦ inl (found_left n h.from apart rows ∙ same ∙ sym (told_other n h hs apart))
        | inr none ↦ inr (found_left n h.from apart rows ∙ none.0, full)
      ]

  says_then : (n : ℕ) → length left < 256 → Says (left ++ row ∷ []) (h ∷ hs) n
  says_then n room =
      elim (cases_eq n h.from) [
        | inl own ↦ subst (λ (m : ℕ). Says (left ++ row ∷ []) (h ∷ hs) m) (sym own) (inl (own_says room))
        | inr apart ↦ other_says n apart room
      ]

  says_full : (n : ℕ) → 256 ≤ length left → Says left (h ∷ hs) n
  says_full n full =
      elim (cases_eq n h.from) [
        | inl own ↦ subst (λ (m : ℕ). Says left (h ∷ hs) m) (sym own) (inr (none_left h.from rows, full))
        | inr apart ↦ other_full n apart full
      ]

-- what the table says, and that each node has one row
pub record IsTable (rows : Greetings) (hellos : List Hello) : Type 0 where
  pub single : AreSingle rows
  pub says : (n : ℕ) → Says rows hellos n

table_then : (h : Hello) (hs : List Hello) (rows : Greetings) → IsTable rows hs → IsTable (after_welcome h rows) (h ∷ hs)
table_then h hs rows is =
    subst (λ (m : ℕ). IsTable (cond (ltb (length (others m rows)) 256) (others m rows ++ row_after h (found h.from rows) ∷ []) (others m rows)) (h ∷ hs))
    (sym (own_node h (found h.from rows)))
    (by_room (ltb (length (others h.from rows)) 256) refl)
  where
    by_room : (b : Bool) → ltb (length (others h.from rows)) 256 ≡ b
        → IsTable (cond b (others h.from rows ++ row_after h (found h.from rows) ∷ []) (others h.from rows)) (h ∷ hs)
    by_room true e = record {
      single = subst (λ (m : ℕ). AreSingle (others m rows ++ row_after h (found h.from rows) ∷ [])) (own_node h (found h.from rows))
          (single_then (row_after h (found h.from rows)) rows is.single);
      says = λ n. says_then h hs rows is.single is.says n (ltb-true _ _ e);
    }
    by_room false e = record {
      single = single_left h.from rows is.single;
      says = λ n. says_full h hs rows is.single is.says n (ltb-false _ _ e);
    }

table_is : (hellos : List Hello) → IsTable (table_of hellos) hellos
table_is [] = record { single = λ n. omega arith; says = λ n. inl refl }
table_is (h ∷ hs) = table_then h hs (table_of hs) (table_is hs)

pub are_remembered : AreRemembered
are_remembered hellos node row some =
    elim ((table_is hellos).says node) [
      | inl same ↦ sym same ∙ some
      | inr none ↦ absurd (cc (none.0, some))
    ]

pub are_all_remembered : AreAllRemembered
are_all_remembered hellos node room =
    elim ((table_is hellos).says node) [
      | inl same ↦ same
      | inr full ↦ absurd (omega (arith, full.1, room))
    ]
