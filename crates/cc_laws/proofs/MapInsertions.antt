-- Finite maps that were made by insertions: what they have, and the same map made in another way.
--     get_empty, entries_insert, entries_empty, length_is     what is in a map
--     retain_insert, retain_empty, remove_insert, remove_empty     what is left of it
--     over_same, over_two, over_one        a key that is there is given another value
--     tables                               all of these, to rewrite by
use Rattle.std.proofs.Common.{◌≡◌, ℕ, Bool, true, false, cond, nat_eq, List, [], ◌∷◌, length, refl, sym, ap, ◌∙◌, arith}
use Rattle.std.specs.Prelude.{Option, Some, None}
use Rattle.std.specs.Cmp.{nat_cmp_total, unsigned_tied}
use Rattle.std.specs.Ordering.{nat_cmp}
use Rattle.std.specs.FinMap as table
use Rattle.std.specs.FinMap.{FinMap, nat_cmp-IsAntisymmetric}
use Rattle.std.specs.FinMap.Entries.{put}
use Rattle.std.proofs.lemmas.Bool.{eqb-true, eqb-false}
use Rattle.cc_views.specs.NatSets.{get-insert_key}

pub get_empty : {X : Type 0} (q : ℕ) → table.get (table.empty {X = X} {R = nat_cmp}) q ≡ None
get_empty q = table.get-empty nat_cmp q

pub entries_insert : {X : Type 0} (m : FinMap nat_cmp X) (k : ℕ) (v : X) → table.entries (table.insert m k v) ≡ put nat_cmp k v (table.entries m)
entries_insert m k v = table.entries-insert nat_cmp_total m k v

no_entries : {X : Type 0} (es : List X) → length es ≡ 0 → es ≡ []
no_entries [] e = refl
no_entries (x ∷ es) e = absurd (omega (arith, e))

pub entries_empty : {X : Type 0} → table.entries (table.empty {X = X} {R = nat_cmp}) ≡ []
entries_empty {X} =
    let m : FinMap nat_cmp X = table.empty in no_entries (table.entries m) (sym (table.len-entries m) ∙ table.len-empty nat_cmp X)

pub length_is : {X : Type 0} (m : FinMap nat_cmp X) → table.len m ≡ length (table.entries m)
length_is m = table.len-entries m

-- equal where they have the same at each key
pub same : {X : Type 0} (m n : FinMap nat_cmp X) → ((q : ℕ) → table.get m q ≡ table.get n q) → m ≡ n
same m n is = table.same_map nat_cmp_total nat_cmp-IsAntisymmetric m n is

module _ {X : Type 0} (p : ℕ → Bool) where
  kept : (m : FinMap nat_cmp X) (q : ℕ) → table.get (table.retain_keys m p) q ≡ cond (p q) (table.get m q) None
  kept m q = table.get-retain_keys m p q (λ x tied. ap p (sym (nat_cmp-IsAntisymmetric q x tied)))

  nothing : (b : Bool) (o : Option X) → o ≡ None → cond b o None ≡ None
  nothing true o e = e
  nothing false o e = refl

  pub retain_empty : table.retain_keys (table.empty {X = X} {R = nat_cmp}) p ≡ table.empty
  retain_empty = same _ _ (λ q. kept table.empty q ∙ nothing (p q) (table.get table.empty q) (get_empty q) ∙ sym (get_empty q))

  -- the key's own entry, and any other
  kept_at : (k : ℕ) (v : X) (o : Option X) (q : ℕ) (keeps : Bool) → p k ≡ keeps → (b : Bool) → nat_eq q k ≡ b
      → cond (p q) (cond b (Some v) o) None ≡ cond keeps (cond b (Some v) (cond (p q) o None)) (cond (p q) o None)
  kept_at k v o q true is true e = ap (λ c. cond c (Some v) None) (ap p (eqb-true q k e) ∙ is)
  kept_at k v o q true is false e = refl
  kept_at k v o q false is true e =
      let no = ap p (eqb-true q k e) ∙ is in ap (λ c. cond c (Some v) None) no ∙ sym (ap (λ c. cond c o None) no)
  kept_at k v o q false is false e = refl

  retain_by : (m : FinMap nat_cmp X) (k : ℕ) (v : X) (b : Bool) → p k ≡ b
      → table.retain_keys (table.insert m k v) p ≡ cond b (table.insert (table.retain_keys m p) k v) (table.retain_keys m p)
  retain_by m k v b is = same _ _ (λ q.
      kept (table.insert m k v) q ∙ ap (λ o. cond (p q) o None) (get-insert_key m k v q) ∙ kept_at k v (table.get m q) q b is (nat_eq q k) refl
      ∙ sym (back b q))
    where
      back : (c : Bool) (q : ℕ) → table.get (cond c (table.insert (table.retain_keys m p) k v) (table.retain_keys m p)) q
          ≡ cond c (cond (nat_eq q k) (Some v) (cond (p q) (table.get m q) None)) (cond (p q) (table.get m q) None)
      back true q = get-insert_key (table.retain_keys m p) k v q ∙ ap (cond (nat_eq q k) (Some v)) (kept m q)
      back false q = kept m q

  pub retain_insert : (m : FinMap nat_cmp X) (k : ℕ) (v : X)
      → table.retain_keys (table.insert m k v) p ≡ cond (p k) (table.insert (table.retain_keys m p) k v) (table.retain_keys m p)
  retain_insert m k v = retain_by m k v (p k) refl

twice : {X : Type 0} (b : Bool) (v w : X) (o : Option X) → cond b (Some w) (cond b (Some v) o) ≡ cond b (Some w) o
twice true v w o = refl
twice false v w o = refl

pub over_same : {X : Type 0} (m : FinMap nat_cmp X) (k : ℕ) (v w : X) → table.insert (table.insert m k v) k w ≡ table.insert m k w
over_same m k v w = same _ _ (λ q.
    get-insert_key (table.insert m k v) k w q ∙ ap (cond (nat_eq q k) (Some w)) (get-insert_key m k v q) ∙ twice (nat_eq q k) v w (table.get m q)
    ∙ sym (get-insert_key m k w q))

three : {X : Type 0} (j k q : ℕ) → (j ≡ k → ⊥) → (a b : Bool) → nat_eq q j ≡ a → nat_eq q k ≡ b → (v u w : X) (o : Option X)
    → cond a (Some w) (cond b (Some u) (cond a (Some v) o)) ≡ cond b (Some u) (cond a (Some w) o)
three j k q apart true true is at v u w o = absurd (apart (sym (eqb-true q j is) ∙ eqb-true q k at))
three j k q apart true false is at v u w o = refl
three j k q apart false b is at v u w o = refl

-- of two keys the one that was inserted first
over : {X : Type 0} (j k : ℕ) → (j ≡ k → ⊥) → (m : FinMap nat_cmp X) (v u w : X)
    → table.insert (table.insert (table.insert m j v) k u) j w ≡ table.insert (table.insert m j w) k u
over j k apart m v u w = same _ _ (λ q.
    get-insert_key (table.insert (table.insert m j v) k u) j w q
    ∙ ap (cond (nat_eq q j) (Some w)) (get-insert_key (table.insert m j v) k u q ∙ ap (cond (nat_eq q k) (Some u)) (get-insert_key m j v q))
    ∙ three j k q apart (nat_eq q j) (nat_eq q k) refl refl v u w (table.get m q)
    ∙ sym (get-insert_key (table.insert m j w) k u q ∙ ap (cond (nat_eq q k) (Some u)) (get-insert_key m j w q)))

pub over_two : {X : Type 0} (m : FinMap nat_cmp X) (v u w : X)
    → table.insert (table.insert (table.insert m 2 v) 1 u) 2 w ≡ table.insert (table.insert m 2 w) 1 u
over_two m v u w = over 2 1 (λ e. omega (arith, e)) m v u w

pub over_one : {X : Type 0} (m : FinMap nat_cmp X) (v u w : X)
    → table.insert (table.insert (table.insert m 1 v) 2 u) 1 w ≡ table.insert (table.insert m 1 w) 2 u
over_one m v u w = over 1 2 (λ e. omega (arith, e)) m v u w

empty_either : {X : Type 0} (b : Bool) (o : Option X) → o ≡ None → cond b None o ≡ None
empty_either true o is = refl
empty_either false o is = is

pub remove_empty : {X : Type 0} (k : ℕ) → table.remove (table.empty {X = X} {R = nat_cmp}) k ≡ table.empty
remove_empty k = same _ _ (λ q. table.get-remove nat_cmp_total table.empty k q ∙ empty_either _ _ (get_empty q) ∙ sym (get_empty q))

removed : {X : Type 0} (m : FinMap nat_cmp X) (k q : ℕ) → table.get (table.remove m k) q ≡ cond (nat_eq q k) None (table.get m q)
removed m k q = table.get-remove nat_cmp_total m k q ∙ ap (λ b. cond b None (table.get m q)) (unsigned_tied q k)

-- key k was given v, and key j is removed: what is at key q
left_at : {X : Type 0} (j k q : ℕ) (v : X) (o : Option X) (a b c : Bool) → nat_eq k j ≡ a → nat_eq q j ≡ b → nat_eq q k ≡ c
    → cond b None (cond c (Some v) o) ≡ cond a (cond b None o) (cond c (Some v) (cond b None o))
left_at j k q v o true true c at is is' = refl
left_at j k q v o true false true at is is' = absurd (eqb-false q j is (eqb-true q k is' ∙ eqb-true k j at))
left_at j k q v o true false false at is is' = refl
left_at j k q v o false true true at is is' = absurd (eqb-false k j at (sym (eqb-true q k is') ∙ eqb-true q j is))
left_at j k q v o false true false at is is' = refl
left_at j k q v o false false c at is is' = refl

remove_by : {X : Type 0} (m : FinMap nat_cmp X) (k : ℕ) (v : X) (j : ℕ) (b : Bool) → nat_eq k j ≡ b
    → table.remove (table.insert m k v) j ≡ cond b (table.remove m j) (table.insert (table.remove m j) k v)
remove_by m k v j b is = same _ _ (λ q.
    removed (table.insert m k v) j q ∙ ap (cond (nat_eq q j) None) (get-insert_key m k v q)
    ∙ left_at j k q v (table.get m q) b (nat_eq q j) (nat_eq q k) is refl refl ∙ sym (back b q))
  where
    back : (c : Bool) (q : ℕ) → table.get (cond c (table.remove m j) (table.insert (table.remove m j) k v)) q
        ≡ cond c (cond (nat_eq q j) None (table.get m q)) (cond (nat_eq q k) (Some v) (cond (nat_eq q j) None (table.get m q)))
    back true q = removed m j q
    back false q = get-insert_key (table.remove m j) k v q ∙ ap (cond (nat_eq q k) (Some v)) (removed m j q)

pub remove_insert : {X : Type 0} (m : FinMap nat_cmp X) (k : ℕ) (v : X) (j : ℕ)
    → table.remove (table.insert m k v) j ≡ cond (nat_eq k j) (table.remove m j) (table.insert (table.remove m j) k v)
remove_insert m k v j = remove_by m k v j (nat_eq k j) refl

pub ruleset tables = (get-insert_key, get_empty, entries_insert, entries_empty, length_is, retain_insert, retain_empty, remove_insert, remove_empty, over_same, over_two, over_one)
