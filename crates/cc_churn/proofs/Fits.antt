-- Changes that fit after an echo fitted before it.
use Rattle.std.proofs.Common.{◌≡◌, ℕ, ◌+◌, ◌≤◌, Bool, true, false, cond, ◌||◌, subst, sym, arith, refl}
use Rattle.cc_views.specs.NatSets as set
use Rattle.cc_views.specs.NatSets.{NatSet, len-insert, contains-union}
use Rattle.cc_changes.specs.ChangeSets.{ChangeSets, FitsRoom, add_join}
use Rattle.cc_changes.specs.declared.fraction.Fraction.{Fraction}
use Rattle.cc_churn.specs.Churn.{Churn, with_need, with_echo, is_answered, echoed, counts_for, counted, has_joined, united}

no_less : (b : Bool) (n : ℕ) → n ≤ cond b n (n + 1)
no_less true n = omega arith
no_less false n = omega arith

-- a set is no longer than with one item more
len_below_insert : (s : NatSet) (k : ℕ) → set.len s ≤ set.len (set.insert s k)
len_below_insert s k = subst (λ n. set.len s ≤ n) (sym (len-insert s k)) (no_less (set.contains s k) (set.len s))

pub before_join : (c : ChangeSets) (q : ℕ) → FitsRoom (add_join c q) → FitsRoom c
before_join c q h = record {
  entered = omega (arith, len_below_insert c.entered q, h.entered);
  joined = omega (arith, len_below_insert c.joined q, h.joined);
  left = h.left;
}

either_join : (b : Bool) (me : ℕ) (s : Churn) → FitsRoom (cond b (record s { changes = add_join s.changes me }) s).changes → FitsRoom s.changes
either_join true me s h = before_join s.changes me h
either_join false me s h = h

same_changes : (b : Bool) (need : ℕ) (s : Churn) → (cond b (record s { need = need }) s).changes ≡ s.changes
same_changes true need s = refl
same_changes false need s = refl

either_echo : (b : Bool) (s t : Churn) → (FitsRoom t.changes → FitsRoom s.changes) → FitsRoom (cond b t s).changes → FitsRoom s.changes
either_echo true s t before h = before h
either_echo false s t before h = h

pub before_echo : (me : ℕ) (gamma : Fraction) (j : Bool) (s : Churn) → FitsRoom (echoed me gamma j s).changes → FitsRoom s.changes
before_echo me gamma j s h = subst FitsRoom (same_changes _ _ s) (either_join (is_answered (with_echo (with_need gamma j s))) me
    (with_echo (with_need gamma j s)) h)

pub before_counted : (me : ℕ) (gamma : Fraction) (j : Bool) (q : ℕ) (s : Churn) → FitsRoom (counted me gamma j q s).changes → FitsRoom s.changes
before_counted me gamma j q s h = either_echo (counts_for me q s) s (echoed me gamma j s) (before_echo me gamma j s) h

-- who has joined after a union, as one of both sides says
pub has_joined_united : (me : ℕ) (c : ChangeSets) (s : Churn) → has_joined me (united c s) ≡ (has_joined me s || set.contains c.joined me)
has_joined_united me c s = contains-union s.changes.joined c.joined me
