-- What follows for the contents that a crash may leave of a side.
--     touch_more, shift_more              what it may leave before a write or a cut, it may leave while that runs
--     written_within, cut_within          so it is with what it may leave after it
--     settled_only, settled_within        after a sync it leaves what is read, which it might have left before
--     durable_only                        of a durable side it leaves its bytes
--     rebased, firm-touch, no_shorter_written, other_other     what these and others rest on
use Rattle.std.proofs.Common.{◌≡◌, ◌⊎◌, ⊎_elim, ℕ, ◌+◌, ◌<◌, ◌≤◌, min, Bool, true, false, ◌&&◌, cond, nat_le, nat_lt, List, length, take, slice_index}
use Rattle.std.proofs.Common.{Option, None, Some, unwrap_or, refl, sym, ◌∙◌, subst, arith}
use Rattle.std.proofs.lemmas.Bool.{or_parts}
use Rattle.std.proofs.lemmas.Bool.Decides.{nat_tests}
use Rattle.std.proofs.lemmas.Grind.{common_steps}
use Rattle.std.proofs.lemmas.List.{ext_get_or}
use Rattle.cc_site.specs.declared.site.Side.{Side}
use Rattle.cc_site.specs.declared.site.Side.TheVariants.{A, B}
use Rattle.cc_site.specs.Sides.{SideState, MayLeave, other, firm, touch, overwritten, written, shift, cut_to, settled, durable}

-- the other side's other side
pub other_other : (side : Side) → other (other side) ≡ side
other_other A = refl
other_other B = refl

firm_cond : (s : SideState) (b : Bool) → unwrap_or (cond b (Some (firm s)) s.shifted) (length s.bytes) ≡ firm s
firm_cond s true = refl
firm_cond s false = refl

pub firm-touch : (s : SideState) (at n : ℕ) → firm (touch s at n) ≡ firm s
firm-touch s at n = firm_cond s (nat_lt (length s.bytes) (at + n))

none_cond : (s : SideState) (b : Bool) → cond b (Some (firm s)) s.shifted ≡ None → s.shifted ≡ None
none_cond s true is = absurd cc
none_cond s false is = is

-- a crash before a write is one of those in it
pub touch_more : (s : SideState) (at n : ℕ) (left : List ℕ) → MayLeave s left → MayLeave (touch s at n) left
touch_more s at n left may = record {
  no_shorter = subst (λ k. k ≤ length left) (sym (firm-touch s at n)) may.no_shorter;
  no_longer = λ is. may.no_longer (none_cond s (nat_lt (length s.bytes) (at + n)) is);
  same = λ p below clean. may.same p (subst (λ k. p < k) (firm-touch s at n) below) ((or_parts (s.touched p) (nat_le at p && nat_lt p (at + n)) clean).0);
}

firm_same : (shifted : Option ℕ) (m n : ℕ) → (shifted ≡ None → m ≡ n) → unwrap_or shifted m ≡ unwrap_or shifted n
firm_same None m n is = is refl
firm_same (Some w) m n is = refl

-- other bytes at touched places, and from the lowest shifted place on, make no difference to what a crash may leave
pub rebased : (s : SideState) (bytes : List ℕ) → (s.shifted ≡ None → length bytes ≡ length s.bytes)
    → ((p : ℕ) → p < firm s → s.touched p ≡ false → slice_index bytes p ≡ slice_index s.bytes p)
    → (left : List ℕ) → MayLeave (record s { bytes = bytes }) left → MayLeave s left
rebased s bytes long same left may =
    let firm_is = firm_same s.shifted (length bytes) (length s.bytes) long in record {
      no_shorter = subst (λ k. k ≤ length left) firm_is may.no_shorter;
      no_longer = λ is. may.no_longer is ∙ long is;
      same = λ p below clean. may.same p (subst (λ k. p < k) (sym firm_is) below) clean ∙ same p below clean;
    }

-- the bytes after a write
length_written : (old bytes : List ℕ) (at : ℕ) → at ≤ length old → at + length bytes ≤ length old → length (overwritten old at bytes) ≡ length old
length_written old bytes at within fits = grind (arith, common_steps)

pub no_shorter_written : (old bytes : List ℕ) (at : ℕ) → at ≤ length old → length old ≤ length (overwritten old at bytes)
no_shorter_written old bytes at within = grind (arith, common_steps)

before_written : (old bytes : List ℕ) (at p : ℕ) → at ≤ length old → p < at → slice_index (overwritten old at bytes) p ≡ slice_index old p
before_written old bytes at p within below = grind (arith, common_steps)

after_written : (old bytes : List ℕ) (at p : ℕ) → at ≤ length old → at + length bytes ≤ p → slice_index (overwritten old at bytes) p ≡ slice_index old p
after_written old bytes at p within above = grind (arith, common_steps)

outside_range : (at n p : ℕ) → (nat_le at p && nat_lt p (at + n)) ≡ false → (p < at) ⊎ (at + n ≤ p)
outside_range at n p clean = grind (arith, nat_tests)

not_extended : (old at n : ℕ) (w : ℕ) (shifted : Option ℕ) → (cond (nat_lt old (at + n)) (Some w) shifted) ≡ None → at + n ≤ old
not_extended old at n w shifted is = grind (arith, nat_tests)

-- a crash after a write leaves nothing else than one in it
pub written_within : (s : SideState) (at : ℕ) (bytes : List ℕ) (left : List ℕ) → at ≤ length s.bytes → MayLeave (written s at bytes) left
    → MayLeave (touch s at (length bytes)) left
written_within s at bytes left within = rebased (touch s at (length bytes)) (overwritten s.bytes at bytes)
    (λ is. length_written s.bytes bytes at within (not_extended (length s.bytes) at (length bytes) (firm s) s.shifted is))
    (λ p below clean. ⊎_elim (before_written s.bytes bytes at p within) (after_written s.bytes bytes at p within)
    (outside_range at (length bytes) p ((or_parts (s.touched p) (nat_le at p && nat_lt p (at + length bytes)) clean).1)))
    left

cut_same : (bytes : List ℕ) (to n p : ℕ) → p < min n to → slice_index (take to bytes) p ≡ slice_index bytes p
cut_same bytes to n p below = grind (arith, common_steps)

-- the same for a cut
pub cut_within : (s : SideState) (to : ℕ) (left : List ℕ) → MayLeave (cut_to s to) left → MayLeave (shift s to) left
cut_within s to left = rebased (shift s to) (take to s.bytes) (λ is. absurd cc) (λ p below clean. cut_same s.bytes to (firm s) p below) left

-- and for a crash before the cut
pub shift_more : (s : SideState) (to : ℕ) (left : List ℕ) → MayLeave s left → MayLeave (shift s to) left
shift_more s to left may = record {
  no_shorter = omega (arith, may.no_shorter);
  no_longer = λ is. absurd cc;
  same = λ p below clean. may.same p (omega (arith, below)) clean;
}

-- after a sync a crash leaves what a read gives
pub settled_only : (s : SideState) (left : List ℕ) → MayLeave (settled s) left → left ≡ s.bytes
settled_only s left may = ext_get_or 0 left s.bytes (may.no_longer refl) (λ p below. may.same p (omega (arith, below, may.no_longer refl)) refl)

pub durable_only : (bytes left : List ℕ) → MayLeave (durable bytes) left → left ≡ bytes
durable_only bytes left may = settled_only (durable bytes) left may

-- which it might have left before
pub settled_within : (s : SideState) (left : List ℕ) → firm s ≤ length s.bytes → MayLeave (settled s) left → MayLeave s left
settled_within s left fits may = subst (MayLeave s) (sym (settled_only s left may))
    (record { no_shorter = fits; no_longer = λ is. refl; same = λ p below clean. refl })
