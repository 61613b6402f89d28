-- What follows where a write or a cut of a side fails halfway.
--     half_written_within, half_cut_within     a crash leaves what it might have left while the call ran
--     half_written_reads, half_cut_reads       what a read gives is one of the contents that a crash may leave
--     half_written_front, half_cut_front       what lies before the range is read as it was
--     read_as_before, uncut                    it may be that a read gives all as before
--     written_in_part                          or that the first bytes were written
use Rattle.std.proofs.Common.{◌≡◌, ℕ, ◌+◌, ◌≤◌, Bool, true, false, ◌&&◌, cond, nat_le, nat_lt, List, length, take, Option, None, Some, unwrap_or}
use Rattle.std.proofs.Common.{refl, sym, ◌∙◌, ap, subst, arith, length-take}
use Rattle.std.proofs.lemmas.Bool.{or_parts}
use Rattle.std.proofs.lemmas.Bool.Decides.{nat_tests}
use Rattle.cc_site.specs.Sides.{SideState, MayLeave, HalfWritten, HalfCut, firm, touch, overwritten, written, shift, settled}
use Rattle.cc_site.specs.SideLaws.{firm-touch, rebased, touch_more, shift_more, written_within, no_shorter_written, settled_only}
use Rattle.cc_site.specs.FrontLaws.{touch_keeps, shift_keeps, or_false}

-- what is firm lies within the side, so it may leave what a read gives
itself : (s : SideState) → firm s ≤ length s.bytes → MayLeave s s.bytes
itself s fits = record { no_shorter = fits; no_longer = λ none. refl; same = λ p below clean. refl }

none_settled : (b : Bool) (w v : ℕ) (shifted : Option ℕ) → cond b (Some w) shifted ≡ None → cond b (Some v) None ≡ None
none_settled true w v shifted is = absurd cc
none_settled false w v shifted is = refl

fits_still : (shifted : Option ℕ) (m n : ℕ) → unwrap_or shifted m ≤ n → unwrap_or shifted n ≤ n
fits_still None m n fits = omega arith
fits_still (Some w) m n fits = fits

module _ (s new : SideState) (fits : firm s ≤ length s.bytes) where
  pub half_written_within : (at n : ℕ) → HalfWritten s at n new → (left : List ℕ) → MayLeave new left → MayLeave (touch s at n) left
  half_written_within at n half left may =
      rebased (touch s at n) new.bytes
      (λ none. half.reads.no_longer (none_settled (nat_lt (length s.bytes) (at + n)) (firm s) (length s.bytes) s.shifted none))
      (λ p below clean. half.reads.same p (omega (arith, firm-touch s at n, firm-touch (settled s) at n))
      ((or_parts (s.touched p) (nat_le at p && nat_lt p (at + n)) clean).1))
      left (subst (λ (t : SideState). MayLeave t left) half.marked may)

  pub half_cut_within : (len : ℕ) → HalfCut s len new → (left : List ℕ) → MayLeave new left → MayLeave (shift s len) left
  half_cut_within len half left may =
      rebased (shift s len) new.bytes
      (λ none. absurd cc)
      (λ p below clean. half.reads.same p (omega (arith, below, fits)) refl)
      left (subst (λ (t : SideState). MayLeave t left) half.marked may)

  pub half_written_reads : (at n : ℕ) → HalfWritten s at n new → MayLeave new new.bytes
  half_written_reads at n half =
      subst (λ (t : SideState). MayLeave t new.bytes) (sym half.marked)
      (itself (record (touch s at n) { bytes = new.bytes }) (fits_still (touch s at n).shifted (length s.bytes) (length new.bytes)
      (omega (arith, half.reads.no_shorter, firm-touch s at n, firm-touch (settled s) at n))))

  pub half_cut_reads : (len : ℕ) → HalfCut s len new → MayLeave new new.bytes
  half_cut_reads len half =
      subst (λ (t : SideState). MayLeave t new.bytes) (sym half.marked)
      (itself (record (shift s len) { bytes = new.bytes }) (omega (arith, fits, half.reads.no_shorter)))

module _ (s new : SideState) where
  pub half_written_front : (n at size : ℕ) → n ≤ at → at ≤ length s.bytes → HalfWritten s at size new → take n new.bytes ≡ take n s.bytes
  half_written_front n at size before within half =
      let was = (touch_keeps (settled s) n at size before within).from new.bytes half.reads in
      was.2 ∙ ap (λ (l : List ℕ). take n l) (settled_only s was.0 was.1)

  pub half_cut_front : (len : ℕ) → len ≤ length s.bytes → HalfCut s len new → take len new.bytes ≡ take len s.bytes
  half_cut_front len within half =
      let was = (shift_keeps (settled s) len within).from new.bytes half.reads in
      was.2 ∙ ap (λ (l : List ℕ). take len l) (settled_only s was.0 was.1)

pub read_as_before : (s : SideState) (at n : ℕ) → HalfWritten s at n (touch s at n)
read_as_before s at n = record { marked = refl; reads = touch_more (settled s) at n s.bytes (itself (settled s) (omega arith)) }

pub uncut : (s : SideState) (len : ℕ) → HalfCut s len (shift s len)
uncut s len = record { marked = refl; reads = shift_more (settled s) len s.bytes (itself (settled s) (omega arith)) }

-- a longer range leaves more to a crash
outside : (at m n p : ℕ) → m ≤ n → (nat_le at p && nat_lt p (at + n)) ≡ false → (nat_le at p && nat_lt p (at + m)) ≡ false
outside at m n p less clean = grind (arith, nat_tests)

none_wider : (len at m n w : ℕ) (shifted : Option ℕ) → m ≤ n → cond (nat_lt len (at + n)) (Some w) shifted ≡ None
    → cond (nat_lt len (at + m)) (Some w) shifted ≡ None
none_wider len at m n w shifted less none = grind (arith, nat_tests)

wider : (s : SideState) (at m n : ℕ) (left : List ℕ) → m ≤ n → MayLeave (touch s at m) left → MayLeave (touch s at n) left
wider s at m n left less may = record {
  no_shorter = omega (arith, may.no_shorter, firm-touch s at m, firm-touch s at n);
  no_longer = λ none. may.no_longer (none_wider (length s.bytes) at m n (firm s) s.shifted less none);
  same = λ p below clean.
      let parts = or_parts (s.touched p) (nat_le at p && nat_lt p (at + n)) clean in
      may.same p (omega (arith, firm-touch s at m, firm-touch s at n))
      (or_false (s.touched p) (nat_le at p && nat_lt p (at + m)) parts.0 (outside at m n p less parts.1));
}

written_itself : (s : SideState) (at : ℕ) (bytes : List ℕ) → at ≤ length s.bytes → firm s ≤ length s.bytes
    → MayLeave (written s at bytes) (overwritten s.bytes at bytes)
written_itself s at bytes within fits =
    itself (written s at bytes) (fits_still (touch s at (length bytes)).shifted (length s.bytes) (length (overwritten s.bytes at bytes))
    (omega (arith, fits, firm-touch s at (length bytes), no_shorter_written s.bytes bytes at within)))

pub written_in_part : (s : SideState) (at : ℕ) (bytes : List ℕ) (count : ℕ) → at ≤ length s.bytes
    → HalfWritten s at (length bytes) (record (touch s at (length bytes)) { bytes = overwritten s.bytes at (take count bytes) })
written_in_part s at bytes count within =
    let part = take count bytes in record {
      marked = refl;
      reads = wider (settled s) at (length part) (length bytes) (overwritten s.bytes at part) (omega (arith, length-take count bytes))
          (written_within (settled s) at part (overwritten s.bytes at part) within (written_itself (settled s) at part within (omega arith)));
    }
