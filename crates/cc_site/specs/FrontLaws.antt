-- What a disk call leaves of the contents that were possible before it.
--     KeepsFront, touch_keeps, shift_keeps     the bytes in front of its range
--     restored                                 for a write of one byte: all, once that byte is as it was read
--     or_false                                 two tests that fail
use Rattle.std.proofs.Common.{◌≡◌, inl, inr, ℕ, zero, suc, ◌+◌, ◌-◌, ◌<◌, ◌≤◌, min, Bool, false, ◌||◌, ◌&&◌, cond, nat_le, nat_lt, List, [], ◌∷◌, ◌++◌}
use Rattle.std.proofs.Common.{length, take, drop, set, get_or, slice_index, Option, None, Some, unwrap_or, refl, sym, ◌∙◌, ap, arith, length-append}
use Rattle.std.proofs.Math.ListN.{replicate}
use Rattle.std.proofs.lemmas.Bool.{cases_lt, cases_eq, lt-leb, le-ltb, and_left, and_right}
use Rattle.std.proofs.lemmas.List.{length-set, length-drop, length-replicate, length-take-le, get_or-take, get_or-drop, get_or-set_same, get_or-set_other}
use Rattle.std.proofs.lemmas.List.{get_or_append_left, get_or-append_right, take_at}
use Rattle.cc_site.specs.Sides.{SideState, MayLeave, firm, touch, shift}
use Rattle.cc_site.specs.SideLaws.{firm-touch}

pub or_false : (x y : Bool) → x ≡ false → y ≡ false → (x || y) ≡ false
or_false x y is is' = ap (λ (b : Bool). b || y) is ∙ is'

zeros : (w i : ℕ) → ◌≡◌ {A = ℕ} (get_or {A = ℕ} (replicate w 0) i 0) 0
zeros zero i = refl
zeros (suc w) zero = refl
zeros (suc w) (suc i) = zeros w i

-- zeros at the end read as nothing
padded : (xs : List ℕ) (w i : ℕ) → get_or (xs ++ replicate w 0) i 0 ≡ get_or xs i 0
padded [] w i = zeros w i
padded (x ∷ xs) w zero = refl
padded (x ∷ xs) w (suc i) = padded xs w i

-- the first n of one, and the rest of another
module _ (c bytes : List ℕ) (n w : ℕ) (reaches : n ≤ length c) where
  spliced : List ℕ
  spliced = take n c ++ (drop n bytes ++ replicate w 0)

  spliced_front : take n spliced ≡ take n c
  unfolding spliced
  spliced_front = take_at (take n c) (drop n bytes ++ replicate w 0) n (length-take-le n c reaches)

  spliced_length : n ≤ length bytes → length spliced ≡ length bytes + w
  unfolding spliced
  spliced_length fits = simp (length-append, length-drop, length-replicate) (omega (arith, length-take-le n c reaches))

  spliced_before : (p : ℕ) → p < n → get_or spliced p 0 ≡ get_or c p 0
  unfolding spliced
  spliced_before p below =
      get_or_append_left (take n c) (drop n bytes ++ replicate w 0) 0 p (omega (arith, length-take-le n c reaches)) ∙ get_or-take n c p 0 below

  spliced_behind : (p : ℕ) → n ≤ p → get_or spliced p 0 ≡ get_or bytes p 0
  unfolding spliced
  spliced_behind p from =
      get_or-append_right (take n c) (drop n bytes ++ replicate w 0) n p 0 (length-take-le n c reaches) from
      ∙ padded (drop n bytes) w (p - n)
      ∙ get_or-drop n bytes (p - n) 0
      ∙ ap (λ (i : ℕ). get_or bytes i 0) (omega arith)

-- each content that is possible now has the first n bytes of one that was possible before
pub record KeepsFront (n : ℕ) (new old : SideState) : Type 0 where
  pub from : (c : List ℕ) → MayLeave new c → (d : List ℕ) × MayLeave old d × (take n c ≡ take n d)

module _ (bytes : List ℕ) (touched : ℕ → Bool) (n : ℕ) (fits : n ≤ length bytes) (c : List ℕ) where
  kept : (shifted : Option ℕ) → min (unwrap_or shifted (length bytes)) n ≤ length c
      → ((p : ℕ) → p < min (unwrap_or shifted (length bytes)) n → touched p ≡ false → slice_index c p ≡ slice_index bytes p)
      → (d : List ℕ) × MayLeave (record { bytes = bytes; touched = touched; shifted = shifted }) d × (take n c ≡ take n d)
  kept None long same =
      let reaches : n ≤ length c = omega arith in (
        spliced c bytes n 0 reaches,
        record {
          no_shorter = omega (arith, spliced_length c bytes n 0 reaches fits);
          no_longer = λ _. spliced_length c bytes n 0 reaches fits ∙ omega arith;
          same = λ p below clean. elim (cases_lt p n) [
            | inl before ↦ spliced_before c bytes n 0 reaches p before ∙ same p (omega arith) clean
            | inr behind ↦ spliced_behind c bytes n 0 reaches p behind
          ];
        },
        sym (spliced_front c bytes n 0 reaches),
      )
  kept (Some w) long same = elim (cases_lt n w) [
    | inr below ↦ (
      c,
      record {
        no_shorter = omega arith;
        no_longer = λ (none : Some w ≡ None). absurd cc;
        same = λ p within clean. same p (omega arith) clean;
      },
      refl,
    )
    | inl above ↦
        let reaches : n ≤ length c = omega arith in (
          spliced c bytes n w reaches,
          record {
            no_shorter = omega (arith, spliced_length c bytes n w reaches fits);
            no_longer = λ (none : Some w ≡ None). absurd cc;
            same = λ p within clean. elim (cases_lt p n) [
              | inl before ↦ spliced_before c bytes n w reaches p before ∙ same p (omega arith) clean
              | inr behind ↦ spliced_behind c bytes n w reaches p behind
            ];
          },
          sym (spliced_front c bytes n w reaches),
        )
  ]

-- a write keeps what lies before it
pub touch_keeps : (s : SideState) (n at size : ℕ) → n ≤ at → at ≤ length s.bytes → KeepsFront n (touch s at size) s
touch_keeps s n at size before fits = record {
  from = λ c may. kept s.bytes s.touched n (omega arith) c s.shifted
      (omega (arith, firm-touch s at size, may.no_shorter))
      (λ p below clean. may.same p (omega (arith, firm-touch s at size))
      (or_false (s.touched p) (nat_le at p && nat_lt p (at + size)) clean (and_left (nat_le at p) (nat_lt p (at + size)) (lt-leb at p (omega arith)))));
}

-- a cut keeps what lies before it
pub shift_keeps : (s : SideState) (n : ℕ) → n ≤ length s.bytes → KeepsFront n (shift s n) s
shift_keeps s n fits = record {
  from = λ c may. kept s.bytes s.touched n fits c s.shifted may.no_shorter may.same;
}

-- with the byte as it was read, what a write of that byte may leave was possible before
pub restored : (s : SideState) (p : ℕ) → p < length s.bytes → (c : List ℕ) → MayLeave (touch s p 1) c → MayLeave s (set c p (slice_index s.bytes p))
restored s p within c may =
    let long : firm s ≤ length c = omega (arith, firm-touch s p 1, may.no_shorter) in
    record {
      no_shorter = omega (arith, length-set c p (slice_index s.bytes p));
      no_longer = λ none. length-set c p (slice_index s.bytes p)
          ∙ may.no_longer (ap (λ (b : Bool). cond b (Some (firm s)) s.shifted) (le-ltb (length s.bytes) (p + 1) (omega arith)) ∙ none);
      same = λ q below clean. elim (cases_eq q p) [
        | inl is ↦ ap (λ (i : ℕ). get_or (set c p (slice_index s.bytes p)) i 0) is ∙ get_or-set_same c p (slice_index s.bytes p) 0 (omega arith)
            ∙ ap (λ (i : ℕ). get_or s.bytes i 0) (sym is)
        | inr not ↦ get_or-set_other c p q (slice_index s.bytes p) 0 not
            ∙ may.same q (omega (arith, firm-touch s p 1)) (or_false (s.touched q) (nat_le p q && nat_lt q (p + 1)) clean (outside q not))
      ];
    }
  where
    above : (q : ℕ) → p ≤ q → (q ≡ p → ⊥) → p + 1 ≤ q
    above q from not = elim (cases_lt p q) [ inl more ↦ omega arith | inr less ↦ absurd (not (omega arith)) ]

    outside : (q : ℕ) → (q ≡ p → ⊥) → (nat_le p q && nat_lt q (p + 1)) ≡ false
    outside q not = elim (cases_lt q p) [
      | inl below ↦ and_left (nat_le p q) (nat_lt q (p + 1)) (lt-leb p q below)
      | inr from ↦ and_right (nat_le p q) (nat_lt q (p + 1)) (le-ltb q (p + 1) (above q from not))
    ]
