-- What stands at the front of a stream is read alike, whatever follows it.
use Rattle.std.proofs.Common.{◌≡◌, ℕ, ◌+◌, ◌-◌, ◌≤◌, ◌<◌, min, Bool, true, false, cond, ltb, eqb, List, [], ◌++◌, length, take, drop, Result, Ok, Err}
use Rattle.std.proofs.Common.{refl, sym, ap, subst, ◌∙◌, append_assoc, take-add, arith, inl, inr}
use Rattle.std.specs.Prelude.{IsTrue}
use Rattle.std.specs.Int.{w32, from_be_bytes}
use Rattle.std.proofs.lemmas.Bool.{cases_lt, ltb-false, ltb-true, le-ltb, lt-ltb}
use Rattle.std.proofs.lemmas.List.{take-append-le, drop-append-le, take-append-drop, take_all, drop_all, length-append, length-take, length-drop}
use Rattle.std.proofs.lemmas.List.{append-nil, nil_from_length}
use Rattle.cc_wire.specs.declared.fault.WireFault.{WireFault}
use Rattle.cc_wire.specs.declared.fault.WireFault.TheVariants.{Short, TooLarge}
use Rattle.cc_connections.specs.declared.frame.Frame.{Frame}
use Rattle.cc_wire.specs.Readers.{◌>>=◌, Fails, bytes_at, number_at, limited, whole}
use Rattle.cc_connections.specs.Frames.{body_at, body_length_at, enclosed_at, frame_at}
use Rattle.cc_connections.specs.Held.{frame_length, is_below, is_partial, front_of, TopsUp}
use Rattle.cc_wire.proofs.Items.{fails_along}
use Rattle.cc_wire.proofs.Spelled.{bind_ok, guard_ok, ok_is}

-- what was read, with more behind the rest
abbrev pub with_more : {X : Type 0} → Result (X × List ℕ) WireFault → List ℕ → Result (X × List ℕ) WireFault
with_more (Ok x) more = Ok (x.0, x.1 ++ more)
with_more (Err e) more = Err e

-- so many bytes of at least as many
bytes_at-within : (n : ℕ) (bytes : List ℕ) → n ≤ length bytes → bytes_at n bytes ≡ Ok (take n bytes, drop n bytes)
bytes_at-within n bytes le =
    let long : ltb (length bytes) n ≡ false = le-ltb _ _ le in
    rw long refl

-- and with more behind them
bytes_at-append : (n : ℕ) (bytes more : List ℕ) → n ≤ length bytes → bytes_at n (bytes ++ more) ≡ Ok (take n bytes, drop n bytes ++ more)
bytes_at-append n bytes more le =
    let long : ltb (length (bytes ++ more)) n ≡ false = le-ltb _ _ (omega (arith, length-append bytes more, le)) in
    rw (long, take-append-le n bytes more le, drop-append-le n bytes more le) refl

-- ---- the length of a body

-- the tests of a length say the same, whatever follows
judged : (n : ℕ) (rest more : List ℕ) (b : Bool)
    → (cond b (Err TooLarge) (Ok (n, rest ++ more)) >>= λ x. cond (eqb x.0 0) (Err Short) (Ok x))
    ≡ with_more (cond b (Err TooLarge) (Ok (n, rest)) >>= λ x. cond (eqb x.0 0) (Err Short) (Ok x)) more
judged n rest more true = refl
judged n rest more false = elim (eqb n 0) as (λ b. cond b (Err Short) (Ok (n, rest ++ more)) ≡ with_more (cond b (Err Short) (Ok (n, rest))) more)
    [ true ↦ refl | false ↦ refl ]

-- a length that is there is read alike, whatever follows
body_length_at-append : (bytes more : List ℕ) → 4 ≤ length bytes → body_length_at (bytes ++ more) ≡ with_more (body_length_at bytes) more
unfolding body_length_at
body_length_at-append bytes more le =
    rw (bytes_at-append 4 bytes more le, bytes_at-within 4 bytes le)
    (judged (from_be_bytes w32 (take 4 bytes)) (drop 4 bytes) more (ltb 65536 (from_be_bytes w32 (take 4 bytes))))

-- what passes the tests of a length is unchanged
judged_is : (n : ℕ) (rest : List ℕ) (y : ℕ × List ℕ) (b : Bool) → (cond b (Err TooLarge) (Ok (n, rest)) >>= λ x. cond (eqb x.0 0) (Err Short) (Ok x))
    ≡ Ok y → (n, rest) ≡ y
judged_is n rest y true e = absurd cc
judged_is n rest y false e = (guard_ok (eqb n 0) Short (n, rest) y e).1

-- behind it stand all other bytes
body_length_at-rest : (bytes : List ℕ) (n : ℕ) (rest : List ℕ) → 4 ≤ length bytes → body_length_at bytes ≡ Ok (n, rest) → rest ≡ drop 4 bytes
unfolding body_length_at
body_length_at-rest bytes n rest le e =
    let read = rw (bytes_at-within 4 bytes le) at e in
    sym (ap (λ (p : ℕ × List ℕ). p.1) (judged_is (from_be_bytes w32 (take 4 bytes)) (drop 4 bytes) (n, rest)
    (ltb 65536 (from_be_bytes w32 (take 4 bytes))) read))

-- ---- the length of a frame

-- with four bytes the length of a frame is that of its body and these four
pub frame_length-of : (bytes : List ℕ) → 4 ≤ length bytes → frame_length bytes ≡ (body_length_at bytes >>= λ n. Ok (4 + n.0))
unfolding frame_length
frame_length-of bytes le =
    let there : ltb (length bytes) 4 ≡ false = le-ltb _ _ le in
    rw there refl

-- with fewer it is four
frame_length-short : (bytes : List ℕ) → length bytes < 4 → frame_length bytes ≡ Ok 4
unfolding frame_length
frame_length-short bytes lt =
    let short : ltb (length bytes) 4 ≡ true = lt-ltb _ _ lt in
    rw short refl

-- the length is the same, whatever is behind it
same_length : (r : Result (ℕ × List ℕ) WireFault) (more : List ℕ) → (with_more r more >>= λ n. Ok (4 + n.0)) ≡ (r >>= λ n. Ok (4 + n.0))
same_length (Ok x) more = refl
same_length (Err e) more = refl

-- so is the length of a frame
pub frame_length-append : (bytes more : List ℕ) → 4 ≤ length bytes → frame_length (bytes ++ more) ≡ frame_length bytes
frame_length-append bytes more le =
    frame_length-of (bytes ++ more) (omega (arith, length-append bytes more, le))
    ∙ ap (λ (r : Result (ℕ × List ℕ) WireFault). r >>= λ n. Ok (4 + n.0)) (body_length_at-append bytes more le)
    ∙ same_length (body_length_at bytes) more ∙ sym (frame_length-of bytes le)

-- a frame has its length field
four_at_least : (r : Result (ℕ × List ℕ) WireFault) (goal : ℕ) → (r >>= λ n. Ok (4 + n.0)) ≡ Ok goal → 4 ≤ goal
four_at_least (Ok x) goal e = let same : 4 + x.0 ≡ goal = ok_is _ _ e in omega (arith, same)
four_at_least (Err f) goal e = absurd cc

-- no frame is shorter than its length field
pub frame_length-least : (bytes : List ℕ) (goal : ℕ) → frame_length bytes ≡ Ok goal → 4 ≤ goal
frame_length-least bytes goal e =
    elim (cases_lt (length bytes) 4) [
      | inl lt ↦ (let same : 4 ≡ goal = ok_is _ _ (sym (frame_length-short bytes lt) ∙ e) in omega (arith, same))
      | inr le ↦ four_at_least (body_length_at bytes) goal (sym (frame_length-of bytes le) ∙ e)
    ]

-- ---- whole and partial

-- being partial, by the length
pub is_partial-of : (bytes : List ℕ) (r : Result ℕ WireFault) → frame_length bytes ≡ r → is_partial bytes ≡ is_below (length bytes) r
unfolding is_partial
is_partial-of bytes r e = ap (is_below (length bytes)) e

-- a length that is read is within its limit
length_fits : (bytes : List ℕ) (n : ℕ) (rest : List ℕ) → body_length_at bytes ≡ Ok (n, rest) → n ≤ 65536
unfolding body_length_at
length_fits bytes n rest e =
    let a = bind_ok (limited 65536 (number_at w32) bytes) (λ x. cond (eqb x.0 0) (Err Short) (Ok x)) (n, rest) e in
    let b = bind_ok (number_at w32 bytes) (λ x. cond (ltb 65536 x.0) (Err TooLarge) (Ok x)) a.0 a.1 in
    let g = guard_ok (eqb a.0.0 0) Short a.0 (n, rest) a.2 in
    let h = guard_ok (ltb 65536 b.0.0) TooLarge b.0 a.0 b.2 in
    let same : b.0.0 ≡ n = ap (λ (x : ℕ × List ℕ). x.0) (h.1 ∙ g.1) in
    omega (arith, same, ltb-false _ _ h.0)

frame_fits : (r : Result (ℕ × List ℕ) WireFault) (goal : ℕ) → ((n : ℕ) (rest : List ℕ) → r ≡ Ok (n, rest) → n ≤ 65536)
    → (r >>= λ n. Ok (4 + n.0)) ≡ Ok goal → goal ≤ 65540
frame_fits (Ok x) goal fits e = let same : 4 + x.0 ≡ goal = ok_is _ _ e in omega (arith, same, fits x.0 x.1 refl)
frame_fits (Err f) goal fits e = absurd cc

below_limit : (count : ℕ) (r : Result ℕ WireFault) → ((goal : ℕ) → r ≡ Ok goal → goal ≤ 65540) → is_below count r ≡ true → count < 65540
below_limit count (Ok limit) fits e = omega (arith, fits limit refl, ltb-true _ _ e)
below_limit count (Err f) fits e = absurd cc

-- what is partial is shorter than the longest frame
pub partial_fits : (bytes : List ℕ) → is_partial bytes ≡ true → length bytes < 65540
partial_fits bytes partial =
    elim (cases_lt (length bytes) 4) [
      | inl lt ↦ omega (arith, lt)
      | inr le ↦ below_limit (length bytes) (frame_length bytes) (λ goal e. frame_fits (body_length_at bytes) goal (length_fits bytes)
          (sym (frame_length-of bytes le) ∙ e)) (sym (is_partial-of bytes (frame_length bytes) refl) ∙ partial)
    ]

-- what isn't partial has its length
pub whole_has_length : (bytes : List ℕ) → is_partial bytes ≡ false → 4 ≤ length bytes
whole_has_length bytes h =
    elim (cases_lt (length bytes) 4) [
      | inl lt ↦ absurd (let partial : is_partial bytes ≡ true = is_partial-of bytes (Ok 4) (frame_length-short bytes lt)
          ∙ lt-ltb _ _ lt in let no : ⊥ = cc in no)
      | inr le ↦ le
    ]

-- more bytes are no fewer than the length
still_above : (r : Result ℕ WireFault) (n k : ℕ) → n ≤ k → is_below n r ≡ false → is_below k r ≡ false
still_above (Ok limit) n k le h = le-ltb _ _ (omega (arith, le, ltb-false _ _ h))
still_above (Err e) n k le h = refl

-- what is whole stays whole, whatever follows
pub is_partial-append : (bytes more : List ℕ) → is_partial bytes ≡ false → is_partial (bytes ++ more) ≡ false
is_partial-append bytes more h =
    is_partial-of (bytes ++ more) (frame_length bytes) (frame_length-append bytes more (whole_has_length bytes h))
    ∙ still_above (frame_length bytes) (length bytes) (length (bytes ++ more)) (omega (arith, length-append bytes more))
    (sym (is_partial-of bytes (frame_length bytes) refl) ∙ h)

-- ---- frames

-- what follows a body stays behind it
followed : (r : Result Frame WireFault) (n : ℕ) (bytes more : List ℕ) → n ≤ length bytes
    → (r >>= λ f. bytes_at n (bytes ++ more) >>= λ body. Ok (f, body.1)) ≡ with_more (r >>= λ f. bytes_at n bytes >>= λ body. Ok (f, body.1)) more
followed (Ok f) n bytes more le = rw (bytes_at-append n bytes more le, bytes_at-within n bytes le) refl
followed (Err e) n bytes more le = refl

-- a body that is there is read alike, whatever follows
enclosed_at-append : (n : ℕ) (bytes more : List ℕ) → n ≤ length bytes → enclosed_at n (bytes ++ more) ≡ with_more (enclosed_at n bytes) more
unfolding enclosed_at
enclosed_at-append n bytes more le =
    ap (λ (l : List ℕ). whole body_at l >>= λ frame. bytes_at n (bytes ++ more) >>= λ body. Ok (frame, body.1)) (take-append-le n bytes more le)
    ∙ followed (whole body_at (take n bytes)) n bytes more le

-- a frame whose length is there, by that length
by_length : (bytes more : List ℕ) (r : Result (ℕ × List ℕ) WireFault) → 4 ≤ length bytes → body_length_at bytes ≡ r
    → is_below (length bytes) (r >>= λ n. Ok (4 + n.0)) ≡ false
    → (with_more r more >>= λ n. enclosed_at n.0 n.1) ≡ with_more (r >>= λ n. enclosed_at n.0 n.1) more
by_length bytes more (Ok x) le e h =
    let rest : x.1 ≡ drop 4 bytes = body_length_at-rest bytes x.0 x.1 le e in
    enclosed_at-append x.0 x.1 more (omega (arith, ltb-false _ _ h, ap length rest, length-drop 4 bytes))
by_length bytes more (Err f) le e h = refl

-- a frame that is whole is read alike, whatever follows
pub frame_at-append : (bytes more : List ℕ) → is_partial bytes ≡ false → frame_at (bytes ++ more) ≡ with_more (frame_at bytes) more
unfolding frame_at
frame_at-append bytes more h =
    let le = whole_has_length bytes h in
    rw (body_length_at-append bytes more le)
    (by_length bytes more (body_length_at bytes) le refl (sym (is_partial-of bytes
    (body_length_at bytes >>= λ n. Ok (4 + n.0)) (frame_length-of bytes le)) ∙ h))

-- a frame that isn't partial and no longer than its length leaves nothing
enclosed_rest : (n : ℕ) (bytes : List ℕ) (f : Frame) (rest : List ℕ) → enclosed_at n bytes ≡ Ok (f, rest) → length bytes ≤ n → rest ≡ []
unfolding enclosed_at
enclosed_rest n bytes f rest e le =
    let read = bind_ok (whole body_at (take n bytes)) (λ frame. bytes_at n bytes >>= λ body. Ok (frame, body.1)) (f, rest) e in
    let body = bind_ok (bytes_at n bytes) (λ body. Ok (read.0, body.1)) (f, rest) read.2 in
    let cut = guard_ok (ltb (length bytes) n) Short (take n bytes, drop n bytes) body.0 body.1 in
    let made : Frame × List ℕ = (read.0, body.0.1) in
    let left : body.0.1 ≡ rest = ap (λ (p : Frame × List ℕ). p.1) (ok_is made (f, rest) body.2) in
    let dropped : drop n bytes ≡ body.0.1 = ap (λ (p : List ℕ × List ℕ). p.1) cut.1 in
    sym left ∙ sym dropped ∙ drop_all n bytes le

-- a frame that isn't partial, in no more bytes than its length, leaves nothing
pub frame_at-rest : (bytes : List ℕ) (goal : ℕ) (f : Frame) (rest : List ℕ) → 4 ≤ length bytes → frame_length bytes ≡ Ok goal → length bytes ≤ goal
    → frame_at bytes ≡ Ok (f, rest) → rest ≡ []
unfolding frame_at
frame_at-rest bytes goal f rest four known le e =
    let n = bind_ok (body_length_at bytes) (λ n. enclosed_at n.0 n.1) (f, rest) e in
    let behind : n.0.1 ≡ drop 4 bytes = body_length_at-rest bytes n.0.0 n.0.1 four n.1 in
    let same : 4 + n.0.0 ≡ goal = ok_is _ _ (sym (frame_length-of bytes
    four ∙ ap (λ (r : Result (ℕ × List ℕ) WireFault). r >>= λ n. Ok (4 + n.0)) n.1) ∙ known) in
    enclosed_rest n.0.0 n.0.1 f rest n.2 (omega (arith, same, le, four, ap length behind, length-drop 4 bytes))

-- a bad length is the fault of the frame
refused_length : (r : Result (ℕ × List ℕ) WireFault) (e : WireFault) → (r >>= λ n. Ok (4 + n.0)) ≡ Err e → r ≡ Err e
refused_length (Ok x) e h = absurd cc
refused_length (Err f) e h = cc

-- a bad length has its four bytes
pub refused_has_length : (bytes : List ℕ) (e : WireFault) → frame_length bytes ≡ Err e → 4 ≤ length bytes
refused_has_length bytes e h =
    elim (cases_lt (length bytes) 4) [
      | inl lt ↦ absurd (let no : ⊥ = cc (frame_length-short bytes lt) in no)
      | inr le ↦ le
    ]

-- so the frame has that fault
pub frame_at-refused : (bytes : List ℕ) (e : WireFault) → frame_length bytes ≡ Err e → frame_at bytes ≡ Err e
unfolding frame_at
frame_at-refused bytes e h =
    let bad : body_length_at bytes ≡ Err e = refused_length (body_length_at bytes) e (sym (frame_length-of bytes (refused_has_length bytes e h)) ∙ h) in
    rw bad refl

-- a bad length is the fault at the front, whatever follows
pub front_of-refused : (bytes more : List ℕ) (e : WireFault) → frame_length bytes ≡ Err e → front_of (bytes ++ more) ≡ Err e
front_of-refused bytes more e h =
    let there : is_partial bytes ≡ false = is_partial-of bytes (Err e) h in
    rw (is_partial-append bytes more there, frame_at-append bytes more there, frame_at-refused bytes e h) refl

-- and with nothing behind it
front_of-bad : (bytes : List ℕ) (e : WireFault) → frame_length bytes ≡ Err e → front_of bytes ≡ Err e
front_of-bad bytes e h =
    let there : is_partial bytes ≡ false = is_partial-of bytes (Err e) h in
    rw (there, frame_at-refused bytes e h) refl

-- a fault of the length, or want of memory, is one at the front
pub fails_at_front : (bytes : List ℕ) (e : WireFault) → Fails e (frame_length bytes) → Fails e (front_of bytes)
fails_at_front bytes e = fails_along e (frame_length bytes) (front_of bytes) (λ f is. front_of-bad bytes f is)

-- also with more behind it
fails_at_front-append : (bytes more : List ℕ) (e : WireFault) → Fails e (frame_length bytes) → Fails e (front_of (bytes ++ more))
fails_at_front-append bytes more e = fails_along e (frame_length bytes) (front_of (bytes ++ more)) (λ f is. front_of-refused bytes more f is)

-- ---- topping up

-- of nothing nothing is taken
take_none : (n : ℕ) (xs : List ℕ) → length xs ≡ 0 → take n xs ≡ []
take_none n xs e = take_all n xs (omega (arith, e)) ∙ nil_from_length xs e

-- the length of what is added to the four bytes doesn't change
length_kept : (old piece mid : List ℕ) (first goal more : ℕ) → first ≡ min (4 - length old) (length piece) → mid ≡ old ++ take first piece
    → frame_length mid ≡ Ok goal
    → frame_length (mid ++ take more (drop first piece)) ≡ Ok goal
length_kept old piece mid first goal more is added known =
    elim (cases_lt (length mid) 4) [
      | inl lt ↦ (
          let all : length (drop first piece) ≡ 0 = omega (
            arith,
            lt,
            is,
            ap length added,
            length-append old (take first piece),
            length-take first piece,
            length-drop first piece,
          ) in
          ap frame_length (ap (λ (t : List ℕ). mid ++ t) (take_none more (drop first piece) all) ∙ append-nil mid) ∙ known)
      | inr le ↦ frame_length-append mid (take more (drop first piece)) le ∙ known
    ]

-- a partial front isn't longer than its length, nor is it with the rest of the four bytes
within_goal : (old piece mid : List ℕ) (first goal : ℕ) → IsTrue (is_partial old) → first ≡ min (4 - length old) (length piece)
    → mid ≡ old ++ take first piece → frame_length mid ≡ Ok goal → length mid ≤ goal
within_goal old piece mid first goal partial is added known =
    elim (cases_lt (length old) 4) [
      | inl lt ↦ omega (arith, lt, is, ap length added, length-append old (take first piece), length-take first piece, frame_length-least mid goal known)
      | inr le ↦ (
          let none : first ≡ 0 = omega (arith, le, is) in
          let same : mid ≡ old = added ∙ ap (λ (n : ℕ). old ++ take n piece) none ∙ append-nil old in
          let below : is_below (length old) (Ok goal) ≡ true = sym (is_partial-of old (Ok goal) (ap frame_length (sym same) ∙ known)) ∙ partial in
          omega (arith, ltb-true _ _ below, ap length same))
    ]

-- the four bytes first, and then the rest of the frame
pub topped_up : (old piece mid new : List ℕ) (first goal more : ℕ) → IsTrue (is_partial old) → first ≡ min (4 - length old) (length piece)
    → mid ≡ old ++ take first piece → frame_length mid ≡ Ok goal
    → more ≡ min (goal - length mid) (length (drop first piece)) → new ≡ mid ++ take more (drop first piece) → TopsUp old piece (first + more) new
topped_up old piece mid new first goal more partial is added known is_more added_more =
    let kept : frame_length new ≡ Ok goal = ap frame_length added_more ∙ length_kept old piece mid first goal more is added known in
    let size : length new ≡ length mid + more = omega (
      arith,
      ap length added_more,
      length-append mid (take more (drop first piece)),
      length-take more (drop first piece),
      is_more,
    ) in
    let fits : length mid ≤ goal = within_goal old piece mid first goal partial is added known in
    record {
      within = omega (arith, is, is_more, length-drop first piece);
      added = added_more ∙ ap (λ (t : List ℕ). t ++ take more (drop first piece)) added
          ∙ append_assoc old (take first piece) (take more (drop first piece)) ∙ ap (λ (t : List ℕ). old ++ t) (sym (take-add first more piece));
      all = λ p.
          let below : is_below (length new) (Ok goal) ≡ true = sym (is_partial-of new (Ok goal) kept) ∙ p in
          omega (arith, ltb-true _ _ below, size, fits, is, is_more, length-drop first piece);
      no_more = rw kept (let le : length new ≤ goal = omega (arith, size, fits, is_more) in le);
    }

-- a bad length in the first four bytes is the fault of what is held and the piece
pub topped_refused : (old piece mid : List ℕ) (first : ℕ) (e : WireFault) → mid ≡ old ++ take first piece → Fails e (frame_length mid)
    → Fails e (front_of (old ++ piece))
topped_refused old piece mid first e added h =
    let all : mid ++ drop first piece ≡ old ++ piece = ap (λ (t : List ℕ). t ++ drop first piece) added ∙ append_assoc old (take first piece)
    (drop first piece) ∙ ap (λ (t : List ℕ). old ++ t) (take-append-drop first piece) in
    subst (λ (t : List ℕ). Fails e (front_of t)) all (fails_at_front-append mid (drop first piece) e h)
