-- What a feed gives is the front of what is held and the piece.
use Rattle.std.proofs.Common.{◌≡◌, ℕ, ◌-◌, ◌≤◌, true, false, cond, List, [], ◌++◌, length, take, drop, Option, Some, None, Result, Ok, Err, refl, sym}
use Rattle.std.proofs.Common.{ap, subst, ◌∙◌, append_assoc, arith}
use Rattle.std.specs.Prelude.{IsTrue, IsOkAnd, IfOk, is_err}
use Rattle.std.proofs.lemmas.List.{take-append-drop, take_all, length-drop}
use Rattle.cc_wire.specs.declared.fault.WireFault.{WireFault}
use Rattle.cc_connections.specs.declared.frame.Frame.{Frame}
use Rattle.cc_connections.specs.declared.frame_reader.Fed.{Fed}
use Rattle.cc_wire.specs.Readers.{◌>>=◌, Fails, Gives}
use Rattle.cc_connections.specs.Frames.{frame_at}
use Rattle.cc_connections.specs.Held.{frame_length, is_partial, front_of, TopsUp}
use Rattle.cc_connections.specs.Streams.{fed, rest_after}
use Rattle.cc_wire.proofs.Items.{fails_along}
use Rattle.cc_wire.proofs.Spelled.{bind_ok, ok_is}
use Rattle.cc_connections.proofs.Fronts.{with_more, whole_has_length, is_partial-append, frame_at-append, frame_at-rest}

-- the piece behind what was used
pub behind : (old piece new : List ℕ) (used : ℕ) → TopsUp old piece used new → old ++ piece ≡ new ++ drop used piece
behind old piece new used t =
    ap (λ (p : List ℕ). old ++ p) (sym (take-append-drop used piece)) ∙ sym (append_assoc old (take used piece) (drop used piece))
    ∙ ap (λ (p : List ℕ). p ++ drop used piece) (sym t.added)

-- what a feed gives of a frame
abbrev pub given_of : List ℕ → Result (Frame × List ℕ) WireFault → Result Fed WireFault
given_of piece r = r >>= λ f. Ok (record { used = length piece - length f.1; frame = Some f.0 })

-- the length that is no less than what is there
goal_of : (r : Result ℕ WireFault) (n : ℕ) → IsOkAnd r (λ g. n ≤ g) → (g : ℕ) × (r ≡ Ok g) × (n ≤ g)
goal_of (Ok g) n h = (g, refl, h)
goal_of (Err e) n h = absurd h

module _ (old piece new : List ℕ) (used : ℕ) (t : TopsUp old piece used new) where
  -- a whole frame
  whole_given : (frame : Option Frame) → is_partial new ≡ false → (frame_at new >>= λ f. Ok (Some f.0)) ≡ Ok frame
      → fed (Some old) piece ≡ Ok (record { used = used; frame = frame })
  whole_given frame whole e =
      let f = bind_ok (frame_at new) (λ f. Ok (Some f.0)) frame e in
      let goal = goal_of (frame_length new) (length new) t.no_more in
      let none : f.0.1 ≡ [] = frame_at-rest new goal.0 f.0.0 f.0.1 (whole_has_length new whole) goal.1 goal.2 f.1 in
      let there : is_partial (old ++ piece) ≡ false = ap is_partial (behind old piece new used t) ∙ is_partial-append new (drop used piece) whole in
      let read : frame_at (old ++ piece) ≡ Ok (f.0.0, drop used piece) =
      ap frame_at (behind old piece new used t) ∙ frame_at-append new (drop used piece) whole
      ∙ ap (λ (r : Result (Frame × List ℕ) WireFault). with_more r (drop used piece)) f.1 ∙ ap (λ (rest : List ℕ). Ok (f.0.0, rest ++ drop used piece)) none in
      let same : length piece - length (drop used piece) ≡ used = omega (arith, length-drop used piece, t.within) in
      let named : Some f.0.0 ≡ frame = ok_is _ _ f.2 in
      rw (there, read) (ap (λ (n : ℕ). Ok (record { used = n; frame = Some f.0.0 })) same
      ∙ ap (λ (o : Option Frame). Ok (record { used = used; frame = o })) named)

  -- no whole frame
  partial_given : (frame : Option Frame) → is_partial new ≡ true → ◌≡◌ {A = Result (Option Frame) WireFault} (Ok None) (Ok frame)
      → fed (Some old) piece ≡ Ok (record { used = used; frame = frame })
  partial_given frame part e =
      let all : used ≡ length piece = t.all part in
      let same : new ≡ old ++ piece = t.added ∙ ap (λ (p : List ℕ). old ++ p) (take_all used piece (omega (arith, all))) in
      let there : is_partial (old ++ piece) ≡ true = ap is_partial (sym same) ∙ part in
      let named : None ≡ frame = ok_is _ _ e in
      rw there (ap (λ (n : ℕ). Ok (record { used = n; frame = None })) (sym all) ∙ ap (λ (o : Option Frame). Ok (record { used = used; frame = o })) named)

  -- the front is what the feed gives
  pub given : (frame : Option Frame) → front_of new ≡ Ok frame → fed (Some old) piece ≡ Ok (record { used = used; frame = frame })
  given frame e =
      elim (is_partial new) as (λ b. is_partial new ≡ b → cond b (Ok None) (frame_at new >>= λ f. Ok (Some f.0)) ≡ Ok frame → fed (Some old) piece
      ≡ Ok (record { used = used; frame = frame })) [
        | true ↦ λ part h. partial_given frame part h
        | false ↦ λ whole h. whole_given frame whole h
      ] refl e

  -- a bad frame
  refused : (e : WireFault) → is_partial new ≡ false → (frame_at new >>= λ f. Ok (Some f.0)) ≡ Err e → fed (Some old) piece ≡ Err e
  refused e whole h =
      let bad : frame_at new ≡ Err e = fault_of (frame_at new) h in
      let there : is_partial (old ++ piece) ≡ false = ap is_partial (behind old piece new used t) ∙ is_partial-append new (drop used piece) whole in
      let read : frame_at (old ++ piece) ≡ Err e =
      ap frame_at (behind old piece new used t) ∙ frame_at-append new (drop used piece) whole
      ∙ ap (λ (r : Result (Frame × List ℕ) WireFault). with_more r (drop used piece)) bad in
      rw (there, read) refl
    where
      fault_of : (r : Result (Frame × List ℕ) WireFault) → (r >>= λ f. Ok (Some f.0)) ≡ Err e → r ≡ Err e
      fault_of (Ok x) g = absurd cc
      fault_of (Err d) g = cc

  -- a bad frame at the front
  front_refused : (e : WireFault) → front_of new ≡ Err e → fed (Some old) piece ≡ Err e
  front_refused e h =
      elim (is_partial new) as (λ b. is_partial new ≡ b → cond b (Ok None) (frame_at new >>= λ f. Ok (Some f.0)) ≡ Err e → fed (Some old) piece ≡ Err e) [
        | true ↦ λ part g. absurd cc
        | false ↦ λ whole g. refused e whole g
      ] refl h

  -- a fault at the front is that of the feed
  pub fails_given : (e : WireFault) → Fails e (front_of new) → Fails e (fed (Some old) piece)
  fails_given e = fails_along e (front_of new) (fed (Some old) piece) front_refused

-- nothing is partial
pub nothing_partial : IsTrue (is_partial [])
unfolding is_partial frame_length
nothing_partial = refl

-- what is held after a feed is partial
pub held_partial : (old piece : List ℕ) (given : Fed) → fed (Some old) piece ≡ Ok given → IsTrue (is_partial (rest_after old piece given.frame))
held_partial old piece given e =
    elim (is_partial (old ++ piece)) as (λ b. is_partial (old ++ piece) ≡ b → cond b (Ok (record { used = length piece; frame = None }))
    (given_of piece (frame_at (old ++ piece))) ≡ Ok given → IsTrue (is_partial (rest_after old piece given.frame))) [
      | true ↦ λ part h. (let same : record { used = length piece; frame = None }
          ≡ given = ok_is _ _ h in subst (λ (g : Fed). IsTrue (is_partial (rest_after old piece g.frame))) same part)
      | false ↦ λ whole h. (
          let f = bind_ok (frame_at (old ++ piece)) (λ f. Ok (record { used = length piece - length f.1; frame = Some f.0 })) given h in
          subst (λ (g : Fed). IsTrue (is_partial (rest_after old piece g.frame))) (ok_is _ _ f.2) nothing_partial)
    ] refl e

-- also where only a part of the result is known
pub held_ok : (old piece new : List ℕ) (r : Result Fed WireFault) → is_err r ≡ false → Gives (λ x. x) r (fed (Some old) piece)
    → IfOk r (λ g. new ≡ rest_after old piece g.frame) → IsTrue (is_partial new)
held_ok old piece new (Ok g) ok given rest = subst (λ (held : List ℕ). IsTrue (is_partial held)) (sym rest) (held_partial old piece g given)
held_ok old piece new (Err e) ok given rest = absurd cc
