-- One feed of bytes that are known.
--     fed_begins, fed_step          what the reader holds then, and what it gives, whatever follows
--     held_fits                     how much it holds
--     start_begins, ahead_start     before the first one
--     unused_step                   what is left of a piece
use Rattle.std.proofs.Common.{◌≡◌, ℕ, ◌+◌, ◌-◌, ◌≤◌, ◌<◌, true, cond, List, [], ◌∷◌, ◌++◌, length, take, drop, Option, Some, None, Result, Ok, Err}
use Rattle.std.proofs.Common.{refl, sym, ap, subst, ◌∙◌, append_assoc, arith}
use Rattle.std.specs.Prelude.{IfSome, MatchResult}
use Rattle.std.specs.List.{flat_map, AllByRecursion}
use Rattle.std.proofs.lemmas.List.{take-append-drop, take_all, drop-take, length-append, append-nil}
use Rattle.std.proofs.Math.Seq.{drop-drop}
use Rattle.std.proofs.lemmas.List.Concat.{flat_map-cons}
use Rattle.cc_wire.specs.declared.fault.WireFault.{WireFault}
use Rattle.cc_wire.specs.declared.fault.WireFault.TheVariants.{Short, BadKind, NotAscending, TooLarge, Trailing, NoMemory, Broken}
use Rattle.cc_connections.specs.declared.frame.Frame.{Frame}
use Rattle.cc_connections.specs.declared.frame_reader.Fed.{Fed}
use Rattle.cc_wire.specs.Readers.{Gives}
use Rattle.cc_connections.specs.Frames.{frame_spelling, frame_at}
use Rattle.cc_connections.specs.Held.{is_partial}
use Rattle.cc_connections.specs.Streams.{fed, rest_after, held_after, at_start, frames_of, Feed, AreFeeds, Reads, Refuses}
use Rattle.cc_connections.proofs.Fronts.{partial_fits}
use Rattle.cc_connections.proofs.Feeds.{given_of, nothing_partial}
use Rattle.cc_connections.proofs.StreamLaws.{feeds_read, feeds_refuse}
use Rattle.cc_policies.specs.ReceivedFrames.{ahead, unused, Begins, held_length, Next, Passes, IsBad, IsRefused}

together : (a b : List ℕ) → AllByRecursion (λ x. x < 256) a → AllByRecursion (λ x. x < 256) b → AllByRecursion (λ x. x < 256) (a ++ b)
together [] b p q = q
together (x ∷ a) b p q = (p.0, together a b p.1 q)

-- what was held is one feed
abbrev first_feed : List ℕ → Feed
first_feed held = (held, Ok (record { used = length held; frame = None }))

first_gives : (held : List ℕ) → is_partial held ≡ true → fed (Some []) held ≡ Ok (record { used = length held; frame = None })
first_gives held part = ap (λ b. cond b (Ok (record { used = length held; frame = None })) (given_of held (frame_at held))) part

-- what is left of a piece behind a front of it
rest_is_nothing : (held front rest piece : List ℕ) → front ++ rest ≡ piece → held ++ front ≡ held ++ piece → rest ≡ []
rest_is_nothing held front [] piece whole same = refl
rest_is_nothing held front (x ∷ rest) piece whole same = absurd (omega
    (arith, ap length whole, ap length same, length-append held front, length-append held piece, length-append front (x ∷ rest)))

module _ (held piece : List ℕ) (part : is_partial held ≡ true) (old : AllByRecursion (λ b. b < 256) held) (new : AllByRecursion (λ b. b < 256) piece) where
  feeds_are : (r : Result Fed WireFault) → Gives (λ x. x) r (fed (Some held) piece) → AreFeeds at_start (first_feed held ∷ (piece, r) ∷ [])
  feeds_are r gives = ((old, first_gives held part), ((new, gives), tt))

  on_given : (given : Fed) → fed (Some held) piece ≡ Ok given
      → Reads (take (length held) held ++ take given.used piece) (frames_of given.frame) (rest_after held piece given.frame)
  on_given given gives = feeds_read (first_feed held ∷ (piece, Ok given) ∷ []) (feeds_are (Ok given) gives)

  on_refused : (e : WireFault) → fed (Some held) piece ≡ Err e → Refuses (take (length held) held ++ piece) [] (held ++ piece) e
  on_refused e refused = feeds_refuse (first_feed held ∷ []) held piece e ((old, first_gives held part), tt) refl refused

  parts : (used : ℕ) (rest : List ℕ) → held ++ (piece ++ rest) ≡ (take (length held) held ++ take used piece) ++ (drop used piece ++ rest)
  parts used rest =
      ap (λ p. held ++ (p ++ rest)) (sym (take-append-drop used piece))
      ∙ ap (λ t. held ++ t) (append_assoc (take used piece) (drop used piece) rest)
      ∙ sym (append_assoc held (take used piece) (drop used piece ++ rest))
      ∙ ap (λ h. (h ++ take used piece) ++ (drop used piece ++ rest)) (sym (take_all (length held) held (omega arith)))

  front_is : (used : ℕ) → Reads (take (length held) held ++ take used piece) [] (held ++ piece) → held ++ take used piece ≡ held ++ piece
  front_is used reads = subst (λ h. h ++ take used piece ≡ held ++ piece) (take_all (length held) held (omega arith)) reads.spelled

  no_frame : (used : ℕ) (rest : List ℕ) → Reads (take (length held) held ++ take used piece) [] (held ++ piece)
      → Some ((held ++ piece) ++ (drop used piece ++ rest)) ≡ Some (held ++ (piece ++ rest))
  no_frame used rest reads =
      let nothing = rest_is_nothing held (take used piece) (drop used piece) piece (take-append-drop used piece) (front_is used reads) in
      ap (λ d. Some ((held ++ piece) ++ (d ++ rest))) nothing ∙ ap Some (append_assoc held piece rest)

  one_frame : (used : ℕ) (frame : Frame) (rest : List ℕ) → Reads (take (length held) held ++ take used piece) (frame ∷ []) []
      → Next (held ++ (piece ++ rest)) frame (Some (drop used piece ++ rest))
  one_frame used frame rest reads =
      let text : take (length held) held ++ take used piece ≡ frame_spelling frame =
      reads.spelled ∙ append-nil (flat_map frame_spelling (frame ∷ [])) ∙ flat_map-cons frame_spelling frame [] ∙ append-nil (frame_spelling frame) in
      (reads.lawful.0, drop used piece ++ rest, refl, parts used rest ∙ ap (λ t. t ++ (drop used piece ++ rest)) text)

  passes : (given : Fed) (rest : List ℕ) → fed (Some held) piece ≡ Ok given
      → Passes (held ++ (piece ++ rest)) given.frame (ahead (Some (rest_after held piece given.frame)) (drop given.used piece) (Some rest))
  passes given rest gives = by_frame given.frame (on_given given gives)
    where
      by_frame : (frame : Option Frame) → Reads (take (length held) held ++ take given.used piece) (frames_of frame) (rest_after held piece frame)
          → Passes (held ++ (piece ++ rest)) frame (ahead (Some (rest_after held piece frame)) (drop given.used piece) (Some rest))
      by_frame None reads = no_frame given.used rest reads
      by_frame (Some frame) reads = one_frame given.used frame rest reads

  bad : (e : WireFault) (rest : List ℕ) → fed (Some held) piece ≡ Err e → IsBad (held ++ (piece ++ rest)) e
  bad e rest refused = let r = on_refused e refused in (held ++ piece, rest, sym (append_assoc held piece rest), r.there, r.refused)

  begins_again : (given : Fed) → fed (Some held) piece ≡ Ok given → Begins (Some (rest_after held piece given.frame))
  begins_again given gives = by_frame given.frame (on_given given gives)
    where
      by_frame : (frame : Option Frame) → Reads (take (length held) held ++ take given.used piece) (frames_of frame) (rest_after held piece frame)
          → Begins (Some (rest_after held piece frame))
      by_frame None reads = (reads.partial, together held piece old new)
      by_frame (Some frame) reads = (reads.partial, tt)

pub fed_begins : (held : Option (List ℕ)) (piece : List ℕ) (r : Result Fed WireFault) → Begins held → AllByRecursion (λ b. b < 256) piece
    → Gives (λ x. x) r (fed held piece) → Begins (held_after held piece r)
fed_begins None piece r begins fits gives = tt
fed_begins (Some held) piece (Ok given) begins fits gives = begins_again held piece begins.0 begins.1 fits given gives
fed_begins (Some held) piece (Err NoMemory) begins fits gives = begins
fed_begins (Some held) piece (Err Short) begins fits gives = tt
fed_begins (Some held) piece (Err (BadKind k)) begins fits gives = tt
fed_begins (Some held) piece (Err NotAscending) begins fits gives = tt
fed_begins (Some held) piece (Err TooLarge) begins fits gives = tt
fed_begins (Some held) piece (Err Trailing) begins fits gives = tt
fed_begins (Some held) piece (Err Broken) begins fits gives = tt

pub fed_step : (held : Option (List ℕ)) (piece : List ℕ) (r : Result Fed WireFault) (rest : Option (List ℕ)) → Begins held
    → AllByRecursion (λ b. b < 256) piece → Gives (λ x. x) r (fed held piece)
    → IfSome (ahead held piece rest) (λ bytes. MatchResult r (λ given. Passes bytes given.frame
    (ahead (held_after held piece r) (drop given.used piece) rest)) (λ fault. IsRefused bytes fault))
fed_step None piece r rest begins fits gives = tt
fed_step (Some held) piece r None begins fits gives = tt
fed_step (Some held) piece (Ok given) (Some rest) begins fits gives = passes held piece begins.0 begins.1 fits given rest gives
fed_step (Some held) piece (Err NoMemory) (Some rest) begins fits gives = tt
fed_step (Some held) piece (Err Short) (Some rest) begins fits gives = bad held piece begins.0 begins.1 fits Short rest gives
fed_step (Some held) piece (Err (BadKind k)) (Some rest) begins fits gives = bad held piece begins.0 begins.1 fits (BadKind k) rest gives
fed_step (Some held) piece (Err NotAscending) (Some rest) begins fits gives = bad held piece begins.0 begins.1 fits NotAscending rest gives
fed_step (Some held) piece (Err TooLarge) (Some rest) begins fits gives = bad held piece begins.0 begins.1 fits TooLarge rest gives
fed_step (Some held) piece (Err Trailing) (Some rest) begins fits gives = bad held piece begins.0 begins.1 fits Trailing rest gives
fed_step (Some held) piece (Err Broken) (Some rest) begins fits gives = bad held piece begins.0 begins.1 fits Broken rest gives

pub held_fits : (held : Option (List ℕ)) → Begins held → held_length held < 65540
held_fits None begins = omega arith
held_fits (Some held) begins = partial_fits held begins.0

-- at the start
pub start_begins : Begins (Some [])
start_begins = (nothing_partial, tt)

pub ahead_start : (rest : Option (List ℕ)) → ahead (Some []) [] rest ≡ rest
ahead_start None = refl
ahead_start (Some rest) = refl

-- ---- the piece

pub unused_step : (piece : List ℕ) (start used end : ℕ) → used ≤ end - start → drop used (unused piece start end) ≡ unused piece (start + used) end
unused_step piece start used end within =
    let count = end - start in
    ap (λ n. drop used (take n (drop start piece))) (omega (arith, within))
    ∙ drop-take used (count - used) (drop start piece)
    ∙ ap (take (count - used)) (drop-drop used start piece)
    ∙ ap (λ n. take n (drop (start + used) piece)) (omega arith)
