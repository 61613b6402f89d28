-- What many feeds give together, and that a stream holds one list of frames.
use Rattle.std.proofs.Common.{◌≡◌, ℕ, ◌+◌, ◌-◌, ◌≤◌, ◌<◌, true, false, cond, List, [], ◌∷◌, ◌++◌, length, take, drop, Option, Some, None, Result, Ok}
use Rattle.std.proofs.Common.{Err, refl, sym, ap, subst, ◌∙◌, append_assoc, arith, inl, inr}
use Rattle.std.specs.Prelude.{IsTrue, IfSome}
use Rattle.std.specs.Int.{w32, to_be_bytes}
use Rattle.std.specs.List.{flat_map, AllByRecursion}
use Rattle.std.proofs.lemmas.Bool.{cases_lt, le-ltb}
use Rattle.std.proofs.lemmas.List.{take-append-le, take-append-drop, take_all, length-append, append-nil}
use Rattle.std.proofs.Math.Seq.{take-append-add, take-append_seam}
use Rattle.std.proofs.lemmas.List.Concat.{flat_map-cons, flat_map-append}
use Rattle.cc_wire.specs.declared.fault.WireFault.{WireFault}
use Rattle.cc_wire.specs.declared.fault.WireFault.TheVariants.{Short, BadKind, NotAscending, TooLarge, Trailing, NoMemory, Broken}
use Rattle.cc_connections.specs.declared.frame.Frame.{Frame}
use Rattle.cc_connections.specs.declared.frame_reader.Fed.{Fed}
use Rattle.cc_wire.specs.Readers.{Gives}
use Rattle.cc_connections.specs.Frames.{body_spelling, frame_spelling, IsFrame, body_length_at, frame_at}
use Rattle.cc_connections.specs.Held.{is_partial}
use Rattle.cc_connections.specs.Streams.{fed, rest_after, Progress, at_start, frames_of, Feed, after_feed, after_feeds, AreFeeds, Reads, Refuses}
use Rattle.cc_connections.specs.Streams.{FeedsRead, FeedsRefuse, StreamsReadOneWay, StreamsStayRefused}
use Rattle.cc_wire.proofs.Items.{all_push}
use Rattle.cc_wire.proofs.Spelled.{IsBytes, bind_ok, ok_is}
use Rattle.cc_wire.proofs.Formats.{bytes_of_all, all_of_bytes}
use Rattle.cc_connections.proofs.FrameFormat.{length_spelled, frame_spelled}
use Rattle.cc_connections.proofs.BodyLengths.{length-body, length-body-positive}
use Rattle.cc_connections.proofs.Fronts.{frame_length-of, is_partial-of, is_partial-append, frame_at-append}
use Rattle.cc_connections.proofs.Feeds.{given_of, nothing_partial}

-- ---- a frame's spelling at the front

-- a spelling is whole
pub spelled_whole : (f : Frame) (more : List ℕ) → IsFrame f → is_partial (frame_spelling f ++ more) ≡ false
spelled_whole f more is =
    let n = length (body_spelling f) in
    let size : length (frame_spelling f ++ more) ≡ 4 + n + length more =
    omega (arith, length-append (frame_spelling f) more, length-append (to_be_bytes w32 n) (body_spelling f)) in
    let read : body_length_at (frame_spelling f ++ more) ≡ Ok (n, body_spelling f ++ more) =
    ap body_length_at (append_assoc (to_be_bytes w32 n) (body_spelling f) more)
    ∙ length_spelled.again n (body_spelling f ++ more) ((omega (arith, length-body f is), omega (arith, length-body f is)), length-body-positive f) in
    is_partial-of (frame_spelling f ++ more) (Ok (4 + n)) (frame_length-of (frame_spelling f ++ more) (omega (arith, size)) ∙ rw read refl)
    ∙ le-ltb _ _ (omega (arith, size))

-- and is read again
pub spelled_read : (f : Frame) (more : List ℕ) → IsFrame f → frame_at (frame_spelling f ++ more) ≡ Ok (f, more)
spelled_read f more is = frame_spelled.again f more is

-- ---- a stream holds one list of frames

-- no spelling of a frame stands at the front
abbrev Stops : List ℕ → Type 0
Stops bytes = (f : Frame) (more : List ℕ) → IsFrame f → bytes ≡ frame_spelling f ++ more → ⊥

-- a partial rest doesn't begin with a frame
partial_stops : (rest : List ℕ) → IsTrue (is_partial rest) → Stops rest
partial_stops rest part f more is e = let whole : is_partial rest ≡ false = ap is_partial e ∙ spelled_whole f more is in cc

-- nor does what is refused
bad_stops : (bad : List ℕ) (e : WireFault) → frame_at bad ≡ Err e → Stops bad
bad_stops bad e h f more is spelled = let read : frame_at bad ≡ Ok (f, more) = ap frame_at spelled ∙ spelled_read f more is in cc

-- the first frame, and what follows it
first_of : (f : Frame) (fs : List Frame) (end stream : List ℕ) → stream ≡ flat_map frame_spelling (f ∷ fs) ++ end
    → stream ≡ frame_spelling f ++ (flat_map frame_spelling fs ++ end)
first_of f fs end stream e = e ∙ ap (λ (t : List ℕ). t ++ end) (flat_map-cons frame_spelling f fs)
    ∙ append_assoc (frame_spelling f) (flat_map frame_spelling fs) end

-- two lists of frames, each with an end that begins with no frame, are one where their spellings are
one_list : (fs gs : List Frame) (a b stream : List ℕ) → AllByRecursion IsFrame fs → AllByRecursion IsFrame gs → Stops a → Stops b
    → stream ≡ flat_map frame_spelling fs ++ a → stream ≡ flat_map frame_spelling gs ++ b → (fs ≡ gs) × (a ≡ b)
one_list [] [] a b stream p q stop_a stop_b d e = (refl, sym d ∙ e)
one_list [] (g ∷ gs) a b stream p q stop_a stop_b d e = absurd (stop_a g (flat_map frame_spelling gs ++ b) q.0 (sym d ∙ first_of g gs b stream e))
one_list (f ∷ fs) [] a b stream p q stop_a stop_b d e = absurd (stop_b f (flat_map frame_spelling fs ++ a) p.0 (sym e ∙ first_of f fs a stream d))
one_list (f ∷ fs) (g ∷ gs) a b stream p q stop_a stop_b d e =
    let one = ap frame_at (first_of f fs a stream d) ∙ spelled_read f (flat_map frame_spelling fs ++ a) p.0 in
    let other = ap frame_at (first_of g gs b stream e) ∙ spelled_read g (flat_map frame_spelling gs ++ b) q.0 in
    let same : (f, flat_map frame_spelling fs ++ a) ≡ (g, flat_map frame_spelling gs ++ b) = ok_is _ _ (sym one ∙ other) in
    let first : f ≡ g = ap (λ (x : Frame × List ℕ). x.0) same in
    let others = one_list fs gs a b (flat_map frame_spelling fs ++ a) p.1 q.1 stop_a stop_b refl (ap (λ (x : Frame × List ℕ). x.1) same) in
    (ap (λ (h : Frame). h ∷ fs) first ∙ ap (λ (hs : List Frame). g ∷ hs) others.0, others.1)

-- a stream is read in one way
pub streams_read_one_way : StreamsReadOneWay
streams_read_one_way stream frames others rest other p q =
    one_list frames others rest other stream p.lawful q.lawful (partial_stops rest p.partial) (partial_stops other q.partial) p.spelled q.spelled

-- and refused in one way, whatever follows
pub streams_stay_refused : StreamsStayRefused
streams_stay_refused stream more frames bad e p =
    let spelled : stream ++ more ≡ flat_map frame_spelling frames ++ (bad ++ more) =
    ap (λ (t : List ℕ). t ++ more) p.spelled ∙ append_assoc (flat_map frame_spelling frames) bad more in
    let read : frame_at (bad ++ more) ≡ Err e = frame_at-append bad more p.there ∙ rw p.refused refl in (
      λ others rest q.
          let same = one_list frames others (bad ++ more) rest (stream ++ more) p.lawful q.lawful (bad_stops (bad ++ more) e read)
          (partial_stops rest q.partial) spelled q.spelled in
          let whole : is_partial rest ≡ false = ap is_partial (sym same.1) ∙ is_partial-append bad more p.there in
          let part : is_partial rest ≡ true = q.partial in
          cc,
      λ others worse d q.
          let same = one_list frames others (bad ++ more) worse (stream ++ more) p.lawful q.lawful (bad_stops (bad ++ more) e read)
          (bad_stops worse d q.refused) spelled q.spelled in
          let fault : Result (Frame × List ℕ) WireFault = Err e in
          let alike : fault ≡ Err d = sym read ∙ ap frame_at same.1 ∙ q.refused in
          (same.0, cc),
    )

-- ---- feeds

-- where the frame that becomes whole with a piece ends in the piece
cut_in_piece : (rest piece : List ℕ) (f : Frame) (after : List ℕ) → IsFrame f → IsTrue (is_partial rest) → rest ++ piece ≡ frame_spelling f ++ after
    → (length after ≤ length piece) × (rest ++ take (length piece - length after) piece ≡ frame_spelling f)
cut_in_piece rest piece f after is part e =
    let x = frame_spelling f in
    let sizes : length rest + length piece ≡ length x + length after = omega (arith, ap length e, length-append rest piece, length-append x after) in
    elim (cases_lt (length rest) (length x)) [
      | inl lt ↦ (
          let some : length piece - length after ≡ length x - length rest = omega (arith, sizes, lt) in
          let whole : length rest + (length x - length rest) ≡ length x = omega (arith, lt) in
          let front : rest ++ take (length x - length rest) piece ≡ x =
          sym (take-append-add rest piece (length x - length rest)) ∙ ap (λ (n : ℕ). take n (rest ++ piece)) whole ∙ ap (take (length x)) e
          ∙ take-append_seam x after in
          (omega (arith, sizes, lt), ap (λ (n : ℕ). rest ++ take n piece) some ∙ front))
      | inr le ↦ (
          let front : take (length x) rest ≡ x = sym (take-append-le (length x) rest piece le) ∙ ap (take (length x)) e ∙ take-append_seam x after in
          let there : rest ≡ x ++ drop (length x) rest = sym (take-append-drop (length x) rest) ∙ ap (λ (t : List ℕ). t ++ drop (length x) rest) front in
          absurd (partial_stops rest part f (drop (length x) rest) is there))
    ]

-- what was used is read, and what is held are bytes
pub record IsSound (used : List ℕ) (frames : List Frame) (rest : List ℕ) : Type 0 where
  pub reads : Reads used frames rest
  pub bytes : IsBytes rest

-- bytes after bytes
IsBytes-append : (a b : List ℕ) → IsBytes a → AllByRecursion (λ x. x < 256) b → IsBytes (a ++ b)
IsBytes-append a b p q = bytes_of_all (a ++ b) (together a (all_of_bytes a p))
  where
    together : (xs : List ℕ) → AllByRecursion (λ x. x < 256) xs → AllByRecursion (λ x. x < 256) (xs ++ b)
    together [] all = q
    together (x ∷ xs) all = (all.0, together xs all.1)

module _ (used : List ℕ) (frames : List Frame) (rest piece : List ℕ) (sound : IsSound used frames rest) (fits : AllByRecursion (λ b. b < 256) piece) where
  -- a piece that makes no frame whole
  on_partial : is_partial (rest ++ piece) ≡ true → IsSound (used ++ take (length piece) piece) (frames ++ []) (rest ++ piece)
  on_partial part =
      rw (take_all (length piece) piece (omega arith), append-nil frames) (record {
        reads = record {
          lawful = sound.reads.lawful;
          spelled = ap (λ (t : List ℕ). t ++ piece) sound.reads.spelled ∙ append_assoc (flat_map frame_spelling frames) rest piece;
          partial = part;
        };
        bytes = IsBytes-append rest piece sound.bytes fits;
      })

  -- a piece that makes one whole
  on_whole : (f : Frame) (after : List ℕ) → frame_at (rest ++ piece) ≡ Ok (f, after) → IsSound (used ++ take (length piece - length after) piece)
      (frames ++ f ∷ []) []
  on_whole f after e =
      let t = frame_spelled.takes (rest ++ piece) f after (IsBytes-append rest piece sound.bytes fits) e in
      let cut = cut_in_piece rest piece f after t.1 sound.reads.partial t.0.parts in
      let text : flat_map frame_spelling (frames ++ f ∷ []) ≡ flat_map frame_spelling frames ++ frame_spelling f =
      flat_map-append frame_spelling frames (f ∷ []) ∙ ap (λ (t : List ℕ). flat_map frame_spelling frames ++ t) (flat_map-cons frame_spelling f []
      ∙ append-nil (frame_spelling f)) in
      record {
        reads = record {
          lawful = all_push IsFrame frames f sound.reads.lawful t.1;
          spelled = ap (λ (t : List ℕ). t ++ take (length piece - length after) piece) sound.reads.spelled
              ∙ append_assoc (flat_map frame_spelling frames) rest (take (length piece - length after) piece)
              ∙ ap (λ (t : List ℕ). flat_map frame_spelling frames ++ t) cut.1 ∙ sym text ∙ sym (append-nil (flat_map frame_spelling (frames ++ f ∷ [])));
          partial = nothing_partial;
        };
        bytes = λ i. omega arith;
      }

  -- either
  on_ok : (given : Fed) → fed (Some rest) piece ≡ Ok given → IsSound (used ++ take given.used piece) (frames ++ frames_of given.frame)
      (rest_after rest piece given.frame)
  on_ok given e =
      elim (is_partial (rest ++ piece)) as (λ b. is_partial (rest ++ piece) ≡ b
      → cond b (Ok (record { used = length piece; frame = None })) (given_of piece (frame_at (rest ++ piece))) ≡ Ok given
      → IsSound (used ++ take given.used piece) (frames ++ frames_of given.frame) (rest_after rest piece given.frame)) [
        | true ↦ λ part h. subst (λ (g : Fed). IsSound (used ++ take g.used piece) (frames ++ frames_of g.frame) (rest_after rest piece g.frame))
            (ok_is _ _ h) (on_partial part)
        | false ↦ λ whole h. (
            let f = bind_ok (frame_at (rest ++ piece)) (λ f. Ok (record { used = length piece - length f.1; frame = Some f.0 })) given h in
            subst (λ (g : Fed). IsSound (used ++ take g.used piece) (frames ++ frames_of g.frame) (rest_after rest piece g.frame)) (ok_is _ _ f.2)
            (on_whole f.0.0 f.0.1 f.1))
      ] refl e

-- one more feed
by_result : (used : List ℕ) (frames : List Frame) (held : Option (List ℕ)) (piece : List ℕ) (r : Result Fed WireFault) → IfSome held (IsSound used frames)
    → AllByRecursion (λ b. b < 256) piece → Gives (λ x. x) r (fed held piece)
    → let p = after_feed (record { used = used; frames = frames; held = held }) (piece, r) in IfSome p.held (IsSound p.used p.frames)
by_result used frames None piece (Ok given) sound fits e = tt
by_result used frames None piece (Err e) sound fits h = tt
by_result used frames (Some rest) piece (Ok given) sound fits e = on_ok used frames rest piece sound fits given e
by_result used frames (Some rest) piece (Err NoMemory) sound fits h = sound
by_result used frames (Some rest) piece (Err Short) sound fits h = tt
by_result used frames (Some rest) piece (Err (BadKind k)) sound fits h = tt
by_result used frames (Some rest) piece (Err NotAscending) sound fits h = tt
by_result used frames (Some rest) piece (Err TooLarge) sound fits h = tt
by_result used frames (Some rest) piece (Err Trailing) sound fits h = tt
by_result used frames (Some rest) piece (Err Broken) sound fits h = tt

-- after all feeds
all_sound : (fs : List Feed) (p : Progress) → IfSome p.held (IsSound p.used p.frames) → AreFeeds p fs
    → let q = after_feeds p fs in IfSome q.held (IsSound q.used q.frames)
all_sound [] p sound are = sound
all_sound (f ∷ fs) p sound are = all_sound fs (after_feed p f) (by_result p.used p.frames p.held f.0 f.1 sound are.0.0 are.0.1) are.1

-- at the start
start_sound : IsSound [] [] []
start_sound = record { reads = record { lawful = tt; spelled = refl; partial = nothing_partial }; bytes = λ i. omega arith }

-- from the start on
from_start : (fs : List Feed) → AreFeeds at_start fs → let p = after_feeds at_start fs in IfSome p.held (IsSound p.used p.frames)
from_start fs are = all_sound fs at_start start_sound are

-- the reading alone
reads_of : (used : List ℕ) (frames : List Frame) (held : Option (List ℕ)) → IfSome held (IsSound used frames) → IfSome held (λ rest. Reads used frames rest)
reads_of used frames None sound = tt
reads_of used frames (Some rest) sound = sound.reads

-- what was used is read
pub feeds_read : FeedsRead
feeds_read fs are = let p = after_feeds at_start fs in reads_of p.used p.frames p.held (from_start fs are)

-- a piece that is refused
refuses_of : (used : List ℕ) (frames : List Frame) (rest piece : List ℕ) (e : WireFault) → Reads used frames rest → fed (Some rest) piece ≡ Err e
    → Refuses (used ++ piece) frames (rest ++ piece) e
refuses_of used frames rest piece e reads h =
    elim (is_partial (rest ++ piece)) as (λ b. is_partial (rest ++ piece) ≡ b
    → cond b (Ok (record { used = length piece; frame = None })) (given_of piece (frame_at (rest ++ piece))) ≡ Err e
    → Refuses (used ++ piece) frames (rest ++ piece) e) [
      | true ↦ λ part g. absurd cc
      | false ↦ λ whole g. record {
        lawful = reads.lawful;
        spelled = ap (λ (t : List ℕ). t ++ piece) reads.spelled ∙ append_assoc (flat_map frame_spelling frames) rest piece;
        there = whole;
        refused = fault_of (frame_at (rest ++ piece)) g;
      }
    ] refl h
  where
    fault_of : (r : Result (Frame × List ℕ) WireFault) → given_of piece r ≡ Err e → r ≡ Err e
    fault_of (Ok x) g = absurd cc
    fault_of (Err d) g = cc

-- after any feeds
pub feeds_refuse : FeedsRefuse
feeds_refuse fs rest piece e are held h =
    let p = after_feeds at_start fs in
    refuses_of p.used p.frames rest piece e (subst (λ (o : Option (List ℕ)). IfSome o (λ r. Reads p.used p.frames r)) held (feeds_read fs are)) h
