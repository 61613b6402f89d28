-- Frames are read as they are spelled.
use Rattle.std.proofs.Common.{◌≡◌, ℕ, ◌≤◌, ◌<◌, ◌^◌, false, cond, eqb, ltb, List, [], ◌∷◌, ◌++◌, length, take, drop, Ok, refl, sym, ap, subst, ◌∙◌, arith}
use Rattle.std.specs.Int.{w32, to_be_bytes}
use Rattle.std.proofs.lemmas.Bool.{le-ltb}
use Rattle.std.proofs.lemmas.Bool.Decides.{nat_tests}
use Rattle.std.proofs.lemmas.List.{take_at, drop_at, length-append}
use Rattle.cc_wire.specs.declared.fault.WireFault.TheVariants.{Short}
use Rattle.cc_connections.specs.declared.frame.Frame.{Frame}
use Rattle.cc_connections.specs.declared.frame.Frame.TheVariants.{Post, Ack, Ask, Reply, Refused, Leave, Retire, Skip, Hello, Welcome, Unwelcome}
use Rattle.cc_connections.specs.declared.frame.Frame.TheVariants.{RetireIfSilent, Share, Doubled}
use Rattle.cc_wire.specs.Readers.{◌>>=◌, Reading, via, bytes_at, whole}
use Rattle.cc_connections.specs.Frames.{replied_spelling, IsReplied, replied_at, refused_spelling, IsRefused, refused_at, body_spelling, frame_spelling}
use Rattle.cc_connections.specs.Frames.{IsFrame, body_fields, body_at, body_length_at, enclosed_at, frame_at}
use Rattle.cc_wire.proofs.Spelled.{IsBytes, bind_ok, guard_ok, ok_is, Takes, Spelled, both, as_facts, tested, counted, byte_spelled, bytes_spelled}
use Rattle.cc_wire.proofs.Spelled.{nothing_spelled, kind_or, kinded_takes}
use Rattle.cc_wire.proofs.Formats.{limited_spelled, id_spelled, u32_spelled, u64_spelled, ask_share_spelled}
use Rattle.cc_wire.proofs.AnswerFormat.{answer_spelled}
use Rattle.cc_wire.proofs.EventFormat.{numbered_spelled, delivery_spelled, place_spelled, asked_spelled, skip_spelled}
use Rattle.cc_connections.proofs.HelloFormat.{hello_spelled, unwelcome_spelled}
use Rattle.cc_connections.proofs.BodyLengths.{length-body, length-body-positive}
use Rattle.cc_wire.proofs.Whole.{whole_takes, whole_again}

-- the answer to a command
replied_spelled : Spelled replied_at (λ f. IsReplied f.0.0 f.0.1 f.1) (λ f. replied_spelling f.0.0 f.0.1 f.1)
replied_spelled = as_facts (λ f. IsReplied f.0.0 f.0.1 f.1)
    (λ f h. record { place = h.0; answer_fits = h.1 })
    (λ f h. (h.place, h.answer_fits))
    (both place_spelled answer_spelled)

-- the refusal of a command
refused_spelled : Spelled refused_at (λ f. IsRefused f.0.0 f.0.1 f.1.0 f.1.1) (λ f. refused_spelling f.0.0 f.0.1 f.1.0 f.1.1)
refused_spelled = as_facts (λ f. IsRefused f.0.0 f.0.1 f.1.0 f.1.1)
    (λ f h. record { place = h.0; refusal_fits = h.1.0; value_fits = h.1.1 })
    (λ f h. (h.place, (h.refusal_fits, h.value_fits)))
    (both place_spelled (both byte_spelled u64_spelled))

-- ---- bodies

module _ (bytes after : List ℕ) (k : ℕ) (m : Frame) (rest : List ℕ) (fits : IsBytes after) (front : Takes bytes (k ∷ []) after) where
  abbrev case : {A : Type 0} {r : Reading A} {P : A → Type 0} {f : A → List ℕ} (spelled : Spelled r P f) (make : A → Frame) (kind : ℕ)
      → ((a : A) → P a → IsFrame (make a)) → ((a : A) → body_spelling (make a) ≡ kind ∷ f a)
      → (other : Reading Frame) → (other after ≡ Ok (m, rest) → Takes bytes (body_spelling m) rest × IsFrame m)
      → (cond (eqb k kind) (via make r) other) after ≡ Ok (m, rest) → Takes bytes (body_spelling m) rest × IsFrame m
  case = kind_or body_spelling IsFrame bytes after k m rest fits front

  -- the fields of each kind
  fields_take : body_fields k after ≡ Ok (m, rest) → Takes bytes (body_spelling m) rest × IsFrame m
  fields_take =
      case delivery_spelled (λ f. Post f.0.0 f.0.1 f.1) 1 (λ a h. h) (λ a. refl) _ (
      case numbered_spelled (λ f. Ack f.0 f.1) 2 (λ a h. h) (λ a. refl) _ (
      case asked_spelled (λ f. Ask f.0.0 f.0.1 f.1) 3 (λ a h. h) (λ a. refl) _ (
      case replied_spelled (λ f. Reply f.0.0 f.0.1 f.1) 4 (λ a h. h) (λ a. refl) _ (
      case refused_spelled (λ f. Refused f.0.0 f.0.1 f.1.0 f.1.1) 5 (λ a h. h) (λ a. refl) _ (
      case nothing_spelled (λ _. Leave) 6 (λ a h. h) (λ a. refl) _ (
      case id_spelled (λ node. Retire node) 7 (λ a h. h) (λ a. refl) _ (
      case skip_spelled (λ f. Skip f.0 f.1) 32 (λ a h. h) (λ a. refl) _ (
      case hello_spelled (λ hello. Hello hello) 33 (λ a h. h) (λ a. refl) _ (
      case u64_spelled (λ heard. Welcome heard) 34 (λ a h. h) (λ a. refl) _ (
      case unwelcome_spelled (λ f. Unwelcome f.0 f.1) 35 (λ a h. h.1) (λ a. refl) _ (
      case id_spelled (λ node. RetireIfSilent node) 36 (λ a h. h) (λ a. refl) _ (
      case ask_share_spelled (λ share. Share share) 37 (λ a h. h) (λ a. refl) _ (
      case u64_spelled (λ heard. Doubled heard) 38 (λ a h. h) (λ a. refl) _ (
      λ e. absurd cc))))))))))))))

-- what is spelled so is read again
body_again : (m : Frame) (rest : List ℕ) → IsFrame m → body_at (body_spelling m ++ rest) ≡ Ok (m, rest)
unfolding body_at
body_again (Post from number message) rest is = rw (delivery_spelled.again ((from, number), message) rest is) refl
body_again (Ack from number) rest is = rw (numbered_spelled.again (from, number) rest is) refl
body_again (Ask session request command) rest is = rw (asked_spelled.again ((session, request), command) rest is) refl
body_again (Reply session request answer) rest is = rw (replied_spelled.again ((session, request), answer) rest is) refl
body_again (Refused session request refusal value) rest is = rw (refused_spelled.again ((session, request), (refusal, value)) rest is) refl
body_again Leave rest is = refl
body_again (Retire node) rest is = rw (id_spelled.again node rest is) refl
body_again (Skip from posts) rest is = rw (skip_spelled.again (from, posts) rest is) refl
body_again (Hello hello) rest is = rw (hello_spelled.again hello rest is) refl
body_again (Welcome heard) rest is = rw (u64_spelled.again heard rest is) refl
body_again (Unwelcome reason node) rest is = rw (unwelcome_spelled.again (reason, node) rest (tt, is)) refl
body_again (RetireIfSilent node) rest is = rw (id_spelled.again node rest is) refl
body_again (Share share) rest is = rw (ask_share_spelled.again share rest is) refl
body_again (Doubled heard) rest is = rw (u64_spelled.again heard rest is) refl

pub body_spelled : Spelled body_at IsFrame body_spelling
unfolding body_at
body_spelled = record { takes = kinded_takes fields_take; again = body_again }

-- ---- lengths

-- a length that isn't 0 is positive
positive_of_test : (n : ℕ) → eqb n 0 ≡ false → 1 ≤ n
positive_of_test n e = grind (arith, nat_tests)

-- and a positive one isn't 0
test_of_positive : (n : ℕ) → 1 ≤ n → eqb n 0 ≡ false
test_of_positive n le = grind (arith, nat_tests)

-- a length within its bounds
pub length_spelled : Spelled body_length_at (λ n. ((n < 2 ^ 32) × (n ≤ 65536)) × (1 ≤ n)) (to_be_bytes w32)
unfolding body_length_at
length_spelled = tested (λ n. eqb n 0) Short (λ n. 1 ≤ n) positive_of_test test_of_positive (limited_spelled 65536 u32_spelled)

-- ---- a body of so many bytes

-- the first of two lists is so many bytes
pub bytes_again : (n : ℕ) (bytes rest : List ℕ) → length bytes ≡ n → bytes_at n (bytes ++ rest) ≡ Ok (bytes, rest)
bytes_again n bytes rest e =
    let long : ltb (length (bytes ++ rest)) n ≡ false = le-ltb _ _ (omega (arith, length-append bytes rest, e)) in
    rw (long, take_at bytes rest n e, drop_at bytes rest n e) refl

-- what is read of so many bytes is spelled by all of them
enclosed_takes : (n : ℕ) (bytes : List ℕ) (x : Frame) (rest : List ℕ) → IsBytes bytes → enclosed_at n bytes ≡ Ok (x, rest)
    → Takes bytes (body_spelling x) rest × ((length (body_spelling x) ≡ n) × IsFrame x)
unfolding enclosed_at
enclosed_takes n bytes x rest fits e =
    let read = bind_ok (whole body_at (take n bytes)) (λ frame. bytes_at n bytes >>= λ body. Ok (frame, body.1)) (x, rest) e in
    let body = bind_ok (bytes_at n bytes) (λ body. Ok (read.0, body.1)) (x, rest) read.2 in
    let t = (bytes_spelled n).takes bytes body.0.0 body.0.1 fits body.1 in
    let cut = guard_ok (ltb (length bytes) n) Short (take n bytes, drop n bytes) body.0 body.1 in
    let taken : take n bytes ≡ body.0.0 = ap (λ (p : List ℕ × List ℕ). p.0) cut.1 in
    let w = whole_takes body_spelled body.0.0 read.0 t.1.1 (ap (whole body_at) (sym taken) ∙ read.1) in
    let made : Frame × List ℕ = (read.0, body.0.1) in
    subst (λ (y : Frame × List ℕ). Takes bytes (body_spelling y.0) y.1 × ((length (body_spelling y.0) ≡ n) × IsFrame y.0)) (ok_is made (x, rest) body.2)
    (subst (λ (b : List ℕ). Takes bytes b body.0.1) w.1 t.0, (ap length (sym w.1) ∙ t.1.0, w.0))

-- and a spelling of so many bytes is read again
enclosed_again : (n : ℕ) (x : Frame) (rest : List ℕ) → length (body_spelling x) ≡ n → IsFrame x → enclosed_at n (body_spelling x ++ rest) ≡ Ok (x, rest)
unfolding enclosed_at
enclosed_again n x rest len is =
    ap (λ (l : List ℕ). whole body_at l >>= λ frame. bytes_at n (body_spelling x ++ rest) >>= λ body. Ok (frame, body.1)) (take_at (body_spelling x) rest n len)
    ∙ rw (whole_again body_spelled x is, bytes_again n (body_spelling x) rest len) refl

enclosed_spelled : (n : ℕ) → Spelled (enclosed_at n) (λ x. (length (body_spelling x) ≡ n) × IsFrame x) body_spelling
enclosed_spelled n = record { takes = enclosed_takes n; again = λ x rest fits. enclosed_again n x rest fits.0 fits.1 }

-- ---- frames

-- a length, and a body that is so long
pub frame_spelled : Spelled frame_at IsFrame frame_spelling
unfolding frame_at
frame_spelled = as_facts IsFrame
    (λ f h. h.1)
    (λ f h. (((omega (arith, length-body f h), omega (arith, length-body f h)), length-body-positive f), h))
    (counted (λ f. length (body_spelling f)) length_spelled enclosed_spelled)
