-- Frames as bytes: the length of a body, and the body: a kind, and then the fields.
use Rattle.std.specs.Prelude.{ℕ, ◌<◌, ◌^◌, List, [], ◌∷◌, ◌++◌, length, take, Ok, Err, ◌==◌, if◌then◌else◌}
use Rattle.std.specs.Int.{w32, w64, to_be_bytes}
use Rattle.cc_wire.specs.declared.fault.WireFault.TheVariants.{Short, BadKind}
use Rattle.cc_messages.specs.Shares.{IsAskShare}
use Rattle.cc_messages.specs.declared.answer.Answer.{Answer}
use Rattle.cc_connections.specs.declared.frame.Frame.{Frame}
use Rattle.cc_connections.specs.declared.frame.Frame.TheVariants.{Post, Ack, Ask, Reply, Refused, Leave, Retire, Skip, Hello, Welcome, Unwelcome}
use Rattle.cc_connections.specs.declared.frame.Frame.TheVariants.{RetireIfSilent, Share, Doubled}
use Rattle.cc_wire.specs.Readers.{◌>>=◌, Reading, ◌⊗◌, via, nothing_at, byte_at, kinded, bytes_at, number_at, number_from, ask_share_at, limited, whole}
use Rattle.cc_connections.specs.Limits.{body_limit}
use Rattle.cc_connections.specs.Hellos.{hello_spelling, IsHello, hello_at, unwelcome_spelling, unwelcome_at}
use Rattle.cc_wire.specs.Spellings.{Spells, IsId}
use Rattle.cc_wire.specs.Answers.{answer_spelling, IsAnswer, answer_at}
use Rattle.cc_wire.specs.Events.{numbered_spelling, IsNumbered, numbered_at, delivery_spelling, IsDelivery, delivery_at, place_spelling, IsPlace}
use Rattle.cc_wire.specs.Events.{place_at, asked_spelling, IsAsked, asked_at, skip_spelling, IsSkip, skip_at}

-- the answer to the command at a place
abbrev pub replied_spelling : ℕ → ℕ → Answer → List ℕ
replied_spelling session request answer = place_spelling session request ++ answer_spelling answer

pub record IsReplied (session request : ℕ) (answer : Answer) : Type 0 where
  pub place : IsPlace session request
  pub answer_fits : IsAnswer answer

abbrev pub replied_at : Reading ((ℕ × ℕ) × Answer)
replied_at = place_at ⊗ answer_at

-- the number of the refusal of the command at a place, and what the refusal carries
abbrev pub refused_spelling : ℕ → ℕ → ℕ → ℕ → List ℕ
refused_spelling session request refusal value = place_spelling session request ++ (refusal ∷ to_be_bytes w64 value)

pub record IsRefused (session request refusal value : ℕ) : Type 0 where
  pub place : IsPlace session request
  pub refusal_fits : refusal < 256
  pub value_fits : value < 2 ^ 64

abbrev pub refused_at : Reading ((ℕ × ℕ) × (ℕ × ℕ))
refused_at = place_at ⊗ byte_at ⊗ number_at w64

abbrev pub body_spelling : Frame → List ℕ
body_spelling (Post from number message) = 1 ∷ delivery_spelling from number message
body_spelling (Ack from number) = 2 ∷ numbered_spelling from number
body_spelling (Ask session request command) = 3 ∷ asked_spelling session request command
body_spelling (Reply session request answer) = 4 ∷ replied_spelling session request answer
body_spelling (Refused session request refusal value) = 5 ∷ refused_spelling session request refusal value
body_spelling Leave = 6 ∷ []
body_spelling (Retire node) = 7 ∷ to_be_bytes w32 node
body_spelling (Skip from posts) = 32 ∷ skip_spelling from posts
body_spelling (Hello hello) = 33 ∷ hello_spelling hello
body_spelling (Welcome heard) = 34 ∷ to_be_bytes w64 heard
body_spelling (Unwelcome reason node) = 35 ∷ unwelcome_spelling reason node
body_spelling (RetireIfSilent node) = 36 ∷ to_be_bytes w32 node
body_spelling (Share share) = 37 ∷ share ∷ []
body_spelling (Doubled heard) = 38 ∷ to_be_bytes w64 heard

abbrev pub frame_spelling : Frame → List ℕ
frame_spelling frame = to_be_bytes w32 (length (body_spelling frame)) ++ body_spelling frame

abbrev pub IsFrame : Frame → Type 0
IsFrame (Post from number message) = IsDelivery from number message
IsFrame (Ack from number) = IsNumbered from number
IsFrame (Ask session request command) = IsAsked session request command
IsFrame (Reply session request answer) = IsReplied session request answer
IsFrame (Refused session request refusal value) = IsRefused session request refusal value
IsFrame Leave = Unit {0}
IsFrame (Retire node) = IsId node
IsFrame (Skip from posts) = IsSkip from posts
IsFrame (Hello hello) = IsHello hello
IsFrame (Welcome heard) = heard < 2 ^ 64
IsFrame (Unwelcome reason node) = IsId node
IsFrame (RetireIfSilent node) = IsId node
IsFrame (Share share) = IsAskShare share
IsFrame (Doubled heard) = heard < 2 ^ 64

abbrev pub SpellsFrame : List ℕ → Frame → Type 0
SpellsFrame = Spells IsFrame frame_spelling

-- ---- reading

abbrev pub body_fields : ℕ → Reading Frame
body_fields kind =
    if kind == 1 then via (λ f. Post f.0.0 f.0.1 f.1) delivery_at
    else (if kind == 2 then via (λ f. Ack f.0 f.1) numbered_at
    else (if kind == 3 then via (λ f. Ask f.0.0 f.0.1 f.1) asked_at
    else (if kind == 4 then via (λ f. Reply f.0.0 f.0.1 f.1) replied_at
    else (if kind == 5 then via (λ f. Refused f.0.0 f.0.1 f.1.0 f.1.1) refused_at
    else (if kind == 6 then via (λ _. Leave) nothing_at
    else (if kind == 7 then via (λ node. Retire node) (number_from 1)
    else (if kind == 32 then via (λ f. Skip f.0 f.1) skip_at
    else (if kind == 33 then via (λ hello. Hello hello) hello_at
    else (if kind == 34 then via (λ heard. Welcome heard) (number_at w64)
    else (if kind == 35 then via (λ f. Unwelcome f.0 f.1) unwelcome_at
    else (if kind == 36 then via (λ node. RetireIfSilent node) (number_from 1)
    else (if kind == 37 then via (λ share. Share share) ask_share_at
    else (if kind == 38 then via (λ heard. Doubled heard) (number_at w64)
    else (λ bytes. Err (BadKind kind)))))))))))))))

unfoldable pub body_at : Reading Frame
body_at = kinded body_fields

-- the length of a body: from 1 to its limit
unfoldable pub body_length_at : Reading ℕ
body_length_at bytes = limited body_limit (number_at w32) bytes >>= λ n. if n.0 == 0 then Err Short else Ok n

-- so many bytes, all of which are the body: its fields come before its end, so where the bytes stop short of it, the
-- fault is still that of the first field that can't be read
unfoldable pub enclosed_at : ℕ → Reading Frame
enclosed_at count bytes = whole body_at (take count bytes) >>= λ frame. bytes_at count bytes >>= λ body. Ok (frame, body.1)

unfoldable pub frame_at : Reading Frame
frame_at bytes = body_length_at bytes >>= λ n. enclosed_at n.0 n.1
