-- Events as bytes: a kind, and then the fields.
use Rattle.std.specs.Prelude.{ℕ, ◌<◌, ◌^◌, List, [], ◌∷◌, ◌++◌, Err, ◌==◌, if◌then◌else◌}
use Rattle.std.specs.Int.{w32, w64, to_be_bytes}
use Rattle.cc_wire.specs.declared.fault.WireFault.TheVariants.{BadKind}
use Rattle.cc_messages.specs.declared.message.Message.{Message}
use Rattle.cc_messages.specs.declared.command.Command.{Command}
use Rattle.cc_messages.specs.Ranges.{Range, IsRange}
use Rattle.cc_messages.specs.Shares.{IsAskShare}
use Rattle.cc_messages.specs.declared.event.Event.{Event}
use Rattle.cc_messages.specs.declared.event.Event.TheVariants.{Enter, Leave, Deliver, Acked, Ask, Retire, Lapse, Snapshot, Skip, Share}
use Rattle.cc_wire.specs.Readers.{Reading, ◌⊗◌, via, nothing_at, kinded, number_at, number_from, range_at, ask_share_at}
use Rattle.cc_wire.specs.Spellings.{Spells, IsId}
use Rattle.cc_wire.specs.Messages.{message_spelling, IsMessage, message_at}
use Rattle.cc_wire.specs.Commands.{command_spelling, IsCommand, command_at}

-- a node and a number on the link to it
abbrev pub numbered_spelling : ℕ → ℕ → List ℕ
numbered_spelling node number = to_be_bytes w32 node ++ to_be_bytes w64 number

pub record IsNumbered (node number : ℕ) : Type 0 where
  pub is_id : IsId node
  pub number_fits : number < 2 ^ 64

abbrev pub numbered_at : Reading (ℕ × ℕ)
numbered_at = number_from 1 ⊗ number_at w64

-- a message that came from a node under a number
abbrev pub delivery_spelling : ℕ → ℕ → Message → List ℕ
delivery_spelling from number message = numbered_spelling from number ++ message_spelling message

pub record IsDelivery (from number : ℕ) (message : Message) : Type 0 where
  pub numbered : IsNumbered from number
  pub message_fits : IsMessage message

abbrev pub delivery_at : Reading ((ℕ × ℕ) × Message)
delivery_at = numbered_at ⊗ message_at

-- the place of a command: a session, and the number of the request in it
abbrev pub place_spelling : ℕ → ℕ → List ℕ
place_spelling session request = to_be_bytes w64 session ++ to_be_bytes w64 request

pub record IsPlace (session request : ℕ) : Type 0 where
  pub session_fits : session < 2 ^ 64
  pub request_fits : request < 2 ^ 64

abbrev pub place_at : Reading (ℕ × ℕ)
place_at = number_at w64 ⊗ number_at w64

-- a command at its place
abbrev pub asked_spelling : ℕ → ℕ → Command → List ℕ
asked_spelling session request command = place_spelling session request ++ command_spelling command

pub record IsAsked (session request : ℕ) (command : Command) : Type 0 where
  pub place : IsPlace session request
  pub command_fits : IsCommand command

abbrev pub asked_at : Reading ((ℕ × ℕ) × Command)
asked_at = place_at ⊗ command_at

-- a node, and the first and the last of its posts that are for others
abbrev pub range_spelling : Range → List ℕ
range_spelling posts = to_be_bytes w64 posts.first ++ to_be_bytes w64 posts.last

abbrev pub skip_spelling : ℕ → Range → List ℕ
skip_spelling from posts = to_be_bytes w32 from ++ range_spelling posts

pub record IsSkip (from : ℕ) (posts : Range) : Type 0 where
  pub is_id : IsId from
  pub range : IsRange posts
  pub fits : posts.last < 2 ^ 64

abbrev pub skip_at : Reading (ℕ × Range)
skip_at = number_from 1 ⊗ range_at

abbrev pub event_spelling : Event → List ℕ
event_spelling Enter = 1 ∷ []
event_spelling Leave = 2 ∷ []
event_spelling (Deliver from number message) = 3 ∷ delivery_spelling from number message
event_spelling (Acked peer number) = 4 ∷ numbered_spelling peer number
event_spelling (Ask session request command) = 5 ∷ asked_spelling session request command
event_spelling (Retire node) = 6 ∷ to_be_bytes w32 node
event_spelling (Lapse node) = 32 ∷ to_be_bytes w32 node
event_spelling Snapshot = 33 ∷ []
event_spelling (Skip from posts) = 34 ∷ skip_spelling from posts
event_spelling (Share share) = 35 ∷ share ∷ []

abbrev pub IsEvent : Event → Type 0
IsEvent Enter = Unit {0}
IsEvent Leave = Unit {0}
IsEvent (Deliver from number message) = IsDelivery from number message
IsEvent (Acked peer number) = IsNumbered peer number
IsEvent (Ask session request command) = IsAsked session request command
IsEvent (Retire node) = IsId node
IsEvent (Lapse node) = IsId node
IsEvent Snapshot = Unit {0}
IsEvent (Skip from posts) = IsSkip from posts
IsEvent (Share share) = IsAskShare share

abbrev pub SpellsEvent : List ℕ → Event → Type 0
SpellsEvent = Spells IsEvent event_spelling

abbrev pub event_fields : ℕ → Reading Event
event_fields kind =
    if kind == 1 then via (λ _. Enter) nothing_at
    else (if kind == 2 then via (λ _. Leave) nothing_at
    else (if kind == 3 then via (λ f. Deliver f.0.0 f.0.1 f.1) delivery_at
    else (if kind == 4 then via (λ f. Acked f.0 f.1) numbered_at
    else (if kind == 5 then via (λ f. Ask f.0.0 f.0.1 f.1) asked_at
    else (if kind == 6 then via (λ node. Retire node) (number_from 1)
    else (if kind == 32 then via (λ node. Lapse node) (number_from 1)
    else (if kind == 33 then via (λ _. Snapshot) nothing_at
    else (if kind == 34 then via (λ f. Skip f.0 f.1) skip_at
    else (if kind == 35 then via (λ share. Share share) ask_share_at
    else (λ bytes. Err (BadKind kind)))))))))))

unfoldable pub event_at : Reading Event
event_at = kinded event_fields
