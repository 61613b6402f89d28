-- Events are read as they are spelled.
use Rattle.std.proofs.Common.{◌≡◌, ℕ, cond, eqb, List, [], ◌∷◌, ◌++◌, Ok, refl}
use Rattle.cc_messages.specs.declared.event.Event.{Event}
use Rattle.cc_messages.specs.declared.event.Event.TheVariants.{Enter, Leave, Deliver, Acked, Ask, Retire, Lapse, Snapshot, Skip, Share}
use Rattle.cc_wire.specs.Readers.{Reading, via}
use Rattle.cc_wire.specs.Events.{numbered_spelling, IsNumbered, numbered_at, delivery_spelling, IsDelivery, delivery_at, place_spelling, IsPlace}
use Rattle.cc_wire.specs.Events.{place_at, asked_spelling, IsAsked, asked_at, event_spelling, IsEvent, event_fields, event_at}
use Rattle.cc_wire.specs.Events.{skip_spelling, IsSkip, skip_at}
use Rattle.cc_wire.proofs.Spelled.{IsBytes, Takes, Spelled, both, as_facts, nothing_spelled, kind_or, kinded_takes}
use Rattle.cc_wire.proofs.Formats.{id_spelled, u64_spelled, range_spelled, ask_share_spelled}
use Rattle.cc_wire.proofs.MessageFormat.{message_spelled}
use Rattle.cc_wire.proofs.CommandFormat.{command_spelled}

pub numbered_spelled : Spelled numbered_at (λ f. IsNumbered f.0 f.1) (λ f. numbered_spelling f.0 f.1)
numbered_spelled = as_facts (λ f. IsNumbered f.0 f.1)
    (λ f h. record { is_id = h.0; number_fits = h.1 })
    (λ f h. (h.is_id, h.number_fits))
    (both id_spelled u64_spelled)

pub delivery_spelled : Spelled delivery_at (λ f. IsDelivery f.0.0 f.0.1 f.1) (λ f. delivery_spelling f.0.0 f.0.1 f.1)
delivery_spelled = as_facts (λ f. IsDelivery f.0.0 f.0.1 f.1)
    (λ f h. record { numbered = h.0; message_fits = h.1 })
    (λ f h. (h.numbered, h.message_fits))
    (both numbered_spelled message_spelled)

pub place_spelled : Spelled place_at (λ f. IsPlace f.0 f.1) (λ f. place_spelling f.0 f.1)
place_spelled = as_facts (λ f. IsPlace f.0 f.1)
    (λ f h. record { session_fits = h.0; request_fits = h.1 })
    (λ f h. (h.session_fits, h.request_fits))
    (both u64_spelled u64_spelled)

pub asked_spelled : Spelled asked_at (λ f. IsAsked f.0.0 f.0.1 f.1) (λ f. asked_spelling f.0.0 f.0.1 f.1)
asked_spelled = as_facts (λ f. IsAsked f.0.0 f.0.1 f.1)
    (λ f h. record { place = h.0; command_fits = h.1 })
    (λ f h. (h.place, h.command_fits))
    (both place_spelled command_spelled)

pub skip_spelled : Spelled skip_at (λ f. IsSkip f.0 f.1) (λ f. skip_spelling f.0 f.1)
skip_spelled = as_facts (λ f. IsSkip f.0 f.1)
    (λ f h. record { is_id = h.0; range = h.1.0; fits = h.1.1 })
    (λ f h. (h.is_id, (h.range, h.fits)))
    (both id_spelled range_spelled)

module _ (bytes after : List ℕ) (k : ℕ) (m : Event) (rest : List ℕ) (fits : IsBytes after) (front : Takes bytes (k ∷ []) after) where
  abbrev case : {A : Type 0} {r : Reading A} {P : A → Type 0} {f : A → List ℕ} (spelled : Spelled r P f) (make : A → Event) (kind : ℕ)
      → ((a : A) → P a → IsEvent (make a)) → ((a : A) → event_spelling (make a) ≡ kind ∷ f a)
      → (other : Reading Event) → (other after ≡ Ok (m, rest) → Takes bytes (event_spelling m) rest × IsEvent m)
      → (cond (eqb k kind) (via make r) other) after ≡ Ok (m, rest) → Takes bytes (event_spelling m) rest × IsEvent m
  case = kind_or event_spelling IsEvent bytes after k m rest fits front

  fields_take : event_fields k after ≡ Ok (m, rest) → Takes bytes (event_spelling m) rest × IsEvent m
  fields_take =
      case nothing_spelled (λ _. Enter) 1 (λ a h. h) (λ a. refl) _ (
      case nothing_spelled (λ _. Leave) 2 (λ a h. h) (λ a. refl) _ (
      case delivery_spelled (λ f. Deliver f.0.0 f.0.1 f.1) 3 (λ a h. h) (λ a. refl) _ (
      case numbered_spelled (λ f. Acked f.0 f.1) 4 (λ a h. h) (λ a. refl) _ (
      case asked_spelled (λ f. Ask f.0.0 f.0.1 f.1) 5 (λ a h. h) (λ a. refl) _ (
      case id_spelled (λ node. Retire node) 6 (λ a h. h) (λ a. refl) _ (
      case id_spelled (λ node. Lapse node) 32 (λ a h. h) (λ a. refl) _ (
      case nothing_spelled (λ _. Snapshot) 33 (λ a h. h) (λ a. refl) _ (
      case skip_spelled (λ f. Skip f.0 f.1) 34 (λ a h. h) (λ a. refl) _ (
      case ask_share_spelled (λ share. Share share) 35 (λ a h. h) (λ a. refl) _ (
      λ e. absurd cc))))))))))

event_again : (m : Event) (rest : List ℕ) → IsEvent m → event_at (event_spelling m ++ rest) ≡ Ok (m, rest)
unfolding event_at
event_again Enter rest is = refl
event_again Leave rest is = refl
event_again (Deliver from number message) rest is = rw (delivery_spelled.again ((from, number), message) rest is) refl
event_again (Acked peer number) rest is = rw (numbered_spelled.again (peer, number) rest is) refl
event_again (Ask session request command) rest is = rw (asked_spelled.again ((session, request), command) rest is) refl
event_again (Retire node) rest is = rw (id_spelled.again node rest is) refl
event_again (Lapse node) rest is = rw (id_spelled.again node rest is) refl
event_again Snapshot rest is = refl
event_again (Skip from posts) rest is = rw (skip_spelled.again (from, posts) rest is) refl
event_again (Share share) rest is = rw (ask_share_spelled.again share rest is) refl

pub event_spelled : Spelled event_at IsEvent event_spelling
unfolding event_at
event_spelled = record { takes = kinded_takes fields_take; again = event_again }
