-- How a worker talks with its source of events.
--     Answer                  what an intake answers to an event
--     IsAnswer                the intake of this life answered so to this event
--     Spoke, Talks            the source gave events, each was answered, and the source heard the answers
--     places_of, PlacesRise   how many were accepted, and that their places rise
--     step, IsAbove           what one answer adds
use Rattle.std.specs.Prelude.{◌≡◌, ◌<◌, ◌+◌, ℕ, List, [], ◌∷◌, ◌++◌, length, Option, None, Some}
use Rattle.std.specs.Prelude.{Result, Ok, Err}
use Rattle.cc_messages.specs.declared.event.Event.{Event}
use Rattle.cc_node.specs.Core.{made}
use Rattle.cc_node.specs.Node.{Node}
use Rattle.cc_journal.specs.declared.entry.Entry.{Entry}
use Rattle.cc_intake.specs.declared.intake.Accepted.{Accepted}
use Rattle.cc_intake.specs.declared.intake.Refused.{Refused}
use Rattle.cc_intake.specs.Intakes.{Accepting}
use Rattle.cc_intake.specs.Histories.{core_after, entry_at, stirs}
use Rattle.cc_intake.specs.Refusals.{MayAccept, Refuses}

abbrev pub Answer : Type 0
Answer = Result Accepted Refused

-- An event that may be accepted was taken in at that place: at one moment it ended what had been accepted in this life. Or it
-- was refused for this reason by what had been accepted at one moment, so many events.
abbrev pub IsAnswer : Node → (List Entry → Type 0) → (ℕ → List Entry → Type 0) → Event → Answer → Type 0
IsAnswer opening accepted taken e (Ok a) =
    (i : Accepting) × MayAccept opening i e × accepted (i.entries ++ entry_at (core_after opening i.entries) e ∷ [])
    × (a.place ≡ length i.entries + 1) × (a.stirs ≡ stirs (made (core_after opening i.entries) e))
IsAnswer opening accepted taken e (Err r) =
    (i : Accepting) × (j : Accepting) × accepted i.entries × Refuses opening taken i e r.why j × (r.accepted ≡ length i.entries)

module _ {S : Type 0} (gives : S → Option Event → S → Type 0) (hears : S → Event → Answer → S → Type 0) (answers : Event → Answer → Type 0) where
  -- from s to t it gave an event, this was answered, and it heard the answer to it, in turn
  abbrev pub Spoke : S → List Answer → S → Type 0
  Spoke s [] t = s ≡ t
  Spoke s (a ∷ rest) t = (e : Event) × (u : S) × (w : S) × gives s (Some e) u × answers e a × hears u e a w × Spoke w rest t

  -- and in the end it gave none
  abbrev pub Talks : S → List Answer → S → Type 0
  Talks s heard t = (u : S) × Spoke s heard u × gives u None t

-- how many events were accepted
abbrev pub places_of : List Answer → ℕ
places_of [] = 0
places_of (Ok a ∷ rest) = places_of rest + 1
places_of (Err r ∷ rest) = places_of rest

-- the first place is above the count, the next above the count and one more, and so on
abbrev pub PlacesRise : ℕ → List Answer → Type 0
PlacesRise count [] = Unit {0}
PlacesRise count (Ok a ∷ rest) = (count < a.place) × PlacesRise (count + 1) rest
PlacesRise count (Err r ∷ rest) = PlacesRise count rest

-- what one answer adds to the count
abbrev pub step : Answer → ℕ → ℕ
step (Ok a) count = count + 1
step (Err r) count = count

-- a place is above the count before it
abbrev pub IsAbove : Answer → ℕ → Type 0
IsAbove (Ok a) count = count < a.place
IsAbove (Err r) count = Unit {0}
