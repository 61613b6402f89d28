-- Batches: lists of entries, each an event and what it makes.
--     events_in           the events of some entries
--     AreLawful           no event of them is refused, and each made part is that of its event
--     batch_bytes         their record, and the closed gate of the next one
--     FitsRecord          they are few enough for one record, which has so many bytes behind its length
use Rattle.std.specs.Prelude.{◌≡◌, ◌≤◌, ℕ, ⊤, List, [], ◌∷◌, ◌++◌, length, map, None}
use Rattle.cc_messages.specs.declared.event.Event.{Event}
use Rattle.cc_node.specs.Core.{made}
use Rattle.cc_node.specs.Node.{Node, step}
use Rattle.cc_node.specs.Refusals.{decides}
use Rattle.cc_node_state.specs.Sides.{batch_limit, record_limit, record_spelling, events_spelling}
use Rattle.cc_journal.specs.declared.entry.Entry.{Entry}

abbrev pub events_in : List Entry → List Event
events_in entries = map (λ entry. entry.event) entries

abbrev pub AreLawful : Node → List Entry → Type 0
AreLawful n [] = ⊤
AreLawful n (entry ∷ entries) = (decides n.core entry.event ≡ None) × (entry.made ≡ made n.core entry.event) × AreLawful (step n entry.event) entries

abbrev pub batch_bytes : List Entry → List ℕ
batch_bytes entries = record_spelling (events_in entries) ++ 0 ∷ []

pub record FitsRecord (entries : List Entry) (bytes : ℕ) : Type 0 where
  pub few : length entries ≤ batch_limit
  pub is_size : bytes ≡ length (events_spelling (events_in entries))
  pub fits : bytes ≤ record_limit
