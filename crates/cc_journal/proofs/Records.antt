-- The record of a batch.
--     next_sized        the events behind their sizes, one after the other
--     length_batch      how long a record and the gate behind it are
--     batch_spelled     the record is a batch's
use Rattle.std.proofs.Common.{◌≡◌, ℕ, ◌+◌, ◌<◌, ◌≤◌, List, [], ◌∷◌, ◌++◌, length, get_or, drop, refl, sym, ◌∙◌, ap, arith, length-append}
use Rattle.std.specs.Int.{w32, to_be_bytes}
use Rattle.std.specs.List.{flat_map}
use Rattle.std.proofs.lemmas.List.{append_assoc, length-map}
use Rattle.std.proofs.lemmas.List.Concat.{flat_map-cons}
use Rattle.cc_messages.specs.declared.event.Event.{Event}
use Rattle.cc_wire.specs.Events.{event_spelling}
use Rattle.cc_journal.specs.declared.entry.Entry.{Entry}
use Rattle.cc_journal.specs.Batches.{events_in, batch_bytes}
use Rattle.cc_journal.proofs.LinkSends.{next}
use Rattle.cc_node_state.specs.Sides.{SpellsBatch, SpellsRecord, record_spelling, events_spelling, sized_spelling}

-- the events of some entries, each behind its size
abbrev pub sized : List Entry → List ℕ
sized entries = flat_map sized_spelling (events_in entries)

pub length_sized : (e : Event) → length (sized_spelling e) ≡ 4 + length (event_spelling e)
length_sized e = length-append (to_be_bytes w32 (length (event_spelling e))) (event_spelling e)

pub next_events : (entries : List Entry) (i : ℕ) (entry : Entry) → i < length entries → entry ≡ get_or entries i entry
    → events_in (drop i entries) ≡ entry.event ∷ events_in (drop (i + 1) entries)
next_events entries i entry lt is = ap events_in (next entries i entry lt is)

pub next_sized : (entries : List Entry) (i : ℕ) (entry : Entry) → i < length entries → entry ≡ get_or entries i entry
    → sized (drop i entries) ≡ sized_spelling entry.event ++ sized (drop (i + 1) entries)
next_sized entries i entry lt is = ap (λ (es : List Event). flat_map sized_spelling es) (next_events entries i entry lt is)
    ∙ flat_map-cons sized_spelling entry.event (events_in (drop (i + 1) entries))

-- a record is its length, how many events there are, and the events
pub record_is : (entries : List Entry)
    → (to_be_bytes w32 (length (events_spelling (events_in entries))) ++ length entries ∷ []) ++ sized entries ≡ record_spelling (events_in entries)
unfolding record_spelling
record_is entries =
    let size = to_be_bytes w32 (length (events_spelling (events_in entries))) in
    append_assoc size (length entries ∷ []) (sized entries)
    ∙ ap (λ (n : ℕ). size ++ n ∷ sized entries) (sym (length-map entries (λ (entry : Entry). entry.event)))

-- a batch and the gate behind it fill no more than the room of one record
pub length_batch : (entries : List Entry) → SpellsRecord (record_spelling (events_in entries)) (events_in entries) → length (batch_bytes entries) ≤ 262149
unfolding record_spelling
length_batch entries spelled =
    let bytes = events_spelling (events_in entries) in
    let size = to_be_bytes w32 (length bytes) in
    omega (arith, spelled.fits, length-append (size ++ bytes) (0 ∷ []), length-append size bytes)

pub batch_spelled : (entries : List Entry) → SpellsRecord (record_spelling (events_in entries)) (events_in entries)
    → SpellsBatch (batch_bytes entries) (events_in entries)
batch_spelled entries spelled =
    record { record_bytes = record_spelling (events_in entries); gate = 0; parts = refl; closed = λ is. absurd cc; spelled = spelled }
