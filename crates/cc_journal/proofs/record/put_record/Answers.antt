use Rattle.std.proofs.Common.{◌≡◌, ℕ, List, [], ◌∷◌, ◌++◌, length, ◌∙◌, ap}
use Rattle.std.specs.Int.{w32, to_be_bytes}
use Rattle.cc_node_state.specs.Sides.{events_spelling}
use Rattle.cc_journal.specs.Batches.{events_in}
use Rattle.cc_journal.proofs.Records.{sized, record_is}
use Rattle.cc_journal.proofs.record.put_record.Goals as goal

pub returns-clause-bytes : goal.returns-clause-bytes
returns-clause-bytes c =
    let batch = c.args.batch.now in
    let head = to_be_bytes w32 (length (events_spelling (events_in batch))) in
    let sized_put : c.put_u32.new.out.items ≡ head =
    (rw c.unwrap.ensures at c.put_u32.ensures.ok) ∙ (λ i. c.clear.ensures.items i ++ to_be_bytes w32 (c.size.ensures.size i)) in
    let counted : c.put_u8.new.out.items ≡ head ++ length batch ∷ [] =
    (rw c.unwrap-2.ensures at c.put_u8.ensures.ok) ∙ (λ i. sized_put i ++ c.len.ensures.len i ∷ []) in
    let listed : c.put_events.new.text.items ≡ (head ++ length batch ∷ []) ++ sized batch =
    c.put_events.ensures.bytes ∙ (λ i. counted i ++ sized (c.entries.ensures.entries i)) in
    let shut : c.put_u8-2.new.out.items ≡ ((head ++ length batch ∷ []) ++ sized batch) ++ 0 ∷ [] =
    (rw c.unwrap-3.ensures at c.put_u8-2.ensures.ok) ∙ ap (λ (l : List ℕ). l ++ 0 ∷ []) listed in
    shut ∙ ap (λ (l : List ℕ). l ++ 0 ∷ []) (record_is batch)
