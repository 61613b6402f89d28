use Rattle.std.proofs.Common.{◌≡◌, ℕ, ◌+◌, ◌≤◌, List, [], ◌++◌, length, drop, refl, sym, ◌∙◌, ap, subst, arith, length-append}
use Rattle.std.specs.Int.{w32, to_be_bytes}
use Rattle.std.specs.List.{AllByRecursion}
use Rattle.std.specs.Vec.{vec_capacity}
use Rattle.std.proofs.lemmas.List.{append_assoc, append-nil, drop_all}
use Rattle.cc_wire.specs.Events.{IsEvent, event_spelling}
use Rattle.cc_node_state.specs.Sides.{sized_spelling}
use Rattle.cc_journal.specs.declared.entry.Entry.{Entry}
use Rattle.cc_journal.specs.Batches.{events_in}
use Rattle.cc_journal.proofs.Records.{sized, length_sized, next_events, next_sized}
use Rattle.cc_journal.proofs.record.put_events.Goals as goal

pub loop-entry-preserved : goal.loop-entry-preserved
loop-entry-preserved c =
    let text = c.loop-entry.text in
    let new = c.encode_event.new.out in
    let i = c.loop-entry.entry-index in
    let all = c.args.entries.now in
    let e = c.entry-item.result.event in
    let rest = sized (drop (i + 1) all) in
    let inv = c.loop-entry.invariant in
    let next : sized (drop i all) ≡ sized_spelling e ++ rest = next_sized all i c.entry-item.result c.loop-entry-test.true c.entry-item.is in
    let head = to_be_bytes w32 (length (event_spelling e)) in
    let size_put : c.put_u32.new.out.items ≡ text.items ++ head =
    (rw c.unwrap.ensures at c.put_u32.ensures.ok) ∙ ap (λ (n : ℕ). text.items ++ to_be_bytes w32 n) c.event_len.ensures.len in
    let event_put : new.items ≡ c.put_u32.new.out.items ++ event_spelling e = rw c.unwrap-in-loop-entry.ensures at c.encode_event.ensures.ok in
    let put : new.items ≡ text.items ++ sized_spelling e =
    event_put ∙ ap (λ (l : List ℕ). l ++ event_spelling e) size_put ∙ append_assoc text.items head (event_spelling e) in
    let spelled = rw c.unwrap-in-loop-entry.ensures at c.encode_event.ensures.spelled in
    let grows : vec_capacity text ≤ vec_capacity new = omega (arith, c.put_u32.ensures.grows, c.encode_event.ensures.grows) in
    record {
      bytes = ap (λ (l : List ℕ). l ++ rest) put ∙ append_assoc text.items (sized_spelling e) rest
          ∙ ap (λ (l : List ℕ). text.items ++ l) (sym next) ∙ inv.bytes;
      spelled = λ others. inv.spelled (subst (AllByRecursion IsEvent)
          (sym (next_events all i c.entry-item.result c.loop-entry-test.true c.entry-item.is)) (spelled.lawful, others));
      room = omega (arith, inv.room, grows, ap length put, length-append text.items (sized_spelling e), ap length next, length-append (sized_spelling e) rest);
      grows = omega (arith, inv.grows, grows);
    }

pub loop-entry-init : goal.loop-entry-init
loop-entry-init c = record { bytes = refl; spelled = λ all. all; room = c.requires.room; grows = omega arith }

pub returns-clause-bytes : goal.returns-clause-bytes
returns-clause-bytes c =
    let text = c.loop-entry.text.items in
    let none : drop c.loop-entry.entry-index c.args.entries.now ≡ [] = drop_all c.loop-entry.entry-index c.args.entries.now c.loop-entry-test.false in
    sym (append-nil text) ∙ ap (λ (es : List Entry). text ++ sized es) (sym none) ∙ c.loop-entry.invariant.bytes

pub returns-clause-spelled : goal.returns-clause-spelled
returns-clause-spelled c =
    let none : drop c.loop-entry.entry-index c.args.entries.now ≡ [] = drop_all c.loop-entry.entry-index c.args.entries.now c.loop-entry-test.false in
    c.loop-entry.invariant.spelled (subst (λ (es : List Entry). AllByRecursion IsEvent (events_in es)) (sym none) tt)

pub unwrap-requires : goal.unwrap-requires
unwrap-requires c =
    let i = c.loop-entry.entry-index in
    let e = c.entry-item.result.event in
    let next = next_sized c.args.entries.now i c.entry-item.result c.loop-entry-test.true c.entry-item.is in
    c.put_u32.ensures.room
    (omega (arith, c.loop-entry.invariant.room, ap length next, length-append (sized_spelling e) (sized (drop (i + 1) c.args.entries.now)), length_sized e))

pub unwrap-requires-in-loop-entry : goal.unwrap-requires-in-loop-entry
unwrap-requires-in-loop-entry c =
    let i = c.loop-entry.entry-index in
    let e = c.entry-item.result.event in
    let next = next_sized c.args.entries.now i c.entry-item.result c.loop-entry-test.true c.entry-item.is in
    let put = rw c.unwrap.ensures at c.put_u32.ensures.ok in
    c.encode_event.ensures.room
    (omega (
      arith,
      c.loop-entry.invariant.room,
      ap length next,
      length-append (sized_spelling e) (sized (drop (i + 1) c.args.entries.now)),
      length_sized e,
      ap length put,
      length-append c.loop-entry.text.items (to_be_bytes w32 c.event_len.result),
      c.put_u32.ensures.grows,
    ))
