use Rattle.std.proofs.Common.{◌≡◌, ℕ, ◌-◌, List, length, take, drop, sym, ap, subst, ◌∙◌, arith}
use Rattle.std.specs.Int.{from_be_bytes, w32}
use Rattle.std.proofs.lemmas.List.{length-drop, take_all}
use Rattle.std.proofs.lemmas.Option.{MatchOption-at_some, MatchOption-at_none}
use Rattle.cc_messages.specs.declared.event.Event.{Event}
use Rattle.cc_wire.specs.Events.{SpellsEvent}
use Rattle.cc_wire.proofs.Spelled.{IsBytes-take}
use Rattle.cc_journal.proofs.EventReadLaws.{four_bytes, none_spelled, one_found}
use Rattle.cc_journal.proofs.events.first_event.Goals as goal

-- what stands behind the size
behind : (bytes : List ℕ) → take (length bytes - 4) (drop 4 bytes) ≡ drop 4 bytes
behind bytes = take_all (length bytes - 4) (drop 4 bytes) (omega (arith, length-drop 4 bytes))

pub returns-in_default-2 : goal.returns-in_default-2
returns-in_default-2 c =
    let bytes = c.args.bytes.now in
    let n = c.from_be_bytes-size.result in
    let size = c.from_be_bytes-size.ensures ∙ ap (λ (l : List ℕ). from_be_bytes w32 l) (sym (four_bytes bytes c.in-len4-up.len_at_least)) in
    let none = MatchOption-at_none ((e : Event) → SpellsEvent (take n (take (length bytes - 4) (drop 4 bytes))) e → ⊥) _
    c.in_default-2.is c.in_ok-event.ensures in
    none_spelled bytes n size (subst (λ (l : List ℕ). (e : Event) → SpellsEvent (take n l) e → ⊥) (behind bytes) none)

pub returns : goal.returns
returns c =
    let bytes = c.args.bytes.now in
    let n = c.from_be_bytes-size.result in
    let e = c.in-Some.event in
    let long = c.in-len4-up.len_at_least in
    let size = c.from_be_bytes-size.ensures ∙ ap (λ (l : List ℕ). from_be_bytes w32 l) (sym (four_bytes bytes long)) in
    let spelled = MatchOption-at_some _ (λ e. SpellsEvent (take n (take (length bytes - 4) (drop 4 bytes))) e) e c.in-Some.is c.in_ok-event.ensures in
    one_found bytes n size long (IsBytes-take 4 bytes (λ i. omega (arith, c.type_inv.bytes i)))
    (omega (arith, c.if-rest-size.false, length-drop 4 bytes)) e (subst (λ (l : List ℕ). SpellsEvent (take n l) e) (behind bytes) spelled)
