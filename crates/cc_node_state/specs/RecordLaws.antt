-- Each record has one spelling, and none begins another.
--     one_sized, one_run, one_record      an event behind its size;  a run of as many of them;  a record
--     Ends, one_front                     no record goes on here;  records of lawful events up to there
use Rattle.std.proofs.Common.{◌≡◌, ℕ, List, [], ◌∷◌, ◌++◌, length, drop, refl, sym, ◌∙◌, ap, subst, arith}
use Rattle.std.specs.List.{flat_map, AllByRecursion}
use Rattle.std.proofs.lemmas.List.{append_assoc, drop_at}
use Rattle.cc_messages.specs.declared.event.Event.{Event}
use Rattle.cc_wire.specs.Events.{event_spelling, IsEvent}
use Rattle.cc_wire.proofs.Whole.{one_spelling}
use Rattle.cc_wire.proofs.EventFormat.{event_spelled}
use Rattle.cc_node.specs.Node.{Node, after, IsLawful}
use Rattle.cc_node.specs.Histories.{after-append, lawful_parts}
use Rattle.cc_node_state.specs.Sides.{OPEN, sized_spelling, events_spelling, record_spelling, SpellsRecord, SpellsRecords, events_of}

-- what follows two fronts of one length
behind_front : (a b u w : List ℕ) → a ≡ b → a ++ u ≡ b ++ w → u ≡ w
behind_front a b u w same e =
    sym (drop_at a u (length a) refl) ∙ ap (λ (l : List ℕ). drop (length a) l) e ∙ drop_at b w (length a) (ap length (sym same))

pub one_sized : (x y : Event) (u w : List ℕ) → IsEvent x → IsEvent y → sized_spelling x ++ u ≡ sized_spelling y ++ w → (x ≡ y) × (u ≡ w)
one_sized x y u w is-x is-y e =
    let rest : event_spelling x ++ u ≡ event_spelling y ++ w = ap (λ (l : List ℕ). drop 4 l) e in
    let one = one_spelling event_spelled (event_spelling x) (event_spelling y) u w x y is-x is-y refl refl rest in
    (one.0, behind_front (event_spelling x) (event_spelling y) u w one.1 rest)

pub one_run : (xs ys : List Event) (u w : List ℕ) → AllByRecursion IsEvent xs → AllByRecursion IsEvent ys → length xs ≡ length ys
    → flat_map sized_spelling xs ++ u ≡ flat_map sized_spelling ys ++ w → xs ≡ ys
one_run [] [] u w all-x all-y same e = refl
one_run [] (y ∷ ys) u w all-x all-y same e = absurd cc
one_run (x ∷ xs) [] u w all-x all-y same e = absurd cc
one_run (x ∷ xs) (y ∷ ys) u w all-x all-y same e =
    let parts = sym (append_assoc (sized_spelling x) (flat_map sized_spelling xs) u) ∙ e ∙ append_assoc (sized_spelling y) (flat_map sized_spelling ys) w in
    let first = one_sized x y (flat_map sized_spelling xs ++ u) (flat_map sized_spelling ys ++ w) all-x.0 all-y.0 parts in
    let others = one_run xs ys u w all-x.1 all-y.1 (omega (arith, same)) first.1 in
    ap (λ (e : Event). e ∷ xs) first.0 ∙ ap (λ (l : List Event). y ∷ l) others

pub one_record : (a b u w : List ℕ) (xs ys : List Event) → SpellsRecord a xs → SpellsRecord b ys → a ++ u ≡ b ++ w → (xs ≡ ys) × (a ≡ b)
unfolding record_spelling
one_record a b u w xs ys p q e =
    let all : record_spelling xs ++ u ≡ record_spelling ys ++ w = ap (λ (l : List ℕ). l ++ u) (sym p.spelled) ∙ e ∙ ap (λ (l : List ℕ). l ++ w) q.spelled in
    let behind : events_spelling xs ++ u ≡ events_spelling ys ++ w = ap (λ (l : List ℕ). drop 4 l) all in
    let count : length xs ≡ length ys = cc in
    let items : flat_map sized_spelling xs ++ u ≡ flat_map sized_spelling ys ++ w = ap (λ (l : List ℕ). drop 1 l) behind in
    let same = one_run xs ys u w p.each q.each count items in
    (same, p.spelled ∙ ap record_spelling same ∙ sym q.spelled)

-- no record of events that are lawful at the node stands here behind an open gate
abbrev pub Ends : List ℕ → Node → Type 0
Ends bytes node = (body rest : List ℕ) (events : List Event) → bytes ≡ OPEN ∷ (body ++ rest) → SpellsRecord body events → IsLawful node events → ⊥

pub one_front : (n : Node) (xs ys : List (List Event)) (a b u w : List ℕ) → SpellsRecords a xs → SpellsRecords b ys → IsLawful n (events_of xs)
    → IsLawful n (events_of ys)
    → Ends u (after n (events_of xs)) → Ends w (after n (events_of ys)) → a ++ u ≡ b ++ w → (xs ≡ ys) × (a ≡ b) × (u ≡ w)
one_front n [] [] a b u w p q lawful-x lawful-y ends-u ends-w e =
    (refl, p ∙ sym q, sym (ap (λ (l : List ℕ). l ++ u) p) ∙ e ∙ ap (λ (l : List ℕ). l ++ w) q)
one_front n [] (y ∷ ys) a b u w p q lawful-x lawful-y ends-u ends-w e =
    let all : u ≡ OPEN ∷ (q.0 ++ (q.1 ++ w)) =
    sym (ap (λ (l : List ℕ). l ++ u) p) ∙ e ∙ ap (λ (l : List ℕ). l ++ w) q.2 ∙ ap (λ (l : List ℕ). OPEN ∷ l) (append_assoc q.0 q.1 w) in
    absurd (ends-u q.0 (q.1 ++ w) y all q.3 (lawful_parts n y (events_of ys) lawful-y).0)
one_front n (x ∷ xs) [] a b u w p q lawful-x lawful-y ends-u ends-w e =
    let all : w ≡ OPEN ∷ (p.0 ++ (p.1 ++ u)) =
    sym (ap (λ (l : List ℕ). l ++ w) q) ∙ sym e ∙ ap (λ (l : List ℕ). l ++ u) p.2 ∙ ap (λ (l : List ℕ). OPEN ∷ l) (append_assoc p.0 p.1 u) in
    absurd (ends-w p.0 (p.1 ++ u) x all p.3 (lawful_parts n x (events_of xs) lawful-x).0)
one_front n (x ∷ xs) (y ∷ ys) a b u w p q lawful-x lawful-y ends-u ends-w e =
    let all : OPEN ∷ (p.0 ++ p.1) ++ u ≡ OPEN ∷ (q.0 ++ q.1) ++ w = ap (λ (l : List ℕ). l ++ u) (sym p.2) ∙ e ∙ ap (λ (l : List ℕ). l ++ w) q.2 in
    let behind : p.0 ++ (p.1 ++ u) ≡ q.0 ++ (q.1 ++ w) = sym (append_assoc p.0 p.1 u) ∙ ap (λ (l : List ℕ). drop 1 l) all ∙ append_assoc q.0 q.1 w in
    let first = one_record p.0 q.0 (p.1 ++ u) (q.1 ++ w) x y p.3 q.3 behind in
    let rest : p.1 ++ u ≡ q.1 ++ w = behind_front p.0 q.0 (p.1 ++ u) (q.1 ++ w) first.1 behind in
    let after-y : (l : List Event) → after n (y ++ l) ≡ after (after n x) l = λ l. after-append n y l ∙ ap (λ (z : List Event). after (after n z) l)
    (sym first.0) in
    let others = one_front (after n x) xs ys p.1 q.1 u w p.4 q.4
    (lawful_parts n x (events_of xs) lawful-x).1
    (subst (λ (z : List Event). IsLawful (after n z) (events_of ys)) (sym first.0) (lawful_parts n y (events_of ys) lawful-y).1)
    (subst (λ (m : Node). Ends u m) (after-append n x (events_of xs)) ends-u)
    (subst (λ (m : Node). Ends w m) (after-y (events_of ys)) ends-w)
    rest in (
      ap (λ (z : List Event). z ∷ xs) first.0 ∙ ap (λ (l : List (List Event)). y ∷ l) others.0,
      p.2 ∙ ap (λ (l : List ℕ). OPEN ∷ (l ++ p.1)) first.1 ∙ ap (λ (l : List ℕ). OPEN ∷ (q.0 ++ l)) others.1 ∙ sym q.2,
      others.2,
    )
