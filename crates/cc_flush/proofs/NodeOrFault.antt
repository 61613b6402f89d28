-- Two sides stand for a node, or the reading rules name a fault.
--     apart           never both
--     one_fault       the fault is one
--     neither         it can't be that there is neither
use Rattle.std.proofs.Common.{◌≡◌, ◌⊎◌, inl, inr, ℕ, ◌+◌, ◌-◌, ◌<◌, ◌≤◌, Bool, true, false, cond, eqb, ltb, List, [], length, drop, slice_index}
use Rattle.std.proofs.Common.{get_or, Option, Some, None, Result, Ok, Err, refl, sym, ◌∙◌, ap, subst, arith}
use Rattle.std.proofs.lemmas.Bool.{cases_Bool, cases_lt, eqb-true, eqb-false}
use Rattle.cc_wire.proofs.Spelled.{IsBytes}
use Rattle.cc_site.specs.declared.site.Side.{Side}
use Rattle.cc_site.specs.declared.site.Side.TheVariants.{A, B}
use Rattle.cc_site.specs.Sides.{other}
use Rattle.cc_site.specs.Moments.{Contents}
use Rattle.cc_node.specs.Node.{Node}
use Rattle.cc_node_state.specs.Layouts.{IsVersion, layout_of}
use Rattle.cc_node_state.specs.Sides.{OPEN, StandsIn, Stands}
use Rattle.cc_node_state.specs.States.{SpellsNode}
use Rattle.cc_node_state.specs.Fronts.{generation_held, held_armed}
use Rattle.cc_checkpoint.specs.declared.side_choice.InUse.{InUse}
use Rattle.cc_checkpoint.specs.declared.open_fault.OpenFault.{OpenFault}
use Rattle.cc_checkpoint.specs.declared.open_fault.OpenFault.TheVariants.{NotFormatted, Damaged, Version, Device, NoMemory}
use Rattle.cc_checkpoint.specs.Faults.{◌>>=◌}
use Rattle.cc_checkpoint.specs.SideChoice.{generation_in, in_use, greater, chosen}
use Rattle.cc_checkpoint.specs.Heads.{size_of, state_of, HeadAt, HasVersion, HasState, HeadFails}
use Rattle.cc_checkpoint.proofs.SideChoiceLaws.{chosen_again}
use Rattle.cc_journal.specs.Scans.{ScansTo, StopsAt}
use Rattle.cc_flush.specs.Openings.{IsReadingFault, RecordsFail, SideFails, ReadingFails}
use Rattle.cc_flush.proofs.FoundSides.{held}
use Rattle.cc_flush.proofs.OneNode.{OneState, Read, read}

abbrev pub OneStop : Type 0
OneStop = (bytes : List ℕ) (start : Node) (place-x place-y : ℕ) → StopsAt bytes start place-x → StopsAt bytes start place-y → place-x ≡ place-y

abbrev pub ScanOrStop : Type 0
ScanOrStop = (bytes : List ℕ) (start node : Node) (size records events place : ℕ) → ScansTo bytes start node size records events → StopsAt bytes start place → ⊥

abbrev pub ScanOrStopThere : Type 0
ScanOrStopThere = (bytes : List ℕ) (start : Node) → ((node : Node) (size records events : ℕ) → ScansTo bytes start node size records events → ⊥)
    → ((place : ℕ) → StopsAt bytes start place → ⊥) → ⊥

-- ---- answers

abbrev answered : {T : Type 0} → T → Result T OpenFault
answered x = Ok x

abbrev failed : {T : Type 0} → OpenFault → Result T OpenFault
failed fault = Err fault

ok_is : {T : Type 0} (x y : T) → answered x ≡ answered y → x ≡ y
ok_is x y e = cc

err_is : {T : Type 0} (f g : OpenFault) → failed {T = T} f ≡ failed {T = T} g → f ≡ g
err_is f g e = cc

ok_err : {T : Type 0} (x : T) (fault : OpenFault) → answered x ≡ failed {T = T} fault → ⊥
ok_err x fault e = absurd cc

damaged_is : (on off : Side) (p q : ℕ) → on ≡ off → p ≡ q → Damaged on p ≡ Damaged off q
damaged_is on off p q same at = ap (λ (s : Side). Damaged s p) same ∙ ap (λ (n : ℕ). Damaged off n) at

-- ---- heads

-- what fails at a place of a head
abbrev PlaceFails : List ℕ → ℕ → Type 0
PlaceFails bytes place =
    ((place ≡ 9) × (length bytes < 10))
    ⊎ ((place ≡ 10) × HasVersion bytes × ((length bytes < 14) ⊎ (length bytes < 14 + size_of bytes)))
    ⊎ ((place ≡ 14) × HasState bytes × ((node : Node) → SpellsNode (layout_of (slice_index bytes 9)) (state_of bytes) node → ⊥))

too_short : (bytes : List ℕ) → (length bytes < 14) ⊎ (length bytes < 14 + size_of bytes) → 14 + size_of bytes ≤ length bytes → ⊥
too_short bytes (inl few) long = absurd (omega (arith, few, long))
too_short bytes (inr few) long = absurd (omega (arith, few, long))

place_once : (bytes : List ℕ) (p q : ℕ) → PlaceFails bytes p → PlaceFails bytes q → p ≡ q
place_once bytes p q (inl x) (inl y) = x.0 ∙ sym y.0
place_once bytes p q (inl x) (inr (inl y)) = absurd (omega (arith, x.1, y.1.there))
place_once bytes p q (inl x) (inr (inr y)) = absurd (omega (arith, x.1, y.1.long))
place_once bytes p q (inr (inl x)) (inl y) = absurd (omega (arith, y.1, x.1.there))
place_once bytes p q (inr (inl x)) (inr (inl y)) = x.0 ∙ sym y.0
place_once bytes p q (inr (inl x)) (inr (inr y)) = absurd (too_short bytes x.2 y.1.long)
place_once bytes p q (inr (inr x)) (inl y) = absurd (omega (arith, y.1, x.1.long))
place_once bytes p q (inr (inr x)) (inr (inl y)) = absurd (too_short bytes y.2 x.1.long)
place_once bytes p q (inr (inr x)) (inr (inr y)) = x.0 ∙ sym y.0

-- three versions are known
not_known : (version : ℕ) → eqb version 1 ≡ false → eqb version 2 ≡ false → eqb version 32 ≡ false → ¬ IsVersion version
not_known version first second third (inl e) = eqb-false version 1 first e
not_known version first second third (inr (inl e)) = eqb-false version 2 second e
not_known version first second third (inr (inr e)) = eqb-false version 32 third e

-- no version is unknown where a later field fails
version_or_place : (bytes : List ℕ) (place version : ℕ) → PlaceFails bytes place → 10 ≤ length bytes → slice_index bytes 9 ≡ version → ¬ IsVersion version → ⊥
version_or_place bytes place version (inl x) long is unknown = absurd (omega (arith, x.1, long))
version_or_place bytes place version (inr (inl x)) long is unknown = unknown (subst IsVersion is x.1.known)
version_or_place bytes place version (inr (inr x)) long is unknown = unknown (subst IsVersion is x.1.version.known)

place_or_head : (bytes : List ℕ) (place first : ℕ) (node : Node) → PlaceFails bytes place → HeadAt bytes node first → ⊥
place_or_head bytes place first node (inl x) head = absurd (omega (arith, x.1, head.long))
place_or_head bytes place first node (inr (inl x)) head = too_short bytes x.2 head.long
place_or_head bytes place first node (inr (inr x)) head = x.2 node head.state

module _ (side : Side) (bytes : List ℕ) where
  fails_or_head : (node : Node) (first : ℕ) (fault : OpenFault) → IsReadingFault fault → HeadFails side bytes fault → HeadAt bytes node first → ⊥
  fails_or_head node first NotFormatted is fails head = fails
  fails_or_head node first (Damaged on place) is fails head = place_or_head bytes place first node fails.1 head
  fails_or_head node first (Version version) is fails head = fails.2 (subst IsVersion fails.1 head.version)
  fails_or_head node first fault is fails head = is

  head_fails_once : (f g : OpenFault) → IsReadingFault f → IsReadingFault g → HeadFails side bytes f → HeadFails side bytes g → f ≡ g
  head_fails_once (Damaged on p) (Damaged off q) f-is g-is x y = damaged_is on off p q (x.0 ∙ sym y.0) (place_once bytes p q x.1 y.1)
  head_fails_once (Damaged on p) (Version version) f-is g-is x y = absurd (version_or_place bytes p version x.1 y.0 y.1 y.2)
  head_fails_once (Version version) (Damaged off q) f-is g-is x y = absurd (version_or_place bytes q version y.1 x.0 x.1 x.2)
  head_fails_once (Version version) (Version another) f-is g-is x y = ap Version (sym x.1 ∙ y.1)
  head_fails_once NotFormatted g f-is g-is x y = absurd x
  head_fails_once (Device fault) g f-is g-is x y = absurd f-is
  head_fails_once NoMemory g f-is g-is x y = absurd f-is
  head_fails_once f NotFormatted f-is g-is x y = absurd y
  head_fails_once f g f-is g-is x y = absurd g-is

-- ---- sides

module _ (one_state : OneState) (one_stop : OneStop) (scan_or_stop : ScanOrStop) where
  module _ (side : Side) (bytes : List ℕ) where
    head_once : (x y : Node) (p q : ℕ) → HeadAt bytes x p → HeadAt bytes y q → (p ≡ q) × (x ≡ y)
    head_once x y p q at_x at_y =
        let state = state_of bytes in
        (at_x.is ∙ sym at_y.is, (one_state (layout_of (slice_index bytes 9)) state state [] [] x y at_x.state at_y.state refl).0)

    fails_behind : (x y : Node) (p q : ℕ) (fault : OpenFault) → HeadAt bytes x p → HeadAt bytes y q → RecordsFail side bytes y q fault
        → RecordsFail side bytes x p fault
    fails_behind x y p q fault at_x at_y fails =
        let same = head_once y x q p at_y at_x in
        subst (λ (k : ℕ). RecordsFail side bytes x k fault) same.0 (subst (λ (n : Node). RecordsFail side bytes n q fault) same.1 fails)

    records_once : (node : Node) (first : ℕ) (f g : OpenFault) → RecordsFail side bytes node first f → RecordsFail side bytes node first g → f ≡ g
    records_once node first (Damaged on p) (Damaged off q) x y =
        let same = one_stop (drop first bytes) node (p - first) (q - first) x.2 y.2 in
        damaged_is on off p q (x.0 ∙ sym y.0) (omega (arith, same, x.1, y.1))
    records_once node first (Damaged on p) g x y = absurd y
    records_once node first f g x y = absurd x

    side_once : (f g : OpenFault) → IsReadingFault f → IsReadingFault g → SideFails side bytes f → SideFails side bytes g → f ≡ g
    side_once f g f-is g-is (inl x) (inl y) = head_fails_once side bytes f g f-is g-is x y
    side_once f g f-is g-is (inl x) (inr y) = absurd (fails_or_head side bytes y.0 y.1 f f-is x y.2)
    side_once f g f-is g-is (inr x) (inl y) = absurd (fails_or_head side bytes x.0 x.1 g g-is y x.2)
    side_once f g f-is g-is (inr x) (inr y) = records_once x.0 x.1 f g x.3 (fails_behind x.0 y.0 x.1 y.1 g x.2 y.2 y.3)

    scan_or_fault : (node : Node) (place : ℕ) (fault : OpenFault) (found : Read bytes node place) → RecordsFail side bytes found.start found.first fault → ⊥
    scan_or_fault node place (Damaged on at) found fails =
        scan_or_stop (drop found.first bytes) found.start node found.size found.records found.events (at - found.first) found.scans fails.2
    scan_or_fault node place fault found fails = fails

    side_apart : (node : Node) (place : ℕ) (fault : OpenFault) → IsReadingFault fault → Read bytes node place → SideFails side bytes fault → ⊥
    side_apart node place fault is found (inl x) = fails_or_head side bytes found.start found.first fault is x found.head
    side_apart node place fault is found (inr x) =
        scan_or_fault node place fault found (fails_behind found.start x.0 found.first x.1 fault found.head x.2 x.3)

  pub one_fault : (left : Contents) (f g : OpenFault) → IsReadingFault f → IsReadingFault g → ReadingFails left f → ReadingFails left g → f ≡ g
  one_fault left f g f-is g-is (inl x) (inl y) = err_is f g (sym x ∙ y)
  one_fault left f g f-is g-is (inl x) (inr y) = absurd (ok_err y.0 f (sym y.1 ∙ x))
  one_fault left f g f-is g-is (inr x) (inl y) = absurd (ok_err x.0 g (sym x.1 ∙ y))
  one_fault left f g f-is g-is (inr x) (inr y) =
      let same : y.0 ≡ x.0 = ok_is y.0 x.0 (sym y.1 ∙ x.1) in
      side_once x.0.side (left x.0.side) f g f-is g-is x.2 (subst (λ (u : InUse). SideFails u.side (left u.side) g) same y.2)

  -- ---- a node and a fault

  stands_or_fails : (left : Contents) (side : Side) (node : Node) (fault : OpenFault) → IsReadingFault fault → StandsIn (left side) (left (other side)) node
      → ReadingFails left fault → ⊥
  stands_or_fails left side node fault is stands fails =
      let number = generation_held (left side) stands.generation node stands.place stands.at.holds in
      let used = in_use side stands.generation in
      let chose : chosen (left A) (left B) ≡ Ok used = chosen_again left used (record {
        armed = held_armed (left side) stands.generation node stands.place stands.at.holds;
        long = number.0;
        from_one = number.1;
        is = number.2;
        yields = stands.at.yields;
      }) in
      elim fails [
        | inl none ↦ ok_err used fault (sym chose ∙ none)
        | inr some ↦
            let same : some.0 ≡ used = ok_is some.0 used (sym some.1 ∙ chose) in
            side_apart side (left side) node stands.place fault is (read (left side) stands.generation node stands.place stands.at.holds)
            (subst (λ (u : InUse). SideFails u.side (left u.side) fault) same some.2)
      ]

  pub apart : (left : Contents) (node : Node) (fault : OpenFault) → Stands (left A) (left B) node → IsReadingFault fault → ReadingFails left fault → ⊥
  apart left node fault (inl stands) is fails = stands_or_fails left A node fault is stands fails
  apart left node fault (inr stands) is fails = stands_or_fails left B node fault is stands fails

-- ---- neither

gate_fault : {T : Type 0} (b c : Bool) (x y : T) (bad fault : OpenFault) → IsReadingFault bad
    → cond b (cond c (Err bad) (Ok x)) (Ok y) ≡ failed {T = T} fault → IsReadingFault fault
gate_fault true true x y bad fault is e = subst IsReadingFault (err_is bad fault e) is
gate_fault b c x y bad fault is e = absurd cc

generation_fault : (side : Side) (bytes : List ℕ) (fault : OpenFault) → generation_in side bytes ≡ Err fault → IsReadingFault fault
unfolding generation_in
generation_fault side bytes fault e = gate_fault (eqb (get_or bytes 0 0) OPEN) _ _ _ (Damaged side 1) fault tt e

same_fault : {T : Type 0} (b c : Bool) (x y : T) (bad fault : OpenFault) → IsReadingFault bad
    → cond b (Err bad) (cond c (Ok x) (Ok y)) ≡ failed {T = T} fault → IsReadingFault fault
same_fault true c x y bad fault is e = subst IsReadingFault (err_is bad fault e) is
same_fault false true x y bad fault is e = absurd cc
same_fault false false x y bad fault is e = absurd cc

greater_fault : (a b : Option ℕ) (fault : OpenFault) → greater a b ≡ Err fault → IsReadingFault fault
unfolding greater
greater_fault None None fault e = subst IsReadingFault (err_is {T = InUse} NotFormatted fault e) tt
greater_fault (Some a) None fault e = absurd cc
greater_fault None (Some b) fault e = absurd cc
greater_fault (Some a) (Some b) fault e = same_fault (eqb a b) (ltb a b) (in_use B b) (in_use A a) (Damaged B 1) fault tt e

chosen_fault : (a b : List ℕ) (fault : OpenFault) → chosen a b ≡ Err fault → IsReadingFault fault
unfolding chosen
chosen_fault a b fault e = in_a (generation_in A a) refl e
  where
    in_b : (first : Option ℕ) (r : Result (Option ℕ) OpenFault) → generation_in B b ≡ r → (r >>= λ second. greater first second) ≡ Err fault
        → IsReadingFault fault
    in_b first (Ok second) is e = greater_fault first second fault e
    in_b first (Err bad) is e = subst IsReadingFault (err_is {T = InUse} bad fault e) (generation_fault B b bad is)

    in_a : (r : Result (Option ℕ) OpenFault) → generation_in A a ≡ r → (r >>= λ first. generation_in B b >>= λ second. greater first second) ≡ Err fault
        → IsReadingFault fault
    in_a (Ok first) is e = in_b first (generation_in B b) refl e
    in_a (Err bad) is e = subst IsReadingFault (err_is {T = InUse} bad fault e) (generation_fault A a bad is)

stands_in : (left : Contents) (side : Side) (node : Node) → StandsIn (left side) (left (other side)) node → Stands (left A) (left B) node
stands_in left A node stands = inl stands
stands_in left B node stands = inr stands

-- Where no fault of a side is named, its fields and records are read one after the other, up to the closed gate.
module _ (no_end : ScanOrStopThere) (left : Contents) (bytes : (side : Side) → IsBytes (left side))
    (no_node : (node : Node) → Stands (left A) (left B) node → ⊥)
    (no_fault : (fault : OpenFault) → IsReadingFault fault → ReadingFails left fault → ⊥) where
  module _ (used : InUse) (chose : chosen (left A) (left B) ≡ Ok used) where
    abbrev here : List ℕ
    here = left used.side

    no_side_fault : (fault : OpenFault) → IsReadingFault fault → SideFails used.side here fault → ⊥
    no_side_fault fault is fails = no_fault fault is (inr (used, chose, fails))

    module _ (start : Node) (first : ℕ) (head : HeadAt here start first) where
      no_stop : (place : ℕ) → StopsAt (drop first here) start place → ⊥
      no_stop place stops =
          let back : place ≡ first + place - first = omega arith in
          no_side_fault (Damaged used.side (first + place)) tt (inr (
            start,
            first,
            head,
            (refl, omega arith, subst (λ (n : ℕ). StopsAt (drop first here) start n) back stops),
          ))

      no_scan : (node : Node) (size records events : ℕ) → ScansTo (drop first here) start node size records events → ⊥
      no_scan node size records events scans =
          let at = held left used start node first size records events bytes chose head scans in
          no_node node (stands_in left used.side node (record { generation = used.generation; place = first + size; at = at }))

    no_head : (start : Node) (first : ℕ) → HeadAt here start first → ⊥
    no_head start first head = no_end (drop first here) start (no_scan start first head) (no_stop start first head)

    no_place : (place : ℕ) → PlaceFails here place → ⊥
    no_place place fails = no_side_fault (Damaged used.side place) tt (inl (refl, fails))

    behind_version : HasVersion here → ⊥
    behind_version version = elim (cases_lt (length here) 14) [
      | inl few ↦ no_place 10 (inr (inl (refl, version, inl few)))
      | inr long ↦ elim (cases_lt (length here) (14 + size_of here)) [
        | inl few ↦ no_place 10 (inr (inl (refl, version, inr few)))
        | inr all ↦ no_place 14 (inr (inr (
          refl,
          record { version = version; long = all },
          λ node spelled. no_head node (14 + size_of here) (record { version = version.known; is = refl; long = all; state = spelled }),
        )))
      ]
    ]

    on_side : ⊥
    on_side =
        let version = slice_index here 9 in
        elim (cases_lt (length here) 10) [
          | inl few ↦ no_place 9 (inl (refl, few))
          | inr there ↦ elim (cases_Bool (eqb version 1)) [
            | inl first ↦ behind_version (record { there = there; known = inl (eqb-true _ _ first) })
            | inr apart ↦ elim (cases_Bool (eqb version 2)) [
              | inl second ↦ behind_version (record { there = there; known = inr (inl (eqb-true _ _ second)) })
              | inr lined ↦ elim (cases_Bool (eqb version 32)) [
                | inl third ↦ behind_version (record { there = there; known = inr (inr (eqb-true _ _ third)) })
                | inr unknown ↦ no_side_fault (Version version) tt (inl (there, refl, not_known version apart lined unknown))
              ]
            ]
          ]
        ]

  by_choice : (r : Result InUse OpenFault) → chosen (left A) (left B) ≡ r → ⊥
  by_choice (Ok used) is = on_side used is
  by_choice (Err fault) is = no_fault fault (chosen_fault (left A) (left B) fault is) (inl is)

  pub neither : ⊥
  neither = by_choice (chosen (left A) (left B)) refl
