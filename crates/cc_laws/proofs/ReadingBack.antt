-- The simple objects are regular: what was written is read, and no reading goes back.
--     seen_written            each row of a view that was read was written
--     done_seen               a written value that was answered, or a later one of its node, is in a view that is read later
--     rows_last               of two views that were read one after the other
use Rattle.std.proofs.Common.{◌≡◌, ℕ, ◌+◌, ◌≤◌, Bool, true, List, [], ◌∷◌, ◌++◌, take, drop, length, refl, sym, ap, subst, ◌∙◌, inl, inr, arith}
use Rattle.std.specs.Prelude.{Option, Some, slice_get}
use Rattle.std.specs.List.{Contains}
use Rattle.std.specs.FinMap as table
use Rattle.std.proofs.lemmas.Bool.{or_left, eq-eqb}
use Rattle.std.proofs.lemmas.List.{take_at, take-append-drop, append_assoc}
use Rattle.cc_views.specs.NatSets as set
use Rattle.cc_views.specs.NatSets.{NatSet, contains-insert}
use Rattle.cc_views.specs.Rows.{Pair}
use Rattle.cc_views.specs.Merge.{IsKept}
use Rattle.cc_views.specs.declared.value.Value.{Value}
use Rattle.cc_messages.specs.declared.answer.Answer.{Answer}
use Rattle.cc_messages.specs.declared.answer.Answer.TheVariants as answer
use Rattle.cc_messages.specs.declared.command.Command.{Command}
use Rattle.cc_messages.specs.declared.command.Command.TheVariants as command
use Rattle.cc_messages.specs.declared.event.Event.{Event}
use Rattle.cc_messages.specs.declared.event.Event.TheVariants as event
use Rattle.cc_objects.specs.Objects.{max_of, flag_of, set_of}
use Rattle.cc_ops.specs.Commands.{is_writing, written}
use Rattle.cc_ops.specs.declared.pending_operation.Asked.{Asked}
use Rattle.cc_ops.specs.Ops.{StoringBack, nothing_stored, seen_in}
use Rattle.cc_ops.specs.WaitingAsks.{writes_by, written_by}
use Rattle.cc_node.specs.Core.{asked_of}
use Rattle.cc_node.specs.Node.{after}
use Rattle.cc_node.specs.Openings.{fresh}
use Rattle.cc_node.specs.Writes.{asked_along}
use Rattle.cc_laws.specs.Clusters.{Member, Cluster, node_at}
use Rattle.cc_laws.specs.Shown.{Shows, stored_back}
use Rattle.cc_laws.specs.Runs.{at_member, IsWrittenBy}
use Rattle.cc_laws.specs.Written.{values_of, IsWriteOf}
use Rattle.cc_laws.specs.Regular.{released_events, IsAnswered, IsWriteAsk, IsAhead}
use Rattle.cc_laws.specs.ReadBack.{IsDone}
use Rattle.cc_laws.proofs.LastingWrites.{IsStable, value_stays, value_there, max_lasts, flag_lasts, set_lasts, max_bounds, max_least, flag_there, flag_from}
use Rattle.cc_laws.proofs.LastingWrites.{set_there, set_from}
use Rattle.cc_laws.proofs.Agreement.{occurring_rows}
use Rattle.cc_laws.proofs.ClusterSteps.{Holds, IsAt, one_at, GrownAt, grows_same}
use Rattle.cc_laws.proofs.Once.{contains_cases}
use Rattle.cc_laws.proofs.Lists.{at_some}
use Rattle.cc_laws.proofs.Regularity.{RoundsShare, Reading, some_and, h_end, reading_mid, reading_end, stores_seen, reads_in_turn, Course, grown}
use Rattle.cc_laws.proofs.Traces.{place_later}
use Rattle.cc_laws.proofs.WritingAsks.{asked_both}

-- a front of what was released is a front of all
front_at : (es front rest : List Event) (k : ℕ) → take k es ≡ front ++ rest → take (length front) es ≡ front
front_at es front rest k parts =
    let all : es ≡ front ++ (rest ++ drop k es) =
    sym (take-append-drop k es) ∙ ap (λ (l : List Event). l ++ drop k es) parts ∙ append_assoc front rest (drop k es) in
    ap (take (length front)) all ∙ take_at front (rest ++ drop k es) (length front) refl

-- each row of a view that was read by then was written
seen_written : (c d : Cluster) → Holds d → (p s r : ℕ) (a : Answer) (read : Reading c p s r a) → GrownAt d p read.member → (node : ℕ) (e : Pair)
    → table.get read.seen node ≡ Some e → IsWrittenBy d node e.0 e.1
seen_written c d h p s r a read grown node e there =
    let m = read.member in
    let n = grown.0 in
    let grows = grown.2 in
    let front = read.op.before in
    let rest = read.op.here ∷ read.op.later ++ grows.longer.0 in
    let parts : released_events n ≡ front ++ rest = place_later m n grows front read.op.later read.op.here read.op.parts in
    let at : take (length front) n.events ≡ front = front_at n.events front rest n.released parts in
    let phase : (node_at n (length front)).core.ops.phase ≡ StoringBack read.pending read.seen =
    (λ i. (after (fresh (grows.opening i)) (at i)).core.ops.phase) ∙ read.phase in
    let shows : Shows (node_at n (length front)) read.seen = stored_back (ap seen_in phase) in
    at_some (λ (g : Pair). IsWrittenBy d node g.0 g.1) (table.get read.seen node) e there
    (occurring_rows d read.seen h (at_member p n (length front) grown.1 shows) node)

-- ---- a write that was answered

split_of : (es : List Event) (e : Event) → Contains es e → (before : List Event) × (later : List Event) × (es ≡ before ++ e ∷ later)
split_of [] e has = absurd (omega (arith, has.1))
split_of (x ∷ es) e has =
    elim (contains_cases x es e has) as (λ _. (before : List Event) × (later : List Event) × (x ∷ es ≡ before ++ e ∷ later)) [
      | inl is ↦ ([], es, ap (λ h. h ∷ es) is)
      | inr there ↦ let rest = split_of es e there in (x ∷ rest.0, rest.1, ap (λ l. x ∷ l) rest.2)
    ]

-- what is written of a node by the ask of that number or a later one has what lasts
later_has : (P : Value → Type 0) → IsStable P → (d : Cluster) (q : ℕ) (n : Member) → IsAt d q n
    → (before later : List Event) (s r : ℕ) (command : Command)
    → released_events n ≡ before ++ event.Ask s r command ∷ later → is_writing command ≡ true → ((v : Value) → P (written command v))
    → (k : ℕ) (y : Value) → writes_by (asked_along before) + 1 ≤ k → IsWrittenBy d q k y → P y
later_has P stable d q n at before later s r command parts writes makes k y le of =
    let is_n : of.0 ≡ n = one_at d q q of.0 n refl of.1 at in
    let write : IsWriteOf n.events k y = subst (λ (w : Member). IsWriteOf w.events k y) is_n of.2 in
    let rest = later ++ drop n.released n.events in
    let all : n.events ≡ before ++ event.Ask s r command ∷ rest =
    sym (take-append-drop n.released n.events) ∙ ap (λ (l : List Event). l ++ drop n.released n.events) parts
    ∙ append_assoc before (event.Ask s r command ∷ later) (drop n.released n.events) in
    let xs = asked_along before in
    let a = asked_of s r command in
    let asks : asked_along n.events ≡ xs ++ a ∷ asked_along rest = ap asked_along all ∙ asked_both before (event.Ask s r command ∷ rest) in
    let there : slice_get (values_of nothing_stored (xs ++ a ∷ asked_along rest)) write.0 ≡ Some y =
    ap (λ (l : List Asked). slice_get (values_of nothing_stored l) write.0) (sym asks) ∙ write.2 in
    value_stays P stable (xs ++ a ∷ asked_along rest) nothing_stored (written command (written_by xs nothing_stored)) y
    (makes (written_by xs nothing_stored)) (writes_by xs) write.0
    (value_there nothing_stored xs (asked_along rest) a writes) there (omega (arith, le, write.1))

-- ---- what clients are told

module _ (run : Course) (q s r p x y : ℕ) (ahead : IsAhead run.mid p x y) (share : RoundsShare run q s r p x y) where
  open run use {mid, d}

  module _ (P : Value → Type 0) (stable : IsStable P) where
    -- a value that was written and answered is in what is read later, or one that came after it
    pub done_seen : (command : Command) → is_writing command ≡ true → ((v : Value) → P (written command v)) → IsDone mid q s r command
        → (a : Answer) (read : Reading d p x y a) → (e : Pair) × (table.get read.seen q ≡ Some e) × P e.1
    done_seen command writes makes done a read =
        let m = done.0 in
        let split = split_of (released_events m) (event.Ask s r command) done.2 in
        let k = writes_by (asked_along split.0) + 1 in
        let ask : IsWriteAsk (released_events m) k s r =
        record { before = split.0; command = command; later = split.1; parts = split.2; writes = writes; number = refl } in
        let row = some_and (table.get read.seen q) (λ e. k ≤ e.0) (stores_seen run q s r p x y ahead share k (m, done.1, ask, done.3) a read) in
        let of = seen_written d d (h_end run) p x y a read (read.member, read.there, grows_same read.member read.member refl refl) q row.0 row.1 in
        let grew = grown run q m done.1 in
        let parts = place_later m grew.0 grew.2 split.0 split.1 (event.Ask s r command) split.2 in
        (row.0, row.1, later_has P stable d q grew.0 grew.1 split.0 (split.1 ++ grew.2.longer.0) s r command parts writes makes row.0.0 row.0.1 row.2 of)

    -- what lasts of a row that was read is read later
    rows_last : (a : Answer) (early : Reading mid q s r a) (b : Answer) (late : Reading d p x y b) (node : ℕ) (e : Pair)
        → table.get early.seen node ≡ Some e → P e.1 → (f : Pair) × (table.get late.seen node ≡ Some f) × P f.1
    rows_last a early b late node e there has =
        let most = reads_in_turn run q s r p x y ahead share a early b late node in
        let row = some_and (table.get late.seen node) (λ f. e.0 ≤ f.0) (subst (λ (o : Option Pair). IsKept o (table.get late.seen node)) there most) in
        let of_e = seen_written mid d (h_end run) q s r a early (grown run q early.member early.there) node e there in
        let of_f = seen_written d d (h_end run) p x y b late (late.member, late.there, grows_same late.member late.member refl refl) node row.0 row.1 in
        let is_m : of_f.0 ≡ of_e.0 = one_at d node node of_f.0 of_e.0 refl of_f.1 of_e.1 in
        let first_write = of_e.2 in
        let second_write : IsWriteOf of_e.0.events row.0.0 row.0.1 = subst (λ (m : Member). IsWriteOf m.events row.0.0 row.0.1) is_m of_f.2 in (
          row.0,
          row.1,
          value_stays P stable (asked_along of_e.0.events) nothing_stored e.1 row.0.1 has first_write.0 second_write.0 first_write.2 second_write.2
              (omega (arith, first_write.1, second_write.1, row.2)),
        )

  pub max_seen : (k : ℕ) → IsDone mid q s r (command.WriteMax k) → (n : ℕ) → IsAnswered d p x y (answer.Max n) → k ≤ n
  max_seen k done n has =
      let read = reading_end run p x y (answer.Max n) has (λ is. cc) in
      let row = done_seen (λ v. k ≤ v.max) (max_lasts k) (command.WriteMax k) refl (λ v. omega arith) done (answer.Max n) read in
      let most = max_bounds read.seen q row.0 row.1 in
      let is : n ≡ max_of read.seen = read.tells in
      omega (arith, row.2, most, is)

  pub max_in_turn : (k : ℕ) → IsAnswered mid q s r (answer.Max k) → (n : ℕ) → IsAnswered d p x y (answer.Max n) → k ≤ n
  max_in_turn k early_has n late_has =
      let early = reading_mid run q s r (answer.Max k) early_has (λ is. cc) in
      let late = reading_end run p x y (answer.Max n) late_has (λ is. cc) in
      let low : max_of early.seen ≤ max_of late.seen = max_least early.seen (max_of late.seen) (λ node e there.
      let row = rows_last (λ v. e.1.max ≤ v.max) (max_lasts e.1.max) (answer.Max k) early (answer.Max n) late node e there (omega arith) in
      let most = max_bounds late.seen node row.0 row.1 in
      omega (arith, row.2, most)) in
      let first : k ≡ max_of early.seen = early.tells in
      let second : n ≡ max_of late.seen = late.tells in
      omega (arith, low, first, second)

  pub flag_seen : IsDone mid q s r command.SetFlag → (b : Bool) → IsAnswered d p x y (answer.Flag b) → b ≡ true
  flag_seen done b has =
      let read = reading_end run p x y (answer.Flag b) has (λ is. cc) in
      let row = done_seen (λ v. v.flag ≡ true) flag_lasts command.SetFlag refl (λ v. refl) done (answer.Flag b) read in
      read.tells ∙ flag_there read.seen q row.0 row.1 row.2

  pub flag_in_turn : IsAnswered mid q s r (answer.Flag true) → (b : Bool) → IsAnswered d p x y (answer.Flag b) → b ≡ true
  flag_in_turn early_has b late_has =
      let early = reading_mid run q s r (answer.Flag true) early_has (λ is. cc) in
      let late = reading_end run p x y (answer.Flag b) late_has (λ is. cc) in
      late.tells ∙ flag_from early.seen (flag_of late.seen ≡ true) (λ node e there is.
      let row = rows_last (λ v. v.flag ≡ true) flag_lasts (answer.Flag true) early (answer.Flag b) late node e there is in
      flag_there late.seen node row.0 row.1 row.2)
      (sym early.tells)

  pub member_seen : (k : ℕ) → IsDone mid q s r (command.AddMember k) → (zs : NatSet) → IsAnswered d p x y (answer.Set zs) → set.contains zs k ≡ true
  member_seen k done zs has =
      let read = reading_end run p x y (answer.Set zs) has (λ is. cc) in
      let row = done_seen (λ v. set.contains v.set k ≡ true) (set_lasts k) (command.AddMember k) refl
      (λ v. contains-insert v.set k k ∙ or_left _ _ (eq-eqb k k refl)) done (answer.Set zs) read in
      ap (λ (z : NatSet). set.contains z k) read.tells ∙ set_there read.seen k q row.0 row.1 row.2

  pub members_in_turn : (ys : NatSet) → IsAnswered mid q s r (answer.Set ys) → (zs : NatSet) → IsAnswered d p x y (answer.Set zs)
      → (k : ℕ) → set.contains ys k ≡ true → set.contains zs k ≡ true
  members_in_turn ys early_has zs late_has k there_first =
      let early = reading_mid run q s r (answer.Set ys) early_has (λ is. cc) in
      let late = reading_end run p x y (answer.Set zs) late_has (λ is. cc) in
      ap (λ (z : NatSet). set.contains z k) late.tells ∙ set_from early.seen k (set.contains (set_of late.seen) k ≡ true) (λ node e there has.
      let row = rows_last (λ v. set.contains v.set k ≡ true) (set_lasts k) (answer.Set ys) early (answer.Set zs) late node e there has in
      set_there late.seen k node row.0 row.1 row.2)
      (ap (λ (z : NatSet). set.contains z k) (sym early.tells) ∙ there_first)
