-- What double collects read of the simple objects; and the laws of double collects whose rounds share a node.
--     gone_on                 a row that goes on from another one
--     written_at              each row of a double collect was written
--     row_within              what lasts of a row is in each double collect whose view goes on from the one that has it
--     row_done                what lasts of a value that was written and answered is in each double collect whose second collect is asked later
--     within_shared, sees_shared    one view is within another, and sees a write, where two rounds counted one node
use Rattle.std.proofs.Common.{◌≡◌, ◌⊎◌, ℕ, ◌<◌, ◌≤◌, Bool, true, List, [], ◌∷◌, take, refl, ap, subst, ◌∙◌, inl, inr, arith}
use Rattle.std.specs.Prelude.{Option, Some, None}
use Rattle.std.specs.FinMap as table
use Rattle.std.proofs.lemmas.Bool.{or_left, eq-eqb}
use Rattle.cc_views.specs.NatSets as set
use Rattle.cc_views.specs.NatSets.{contains-insert}
use Rattle.cc_views.specs.Rows.{Pair, ViewMap}
use Rattle.cc_views.specs.declared.value.Value.{Value}
use Rattle.cc_messages.specs.declared.answer.Answer.TheVariants as answer
use Rattle.cc_messages.specs.declared.command.Command.{Command}
use Rattle.cc_messages.specs.declared.command.Command.TheVariants as command
use Rattle.cc_messages.specs.declared.output.Output.TheVariants as output
use Rattle.cc_objects.specs.Objects.{max_of, flag_of, set_of}
use Rattle.cc_ops.specs.Commands.{is_writing, written}
use Rattle.cc_ops.specs.Ops.{nothing_stored}
use Rattle.cc_node.specs.Writes.{asked_along}
use Rattle.cc_laws.specs.Clusters.{Member, Cluster, Move}
use Rattle.cc_laws.specs.Runs.{Run, IsFreshCluster, among_sent, IsWrittenBy}
use Rattle.cc_laws.specs.Orders.{GoesOn, IsFollowedBy}
use Rattle.cc_laws.specs.Written.{IsWriteOf}
use Rattle.cc_laws.specs.Regular.{IsAnswered, IsStored, IsAhead, SeesWrite, RoundsMeet, ShareNode}
use Rattle.cc_laws.specs.ReadBack.{IsDone}
use Rattle.cc_laws.specs.DoubleCollects.{Moment, DoubleCollect}
use Rattle.cc_laws.proofs.LastingWrites.{IsStable, value_stays, max_lasts, flag_lasts, set_lasts, max_bounds, max_least, flag_there, flag_from, set_there, set_from}
use Rattle.cc_laws.proofs.Agreement.{all_written}
use Rattle.cc_laws.proofs.ClusterSteps.{one_at}
use Rattle.cc_laws.proofs.Regularity.{Course, course, reading_end, one_shares, each_shares, collect_sees, collects_in_turn}
use Rattle.cc_laws.proofs.ReadingBack.{done_seen}
use Rattle.cc_laws.proofs.Traces.{run_sent}
use Rattle.cc_laws.proofs.DoubleCollectSteps.{Leads, led_on, later, to_end, answered_later}

gone_on : (o : Option Pair) (e : Pair) → GoesOn (Some e) o → (f : Pair) × (o ≡ Some f) × (e.0 ≤ f.0)
gone_on None e g = absurd g
gone_on (Some f) e (inl less) = (f, refl, omega (arith, less))
gone_on (Some f) e (inr same) = let is : e.0 ≡ f.0 = ap (λ (k : Pair). k.0) same in (f, refl, omega (arith, is))

module _ (c d : Cluster) (moves : List (ℕ × Move)) (begins : IsFreshCluster c) (run : Run c moves d) where
  written_at : (a : DoubleCollect c moves d) (node : ℕ) (e : Pair) → table.get a.view node ≡ Some e → IsWrittenBy d node e.0 e.1
  written_at a node e there =
      all_written c d moves begins run a.view
      (among_sent (record { from = a.node; output = output.Reply a.x a.y (answer.Seen a.view) }) a.second refl) node e.0 e.1 there

  row_within : (P : Value → Type 0) → IsStable P → (a b : DoubleCollect c moves d) → IsFollowedBy a.view b.view → (node : ℕ) (e : Pair)
      → table.get a.view node ≡ Some e → P e.1 → (f : Pair) × (table.get b.view node ≡ Some f) × P f.1
  row_within P stable a b follows node e there has =
      let row = gone_on (table.get b.view node) e (subst (λ (o : Option Pair). GoesOn o (table.get b.view node)) there (follows node)) in
      let first = written_at a node e there in
      let second = written_at b node row.0 row.1 in
      let is : second.0 ≡ first.0 = one_at d node node second.0 first.0 refl second.1 first.1 in
      let first_write = first.2 in
      let second_write : IsWriteOf first.0.events row.0.0 row.0.1 = subst (λ (m : Member). IsWriteOf m.events row.0.0 row.0.1) is second.2 in (
        row.0,
        row.1,
        value_stays P stable (asked_along first.0.events) nothing_stored e.1 row.0.1 has first_write.0 second_write.0 first_write.2 second_write.2
            (omega (arith, first_write.1, second_write.1, row.2)),
      )

  pub max_within : (a b : DoubleCollect c moves d) → IsFollowedBy a.view b.view → max_of a.view ≤ max_of b.view
  max_within a b follows =
      max_least a.view (max_of b.view) (λ node e there.
      let row = row_within (λ v. e.1.max ≤ v.max) (max_lasts e.1.max) a b follows node e there (omega arith) in
      let most = max_bounds b.view node row.0 row.1 in
      omega (arith, row.2, most))

  pub flag_within : (a b : DoubleCollect c moves d) → IsFollowedBy a.view b.view → flag_of a.view ≡ true → flag_of b.view ≡ true
  flag_within a b follows =
      flag_from a.view (flag_of b.view ≡ true) (λ node e there is.
      let row = row_within (λ v. v.flag ≡ true) flag_lasts a b follows node e there is in
      flag_there b.view node row.0 row.1 row.2)

  pub members_within : (a b : DoubleCollect c moves d) → IsFollowedBy a.view b.view → (k : ℕ) → set.contains (set_of a.view) k ≡ true
      → set.contains (set_of b.view) k ≡ true
  members_within a b follows k =
      set_from a.view k (set.contains (set_of b.view) k ≡ true) (λ node e there has.
      let row = row_within (λ v. set.contains v.set k ≡ true) (set_lasts k) a b follows node e there has in
      set_there b.view k node row.0 row.1 row.2)

  -- the run with a moment in its midst
  abbrev along : (m : Moment c moves) → Course
  along m = let end = to_end c d moves begins run m in course c m.now d (take m.made moves) end.0 begins m.run end.1

  -- ---- where any two rounds meet

  module _ (meet : RoundsMeet d) (a : DoubleCollect c moves d) (m : Moment c moves) (q s r : ℕ) where
    row_done : (P : Value → Type 0) → IsStable P → (it : Command) → is_writing it ≡ true → ((v : Value) → P (written it v)) → IsDone m.now q s r it
        → IsAhead m.now a.node a.x a.y → (e : Pair) × (table.get a.view q ≡ Some e) × P e.1
    row_done P stable it writes makes done ahead =
        let read = reading_end (along m) a.node a.x a.y (answer.Seen a.view) a.second (λ is. cc) in
        subst (λ (v : ViewMap). (e : Pair) × (table.get v q ≡ Some e) × P e.1) read.tells
        (done_seen (along m) q s r a.node a.x a.y ahead (each_shares (along m) meet q s r a.node a.x a.y) P stable it writes makes done (answer.Seen a.view) read)

    pub max_done : (k : ℕ) → IsDone m.now q s r (command.WriteMax k) → IsAhead m.now a.node a.x a.y → k ≤ max_of a.view
    max_done k done ahead =
        let row = row_done (λ v. k ≤ v.max) (max_lasts k) (command.WriteMax k) refl (λ v. omega arith) done ahead in
        let most = max_bounds a.view q row.0 row.1 in
        omega (arith, row.2, most)

    pub flag_done : IsDone m.now q s r command.SetFlag → IsAhead m.now a.node a.x a.y → flag_of a.view ≡ true
    flag_done done ahead =
        let row = row_done (λ v. v.flag ≡ true) flag_lasts command.SetFlag refl (λ v. refl) done ahead in
        flag_there a.view q row.0 row.1 row.2

    pub member_done : (k : ℕ) → IsDone m.now q s r (command.AddMember k) → IsAhead m.now a.node a.x a.y → set.contains (set_of a.view) k ≡ true
    member_done k done ahead =
        let row = row_done (λ v. set.contains v.set k ≡ true) (set_lasts k) (command.AddMember k) refl
        (λ v. contains-insert v.set k k ∙ or_left _ _ (eq-eqb k k refl)) done ahead in
        set_there a.view k q row.0 row.1 row.2

  -- ---- where two rounds share a node

  within_shared : (a b : DoubleCollect c moves d) → Leads a.moment.now b.moment.now → ShareNode b.moment.now d a.node a.s a.r b.node b.x b.y
      → IsFollowedBy a.view b.view
  within_shared a b on share =
      collects_in_turn (along b.moment) a.node a.s a.r b.node b.x b.y b.apart
      (one_shares (along b.moment) a.node a.s a.r b.node b.x b.y share) a.view (run_sent a.moment.now on.0 b.moment.now on.1 _ a.first) b.view b.second

  pub within_later : (a b : DoubleCollect c moves d) → a.moment.made ≤ b.moment.made → ShareNode b.moment.now d a.node a.s a.r b.node b.x b.y
      → IsFollowedBy a.view b.view
  within_later a b le = within_shared a b (later c moves a.moment.made b.moment.made a.moment.now b.moment.now le a.moment.run b.moment.run)

  pub in_turn_shared : (a b : DoubleCollect c moves d) (m : Moment c moves) → IsAnswered m.now a.node a.x a.y (answer.Seen a.view)
      → IsAhead m.now b.node b.s b.r → ShareNode b.moment.now d a.node a.s a.r b.node b.x b.y → IsFollowedBy a.view b.view
  in_turn_shared a b m has ahead =
      within_shared a b (led_on a.moment.now m.now b.moment.now
      (answered_later c d moves begins run a.moment m a.node a.x a.y a.view a.apart has)
      (answered_later c d moves begins run m b.moment b.node b.s b.r b.view ahead b.first))

  pub sees_shared : (a : DoubleCollect c moves d) (m : Moment c moves) (q n s r : ℕ) → IsStored m.now q n s r → IsAhead m.now a.node a.x a.y
      → ShareNode m.now d q s r a.node a.x a.y → SeesWrite d a.view q n
  sees_shared a m q n s r stored ahead share =
      collect_sees (along m) q s r a.node a.x a.y ahead (one_shares (along m) q s r a.node a.x a.y share) n stored a.view a.second
