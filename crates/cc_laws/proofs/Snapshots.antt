-- Two double collects and a write between them, where any two rounds meet.
use Rattle.std.proofs.Common.{ℕ, ◌≤◌, List, [], ◌∷◌, take, refl, sym, subst, inl, inr}
use Rattle.std.specs.Prelude.{Option, IsSomeAnd}
use Rattle.cc_views.specs.Rows.{Pair, ViewMap}
use Rattle.cc_messages.specs.declared.answer.Answer.TheVariants as answer
use Rattle.cc_laws.specs.Clusters.{Cluster, Move}
use Rattle.cc_laws.specs.Runs.{Run, IsFreshCluster}
use Rattle.cc_laws.specs.Regular.{IsAnswered, IsStored, IsAhead, HasAtLeast, SeesWrite, RoundsMeet}
use Rattle.cc_laws.specs.DoubleCollects.{Moment, LacksWrite, DoubleCollect, IsBelow, Write, Collect}
use Rattle.cc_laws.specs.Snapshots.{WriteBetween}
use Rattle.cc_laws.proofs.Regularity.{Course, course, collects_share, store_shares}
use Rattle.cc_laws.proofs.Traces.{run_sent}
use Rattle.cc_laws.proofs.DoubleCollectSteps.{later, to_end, no_both, none_later, sees, in_turn}
use Rattle.cc_laws.proofs.Linearization.{linearized}

has_seen : (d : Cluster) (v : ViewMap) (q n : ℕ) → SeesWrite d v q n → HasAtLeast v q n
has_seen d v q n seen = subst (λ (o : Option Pair). IsSomeAnd o (λ e. n ≤ e.0)) (sym seen.3) seen.2

module _ (c d : Cluster) (moves : List (ℕ × Move)) (begins : IsFreshCluster c) (run : Run c moves d) (meet : RoundsMeet d) where
  abbrev along : Moment c moves → Course
  along m = let end = to_end c d moves begins run m in course c m.now d (take m.made moves) end.0 begins m.run end.1

  pub write_between : (a b : DoubleCollect c moves d) (m : Moment c moves) (q n s r : ℕ) → a.moment.made ≤ b.moment.made
      → LacksWrite a.moment.now q n → IsStored b.moment.now q n s r → IsAnswered m.now a.node a.x a.y (answer.Seen a.view)
      → IsAhead m.now b.node b.s b.r → WriteBetween c moves d a b q n s r
  write_between a b m q n s r le unasked stored answered ahead =
      let on = later c moves a.moment.made b.moment.made a.moment.now b.moment.now le a.moment.run b.moment.run in
      let unseen : HasAtLeast a.view q n → ⊥ = λ shown. no_both a.moment.now q n (none_later c d moves begins run a q n shown) unasked in
      let seen = sees c d moves begins run meet b b.moment q n s r stored b.apart in
      let line = linearized c d moves begins run meet (a ∷ b ∷ []) ((le, tt), (tt, tt)) in
      record {
        unasked = unasked;
        stored = stored;
        between = m;
        answered = answered;
        ahead = ahead;
        shared = collects_share (along b.moment) meet a.node a.s a.r a.view (run_sent a.moment.now on.0 b.moment.now on.1 _ a.first)
            b.node b.x b.y b.view b.second;
        shared_write = store_shares (along b.moment) meet q s r n stored b.node b.x b.y b.view b.second;
        within = in_turn c d moves begins run meet a b m answered ahead;
        unseen = unseen;
        seen = seen;
        key = line.0;
        order = line.1;
        behind_a = elim (line.1.total (Collect 0) (Write q n)) as (λ _. IsBelow (line.0 (Collect 0)) (line.0 (Write q n))) [
          | inl is ↦ cc
          | inr (inl before) ↦ before
          | inr (inr before) ↦ absurd (unseen ((line.1.shows 0 a refl q n).1 before))
        ];
        before_b = (line.1.shows 1 b refl q n).0 (has_seen d b.view q n seen);
      }
