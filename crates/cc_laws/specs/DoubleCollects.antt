-- Double collects: two collects of a node, one after the other, that are answered with one view. And what it means to put them and all
-- writes of a cluster into one order.
--     Moment c moves         the cluster after so many moves of a run
--     HasWrites c q n        node q has released n writing asks;  LacksWrite: fewer than n
--     DoubleCollect          at its moment the first collect was answered, and the ask of the second one wasn't released
--     AreInOrder             a list of them by ascending moments
--     Operation              a write of a node, by its number;  a double collect, by its place in the list
--     Precedes               the one was answered when the other one's ask wasn't released
--     IsBelow                the lexicographic order of lists of numbers
--     IsLinearization        a strict total order of all operations that keeps what precedes what, and in which a double collect shows the
--                            writes before it and no others
use Rattle.std.specs.Prelude.{◌≡◌, ◌⊎◌, ◌↔◌, ℕ, ◌+◌, ◌<◌, ◌≤◌, List, [], ◌∷◌, take, slice_get, Some, IsSomeAnd, ⊤}
use Rattle.std.specs.List.{AllByRecursion}
use Rattle.std.specs.FinMap as table
use Rattle.cc_views.specs.Rows.{ViewMap}
use Rattle.cc_views.specs.declared.value.Value.{Value}
use Rattle.cc_messages.specs.declared.answer.Answer.TheVariants as answer
use Rattle.cc_ops.specs.WaitingAsks.{writes_by}
use Rattle.cc_node.specs.Writes.{asked_along}
use Rattle.cc_laws.specs.Clusters.{Member, Cluster, Move}
use Rattle.cc_laws.specs.Runs.{Run, IsWrittenBy}
use Rattle.cc_laws.specs.Shown.{Has}
use Rattle.cc_laws.specs.Regular.{released_events, IsAnswered, IsStored, IsAhead, HasAtLeast}

pub record Moment (c : Cluster) (moves : List (ℕ × Move)) : Type 0 where
  pub made : ℕ
  pub now : Cluster
  pub run : Run c (take made moves) now

-- how many writing asks a member has released
abbrev pub writes_of : Member → ℕ
writes_of m = writes_by (asked_along (released_events m))

abbrev pub HasWrites : Cluster → ℕ → ℕ → Type 0
HasWrites c q n = IsSomeAnd (table.get c.members q) (λ m. n ≤ writes_of m)

abbrev pub LacksWrite : Cluster → ℕ → ℕ → Type 0
LacksWrite c q n = IsSomeAnd (table.get c.members q) (λ m. writes_of m < n)

-- request r of session s, and then request y of session x
pub record DoubleCollect (c : Cluster) (moves : List (ℕ × Move)) (d : Cluster) : Type 0 where
  pub node : ℕ
  pub s : ℕ
  pub r : ℕ
  pub x : ℕ
  pub y : ℕ
  pub view : ViewMap
  pub moment : Moment c moves
  pub first : IsAnswered moment.now node s r (answer.Seen view)
  pub apart : IsAhead moment.now node x y
  pub second : IsAnswered d node x y (answer.Seen view)

module _ (c : Cluster) (moves : List (ℕ × Move)) (d : Cluster) where
  abbrev pub AreInOrder : List (DoubleCollect c moves d) → Type 0
  AreInOrder [] = ⊤
  AreInOrder (a ∷ rest) = AllByRecursion (λ (b : DoubleCollect c moves d). a.moment.made ≤ b.moment.made) rest × AreInOrder rest

abbrev pub IsBelow : List ℕ → List ℕ → Type 0
IsBelow [] [] = ⊥
IsBelow [] (y ∷ ys) = ⊤
IsBelow (x ∷ xs) [] = ⊥
IsBelow (x ∷ xs) (y ∷ ys) = (x < y) ⊎ ((x ≡ y) × IsBelow xs ys)

pub data Operation : Type 0 where
  Write : (node number : ℕ) → Operation
  Collect : (place : ℕ) → Operation

module _ (c : Cluster) (moves : List (ℕ × Move)) (d : Cluster) (collects : List (DoubleCollect c moves d)) where
  -- by this moment
  abbrev pub IsAnsweredBy : Cluster → Operation → Type 0
  IsAnsweredBy now (Write q n) = (s : ℕ) × (r : ℕ) × IsStored now q n s r
  IsAnsweredBy now (Collect i) = (a : DoubleCollect c moves d) × (slice_get collects i ≡ Some a) × IsAnswered now a.node a.x a.y (answer.Seen a.view)

  -- not by this moment
  abbrev pub IsUnaskedBy : Cluster → Operation → Type 0
  IsUnaskedBy now (Write q n) = LacksWrite now q n
  IsUnaskedBy now (Collect i) = (a : DoubleCollect c moves d) × (slice_get collects i ≡ Some a) × IsAhead now a.node a.s a.r

  abbrev pub Precedes : Operation → Operation → Type 0
  Precedes o p = (moment : Moment c moves) × IsAnsweredBy moment.now o × IsUnaskedBy moment.now p

  pub record IsLinearization (before : Operation → Operation → Type 0) : Type 0 where
    pub irreflexive : (o : Operation) → before o o → ⊥
    pub transitive : (o p q : Operation) → before o p → before p q → before o q
    pub total : (o p : Operation) → (o ≡ p) ⊎ (before o p ⊎ before p o)
    -- the writes of a node by their numbers
    pub numbered : (q n m : ℕ) → n < m → before (Write q n) (Write q m)
    pub in_time : (o p : Operation) → Precedes o p → before o p
    pub shows : (i : ℕ) (a : DoubleCollect c moves d) → slice_get collects i ≡ Some a → (q n : ℕ)
        → HasAtLeast a.view q n ↔ before (Write q n) (Collect i)
    pub writes : (i : ℕ) (a : DoubleCollect c moves d) → slice_get collects i ≡ Some a → (q n : ℕ) (x : Value) → Has a.view q n x → IsWrittenBy d q n x
