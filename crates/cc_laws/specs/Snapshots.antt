-- Two double collects of a run and a write between them: what the laws presuppose of them, and what they say then.
--     HasShare share c              each node lets so many asks of one kind begin together
--     IsOfSession a q s             both collects were asked by session s of node q
--     AreOfOneRound d q s r x y     request r of session s and request y of session x of node q were asked in one round
--     row_of_write q command        the row of a node that wrote once, by this command
--     WriteBetween a b q n s r      write n of node q, which is request r of session s, was asked behind the moment of a and answered by that of b
use Rattle.std.specs.Prelude.{◌≡◌, ℕ, true, List, [], ◌∷◌, Some}
use Rattle.std.specs.FinMap as table
use Rattle.cc_views.specs.declared.row.Row.{Row}
use Rattle.cc_messages.specs.declared.answer.Answer.TheVariants as answer
use Rattle.cc_messages.specs.declared.command.Command.{Command}
use Rattle.cc_ops.specs.Commands.{written}
use Rattle.cc_ops.specs.Ops.{nothing_stored}
use Rattle.cc_laws.specs.Clusters.{Member, Cluster, Move}
use Rattle.cc_laws.specs.Orders.{IsFollowedBy}
use Rattle.cc_laws.specs.Rounds.{awaits_views}
use Rattle.cc_laws.specs.Regular.{IsAnswered, IsStored, IsAhead, HasAtLeast, SeesWrite, RoundOf, phase_in, IsRoundFor, ShareNode}
use Rattle.cc_laws.specs.DoubleCollects.{Moment, LacksWrite, DoubleCollect, IsBelow, Operation, Write, Collect, IsLinearization}

abbrev pub HasShare : ℕ → Cluster → Type 0
HasShare share c = (q : ℕ) (m : Member) → table.get c.members q ≡ Some m → m.opening.share ≡ share

abbrev pub IsOfSession : {c : Cluster} {moves : List (ℕ × Move)} {d : Cluster} → DoubleCollect c moves d → ℕ → ℕ → Type 0
IsOfSession a q s = (a.node ≡ q) × (a.s ≡ s) × (a.x ≡ s)

abbrev pub AreOfOneRound : Cluster → ℕ → ℕ → ℕ → ℕ → ℕ → Type 0
AreOfOneRound d q s r x y =
    (m : Member) × (table.get d.members q ≡ Some m) × (round : RoundOf m) × (awaits_views (phase_in m round) ≡ true)
    × IsRoundFor m round s r × IsRoundFor m round x y

abbrev pub row_of_write : ℕ → Command → Row
row_of_write q command = record { node = q; number = 1; value = written command nothing_stored }

pub record WriteBetween (c : Cluster) (moves : List (ℕ × Move)) (d : Cluster) (a b : DoubleCollect c moves d) (q n s r : ℕ) : Type 0 where
  pub unasked : LacksWrite a.moment.now q n
  pub stored : IsStored b.moment.now q n s r
  -- a was answered at a moment at which b wasn't asked
  pub between : Moment c moves
  pub answered : IsAnswered between.now a.node a.x a.y (answer.Seen a.view)
  pub ahead : IsAhead between.now b.node b.s b.r
  -- one node acknowledged what a's first collect stored back, and replied to the query of b's second one; and one so for the write
  pub shared : ShareNode b.moment.now d a.node a.s a.r b.node b.x b.y
  pub shared_write : ShareNode b.moment.now d q s r b.node b.x b.y
  -- so the view of a is within that of b, which alone has the write
  pub within : IsFollowedBy a.view b.view
  pub unseen : HasAtLeast a.view q n → ⊥
  pub seen : SeesWrite d b.view q n
  -- and there is an order of all writes and both of them: a, the write, b
  pub key : Operation → List ℕ
  pub order : IsLinearization c moves d (a ∷ b ∷ []) (λ o p. IsBelow (key o) (key p))
  pub behind_a : IsBelow (key (Collect 0)) (key (Write q n))
  pub before_b : IsBelow (key (Write q n)) (key (Collect 1))
