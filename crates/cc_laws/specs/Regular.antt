-- What it means that collects are regular: each sees the stores that ended before it began, and none goes back.
--     released_events m         what a node has released: what no crash takes from it, and all that others know of
--     IsAnswered c p s r a      this answer to request r of session s has left node p
--     IsWriteAsk es k s r       request r of session s is the k-th writing ask among the events
--     IsStored c q k s r        it was answered
--     IsAhead c p s r           node p hasn't released this request, nor a later one of the session
--     HasAtLeast v q k          the view has a row of node q that is numbered k or higher
--     SeesWrite c v q k         it is the k-th write of node q, or a later one
--     RoundsMeet c              any two rounds that ended in the cluster counted an answer of one same node
--     SharedRounds, ShareNode   so did a round that stored for one request, and one that queried for another
use Rattle.std.specs.Prelude.{◌≡◌, ℕ, ◌+◌, ◌<◌, ◌≤◌, true, List, ◌∷◌, ◌++◌, take, Some, IsSomeAnd}
use Rattle.std.specs.List.{Contains}
use Rattle.std.specs.FinMap as table
use Rattle.cc_views.specs.Rows.{ViewMap}
use Rattle.cc_views.specs.declared.value.Value.{Value}
use Rattle.cc_messages.specs.declared.answer.Answer.{Answer}
use Rattle.cc_messages.specs.declared.answer.Answer.TheVariants as answer
use Rattle.cc_messages.specs.declared.command.Command.{Command}
use Rattle.cc_messages.specs.declared.event.Event.{Event}
use Rattle.cc_messages.specs.declared.event.Event.TheVariants as event
use Rattle.cc_messages.specs.declared.output.Output.TheVariants as output
use Rattle.cc_ops.specs.declared.pending_operation.Asked.{Asked}
use Rattle.cc_ops.specs.Commands.{is_writing}
use Rattle.cc_ops.specs.Ops.{Phase, pending}
use Rattle.cc_ops.specs.WaitingAsks.{writes_by}
use Rattle.cc_sessions.specs.Sessions.{last_request}
use Rattle.cc_node.specs.Node.{after}
use Rattle.cc_node.specs.Openings.{fresh}
use Rattle.cc_node.specs.Writes.{asked_along}
use Rattle.cc_laws.specs.Clusters.{Member, Cluster, node_at}
use Rattle.cc_laws.specs.Runs.{IsWrittenBy}
use Rattle.cc_laws.specs.Rounds.{awaits_views, awaits_acks, Round, peers_of}
use Rattle.cc_laws.specs.Shown.{Has}

abbrev pub released_events : Member → List Event
released_events m = take m.released m.events

-- ---- operations

abbrev pub IsAnswered : Cluster → ℕ → ℕ → ℕ → Answer → Type 0
IsAnswered c p s r a = Contains c.sent (record { from = p; output = output.Reply s r a })

pub record IsWriteAsk (es : List Event) (k s r : ℕ) : Type 0 where
  pub before : List Event
  pub command : Command
  pub later : List Event
  pub parts : es ≡ before ++ event.Ask s r command ∷ later
  pub writes : is_writing command ≡ true
  pub number : k ≡ writes_by (asked_along before) + 1

abbrev pub IsStored : Cluster → ℕ → ℕ → ℕ → ℕ → Type 0
IsStored c q k s r = (m : Member) × (table.get c.members q ≡ Some m) × IsWriteAsk (released_events m) k s r × IsAnswered c q s r answer.Stored

-- so where it hasn't accepted it, too
abbrev pub IsAhead : Cluster → ℕ → ℕ → ℕ → Type 0
IsAhead c p s r = (m : Member) × (table.get c.members p ≡ Some m) × (last_request (node_at m m.released).core.sessions s < r)

-- ---- what is seen

abbrev pub HasAtLeast : ViewMap → ℕ → ℕ → Type 0
HasAtLeast v q k = IsSomeAnd (table.get v q) (λ e. k ≤ e.0)

abbrev pub SeesWrite : Cluster → ViewMap → ℕ → ℕ → Type 0
SeesWrite c v q k = (n : ℕ) × (x : Value) × (k ≤ n) × Has v q n x × IsWrittenBy c q n x

-- ---- quorums

abbrev pub RoundOf : Member → Type 0
RoundOf m = Round (fresh m.opening) (released_events m)

abbrev pub Counted : (m : Member) → RoundOf m → ℕ → Type 0
Counted m round r = Contains (peers_of (fresh m.opening) (released_events m) round) r

abbrev pub RoundsMeet : Cluster → Type 0
RoundsMeet c =
    (p q : ℕ) (m n : Member) → table.get c.members p ≡ Some m → table.get c.members q ≡ Some n → (first : RoundOf m) (second : RoundOf n)
    → (r : ℕ) × Counted m first r × Counted n second r

abbrev pub phase_in : (m : Member) → RoundOf m → Phase
phase_in m round = (after (fresh m.opening) round.before).core.ops.phase

-- this request is one of these asks
abbrev pub HasAsked : List Asked → ℕ → ℕ → Type 0
HasAsked asks s r = (a : Asked) × Contains asks a × (a.session ≡ s) × (a.request ≡ r)

-- a round of the operations that this request asked for, with others or alone
abbrev pub IsRoundFor : (m : Member) → RoundOf m → ℕ → ℕ → Type 0
IsRoundFor m round s r = HasAsked (pending (after (fresh m.opening) round.before).core.ops) s r

-- a round that stored for request r of session s, one that queried for request y of session x, and a node that both counted
pub record SharedRounds (m n : Member) (s r x y : ℕ) : Type 0 where
  pub first : RoundOf m
  pub stored : awaits_acks (phase_in m first) ≡ true
  pub of_first : IsRoundFor m first s r
  pub second : RoundOf n
  pub queried : awaits_views (phase_in n second) ≡ true
  pub of_second : IsRoundFor n second x y
  pub peer : ℕ
  pub in_first : Counted m first peer
  pub in_second : Counted n second peer

-- one node acknowledged what request r of session s of node q stored, and replied to the query of request y of session x of node p
pub record ShareNode (mid d : Cluster) (q s r p x y : ℕ) : Type 0 where
  pub earlier : Member
  pub later : Member
  pub is_earlier : table.get mid.members q ≡ Some earlier
  pub is_later : table.get d.members p ≡ Some later
  pub rounds : SharedRounds earlier later s r x y
