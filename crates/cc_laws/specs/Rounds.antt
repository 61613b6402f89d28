-- The rounds of operations: which answers a node counts, when it has as many as it needs, and whose they were.
--     awaits_acks phase       whether the pending phase waits for acknowledgements;  lacks_one: whether one answer more is enough
--     answers me s m          whether a message answers the pending round
--     counts c e              the peer whose answer an event counts for the pending round, if it counts one
--     ends_round c e          whether that is the last one that the round needs
--     begins_anew c e         whether the pending phase begins anew: it counts from nothing then, and its old round never ends
--     peers_along n ps es     the peers whose answers were counted for the round that pends after a list of events
--     Round n es, peers_of    a round that ended along a list, and the peers whose answers it counted
-- A law says that they are what the node's own state shows (Progress).
use Rattle.std.specs.Prelude.{◌≡◌, ◌==◌, ℕ, ◌+◌, Bool, true, false, ◌&&◌, ◌||◌, List, [], ◌∷◌, ◌++◌, Option, Some, None, if◌then◌else◌}
use Rattle.std.specs.Bool.{then_some}
use Rattle.cc_messages.specs.declared.event.Event.{Event}
use Rattle.cc_messages.specs.declared.event.Event.TheVariants as event
use Rattle.cc_messages.specs.declared.message.Message.{Message}
use Rattle.cc_messages.specs.declared.message.Message.TheVariants as message
use Rattle.cc_ops.specs.Ops.{Ops, Phase, Storing, StoringBack, is_own}
pub use Rattle.cc_ops.specs.Ops.{awaits_views, answers_in, need_in}
use Rattle.cc_node.specs.Core.{Core, asks_anew}
use Rattle.cc_node.specs.Node.{Node, step, after}

-- ---- the pending phase

abbrev pub awaits_acks : Phase → Bool
awaits_acks (Storing p) = true
awaits_acks (StoringBack p seen) = true
awaits_acks _ = false

abbrev pub lacks_one : Phase → Bool
lacks_one phase = (answers_in phase + 1) == need_in phase

-- ---- one event

-- it replies to what the round asks, or acknowledges what it stores: to this node, under the round's tag
abbrev pub answers : ℕ → Ops → Message → Bool
answers me s (message.QueryReply v tag q) = is_own me tag q s && awaits_views s.phase
answers me s (message.StoreAck tag q) = is_own me tag q s && awaits_acks s.phase
answers me s _ = false

abbrev pub counts : Core → Event → Option ℕ
counts c (event.Deliver from n m) = then_some (answers c.me c.ops m) from
counts c _ = None

abbrev pub ends_round : Core → Event → Bool
ends_round c (event.Deliver from n m) = answers c.me c.ops m && lacks_one c.ops.phase
ends_round c _ = false

abbrev pub begins_anew : Core → Event → Bool
begins_anew c (event.Deliver from n m) = asks_anew c from n m
begins_anew c _ = false

-- ---- a list of events

-- one more, where there is one
abbrev pub with_peer : Option ℕ → List ℕ → List ℕ
with_peer None peers = peers
with_peer (Some peer) peers = peer ∷ peers

-- a round that ends leaves none, as does a phase that begins anew: the next round counts from nothing
abbrev pub peers_next : Core → Event → List ℕ → List ℕ
peers_next c e peers = if begins_anew c e || ends_round c e then [] else with_peer (counts c e) peers

abbrev pub peers_along : Node → List ℕ → List Event → List ℕ
peers_along n peers [] = peers
peers_along n peers (e ∷ es) = peers_along (step n e) (peers_next n.core e peers) es

-- a round ended with that event
pub record Round (n : Node) (es : List Event) : Type 0 where
  pub before : List Event
  pub last : Event
  pub later : List Event
  pub parts : es ≡ before ++ last ∷ later
  pub ends : ends_round (after n before).core last ≡ true

abbrev pub peers_of : (n : Node) (es : List Event) → Round n es → List ℕ
peers_of n es round = with_peer (counts (after n round.before).core round.last) (peers_along n [] round.before)
