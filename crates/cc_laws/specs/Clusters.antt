-- A cluster of nodes that crash and come back, over a network that loses, repeats and reorders what was sent.
--     Member                 a node: how it began, what it accepted, how much of that is durable, and how much was put out
--     Cluster                its members by their ids, and all that was ever sent
--     node_at m k            the node after the first k events that it accepted
--     Move, MovesBy          what may happen next
use Rattle.std.specs.Prelude.{◌≡◌, ℕ, ◌≤◌, List, [], ◌∷◌, ◌++◌, map, take, drop, length, None, ⊤}
use Rattle.std.specs.List.{Contains}
use Rattle.std.specs.Ordering.{nat_cmp}
use Rattle.std.specs.FinMap as table
use Rattle.std.specs.FinMap.{FinMap}
use Rattle.cc_messages.specs.declared.event.Event.{Event}
use Rattle.cc_messages.specs.declared.event.Event.TheVariants as event
use Rattle.cc_messages.specs.declared.message.Message.{Message}
use Rattle.cc_messages.specs.declared.output.Output.{Output}
use Rattle.cc_messages.specs.declared.output.Output.TheVariants as output
use Rattle.cc_node.specs.Node.{Node, after, line, HasOutput}
use Rattle.cc_node.specs.Openings.{Opening, fresh}
use Rattle.cc_node.specs.Refusals.{decides}

pub record Member : Type 0 where
  pub opening : Opening
  pub events : List Event
  pub released : ℕ
  pub durable : ℕ

-- an output, and who put it out
pub record Sent : Type 0 where
  pub from : ℕ
  pub output : Output

pub record Cluster : Type 0 where
  pub members : FinMap nat_cmp Member
  pub sent : List Sent

-- the node after its first k events
abbrev pub node_at : Member → ℕ → Node
node_at m k = after (fresh m.opening) (take k m.events)

abbrev pub live_node : Member → Node
live_node m = after (fresh m.opening) m.events

abbrev pub with_member : ℕ → Member → Cluster → Cluster
with_member q m c = record c { members = table.insert c.members q m }

abbrev pub with_sent : ℕ → List Output → Cluster → Cluster
with_sent q outputs c = record c { sent = c.sent ++ map (λ o. record { from = q; output = o }) outputs }

abbrev pub accepting : Event → Member → Member
accepting e m = record m { events = m.events ++ e ∷ [] }

-- what is put out as released rises to k
abbrev pub put_out : ℕ → Member → List Output
put_out k m = line (node_at m m.released) (drop m.released (take k m.events))

-- an event that isn't the delivery of a message
abbrev pub IsOwn : Event → Type 0
IsOwn (event.Deliver from n m) = ⊥
IsOwn _ = ⊤

pub data Move : Type 0 where
  -- an event of the node's own comes
  Accept : (e : Event) → Move
  -- a message comes that was sent to the node, perhaps long ago or more than once
  Receive : (from n : ℕ) (m : Message) → Move
  -- the first k events are durable
  Sync : (k : ℕ) → Move
  -- the outputs of the first k events are put out
  Release : (k : ℕ) → Move
  -- what may be put out again by then is
  Resend : (o : Output) → Move
  -- the first k events are left
  Crash : (k : ℕ) → Move

-- a move of node q, which is m
abbrev pub MovesBy : Cluster → ℕ → Member → Move → Cluster → Type 0
MovesBy c q m (Accept e) d = IsOwn e × (decides (live_node m).core e ≡ None) × (d ≡ with_member q (accepting e m) c)
MovesBy c q m (Receive from n k) d =
    Contains c.sent (record { from = from; output = output.Send q n k }) × (decides (live_node m).core (event.Deliver from n k) ≡ None)
    × (d ≡ with_member q (accepting (event.Deliver from n k) m) c)
MovesBy c q m (Sync k) d = (m.durable ≤ k) × (k ≤ length m.events) × (d ≡ with_member q (record m { durable = k }) c)
MovesBy c q m (Release k) d =
    (m.released ≤ k) × (k ≤ m.durable) × (d ≡ with_sent q (put_out k m) (with_member q (record m { released = k }) c))
MovesBy c q m (Resend o) d = HasOutput (node_at m m.released) o × (d ≡ with_sent q (o ∷ []) c)
MovesBy c q m (Crash k) d =
    (m.released ≤ k) × (k ≤ length m.events) × (d ≡ with_member q (record m { events = take k m.events; released = k; durable = k }) c)
