-- Which views a message, an answer, an output, an event and a node show. There is no other place where a view leaves a node,
-- or is kept to leave it.
--     in_message, in_answer, in_output     the view that is in one, if one is
--     in_event                             the view that an event brings from outside, if it brings one
--     Shows n v                            the node's view, the view that it stores back, or one in a kept post or answer
--     Has v p k x                          the view has value x of node p, under number k
use Rattle.std.specs.Prelude.{◌≡◌, ℕ, Option, Some, None}
use Rattle.std.specs.FinMap as table
use Rattle.cc_views.specs.Rows.{ViewMap}
use Rattle.cc_views.specs.declared.value.Value.{Value}
use Rattle.cc_messages.specs.declared.answer.Answer.{Answer}
use Rattle.cc_messages.specs.declared.answer.Answer.TheVariants as answer
use Rattle.cc_messages.specs.declared.event.Event.{Event}
use Rattle.cc_messages.specs.declared.event.Event.TheVariants as event
use Rattle.cc_messages.specs.declared.message.Message.{Message}
use Rattle.cc_messages.specs.declared.message.Message.TheVariants as message
use Rattle.cc_messages.specs.declared.output.Output.{Output}
use Rattle.cc_messages.specs.declared.output.Output.TheVariants as output
use Rattle.cc_ops.specs.Ops.{seen_in}
use Rattle.cc_node.specs.Node.{Node}

abbrev pub in_message : Message → Option ViewMap
in_message (message.EnterEcho c v from_joined q) = Some v
in_message (message.QueryReply v tag q) = Some v
in_message (message.Store v tag q) = Some v
in_message (message.Snapshot c v) = Some v
in_message _ = None

abbrev pub in_answer : Answer → Option ViewMap
in_answer (answer.Seen v) = Some v
in_answer _ = None

abbrev pub in_output : Output → Option ViewMap
in_output (output.Send to n m) = in_message m
in_output (output.Ack to n) = None
in_output (output.Reply s r a) = in_answer a

abbrev pub in_event : Event → Option ViewMap
in_event (event.Deliver from n m) = in_message m
in_event _ = None

pub data Shows (n : Node) (v : ViewMap) : Type 0 where
  held : v ≡ n.core.ops.view → Shows n v
  stored_back : seen_in n.core.ops.phase ≡ Some v → Shows n v
  posted : (k : ℕ) (m : Message) → table.get n.outbox.posts k ≡ Some m → in_message m ≡ Some v → Shows n v
  answered : (s : ℕ) (a : Answer) → table.get n.outbox.answers s ≡ Some a → in_answer a ≡ Some v → Shows n v

abbrev pub Has : ViewMap → ℕ → ℕ → Value → Type 0
Has v p k x = table.get v p ≡ Some (k, x)
