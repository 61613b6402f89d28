-- Two nodes of one cluster, event after event: node 1 stores, and then node 2 collects. Its question is answered, but node 1
-- lets the answer lapse, so node 2 hears a snapshot at a gap, and asks anew. Another ask waits meanwhile.
--     Takes n e m os     node n takes the event, becomes m, and puts out these
use Rattle.std.proofs.Common.{◌≡◌, ℕ, ◌+◌, false, List, [], ◌∷◌, ◌++◌, length, refl}
use Rattle.std.specs.Prelude.{None}
use Rattle.std.specs.Ordering.{nat_cmp}
use Rattle.std.specs.FinMap as table
use Rattle.std.specs.FinMap.{FinMap}
use Rattle.cc_views.specs.NatSets as set
use Rattle.cc_views.specs.NatSets.{difference, union}
use Rattle.cc_views.specs.Rows.{ViewMap}
use Rattle.cc_views.specs.Merge.{merge}
use Rattle.cc_views.specs.declared.value.Value.{Value}
use Rattle.cc_changes.specs.ChangeSets.{ChangeSets}
use Rattle.cc_changes.specs.declared.fraction.Fraction.{Fraction}
use Rattle.cc_messages.specs.declared.answer.Answer.{Answer}
use Rattle.cc_messages.specs.declared.answer.Answer.TheVariants as answer
use Rattle.cc_messages.specs.declared.command.Command.{Command}
use Rattle.cc_messages.specs.declared.command.Command.TheVariants as command
use Rattle.cc_messages.specs.declared.event.Event.{Event}
use Rattle.cc_messages.specs.declared.event.Event.TheVariants as event
use Rattle.cc_messages.specs.declared.message.Message.{Message}
use Rattle.cc_messages.specs.declared.message.Message.TheVariants as message
use Rattle.cc_messages.specs.declared.output.Output.{Output}
use Rattle.cc_messages.specs.declared.output.Output.TheVariants as output
use Rattle.cc_links.specs.Links.{Link}
use Rattle.cc_sessions.specs.Sessions.{Requests}
use Rattle.cc_ops.specs.declared.pending_operation.Asked.{Asked}
use Rattle.cc_ops.specs.declared.pending_operation.Pending.{Pending}
use Rattle.cc_ops.specs.Ops.{Ops, Phase, Idle, Storing, Querying, StoringBack, nothing_stored, nothing_done}
use Rattle.cc_node.specs.Core.{next, outputs, asked_of}
use Rattle.cc_node.specs.Node.{Node, step}
use Rattle.cc_node.specs.Openings.{Opening, fresh}
use Rattle.cc_node.specs.Refusals.{decides, decides_within}
use Rattle.cc_laws.proofs.MapInsertions.{tables}

pub record Takes (n : Node) (e : Event) (m : Node) (os : List Output) : Type 0 where
  pub taken : decides n.core e ≡ None
  pub leads : step n e ≡ m
  pub puts : outputs n.core e ≡ os

-- ---- what a node is made of

abbrev pub four_fifths : Fraction
four_fifths = record { num = 4; den = 5 }

abbrev pub opening_of : ℕ → Opening
opening_of me = record { me = me; initial = 1 ∷ 2 ∷ []; contacts = []; beta = four_fifths; gamma = four_fifths; share = 32 }

abbrev pub link_of : ℕ → Link
link_of heard = record { start = 0; acked = 0; heard = heard }

-- where the first three posts lapsed
abbrev lapsed_of : ℕ → Link
lapsed_of heard = record { start = 0; acked = 3; heard = heard }

-- the latest one first
abbrev pub kept : List Message → FinMap nat_cmp Message
kept [] = table.empty
kept (m ∷ ms) = table.insert (kept ms) (length ms + 1) m

abbrev members : ChangeSets
members = record { entered = set.from_list (1 ∷ 2 ∷ []); joined = set.from_list (1 ∷ 2 ∷ []); left = set.empty }

-- its links to both, its operations, its posts, the last requests and the answers that it keeps
abbrev pub node_with : ℕ → Link → Link → Ops → List Message → Requests → FinMap nat_cmp Answer → Node
node_with me first second ops posts sessions answers = record {
  core = record {
    me = me;
    beta = four_fifths;
    gamma = four_fifths;
    churn = record { changes = members; echoes = 0; need = 0 };
    ops = ops;
    posts = length posts;
    links = table.insert (table.insert table.empty 2 second) 1 first;
    sessions = sessions;
  };
  outbox = record { last = length posts; posts = kept posts; answers = answers };
}

abbrev pub none : {X : Type 0} → FinMap nat_cmp X
none = table.empty

abbrev pub one : {X : Type 0} → ℕ → X → FinMap nat_cmp X
one k x = table.insert table.empty k x

abbrev pub value : Value
value = record { text = 0x61 ∷ []; max = 0; flag = false; set = set.empty }

abbrev pub view : ViewMap
view = one 1 (1, value)

abbrev pub stored : Message
stored = message.Store view 1 1

abbrev pub acked : Message
acked = message.StoreAck 1 1

abbrev pub queried : Message
queried = message.Query 1 2

abbrev pub replied : Message
replied = message.QueryReply view 1 2

abbrev pub snapshot : Message
snapshot = message.Snapshot members view

abbrev pub queried_anew : Message
queried_anew = message.Query 2 2

abbrev pub replied_anew : Message
replied_anew = message.QueryReply view 2 2

abbrev pub stored_back : Message
stored_back = message.Store view 3 2

abbrev pub acked_back : Message
acked_back = message.StoreAck 3 2

abbrev pub queried_next : Message
queried_next = message.Query 4 2

abbrev pub stores : Event
stores = event.Ask 7 1 (command.Store (0x61 ∷ []))

abbrev pub collects : Event
collects = event.Ask 9 1 command.Collect

abbrev pub waits : Event
waits = event.Ask 10 1 command.Collect

-- a post to both
abbrev pub both : ℕ → Message → List Output
both number m = output.Send 1 number m ∷ output.Send 2 number m ∷ []

abbrev pending : ℕ → Command → ℕ → Pending
pending session k count = record { asked = asked_of session 1 k; need = 2; count = count }

-- ---- node 1: it stores, and answers what node 2 asks then; what it posted to node 2 lapses in between

-- its operations once it wrote
abbrev pub wrote : Phase → Ops
wrote phase = record { view = view; number = 1; mine = value; tag = 1; share = 32; phase = phase; others = []; line = [] }

abbrev storing : ℕ → Ops
storing count = wrote (Storing (pending 7 (command.Store (0x61 ∷ [])) count))

-- so many messages heard of each node, this far with its operations, and these posts
abbrev first_with : Link → Link → Ops → List Message → FinMap nat_cmp Answer → Node
first_with first second ops posts answers = node_with 1 first second ops posts (one 7 1) answers

-- once it has answered its client
abbrev answered : Link → List Message → Node
answered second posts = first_with (link_of 2) second (wrote Idle) posts (one 7 answer.Stored)

abbrev pub a0 : Node
a0 = node_with 1 (link_of 0) (link_of 0) (nothing_done 32) [] none none

abbrev pub a1 : Node
a1 = first_with (link_of 0) (link_of 0) (storing 0) (stored ∷ []) none

abbrev pub a2 : Node
a2 = first_with (link_of 1) (link_of 0) (storing 0) (acked ∷ stored ∷ []) none

abbrev pub a3 : Node
a3 = first_with (link_of 2) (link_of 0) (storing 1) (acked ∷ stored ∷ []) none

abbrev pub a4 : Node
a4 = answered (link_of 1) (acked ∷ stored ∷ [])

abbrev pub a5 : Node
a5 = answered (link_of 2) (replied ∷ acked ∷ stored ∷ [])

abbrev pub a6 : Node
a6 = answered (lapsed_of 2) (replied ∷ acked ∷ stored ∷ [])

abbrev pub a7 : Node
a7 = answered (lapsed_of 2) (snapshot ∷ replied ∷ acked ∷ stored ∷ [])

abbrev pub a8 : Node
a8 = answered (lapsed_of 3) (replied_anew ∷ snapshot ∷ replied ∷ acked ∷ stored ∷ [])

abbrev pub a9 : Node
a9 = answered (lapsed_of 4) (replied_anew ∷ snapshot ∷ replied ∷ acked ∷ stored ∷ [])

abbrev pub a10 : Node
a10 = answered (lapsed_of 5) (replied_anew ∷ snapshot ∷ replied ∷ acked ∷ stored ∷ [])

abbrev pub a11 : Node
a11 = answered (lapsed_of 6) (acked_back ∷ replied_anew ∷ snapshot ∷ replied ∷ acked ∷ stored ∷ [])

pub begins_1 : fresh (opening_of 1) ≡ a0
unfolding fresh difference union
begins_1 = simp tables refl

pub to_a1 : Takes a0 stores a1 (both 1 stored)
unfolding step next merge difference union decides decides_within
to_a1 = record { taken = simp tables refl; leads = simp tables refl; puts = simp tables refl }

pub to_a2 : Takes a1 (event.Deliver 1 1 stored) a2 (output.Ack 1 1 ∷ both 2 acked)
unfolding step next merge difference union decides decides_within
to_a2 = record { taken = simp tables refl; leads = simp tables refl; puts = simp tables refl }

pub to_a3 : Takes a2 (event.Deliver 1 2 acked) a3 (output.Ack 1 2 ∷ [])
unfolding step next merge difference union decides decides_within
to_a3 = record { taken = simp tables refl; leads = simp tables refl; puts = refl }

pub to_a4 : Takes a3 (event.Deliver 2 1 acked) a4 (output.Ack 2 1 ∷ output.Reply 7 1 answer.Stored ∷ [])
unfolding step next merge difference union decides decides_within
to_a4 = record { taken = simp tables refl; leads = simp tables refl; puts = refl }

pub to_a5 : Takes a4 (event.Deliver 2 2 queried) a5 (output.Ack 2 2 ∷ both 3 replied)
unfolding step next merge difference union decides decides_within
to_a5 = record { taken = simp tables refl; leads = simp tables refl; puts = simp tables refl }

pub to_a6 : Takes a5 (event.Lapse 2) a6 ([])
unfolding step next merge difference union decides decides_within
to_a6 = record { taken = simp tables refl; leads = simp tables refl; puts = refl }

pub to_a7 : Takes a6 event.Snapshot a7 (both 4 snapshot)
unfolding step next merge difference union decides decides_within
to_a7 = record { taken = simp tables refl; leads = simp tables refl; puts = simp tables refl }

pub to_a8 : Takes a7 (event.Deliver 2 3 queried_anew) a8 (output.Ack 2 3 ∷ both 5 replied_anew)
unfolding step next merge difference union decides decides_within
to_a8 = record { taken = simp tables refl; leads = simp tables refl; puts = simp tables refl }

pub to_a9 : Takes a8 (event.Deliver 2 4 replied) a9 (output.Ack 2 4 ∷ [])
unfolding step next merge difference union decides decides_within
to_a9 = record { taken = simp tables refl; leads = simp tables refl; puts = refl }

pub to_a10 : Takes a9 (event.Deliver 2 5 replied_anew) a10 (output.Ack 2 5 ∷ [])
unfolding step next merge difference union decides decides_within
to_a10 = record { taken = simp tables refl; leads = simp tables refl; puts = refl }

pub to_a11 : Takes a10 (event.Deliver 2 6 stored_back) a11 (output.Ack 2 6 ∷ both 6 acked_back)
unfolding step next merge difference union decides decides_within
to_a11 = record { taken = simp tables refl; leads = simp tables refl; puts = simp tables refl }

-- ---- node 2: it acknowledges the store, and collects

-- its operations, and what it has seen
abbrev pub saw : ViewMap → ℕ → Phase → List Asked → Ops
saw seen tag phase line = record { view = seen; number = 0; mine = nothing_stored; tag = tag; share = 32; phase = phase; others = []; line = line }

abbrev waiting : List Asked
waiting = asked_of 10 1 command.Collect ∷ []

abbrev querying : ℕ → ℕ → Ops
querying tag count = saw view tag (Querying (pending 9 command.Collect count)) waiting

abbrev storing_back : ℕ → Ops
storing_back count = saw view 3 (StoringBack (pending 9 command.Collect count) view) waiting

-- once another ask waits
abbrev second_with : ℕ → ℕ → Ops → List Message → FinMap nat_cmp Answer → Node
second_with of_first of_second ops posts answers =
    node_with 2 (link_of of_first) (link_of of_second) ops posts (table.insert (one 9 1) 10 1) answers

abbrev pub b0 : Node
b0 = node_with 2 (link_of 0) (link_of 0) (nothing_done 32) [] none none

abbrev pub b1 : Node
b1 = node_with 2 (link_of 1) (link_of 0) (saw view 0 Idle []) (acked ∷ []) none none

abbrev pub b2 : Node
b2 = node_with 2 (link_of 1) (link_of 0) (saw view 1 (Querying (pending 9 command.Collect 0)) []) (queried ∷ acked ∷ []) (one 9 1) none

abbrev pub b3 : Node
b3 = second_with 1 0 (querying 1 0) (queried ∷ acked ∷ []) none

abbrev pub b4 : Node
b4 = second_with 4 0 (querying 2 0) (queried_anew ∷ queried ∷ acked ∷ []) none

abbrev pub b5 : Node
b5 = second_with 4 1 (querying 2 0) (queried_anew ∷ queried ∷ acked ∷ []) none

abbrev pub b6 : Node
b6 = second_with 4 2 (querying 2 0) (replied ∷ queried_anew ∷ queried ∷ acked ∷ []) none

abbrev pub b7 : Node
b7 = second_with 4 3 (querying 2 0) (replied_anew ∷ replied ∷ queried_anew ∷ queried ∷ acked ∷ []) none

abbrev pub b8 : Node
b8 = second_with 4 4 (querying 2 0) (replied_anew ∷ replied ∷ queried_anew ∷ queried ∷ acked ∷ []) none

abbrev pub b9 : Node
b9 = second_with 4 5 (querying 2 1) (replied_anew ∷ replied ∷ queried_anew ∷ queried ∷ acked ∷ []) none

abbrev pub b10 : Node
b10 = second_with 5 5 (storing_back 0) (stored_back ∷ replied_anew ∷ replied ∷ queried_anew ∷ queried ∷ acked ∷ []) none

abbrev pub b11 : Node
b11 = second_with 5 6 (storing_back 0) (acked_back ∷ stored_back ∷ replied_anew ∷ replied ∷ queried_anew ∷ queried ∷ acked ∷ []) none

abbrev pub b12 : Node
b12 = second_with 5 7 (storing_back 1) (acked_back ∷ stored_back ∷ replied_anew ∷ replied ∷ queried_anew ∷ queried ∷ acked ∷ []) none

abbrev pub b13 : Node
b13 = second_with 6 7 (saw view 4 (Querying (pending 10 command.Collect 0)) [])
    (queried_next ∷ acked_back ∷ stored_back ∷ replied_anew ∷ replied ∷ queried_anew ∷ queried ∷ acked ∷ []) (one 9 (answer.Seen view))

pub begins_2 : fresh (opening_of 2) ≡ b0
unfolding fresh difference union
begins_2 = simp tables refl

pub to_b1 : Takes b0 (event.Deliver 1 1 stored) b1 (output.Ack 1 1 ∷ both 1 acked)
unfolding step next merge difference union decides decides_within
to_b1 = record { taken = simp tables refl; leads = simp tables refl; puts = simp tables refl }

pub to_b2 : Takes b1 collects b2 (both 2 queried)
unfolding step next merge difference union decides decides_within
to_b2 = record { taken = simp tables refl; leads = simp tables refl; puts = simp tables refl }

pub to_b3 : Takes b2 waits b3 ([])
unfolding step next merge difference union decides decides_within
to_b3 = record { taken = simp tables refl; leads = simp tables refl; puts = refl }

pub to_b4 : Takes b3 (event.Deliver 1 4 snapshot) b4 (output.Ack 1 4 ∷ both 3 queried_anew)
unfolding step next merge difference union decides decides_within
to_b4 = record { taken = simp tables refl; leads = simp tables refl; puts = simp tables refl }

pub to_b5 : Takes b4 (event.Deliver 2 1 acked) b5 (output.Ack 2 1 ∷ [])
unfolding step next merge difference union decides decides_within
to_b5 = record { taken = simp tables refl; leads = simp tables refl; puts = refl }

pub to_b6 : Takes b5 (event.Deliver 2 2 queried) b6 (output.Ack 2 2 ∷ both 4 replied)
unfolding step next merge difference union decides decides_within
to_b6 = record { taken = simp tables refl; leads = simp tables refl; puts = simp tables refl }

pub to_b7 : Takes b6 (event.Deliver 2 3 queried_anew) b7 (output.Ack 2 3 ∷ both 5 replied_anew)
unfolding step next merge difference union decides decides_within
to_b7 = record { taken = simp tables refl; leads = simp tables refl; puts = simp tables refl }

pub to_b8 : Takes b7 (event.Deliver 2 4 replied) b8 (output.Ack 2 4 ∷ [])
unfolding step next merge difference union decides decides_within
to_b8 = record { taken = simp tables refl; leads = simp tables refl; puts = refl }

pub to_b9 : Takes b8 (event.Deliver 2 5 replied_anew) b9 (output.Ack 2 5 ∷ [])
unfolding step next merge difference union decides decides_within
to_b9 = record { taken = simp tables refl; leads = simp tables refl; puts = refl }

pub to_b10 : Takes b9 (event.Deliver 1 5 replied_anew) b10 (output.Ack 1 5 ∷ both 6 stored_back)
unfolding step next merge difference union decides decides_within
to_b10 = record { taken = simp tables refl; leads = simp tables refl; puts = simp tables refl }

pub to_b11 : Takes b10 (event.Deliver 2 6 stored_back) b11 (output.Ack 2 6 ∷ both 7 acked_back)
unfolding step next merge difference union decides decides_within
to_b11 = record { taken = simp tables refl; leads = simp tables refl; puts = simp tables refl }

pub to_b12 : Takes b11 (event.Deliver 2 7 acked_back) b12 (output.Ack 2 7 ∷ [])
unfolding step next merge difference union decides decides_within
to_b12 = record { taken = simp tables refl; leads = simp tables refl; puts = refl }

pub to_b13 : Takes b12 (event.Deliver 1 6 acked_back) b13 (output.Ack 1 6 ∷ both 8 queried_next ++ output.Reply 9 1 (answer.Seen view) ∷ [])
unfolding step next merge difference union decides decides_within
to_b13 = record { taken = simp tables refl; leads = simp tables refl; puts = simp tables refl }
