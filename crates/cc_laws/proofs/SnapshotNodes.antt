-- Two nodes of one cluster that stay its only members and let one ask begin at a time, event after event. Node 1 adds 3 to its set, and
-- session 9 of node 2 collects twice. Then session 8 of node 2 sets the flag; session 10, whose ask waits meanwhile, collects twice behind it.
--     queried, replied, stored, acked     the messages of a round of node 2, by its tag
--     first_0, first_with, served         node 1: as it begins, while it stores, and then
--     second_0, second_with               node 2
use Rattle.std.proofs.Common.{◌≡◌, ℕ, ◌-◌, true, false, List, [], ◌∷◌, ◌++◌, drop, refl}
use Rattle.std.specs.FinMap as table
use Rattle.std.specs.FinMap.{FinMap}
use Rattle.std.specs.Ordering.{nat_cmp}
use Rattle.cc_views.specs.NatSets as set
use Rattle.cc_views.specs.NatSets.{difference, union}
use Rattle.cc_views.specs.Rows.{ViewMap}
use Rattle.cc_views.specs.Merge.{merge}
use Rattle.cc_views.specs.declared.value.Value.{Value}
use Rattle.cc_messages.specs.declared.answer.Answer.{Answer}
use Rattle.cc_messages.specs.declared.answer.Answer.TheVariants as answer
use Rattle.cc_messages.specs.declared.command.Command.{Command}
use Rattle.cc_messages.specs.declared.command.Command.TheVariants as command
use Rattle.cc_messages.specs.declared.event.Event.TheVariants as event
use Rattle.cc_messages.specs.declared.message.Message.{Message}
use Rattle.cc_messages.specs.declared.message.Message.TheVariants as message
use Rattle.cc_messages.specs.declared.output.Output.TheVariants as output
use Rattle.cc_sessions.specs.Sessions.{Requests}
use Rattle.cc_ops.specs.declared.pending_operation.Asked.{Asked}
use Rattle.cc_ops.specs.declared.pending_operation.Pending.{Pending}
use Rattle.cc_ops.specs.Ops.{Ops, Phase, Idle, Storing, Querying, StoringBack, nothing_stored, nothing_done}
use Rattle.cc_node.specs.Core.{next, asked_of}
use Rattle.cc_node.specs.Node.{Node, step}
use Rattle.cc_node.specs.Openings.{Opening, fresh}
use Rattle.cc_node.specs.Refusals.{decides, decides_within}
use Rattle.cc_laws.proofs.MapInsertions.{tables}
use Rattle.cc_laws.proofs.TwoNodes.{Takes, opening_of, link_of, node_with, none, one, both}

abbrev pub opening : ℕ → Opening
opening me = record (opening_of me) { share = 1 }

abbrev pub added : Value
added = record { text = []; max = 0; flag = false; set = set.insert set.empty 3 }

abbrev pub flagged : Value
flagged = record { text = []; max = 0; flag = true; set = set.empty }

-- before the flag is set, and after
abbrev pub early : ViewMap
early = one 1 (1, added)

abbrev pub late : ViewMap
late = table.insert (one 2 (1, flagged)) 1 (1, added)

abbrev pub added_by_1 : Message
added_by_1 = message.Store early 1 1

abbrev pub acked_by_1 : Message
acked_by_1 = message.StoreAck 1 1

abbrev pub queried : ℕ → Message
queried tag = message.Query tag 2

abbrev pub replied : ViewMap → ℕ → Message
replied seen tag = message.QueryReply seen tag 2

abbrev pub stored : ViewMap → ℕ → Message
stored seen tag = message.Store seen tag 2

abbrev pub acked : ℕ → Message
acked tag = message.StoreAck tag 2

abbrev pending : ℕ → ℕ → Command → ℕ → Pending
pending session request k count = record { asked = asked_of session request k; need = 2; count = count }

-- ---- node 1: it stores, and serves node 2 then

-- its first so many posts, the latest one first
abbrev first_posts : ℕ → List Message
first_posts count =
    drop (11 - count)
    (acked 9 ∷ replied late 8 ∷ acked 7 ∷ replied late 6 ∷ acked 5 ∷ acked 4 ∷ replied early 3 ∷ acked 2 ∷ replied early 1 ∷ acked_by_1 ∷ added_by_1 ∷ [])

abbrev adding : ℕ → Phase
adding count = Storing (pending 7 1 (command.AddMember 3) count)

abbrev pub first_0 : Node
first_0 = node_with 1 (link_of 0) (link_of 0) (nothing_done 1) [] none none

-- so many messages heard of each node, its view, how far its operation has come, and so many posts
abbrev pub first_with : ℕ → ℕ → ViewMap → Phase → ℕ → FinMap nat_cmp Answer → Node
first_with own other seen phase posts answers =
    node_with 1 (link_of own) (link_of other)
    (record { view = seen; number = 1; mine = added; tag = 1; share = 1; phase = phase; others = []; line = [] })
    (first_posts posts) (one 7 1) answers

-- once it has answered its client
abbrev pub served : ℕ → ViewMap → ℕ → Node
served other seen posts = first_with 2 other seen Idle posts (one 7 answer.Stored)

pub begins_1 : fresh (opening 1) ≡ first_0
unfolding fresh difference union
begins_1 = simp tables refl

pub to_first_1 : Takes first_0 (event.Ask 7 1 (command.AddMember 3)) (first_with 0 0 early (adding 0) 1 none) (both 1 added_by_1)
unfolding step next merge difference union decides decides_within
to_first_1 = record { taken = simp tables refl; leads = simp tables refl; puts = simp tables refl }

pub to_first_2 : Takes (first_with 0 0 early (adding 0) 1 none) (event.Deliver 1 1 added_by_1) (first_with 1 0 early (adding 0) 2 none) (output.Ack 1 1 ∷ both 2 acked_by_1)
unfolding step next merge difference union decides decides_within
to_first_2 = record { taken = simp tables refl; leads = simp tables refl; puts = simp tables refl }

pub to_first_3 : Takes (first_with 1 0 early (adding 0) 2 none) (event.Deliver 1 2 acked_by_1) (first_with 2 0 early (adding 1) 2 none) (output.Ack 1 2 ∷ [])
unfolding step next merge difference union decides decides_within
to_first_3 = record { taken = simp tables refl; leads = simp tables refl; puts = refl }

pub to_first_4 : Takes (first_with 2 0 early (adding 1) 2 none) (event.Deliver 2 1 acked_by_1) (served 1 early 2) (output.Ack 2 1 ∷ output.Reply 7 1 answer.Stored ∷ [])
unfolding step next merge difference union decides decides_within
to_first_4 = record { taken = simp tables refl; leads = simp tables refl; puts = refl }

pub to_first_5 : Takes (served 1 early 2) (event.Deliver 2 2 (queried 1)) (served 2 early 3) (output.Ack 2 2 ∷ both 3 (replied early 1))
unfolding step next merge difference union decides decides_within
to_first_5 = record { taken = simp tables refl; leads = simp tables refl; puts = simp tables refl }

pub to_first_6 : Takes (served 2 early 3) (event.Deliver 2 3 (replied early 1)) (served 3 early 3) (output.Ack 2 3 ∷ [])
unfolding step next merge difference union decides decides_within
to_first_6 = record { taken = simp tables refl; leads = simp tables refl; puts = refl }

pub to_first_7 : Takes (served 3 early 3) (event.Deliver 2 4 (stored early 2)) (served 4 early 4) (output.Ack 2 4 ∷ both 4 (acked 2))
unfolding step next merge difference union decides decides_within
to_first_7 = record { taken = simp tables refl; leads = simp tables refl; puts = simp tables refl }

pub to_first_8 : Takes (served 4 early 4) (event.Deliver 2 5 (acked 2)) (served 5 early 4) (output.Ack 2 5 ∷ [])
unfolding step next merge difference union decides decides_within
to_first_8 = record { taken = simp tables refl; leads = simp tables refl; puts = refl }

pub to_first_9 : Takes (served 5 early 4) (event.Deliver 2 6 (queried 3)) (served 6 early 5) (output.Ack 2 6 ∷ both 5 (replied early 3))
unfolding step next merge difference union decides decides_within
to_first_9 = record { taken = simp tables refl; leads = simp tables refl; puts = simp tables refl }

pub to_first_10 : Takes (served 6 early 5) (event.Deliver 2 7 (replied early 3)) (served 7 early 5) (output.Ack 2 7 ∷ [])
unfolding step next merge difference union decides decides_within
to_first_10 = record { taken = simp tables refl; leads = simp tables refl; puts = refl }

pub to_first_11 : Takes (served 7 early 5) (event.Deliver 2 8 (stored early 4)) (served 8 early 6) (output.Ack 2 8 ∷ both 6 (acked 4))
unfolding step next merge difference union decides decides_within
to_first_11 = record { taken = simp tables refl; leads = simp tables refl; puts = simp tables refl }

pub to_first_12 : Takes (served 8 early 6) (event.Deliver 2 9 (acked 4)) (served 9 early 6) (output.Ack 2 9 ∷ [])
unfolding step next merge difference union decides decides_within
to_first_12 = record { taken = simp tables refl; leads = simp tables refl; puts = refl }

pub to_first_13 : Takes (served 9 early 6) (event.Deliver 2 10 (stored late 5)) (served 10 late 7) (output.Ack 2 10 ∷ both 7 (acked 5))
unfolding step next merge difference union decides decides_within
to_first_13 = record { taken = simp tables refl; leads = simp tables refl; puts = simp tables refl }

pub to_first_14 : Takes (served 10 late 7) (event.Deliver 2 11 (acked 5)) (served 11 late 7) (output.Ack 2 11 ∷ [])
unfolding step next merge difference union decides decides_within
to_first_14 = record { taken = simp tables refl; leads = simp tables refl; puts = refl }

pub to_first_15 : Takes (served 11 late 7) (event.Deliver 2 12 (queried 6)) (served 12 late 8) (output.Ack 2 12 ∷ both 8 (replied late 6))
unfolding step next merge difference union decides decides_within
to_first_15 = record { taken = simp tables refl; leads = simp tables refl; puts = simp tables refl }

pub to_first_16 : Takes (served 12 late 8) (event.Deliver 2 13 (replied late 6)) (served 13 late 8) (output.Ack 2 13 ∷ [])
unfolding step next merge difference union decides decides_within
to_first_16 = record { taken = simp tables refl; leads = simp tables refl; puts = refl }

pub to_first_17 : Takes (served 13 late 8) (event.Deliver 2 14 (stored late 7)) (served 14 late 9) (output.Ack 2 14 ∷ both 9 (acked 7))
unfolding step next merge difference union decides decides_within
to_first_17 = record { taken = simp tables refl; leads = simp tables refl; puts = simp tables refl }

pub to_first_18 : Takes (served 14 late 9) (event.Deliver 2 15 (acked 7)) (served 15 late 9) (output.Ack 2 15 ∷ [])
unfolding step next merge difference union decides decides_within
to_first_18 = record { taken = simp tables refl; leads = simp tables refl; puts = refl }

pub to_first_19 : Takes (served 15 late 9) (event.Deliver 2 16 (queried 8)) (served 16 late 10) (output.Ack 2 16 ∷ both 10 (replied late 8))
unfolding step next merge difference union decides decides_within
to_first_19 = record { taken = simp tables refl; leads = simp tables refl; puts = simp tables refl }

pub to_first_20 : Takes (served 16 late 10) (event.Deliver 2 17 (replied late 8)) (served 17 late 10) (output.Ack 2 17 ∷ [])
unfolding step next merge difference union decides decides_within
to_first_20 = record { taken = simp tables refl; leads = simp tables refl; puts = refl }

pub to_first_21 : Takes (served 17 late 10) (event.Deliver 2 18 (stored late 9)) (served 18 late 11) (output.Ack 2 18 ∷ both 11 (acked 9))
unfolding step next merge difference union decides decides_within
to_first_21 = record { taken = simp tables refl; leads = simp tables refl; puts = simp tables refl }

-- ---- node 2: it serves itself, collects, writes, and collects again

abbrev second_posts : ℕ → List Message
second_posts count =
    drop (19 - count)
    (acked 9 ∷ stored late 9 ∷ replied late 8 ∷ queried 8 ∷ acked 7 ∷ stored late 7 ∷ replied late 6 ∷ queried 6 ∷ acked 5 ∷ stored late 5 ∷ acked 4 ∷ stored early 4 ∷ replied early 3 ∷ queried 3 ∷ acked 2 ∷ stored early 2 ∷ replied early 1 ∷ queried 1 ∷ acked_by_1 ∷ [])

abbrev pub second_0 : Node
second_0 = node_with 2 (link_of 0) (link_of 0) (nothing_done 1) [] none none

abbrev pub second_with : ℕ → ℕ → Ops → ℕ → Requests → FinMap nat_cmp Answer → Node
second_with other own ops posts sessions answers = node_with 2 (link_of other) (link_of own) ops (second_posts posts) sessions answers

-- its operations before it wrote, and since then
abbrev pub reads : ℕ → Phase → Ops
reads tag phase = record { view = early; number = 0; mine = nothing_stored; tag = tag; share = 1; phase = phase; others = []; line = [] }

abbrev pub sets : ℕ → Phase → List Asked → Ops
sets tag phase line = record { view = late; number = 1; mine = flagged; tag = tag; share = 1; phase = phase; others = []; line = line }

abbrev querying : ℕ → ℕ → ℕ → Phase
querying session request count = Querying (pending session request command.Collect count)

abbrev storing_back : ℕ → ℕ → ViewMap → ℕ → Phase
storing_back session request seen count = StoringBack (pending session request command.Collect count) seen

abbrev setting : ℕ → Phase
setting count = Storing (pending 8 1 command.SetFlag count)

abbrev waits : List Asked
waits = asked_of 10 1 command.Collect ∷ []

-- the last requests once session 8 has asked, and session 10
abbrev sessions_8 : Requests
sessions_8 = table.insert (one 9 2) 8 1

abbrev sessions_10 : ℕ → Requests
sessions_10 request = table.insert sessions_8 10 request

-- the answers that it keeps once it wrote, and those with that to session 10
abbrev told : FinMap nat_cmp Answer
told = table.insert (one 9 (answer.Seen early)) 8 answer.Stored

abbrev told_all : FinMap nat_cmp Answer
told_all = table.insert told 10 (answer.Seen late)

pub begins_2 : fresh (opening 2) ≡ second_0
unfolding fresh difference union
begins_2 = simp tables refl

pub to_second_1 : Takes second_0 (event.Deliver 1 1 added_by_1) (second_with 1 0 (reads 0 Idle) 1 none none) (output.Ack 1 1 ∷ both 1 acked_by_1)
unfolding step next merge difference union decides decides_within
to_second_1 = record { taken = simp tables refl; leads = simp tables refl; puts = simp tables refl }

pub to_second_2 : Takes (second_with 1 0 (reads 0 Idle) 1 none none) (event.Ask 9 1 command.Collect) (second_with 1 0 (reads 1 (querying 9 1 0)) 2 (one 9 1) none) (both 2 (queried 1))
unfolding step next merge difference union decides decides_within
to_second_2 = record { taken = simp tables refl; leads = simp tables refl; puts = simp tables refl }

pub to_second_3 : Takes (second_with 1 0 (reads 1 (querying 9 1 0)) 2 (one 9 1) none) (event.Deliver 2 1 acked_by_1) (second_with 1 1 (reads 1 (querying 9 1 0)) 2 (one 9 1) none) (output.Ack 2 1 ∷ [])
unfolding step next merge difference union decides decides_within
to_second_3 = record { taken = simp tables refl; leads = simp tables refl; puts = refl }

pub to_second_4 : Takes (second_with 1 1 (reads 1 (querying 9 1 0)) 2 (one 9 1) none) (event.Deliver 2 2 (queried 1)) (second_with 1 2 (reads 1 (querying 9 1 0)) 3 (one 9 1) none) (output.Ack 2 2 ∷ both 3 (replied early 1))
unfolding step next merge difference union decides decides_within
to_second_4 = record { taken = simp tables refl; leads = simp tables refl; puts = simp tables refl }

pub to_second_5 : Takes (second_with 1 2 (reads 1 (querying 9 1 0)) 3 (one 9 1) none) (event.Deliver 2 3 (replied early 1)) (second_with 1 3 (reads 1 (querying 9 1 1)) 3 (one 9 1) none) (output.Ack 2 3 ∷ [])
unfolding step next merge difference union decides decides_within
to_second_5 = record { taken = simp tables refl; leads = simp tables refl; puts = refl }

pub to_second_6 : Takes (second_with 1 3 (reads 1 (querying 9 1 1)) 3 (one 9 1) none) (event.Deliver 1 2 acked_by_1) (second_with 2 3 (reads 1 (querying 9 1 1)) 3 (one 9 1) none) (output.Ack 1 2 ∷ [])
unfolding step next merge difference union decides decides_within
to_second_6 = record { taken = simp tables refl; leads = simp tables refl; puts = refl }

pub to_second_7 : Takes (second_with 2 3 (reads 1 (querying 9 1 1)) 3 (one 9 1) none) (event.Deliver 1 3 (replied early 1)) (second_with 3 3 (reads 2 (storing_back 9 1 early 0)) 4 (one 9 1) none) (output.Ack 1 3 ∷ both 4 (stored early 2))
unfolding step next merge difference union decides decides_within
to_second_7 = record { taken = simp tables refl; leads = simp tables refl; puts = simp tables refl }

pub to_second_8 : Takes (second_with 3 3 (reads 2 (storing_back 9 1 early 0)) 4 (one 9 1) none) (event.Deliver 2 4 (stored early 2)) (second_with 3 4 (reads 2 (storing_back 9 1 early 0)) 5 (one 9 1) none) (output.Ack 2 4 ∷ both 5 (acked 2))
unfolding step next merge difference union decides decides_within
to_second_8 = record { taken = simp tables refl; leads = simp tables refl; puts = simp tables refl }

pub to_second_9 : Takes (second_with 3 4 (reads 2 (storing_back 9 1 early 0)) 5 (one 9 1) none) (event.Deliver 2 5 (acked 2)) (second_with 3 5 (reads 2 (storing_back 9 1 early 1)) 5 (one 9 1) none) (output.Ack 2 5 ∷ [])
unfolding step next merge difference union decides decides_within
to_second_9 = record { taken = simp tables refl; leads = simp tables refl; puts = refl }

pub to_second_10 : Takes (second_with 3 5 (reads 2 (storing_back 9 1 early 1)) 5 (one 9 1) none) (event.Deliver 1 4 (acked 2)) (second_with 4 5 (reads 2 Idle) 5 (one 9 1) (one 9 (answer.Seen early))) (output.Ack 1 4 ∷ output.Reply 9 1 (answer.Seen early) ∷ [])
unfolding step next merge difference union decides decides_within
to_second_10 = record { taken = simp tables refl; leads = simp tables refl; puts = refl }

pub to_second_11 : Takes (second_with 4 5 (reads 2 Idle) 5 (one 9 1) (one 9 (answer.Seen early))) (event.Ask 9 2 command.Collect) (second_with 4 5 (reads 3 (querying 9 2 0)) 6 (one 9 2) none) (both 6 (queried 3))
unfolding step next merge difference union decides decides_within
to_second_11 = record { taken = simp tables refl; leads = simp tables refl; puts = simp tables refl }

pub to_second_12 : Takes (second_with 4 5 (reads 3 (querying 9 2 0)) 6 (one 9 2) none) (event.Deliver 2 6 (queried 3)) (second_with 4 6 (reads 3 (querying 9 2 0)) 7 (one 9 2) none) (output.Ack 2 6 ∷ both 7 (replied early 3))
unfolding step next merge difference union decides decides_within
to_second_12 = record { taken = simp tables refl; leads = simp tables refl; puts = simp tables refl }

pub to_second_13 : Takes (second_with 4 6 (reads 3 (querying 9 2 0)) 7 (one 9 2) none) (event.Deliver 2 7 (replied early 3)) (second_with 4 7 (reads 3 (querying 9 2 1)) 7 (one 9 2) none) (output.Ack 2 7 ∷ [])
unfolding step next merge difference union decides decides_within
to_second_13 = record { taken = simp tables refl; leads = simp tables refl; puts = refl }

pub to_second_14 : Takes (second_with 4 7 (reads 3 (querying 9 2 1)) 7 (one 9 2) none) (event.Deliver 1 5 (replied early 3)) (second_with 5 7 (reads 4 (storing_back 9 2 early 0)) 8 (one 9 2) none) (output.Ack 1 5 ∷ both 8 (stored early 4))
unfolding step next merge difference union decides decides_within
to_second_14 = record { taken = simp tables refl; leads = simp tables refl; puts = simp tables refl }

pub to_second_15 : Takes (second_with 5 7 (reads 4 (storing_back 9 2 early 0)) 8 (one 9 2) none) (event.Deliver 2 8 (stored early 4)) (second_with 5 8 (reads 4 (storing_back 9 2 early 0)) 9 (one 9 2) none) (output.Ack 2 8 ∷ both 9 (acked 4))
unfolding step next merge difference union decides decides_within
to_second_15 = record { taken = simp tables refl; leads = simp tables refl; puts = simp tables refl }

pub to_second_16 : Takes (second_with 5 8 (reads 4 (storing_back 9 2 early 0)) 9 (one 9 2) none) (event.Deliver 2 9 (acked 4)) (second_with 5 9 (reads 4 (storing_back 9 2 early 1)) 9 (one 9 2) none) (output.Ack 2 9 ∷ [])
unfolding step next merge difference union decides decides_within
to_second_16 = record { taken = simp tables refl; leads = simp tables refl; puts = refl }

pub to_second_17 : Takes (second_with 5 9 (reads 4 (storing_back 9 2 early 1)) 9 (one 9 2) none) (event.Deliver 1 6 (acked 4)) (second_with 6 9 (reads 4 Idle) 9 (one 9 2) (one 9 (answer.Seen early))) (output.Ack 1 6 ∷ output.Reply 9 2 (answer.Seen early) ∷ [])
unfolding step next merge difference union decides decides_within
to_second_17 = record { taken = simp tables refl; leads = simp tables refl; puts = refl }

pub to_second_18 : Takes (second_with 6 9 (reads 4 Idle) 9 (one 9 2) (one 9 (answer.Seen early))) (event.Ask 8 1 command.SetFlag) (second_with 6 9 (sets 5 (setting 0) []) 10 sessions_8 (one 9 (answer.Seen early))) (both 10 (stored late 5))
unfolding step next merge difference union decides decides_within
to_second_18 = record { taken = simp tables refl; leads = simp tables refl; puts = simp tables refl }

pub to_second_19 : Takes (second_with 6 9 (sets 5 (setting 0) []) 10 sessions_8 (one 9 (answer.Seen early))) (event.Ask 10 1 command.Collect) (second_with 6 9 (sets 5 (setting 0) waits) 10 (sessions_10 1) (one 9 (answer.Seen early))) ([])
unfolding step next merge difference union decides decides_within
to_second_19 = record { taken = simp tables refl; leads = simp tables refl; puts = refl }

pub to_second_20 : Takes (second_with 6 9 (sets 5 (setting 0) waits) 10 (sessions_10 1) (one 9 (answer.Seen early))) (event.Deliver 2 10 (stored late 5)) (second_with 6 10 (sets 5 (setting 0) waits) 11 (sessions_10 1) (one 9 (answer.Seen early))) (output.Ack 2 10 ∷ both 11 (acked 5))
unfolding step next merge difference union decides decides_within
to_second_20 = record { taken = simp tables refl; leads = simp tables refl; puts = simp tables refl }

pub to_second_21 : Takes (second_with 6 10 (sets 5 (setting 0) waits) 11 (sessions_10 1) (one 9 (answer.Seen early))) (event.Deliver 2 11 (acked 5)) (second_with 6 11 (sets 5 (setting 1) waits) 11 (sessions_10 1) (one 9 (answer.Seen early))) (output.Ack 2 11 ∷ [])
unfolding step next merge difference union decides decides_within
to_second_21 = record { taken = simp tables refl; leads = simp tables refl; puts = refl }

pub to_second_22 : Takes (second_with 6 11 (sets 5 (setting 1) waits) 11 (sessions_10 1) (one 9 (answer.Seen early))) (event.Deliver 1 7 (acked 5)) (second_with 7 11 (sets 6 (querying 10 1 0) []) 12 (sessions_10 1) told) (output.Ack 1 7 ∷ both 12 (queried 6) ++ output.Reply 8 1 answer.Stored ∷ [])
unfolding step next merge difference union decides decides_within
to_second_22 = record { taken = simp tables refl; leads = simp tables refl; puts = simp tables refl }

pub to_second_23 : Takes (second_with 7 11 (sets 6 (querying 10 1 0) []) 12 (sessions_10 1) told) (event.Deliver 2 12 (queried 6)) (second_with 7 12 (sets 6 (querying 10 1 0) []) 13 (sessions_10 1) told) (output.Ack 2 12 ∷ both 13 (replied late 6))
unfolding step next merge difference union decides decides_within
to_second_23 = record { taken = simp tables refl; leads = simp tables refl; puts = simp tables refl }

pub to_second_24 : Takes (second_with 7 12 (sets 6 (querying 10 1 0) []) 13 (sessions_10 1) told) (event.Deliver 2 13 (replied late 6)) (second_with 7 13 (sets 6 (querying 10 1 1) []) 13 (sessions_10 1) told) (output.Ack 2 13 ∷ [])
unfolding step next merge difference union decides decides_within
to_second_24 = record { taken = simp tables refl; leads = simp tables refl; puts = refl }

pub to_second_25 : Takes (second_with 7 13 (sets 6 (querying 10 1 1) []) 13 (sessions_10 1) told) (event.Deliver 1 8 (replied late 6)) (second_with 8 13 (sets 7 (storing_back 10 1 late 0) []) 14 (sessions_10 1) told) (output.Ack 1 8 ∷ both 14 (stored late 7))
unfolding step next merge difference union decides decides_within
to_second_25 = record { taken = simp tables refl; leads = simp tables refl; puts = simp tables refl }

pub to_second_26 : Takes (second_with 8 13 (sets 7 (storing_back 10 1 late 0) []) 14 (sessions_10 1) told) (event.Deliver 2 14 (stored late 7)) (second_with 8 14 (sets 7 (storing_back 10 1 late 0) []) 15 (sessions_10 1) told) (output.Ack 2 14 ∷ both 15 (acked 7))
unfolding step next merge difference union decides decides_within
to_second_26 = record { taken = simp tables refl; leads = simp tables refl; puts = simp tables refl }

pub to_second_27 : Takes (second_with 8 14 (sets 7 (storing_back 10 1 late 0) []) 15 (sessions_10 1) told) (event.Deliver 2 15 (acked 7)) (second_with 8 15 (sets 7 (storing_back 10 1 late 1) []) 15 (sessions_10 1) told) (output.Ack 2 15 ∷ [])
unfolding step next merge difference union decides decides_within
to_second_27 = record { taken = simp tables refl; leads = simp tables refl; puts = refl }

pub to_second_28 : Takes (second_with 8 15 (sets 7 (storing_back 10 1 late 1) []) 15 (sessions_10 1) told) (event.Deliver 1 9 (acked 7)) (second_with 9 15 (sets 7 Idle []) 15 (sessions_10 1) told_all) (output.Ack 1 9 ∷ output.Reply 10 1 (answer.Seen late) ∷ [])
unfolding step next merge difference union decides decides_within
to_second_28 = record { taken = simp tables refl; leads = simp tables refl; puts = refl }

pub to_second_29 : Takes (second_with 9 15 (sets 7 Idle []) 15 (sessions_10 1) told_all) (event.Ask 10 2 command.Collect) (second_with 9 15 (sets 8 (querying 10 2 0) []) 16 (sessions_10 2) told) (both 16 (queried 8))
unfolding step next merge difference union decides decides_within
to_second_29 = record { taken = simp tables refl; leads = simp tables refl; puts = simp tables refl }

pub to_second_30 : Takes (second_with 9 15 (sets 8 (querying 10 2 0) []) 16 (sessions_10 2) told) (event.Deliver 2 16 (queried 8)) (second_with 9 16 (sets 8 (querying 10 2 0) []) 17 (sessions_10 2) told) (output.Ack 2 16 ∷ both 17 (replied late 8))
unfolding step next merge difference union decides decides_within
to_second_30 = record { taken = simp tables refl; leads = simp tables refl; puts = simp tables refl }

pub to_second_31 : Takes (second_with 9 16 (sets 8 (querying 10 2 0) []) 17 (sessions_10 2) told) (event.Deliver 2 17 (replied late 8)) (second_with 9 17 (sets 8 (querying 10 2 1) []) 17 (sessions_10 2) told) (output.Ack 2 17 ∷ [])
unfolding step next merge difference union decides decides_within
to_second_31 = record { taken = simp tables refl; leads = simp tables refl; puts = refl }

pub to_second_32 : Takes (second_with 9 17 (sets 8 (querying 10 2 1) []) 17 (sessions_10 2) told) (event.Deliver 1 10 (replied late 8)) (second_with 10 17 (sets 9 (storing_back 10 2 late 0) []) 18 (sessions_10 2) told) (output.Ack 1 10 ∷ both 18 (stored late 9))
unfolding step next merge difference union decides decides_within
to_second_32 = record { taken = simp tables refl; leads = simp tables refl; puts = simp tables refl }

pub to_second_33 : Takes (second_with 10 17 (sets 9 (storing_back 10 2 late 0) []) 18 (sessions_10 2) told) (event.Deliver 2 18 (stored late 9)) (second_with 10 18 (sets 9 (storing_back 10 2 late 0) []) 19 (sessions_10 2) told) (output.Ack 2 18 ∷ both 19 (acked 9))
unfolding step next merge difference union decides decides_within
to_second_33 = record { taken = simp tables refl; leads = simp tables refl; puts = simp tables refl }

pub to_second_34 : Takes (second_with 10 18 (sets 9 (storing_back 10 2 late 0) []) 19 (sessions_10 2) told) (event.Deliver 2 19 (acked 9)) (second_with 10 19 (sets 9 (storing_back 10 2 late 1) []) 19 (sessions_10 2) told) (output.Ack 2 19 ∷ [])
unfolding step next merge difference union decides decides_within
to_second_34 = record { taken = simp tables refl; leads = simp tables refl; puts = refl }

pub to_second_35 : Takes (second_with 10 19 (sets 9 (storing_back 10 2 late 1) []) 19 (sessions_10 2) told) (event.Deliver 1 11 (acked 9)) (second_with 11 19 (sets 9 Idle []) 19 (sessions_10 2) told_all) (output.Ack 1 11 ∷ output.Reply 10 2 (answer.Seen late) ∷ [])
unfolding step next merge difference union decides decides_within
to_second_35 = record { taken = simp tables refl; leads = simp tables refl; puts = refl }

-- ---- both at the end of each part

abbrev pub first_at_1 : Node
first_at_1 = served 4 early 4

abbrev pub second_at_1 : Node
second_at_1 = second_with 4 5 (reads 2 Idle) 5 (one 9 1) (one 9 (answer.Seen early))

abbrev pub first_at_2 : Node
first_at_2 = served 8 early 6

abbrev pub second_at_2 : Node
second_at_2 = second_with 6 9 (reads 4 Idle) 9 (one 9 2) (one 9 (answer.Seen early))

abbrev pub first_at_3 : Node
first_at_3 = served 14 late 9

abbrev pub second_at_3 : Node
second_at_3 = second_with 9 15 (sets 7 Idle []) 15 (sessions_10 1) told_all

abbrev pub first_at_4 : Node
first_at_4 = served 18 late 11

abbrev pub second_at_4 : Node
second_at_4 = second_with 11 19 (sets 9 Idle []) 19 (sessions_10 2) told_all
