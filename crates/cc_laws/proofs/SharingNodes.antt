-- Two nodes of one cluster, event after event, once node 2 has entered and collected: up to 32 asks of one kind begin together. Session 9 of
-- node 2 collects again, and session 8 writes a maximum behind it. Sessions 9 and 10, whose asks wait meanwhile, collect in one round; and so they
-- do again behind another collect of session 8.
--     hub                 node 1, which serves node 2
--     client, raised      node 2;  its operations once it wrote
use Rattle.std.proofs.Common.{ℕ, ◌+◌, ◌-◌, false, List, [], ◌∷◌, ◌++◌, drop, refl}
use Rattle.std.specs.FinMap as table
use Rattle.std.specs.FinMap.{FinMap}
use Rattle.std.specs.Ordering.{nat_cmp}
use Rattle.cc_views.specs.NatSets as set
use Rattle.cc_views.specs.NatSets.{difference, union}
use Rattle.cc_views.specs.Rows.{ViewMap}
use Rattle.cc_views.specs.Merge.{merge}
use Rattle.cc_views.specs.declared.value.Value.{Value}
use Rattle.cc_messages.specs.declared.answer.Answer.{Answer}
use Rattle.cc_messages.specs.declared.answer.Answer.TheVariants as answer
use Rattle.cc_messages.specs.declared.command.Command.TheVariants as command
use Rattle.cc_messages.specs.declared.event.Event.TheVariants as event
use Rattle.cc_messages.specs.declared.message.Message.{Message}
use Rattle.cc_messages.specs.declared.output.Output.{Output}
use Rattle.cc_messages.specs.declared.output.Output.TheVariants as output
use Rattle.cc_sessions.specs.Sessions.{Requests}
use Rattle.cc_ops.specs.declared.pending_operation.Asked.{Asked}
use Rattle.cc_ops.specs.declared.pending_operation.Pending.{Pending}
use Rattle.cc_ops.specs.Ops.{Ops, Phase, Idle, Storing, Querying, StoringBack}
use Rattle.cc_node.specs.Core.{next, asked_of}
use Rattle.cc_node.specs.Node.{Node, step}
use Rattle.cc_node.specs.Refusals.{decides, decides_within}
use Rattle.cc_laws.proofs.MapInsertions.{tables}
use Rattle.cc_laws.proofs.TwoNodes as earlier
use Rattle.cc_laws.proofs.TwoNodes.{Takes, none, one, both, view, value, wrote, saw}
use Rattle.cc_laws.proofs.SnapshotNodes.{queried, replied, stored, acked}
use Rattle.cc_laws.proofs.EntrantNodes.{node_with, knows, with_two, link_of, links_of, joined, entering, echo, joining, join_echo, c7, d6}

-- what session 8 writes
abbrev greater : Value
greater = record { text = []; max = 5; flag = false; set = set.empty }

-- both have written
abbrev pub late : ViewMap
late = table.insert (one 2 (1, greater)) 1 (1, value)

-- a post under this number on the link to node 2, which begins two posts later
abbrev pub sends : ℕ → Message → List Output
sends number m = output.Send 1 (number + 2) m ∷ output.Send 2 number m ∷ []

abbrev pub asked : ℕ → ℕ → Asked
asked session request = asked_of session request command.Collect

abbrev pending : Asked → Pending
pending a = record { asked = a; need = 1; count = 0 }

-- ---- node 1

abbrev hub_posts : ℕ → List Message
hub_posts count =
    drop (15 - count)
    (acked 11 ∷ replied late 10 ∷ acked 9 ∷ replied late 8 ∷ acked 7 ∷ replied late 6 ∷ acked 5 ∷ acked 4 ∷ replied view 3 ∷ acked 2 ∷ replied view 1 ∷ join_echo ∷ echo ∷ earlier.acked ∷ earlier.stored ∷ [])

-- so many posts of node 2 heard, its view, and so many posts
abbrev pub hub : ℕ → ViewMap → ℕ → Node
hub heard seen posts =
    node_with 1 (knows with_two with_two 0) (links_of 2 (link_of 2 heard)) (record (wrote Idle) { view = seen }) (hub_posts posts) (one 7 1)
    (one 7 answer.Stored)

pub to_first_1 : Takes c7 (event.Deliver 2 5 (queried 3)) (hub 5 view 7) (output.Ack 2 5 ∷ sends 5 (replied view 3))
unfolding step next merge difference union decides decides_within
to_first_1 = record { taken = simp tables refl; leads = simp tables refl; puts = simp tables refl }

pub to_first_2 : Takes (hub 5 view 7) (event.Deliver 2 6 (stored view 4)) (hub 6 view 8) (output.Ack 2 6 ∷ sends 6 (acked 4))
unfolding step next merge difference union decides decides_within
to_first_2 = record { taken = simp tables refl; leads = simp tables refl; puts = simp tables refl }

pub to_first_3 : Takes (hub 6 view 8) (event.Deliver 2 7 (stored late 5)) (hub 7 late 9) (output.Ack 2 7 ∷ sends 7 (acked 5))
unfolding step next merge difference union decides decides_within
to_first_3 = record { taken = simp tables refl; leads = simp tables refl; puts = simp tables refl }

pub to_first_4 : Takes (hub 7 late 9) (event.Deliver 2 8 (queried 6)) (hub 8 late 10) (output.Ack 2 8 ∷ sends 8 (replied late 6))
unfolding step next merge difference union decides decides_within
to_first_4 = record { taken = simp tables refl; leads = simp tables refl; puts = simp tables refl }

pub to_first_5 : Takes (hub 8 late 10) (event.Deliver 2 9 (stored late 7)) (hub 9 late 11) (output.Ack 2 9 ∷ sends 9 (acked 7))
unfolding step next merge difference union decides decides_within
to_first_5 = record { taken = simp tables refl; leads = simp tables refl; puts = simp tables refl }

pub to_first_6 : Takes (hub 9 late 11) (event.Deliver 2 10 (queried 8)) (hub 10 late 12) (output.Ack 2 10 ∷ sends 10 (replied late 8))
unfolding step next merge difference union decides decides_within
to_first_6 = record { taken = simp tables refl; leads = simp tables refl; puts = simp tables refl }

pub to_first_7 : Takes (hub 10 late 12) (event.Deliver 2 11 (stored late 9)) (hub 11 late 13) (output.Ack 2 11 ∷ sends 11 (acked 9))
unfolding step next merge difference union decides decides_within
to_first_7 = record { taken = simp tables refl; leads = simp tables refl; puts = simp tables refl }

pub to_first_8 : Takes (hub 11 late 13) (event.Deliver 2 12 (queried 10)) (hub 12 late 14) (output.Ack 2 12 ∷ sends 12 (replied late 10))
unfolding step next merge difference union decides decides_within
to_first_8 = record { taken = simp tables refl; leads = simp tables refl; puts = simp tables refl }

pub to_first_9 : Takes (hub 12 late 14) (event.Deliver 2 13 (stored late 11)) (hub 13 late 15) (output.Ack 2 13 ∷ sends 13 (acked 11))
unfolding step next merge difference union decides decides_within
to_first_9 = record { taken = simp tables refl; leads = simp tables refl; puts = simp tables refl }

-- ---- node 2

abbrev client_posts : ℕ → List Message
client_posts count =
    drop (13 - count)
    (stored late 11 ∷ queried 10 ∷ stored late 9 ∷ queried 8 ∷ stored late 7 ∷ queried 6 ∷ stored late 5 ∷ stored view 4 ∷ queried 3 ∷ stored view 2 ∷ queried 1 ∷ joining ∷ entering ∷ [])

abbrev pub client : ℕ → Ops → ℕ → Requests → FinMap nat_cmp Answer → Node
client heard ops posts sessions answers = joined heard ops (client_posts posts) sessions answers

-- its operations once it wrote: its phase, and the asks that are pending with that of the phase, and that wait
abbrev pub raised : ℕ → Phase → List Asked → List Asked → Ops
raised tag phase others line =
    record { view = late; number = 1; mine = greater; tag = tag; share = 32; phase = phase; others = others; line = line }

abbrev querying : ℕ → ℕ → Phase
querying session request = Querying (pending (asked session request))

abbrev storing_back : ℕ → ℕ → ViewMap → Phase
storing_back session request seen = StoringBack (pending (asked session request)) seen

abbrev writes : List Asked
writes = asked_of 8 1 (command.WriteMax 5) ∷ []

abbrev writing : Phase
writing = Storing (pending (asked_of 8 1 (command.WriteMax 5)))

-- the last requests, as sessions ask one after the other
abbrev last_8 : Requests
last_8 = table.insert (one 9 2) 8 1

abbrev last_9 : Requests
last_9 = table.insert last_8 9 3

abbrev last_10 : Requests
last_10 = table.insert last_9 10 1

abbrev again_8 : Requests
again_8 = table.insert last_10 8 2

abbrev again_9 : Requests
again_9 = table.insert again_8 9 4

abbrev again_10 : Requests
again_10 = table.insert again_9 10 2

-- the answers that it keeps when a round of two has ended
abbrev told : FinMap nat_cmp Answer
told = table.insert (one 9 (answer.Seen late)) 10 (answer.Seen late)

abbrev told_all : FinMap nat_cmp Answer
told_all = table.insert (table.insert (one 8 (answer.Seen late)) 9 (answer.Seen late)) 10 (answer.Seen late)

pub to_second_1 : Takes d6 (event.Ask 9 2 command.Collect) (client 4 (saw view 3 (querying 9 2) []) 5 (one 9 2) none) (both 5 (queried 3))
unfolding step next merge difference union decides decides_within
to_second_1 = record { taken = simp tables refl; leads = simp tables refl; puts = simp tables refl }

pub to_second_2 : Takes (client 4 (saw view 3 (querying 9 2) []) 5 (one 9 2) none) (event.Ask 8 1 (command.WriteMax 5)) (client 4 (saw view 3 (querying 9 2) writes) 5 last_8 none) ([])
unfolding step next merge difference union decides decides_within
to_second_2 = record { taken = simp tables refl; leads = simp tables refl; puts = refl }

pub to_second_3 : Takes (client 4 (saw view 3 (querying 9 2) writes) 5 last_8 none) (event.Deliver 1 5 (replied view 3)) (client 5 (saw view 4 (storing_back 9 2 view) writes) 6 last_8 none) (output.Ack 1 5 ∷ both 6 (stored view 4))
unfolding step next merge difference union decides decides_within
to_second_3 = record { taken = simp tables refl; leads = simp tables refl; puts = simp tables refl }

pub to_second_4 : Takes (client 5 (saw view 4 (storing_back 9 2 view) writes) 6 last_8 none) (event.Deliver 1 6 (acked 4)) (client 6 (raised 5 writing [] []) 7 last_8 (one 9 (answer.Seen view))) (output.Ack 1 6 ∷ both 7 (stored late 5) ++ output.Reply 9 2 (answer.Seen view) ∷ [])
unfolding step next merge difference union decides decides_within
to_second_4 = record { taken = simp tables refl; leads = simp tables refl; puts = simp tables refl }

pub to_second_5 : Takes (client 6 (raised 5 writing [] []) 7 last_8 (one 9 (answer.Seen view))) (event.Ask 9 3 command.Collect) (client 6 (raised 5 writing [] (asked 9 3 ∷ [])) 7 last_9 none) ([])
unfolding step next merge difference union decides decides_within
to_second_5 = record { taken = simp tables refl; leads = simp tables refl; puts = refl }

pub to_second_6 : Takes (client 6 (raised 5 writing [] (asked 9 3 ∷ [])) 7 last_9 none) (event.Ask 10 1 command.Collect) (client 6 (raised 5 writing [] (asked 9 3 ∷ asked 10 1 ∷ [])) 7 last_10 none) ([])
unfolding step next merge difference union decides decides_within
to_second_6 = record { taken = simp tables refl; leads = simp tables refl; puts = refl }

pub to_second_7 : Takes (client 6 (raised 5 writing [] (asked 9 3 ∷ asked 10 1 ∷ [])) 7 last_10 none) (event.Deliver 1 7 (acked 5)) (client 7 (raised 6 (querying 9 3) (asked 10 1 ∷ []) []) 8 last_10 (one 8 answer.Stored)) (output.Ack 1 7 ∷ both 8 (queried 6) ++ output.Reply 8 1 answer.Stored ∷ [])
unfolding step next merge difference union decides decides_within
to_second_7 = record { taken = simp tables refl; leads = simp tables refl; puts = simp tables refl }

pub to_second_8 : Takes (client 7 (raised 6 (querying 9 3) (asked 10 1 ∷ []) []) 8 last_10 (one 8 answer.Stored)) (event.Ask 8 2 command.Collect) (client 7 (raised 6 (querying 9 3) (asked 10 1 ∷ []) (asked 8 2 ∷ [])) 8 again_8 none) ([])
unfolding step next merge difference union decides decides_within
to_second_8 = record { taken = simp tables refl; leads = simp tables refl; puts = refl }

pub to_second_9 : Takes (client 7 (raised 6 (querying 9 3) (asked 10 1 ∷ []) (asked 8 2 ∷ [])) 8 again_8 none) (event.Deliver 1 8 (replied late 6)) (client 8 (raised 7 (storing_back 9 3 late) (asked 10 1 ∷ []) (asked 8 2 ∷ [])) 9 again_8 none) (output.Ack 1 8 ∷ both 9 (stored late 7))
unfolding step next merge difference union decides decides_within
to_second_9 = record { taken = simp tables refl; leads = simp tables refl; puts = simp tables refl }

pub to_second_10 : Takes (client 8 (raised 7 (storing_back 9 3 late) (asked 10 1 ∷ []) (asked 8 2 ∷ [])) 9 again_8 none) (event.Deliver 1 9 (acked 7)) (client 9 (raised 8 (querying 8 2) [] []) 10 again_8 told) (output.Ack 1 9 ∷ both 10 (queried 8) ++ output.Reply 9 3 (answer.Seen late) ∷ output.Reply 10 1 (answer.Seen late) ∷ [])
unfolding step next merge difference union decides decides_within
to_second_10 = record { taken = simp tables refl; leads = simp tables refl; puts = simp tables refl }

pub to_second_11 : Takes (client 9 (raised 8 (querying 8 2) [] []) 10 again_8 told) (event.Ask 9 4 command.Collect) (client 9 (raised 8 (querying 8 2) [] (asked 9 4 ∷ [])) 10 again_9 (one 10 (answer.Seen late))) ([])
unfolding step next merge difference union decides decides_within
to_second_11 = record { taken = simp tables refl; leads = simp tables refl; puts = refl }

pub to_second_12 : Takes (client 9 (raised 8 (querying 8 2) [] (asked 9 4 ∷ [])) 10 again_9 (one 10 (answer.Seen late))) (event.Ask 10 2 command.Collect) (client 9 (raised 8 (querying 8 2) [] (asked 9 4 ∷ asked 10 2 ∷ [])) 10 again_10 none) ([])
unfolding step next merge difference union decides decides_within
to_second_12 = record { taken = simp tables refl; leads = simp tables refl; puts = refl }

pub to_second_13 : Takes (client 9 (raised 8 (querying 8 2) [] (asked 9 4 ∷ asked 10 2 ∷ [])) 10 again_10 none) (event.Deliver 1 10 (replied late 8)) (client 10 (raised 9 (storing_back 8 2 late) [] (asked 9 4 ∷ asked 10 2 ∷ [])) 11 again_10 none) (output.Ack 1 10 ∷ both 11 (stored late 9))
unfolding step next merge difference union decides decides_within
to_second_13 = record { taken = simp tables refl; leads = simp tables refl; puts = simp tables refl }

pub to_second_14 : Takes (client 10 (raised 9 (storing_back 8 2 late) [] (asked 9 4 ∷ asked 10 2 ∷ [])) 11 again_10 none) (event.Deliver 1 11 (acked 9)) (client 11 (raised 10 (querying 9 4) (asked 10 2 ∷ []) []) 12 again_10 (one 8 (answer.Seen late))) (output.Ack 1 11 ∷ both 12 (queried 10) ++ output.Reply 8 2 (answer.Seen late) ∷ [])
unfolding step next merge difference union decides decides_within
to_second_14 = record { taken = simp tables refl; leads = simp tables refl; puts = simp tables refl }

pub to_second_15 : Takes (client 11 (raised 10 (querying 9 4) (asked 10 2 ∷ []) []) 12 again_10 (one 8 (answer.Seen late))) (event.Deliver 1 12 (replied late 10)) (client 12 (raised 11 (storing_back 9 4 late) (asked 10 2 ∷ []) []) 13 again_10 (one 8 (answer.Seen late))) (output.Ack 1 12 ∷ both 13 (stored late 11))
unfolding step next merge difference union decides decides_within
to_second_15 = record { taken = simp tables refl; leads = simp tables refl; puts = simp tables refl }

pub to_second_16 : Takes (client 12 (raised 11 (storing_back 9 4 late) (asked 10 2 ∷ []) []) 13 again_10 (one 8 (answer.Seen late))) (event.Deliver 1 13 (acked 11)) (client 13 (raised 11 Idle [] []) 13 again_10 told_all) (output.Ack 1 13 ∷ output.Reply 9 4 (answer.Seen late) ∷ output.Reply 10 2 (answer.Seen late) ∷ [])
unfolding step next merge difference union decides decides_within
to_second_16 = record { taken = simp tables refl; leads = simp tables refl; puts = refl }

-- ---- both at the end of each part

abbrev pub first_at_1 : Node
first_at_1 = hub 6 view 8

abbrev pub second_at_1 : Node
second_at_1 = client 6 (raised 5 writing [] []) 7 last_8 (one 9 (answer.Seen view))

abbrev pub first_at_2 : Node
first_at_2 = hub 9 late 11

abbrev pub second_at_2 : Node
second_at_2 = client 9 (raised 8 (querying 8 2) [] []) 10 again_8 told

abbrev pub first_at_3 : Node
first_at_3 = hub 12 late 14

abbrev pub second_at_3 : Node
second_at_3 = client 11 (raised 10 (querying 9 4) (asked 10 2 ∷ []) []) 12 again_10 (one 8 (answer.Seen late))

abbrev pub first_at_4 : Node
first_at_4 = hub 13 late 15

abbrev pub second_at_4 : Node
second_at_4 = client 13 (raised 11 Idle [] []) 13 again_10 told_all
