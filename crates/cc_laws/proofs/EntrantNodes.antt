-- Two nodes of one cluster, event after event: node 1 is alone and stores; then node 2 enters, joins and collects.
use Rattle.std.proofs.Common.{◌≡◌, ℕ, true, List, [], ◌∷◌, length, refl}
use Rattle.std.specs.FinMap as table
use Rattle.std.specs.FinMap.{FinMap}
use Rattle.std.specs.Ordering.{nat_cmp}
use Rattle.cc_views.specs.NatSets as set
use Rattle.cc_views.specs.NatSets.{NatSet, difference, union}
use Rattle.cc_views.specs.Merge.{merge}
use Rattle.cc_changes.specs.ChangeSets.{ChangeSets}
use Rattle.cc_changes.specs.declared.fraction.Fraction.{Fraction}
use Rattle.cc_messages.specs.declared.answer.Answer.{Answer}
use Rattle.cc_messages.specs.declared.answer.Answer.TheVariants as answer
use Rattle.cc_messages.specs.declared.command.Command.{Command}
use Rattle.cc_messages.specs.declared.command.Command.TheVariants as command
use Rattle.cc_messages.specs.declared.event.Event.TheVariants as event
use Rattle.cc_messages.specs.declared.message.Message.{Message}
use Rattle.cc_messages.specs.declared.message.Message.TheVariants as message
use Rattle.cc_messages.specs.declared.output.Output.TheVariants as output
use Rattle.cc_churn.specs.Churn.{Churn}
use Rattle.cc_links.specs.Links.{Link, Links}
use Rattle.cc_sessions.specs.Sessions.{Requests}
use Rattle.cc_ops.specs.declared.pending_operation.Pending.{Pending}
use Rattle.cc_ops.specs.Ops.{Ops, Idle, Storing, Querying, StoringBack, nothing_done}
use Rattle.cc_node.specs.Core.{next, asked_of}
use Rattle.cc_node.specs.Node.{Node, step}
use Rattle.cc_node.specs.Openings.{Opening, fresh}
use Rattle.cc_node.specs.Refusals.{decides, decides_within}
use Rattle.cc_laws.proofs.MapInsertions.{tables}
use Rattle.cc_laws.proofs.TwoNodes.{Takes, kept, none, one, both, view, wrote, saw, stored, acked, queried, replied, stores, collects}

abbrev half : Fraction
half = record { num = 1; den = 2 }

abbrev pub first_opening : Opening
first_opening = record { me = 1; initial = 1 ∷ []; contacts = []; beta = half; gamma = half; share = 32 }

abbrev pub entrant : Opening
entrant = record { me = 2; initial = []; contacts = 1 ∷ []; beta = half; gamma = half; share = 32 }

abbrev alone : NatSet
alone = set.insert set.empty 1

abbrev pub with_two : NatSet
with_two = set.insert alone 2

abbrev pub knows : NatSet → NatSet → ℕ → Churn
knows entered joined echoes = record { changes = record { entered = entered; joined = joined; left = set.empty }; echoes = echoes; need = echoes }

abbrev pub link_of : ℕ → ℕ → Link
link_of start heard = record { start = start; acked = 0; heard = heard }

abbrev pub links_of : ℕ → Link → Links
links_of heard second = table.insert (one 1 (link_of 0 heard)) 2 second

-- who entered and joined, its links, its operations, its posts, the last requests and the answers that it keeps
abbrev pub node_with : ℕ → Churn → Links → Ops → List Message → Requests → FinMap nat_cmp Answer → Node
node_with me churn links ops posts sessions answers = record {
  core = record { me = me; beta = half; gamma = half; churn = churn; ops = ops; posts = length posts; links = links; sessions = sessions };
  outbox = record { last = length posts; posts = kept posts; answers = answers };
}

abbrev pending : ℕ → Command → Pending
pending session k = record { asked = asked_of session 1 k; need = 1; count = 0 }

abbrev pub entering : Message
entering = message.Enter 2

abbrev pub echo : Message
echo = message.EnterEcho (record { entered = with_two; joined = alone; left = set.empty }) view true 2

abbrev pub joining : Message
joining = message.Join 2

abbrev pub join_echo : Message
join_echo = message.JoinEcho 2

abbrev pub stored_back : Message
stored_back = message.Store view 2 2

abbrev pub acked_back : Message
acked_back = message.StoreAck 2 2

-- ---- node 1: it stores, and answers node 2 then

abbrev storing : Ops
storing = wrote (Storing (pending 7 (command.Store (0x61 ∷ []))))

-- alone, with so many of its own posts heard
abbrev before : ℕ → Ops → List Message → FinMap nat_cmp Answer → Node
before heard ops posts answers = node_with 1 (knows alone alone 0) (one 1 (link_of 0 heard)) ops posts (one 7 1) answers

-- with so many posts of node 2 heard, and who has joined by then
abbrev behind : ℕ → NatSet → List Message → Node
behind heard joined posts = node_with 1 (knows with_two joined 0) (links_of 2 (link_of 2 heard)) (wrote Idle) posts (one 7 1) (one 7 answer.Stored)

abbrev pub c0 : Node
c0 = node_with 1 (knows alone alone 0) (one 1 (link_of 0 0)) (nothing_done 32) [] none none

abbrev pub c1 : Node
c1 = before 0 storing (stored ∷ []) none

abbrev pub c2 : Node
c2 = before 1 storing (acked ∷ stored ∷ []) none

abbrev pub c3 : Node
c3 = before 2 (wrote Idle) (acked ∷ stored ∷ []) (one 7 answer.Stored)

abbrev pub c4 : Node
c4 = behind 1 alone (echo ∷ acked ∷ stored ∷ [])

abbrev pub c5 : Node
c5 = behind 2 with_two (join_echo ∷ echo ∷ acked ∷ stored ∷ [])

abbrev pub c6 : Node
c6 = behind 3 with_two (replied ∷ join_echo ∷ echo ∷ acked ∷ stored ∷ [])

abbrev pub c7 : Node
c7 = behind 4 with_two (acked_back ∷ replied ∷ join_echo ∷ echo ∷ acked ∷ stored ∷ [])

pub begins_1 : fresh first_opening ≡ c0
unfolding fresh difference union
begins_1 = simp tables refl

pub to_c1 : Takes c0 stores c1 (output.Send 1 1 stored ∷ [])
unfolding step next merge difference union decides decides_within
to_c1 = record { taken = simp tables refl; leads = simp tables refl; puts = simp tables refl }

pub to_c2 : Takes c1 (event.Deliver 1 1 stored) c2 (output.Ack 1 1 ∷ output.Send 1 2 acked ∷ [])
unfolding step next merge difference union decides decides_within
to_c2 = record { taken = simp tables refl; leads = simp tables refl; puts = simp tables refl }

pub to_c3 : Takes c2 (event.Deliver 1 2 acked) c3 (output.Ack 1 2 ∷ output.Reply 7 1 answer.Stored ∷ [])
unfolding step next merge difference union decides decides_within
to_c3 = record { taken = simp tables refl; leads = simp tables refl; puts = refl }

pub to_c4 : Takes c3 (event.Deliver 2 1 entering) c4 (output.Ack 2 1 ∷ output.Send 1 3 echo ∷ output.Send 2 1 echo ∷ [])
unfolding step next merge difference union decides decides_within
to_c4 = record { taken = simp tables refl; leads = simp tables refl; puts = simp tables refl }

pub to_c5 : Takes c4 (event.Deliver 2 2 joining) c5 (output.Ack 2 2 ∷ output.Send 1 4 join_echo ∷ output.Send 2 2 join_echo ∷ [])
unfolding step next merge difference union decides decides_within
to_c5 = record { taken = simp tables refl; leads = simp tables refl; puts = simp tables refl }

pub to_c6 : Takes c5 (event.Deliver 2 3 queried) c6 (output.Ack 2 3 ∷ output.Send 1 5 replied ∷ output.Send 2 3 replied ∷ [])
unfolding step next merge difference union decides decides_within
to_c6 = record { taken = simp tables refl; leads = simp tables refl; puts = simp tables refl }

pub to_c7 : Takes c6 (event.Deliver 2 4 stored_back) c7 (output.Ack 2 4 ∷ output.Send 1 6 acked_back ∷ output.Send 2 4 acked_back ∷ [])
unfolding step next merge difference union decides decides_within
to_c7 = record { taken = simp tables refl; leads = simp tables refl; puts = simp tables refl }

-- ---- node 2: it enters, joins, and collects

-- once node 1 told it who is there
abbrev told : Churn
told = knows (set.insert (set.insert set.empty 2) 1) with_two 1

abbrev pub joined : ℕ → Ops → List Message → Requests → FinMap nat_cmp Answer → Node
joined heard ops posts sessions answers = node_with 2 told (links_of heard (link_of 0 0)) ops posts sessions answers

abbrev querying : Ops
querying = saw view 1 (Querying (pending 9 command.Collect)) []

abbrev pub d0 : Node
d0 = node_with 2 (knows set.empty set.empty 0) (links_of 0 (link_of 0 0)) (nothing_done 32) [] none none

abbrev pub d1 : Node
d1 = node_with 2 (knows (set.insert set.empty 2) set.empty 0) (links_of 0 (link_of 0 0)) (nothing_done 32) (entering ∷ []) none none

abbrev pub d2 : Node
d2 = joined 1 (saw view 0 Idle []) (joining ∷ entering ∷ []) none none

abbrev pub d3 : Node
d3 = joined 1 querying (queried ∷ joining ∷ entering ∷ []) (one 9 1) none

abbrev pub d4 : Node
d4 = joined 2 querying (queried ∷ joining ∷ entering ∷ []) (one 9 1) none

abbrev pub d5 : Node
d5 = joined 3 (saw view 2 (StoringBack (pending 9 command.Collect) view) []) (stored_back ∷ queried ∷ joining ∷ entering ∷ []) (one 9 1) none

abbrev pub d6 : Node
d6 = joined 4 (saw view 2 Idle []) (stored_back ∷ queried ∷ joining ∷ entering ∷ []) (one 9 1) (one 9 (answer.Seen view))

pub begins_2 : fresh entrant ≡ d0
unfolding fresh difference union
begins_2 = simp tables refl

pub to_d1 : Takes d0 event.Enter d1 (both 1 entering)
unfolding step next merge difference union decides decides_within
to_d1 = record { taken = simp tables refl; leads = simp tables refl; puts = simp tables refl }

pub to_d2 : Takes d1 (event.Deliver 1 1 echo) d2 (output.Ack 1 1 ∷ both 2 joining)
unfolding step next merge difference union decides decides_within
to_d2 = record { taken = simp tables refl; leads = simp tables refl; puts = simp tables refl }

pub to_d3 : Takes d2 collects d3 (both 3 queried)
unfolding step next merge difference union decides decides_within
to_d3 = record { taken = simp tables refl; leads = simp tables refl; puts = simp tables refl }

pub to_d4 : Takes d3 (event.Deliver 1 2 join_echo) d4 (output.Ack 1 2 ∷ [])
unfolding step next merge difference union decides decides_within
to_d4 = record { taken = simp tables refl; leads = simp tables refl; puts = refl }

pub to_d5 : Takes d4 (event.Deliver 1 3 replied) d5 (output.Ack 1 3 ∷ both 4 stored_back)
unfolding step next merge difference union decides decides_within
to_d5 = record { taken = simp tables refl; leads = simp tables refl; puts = simp tables refl }

pub to_d6 : Takes d5 (event.Deliver 1 4 acked_back) d6 (output.Ack 1 4 ∷ output.Reply 9 1 (answer.Seen view) ∷ [])
unfolding step next merge difference union decides decides_within
to_d6 = record { taken = simp tables refl; leads = simp tables refl; puts = refl }
