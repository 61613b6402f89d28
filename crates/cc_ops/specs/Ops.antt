-- The client and the server of the store-collect object.
--     Phase, Ops                   how far the pending round has come, with its first ask; the view, the own value under its
--                                  number, the tag, how many asks a round has at most, the phase, the others of its round, and
--                                  the asks that wait behind it
--     awaits_views, answers_in, need_in     what the pending round waits for, how many answers it has, and how many it needs
--     begin_round me quorum asks s a new round begins of these asks, if there are any; else nothing is pending
--     after_ask me quorum a s      it begins where none is pending; else the ask waits
--     after_message me quorum m s  what a message makes of it; the last acknowledgement lets the first round of the line begin
--     begun_by_ask, begun_by       the asks that begin
--     post_of, first_post          what is posted in return, or as an operation begins
--     post_of_round                what asks that begin are posted with, if any do
--     replies_of                   what clients are told
--     anew quorum s                the pending phase begins anew;  question: what it asks the others
--     with_share share s           from the next round on so many asks begin together at most
--     pending, unanswered          the asks of the pending round; these, and those that wait
--     mine_at_last                 the own value once all that wait have begun
use Rattle.std.specs.Prelude.{◌==◌, ℕ, ◌+◌, ◌<◌, ◌≤◌, Bool, true, false, ◌&&◌, if◌then◌else◌, List, [], ◌∷◌, ◌++◌, map}
use Rattle.std.specs.Prelude.{Option, Some, None, option_map}
use Rattle.std.specs.Bool.{then_some}
use Rattle.std.specs.FinMap as table
use Rattle.cc_views.specs.Limits.{known_limit}
use Rattle.cc_views.specs.NatSets as set
use Rattle.cc_views.specs.Rows.{ViewMap, single}
use Rattle.cc_views.specs.Merge.{merge}
use Rattle.cc_views.specs.declared.value.Value.{Value}
use Rattle.cc_messages.specs.declared.message.Message.{Message}
use Rattle.cc_messages.specs.declared.message.Message.TheVariants as message
use Rattle.cc_ops.specs.declared.pending_operation.Asked.{Asked}
use Rattle.cc_ops.specs.declared.pending_operation.Pending.{Pending}
use Rattle.cc_ops.specs.declared.pending_operation.Reply.{Reply}
use Rattle.cc_ops.specs.Commands.{is_writing, answer_of}
use Rattle.cc_ops.specs.Rounds.{first_round, line_behind}
use Rattle.cc_ops.specs.WaitingAsks.{first_in, writes_by, written_by}

-- how far the client's operation has come; the last holds the view that is stored back
pub data Phase : Type 0 where
  Idle : Phase
  Storing : (p : Pending) → Phase
  Querying : (p : Pending) → Phase
  StoringBack : (p : Pending) (seen : ViewMap) → Phase

pub record Ops : Type 0 where
  pub view : ViewMap
  -- the own value, and how often it was written
  pub number : ℕ
  pub mine : Value
  pub tag : ℕ
  -- how many asks of one kind begin together at most
  pub share : ℕ
  pub phase : Phase
  -- the asks that are pending beside that of the phase, in the order in which they were accepted
  pub others : List Asked
  -- the asks that wait until the pending round has ended, in the order in which they were accepted
  pub line : List Asked

abbrev pub nothing_stored : Value
nothing_stored = record { text = []; max = 0; flag = false; set = set.empty }

-- nothing stored, and no operation pending
abbrev pub nothing_done : ℕ → Ops
nothing_done share = record { view = table.empty; number = 0; mine = nothing_stored; tag = 0; share = share; phase = Idle; others = []; line = [] }

abbrev pub is_idle : Phase → Bool
is_idle Idle = true
is_idle _ = false

-- whether the operation waits for the views of others
abbrev pub awaits_views : Phase → Bool
awaits_views (Querying p) = true
awaits_views _ = false

-- how many answers the pending round has, and how many it needs
abbrev pub answers_in : Phase → ℕ
answers_in Idle = 0
answers_in (Storing p) = p.count
answers_in (Querying p) = p.count
answers_in (StoringBack p seen) = p.count

abbrev pub need_in : Phase → ℕ
need_in Idle = 0
need_in (Storing p) = p.need
need_in (Querying p) = p.need
need_in (StoringBack p seen) = p.need

-- the view that is stored back
abbrev pub seen_in : Phase → Option ViewMap
seen_in (StoringBack p seen) = Some seen
seen_in _ = None

-- a round of an operation, of which no answer has come
abbrev pub round_of : ℕ → Asked → Pending
round_of quorum asked = record { asked = asked; need = quorum; count = 0 }

abbrev pub counted : Pending → Pending
counted p = record p { count = p.count + 1 }

-- whether one more answer is enough
abbrev pub is_last : Pending → Bool
is_last p = (p.count + 1) == p.need

abbrev pub merged : ViewMap → Ops → Ops
merged v s = record s { view = merge s.view v }

-- the next round of messages, under a tag of its own
abbrev pub next_round : Phase → Ops → Ops
next_round phase s = record s { tag = s.tag + 1; phase = phase }

-- the own value as these asks leave it, under the number of the last write among them
abbrev pub with_written : List Asked → Ops → Ops
with_written asks s = record s { number = s.number + writes_by asks; mine = written_by asks s.mine }

-- the view has the own value under its number
abbrev pub with_own_row : ℕ → Ops → Ops
with_own_row me s = merged (single (record { node = me; number = s.number; value = s.mine })) s

-- a new round begins: of an ask, and of others of its kind
abbrev pub round_begun : ℕ → ℕ → Asked → List Asked → Ops → Ops
round_begun me quorum asked others s =
    if is_writing asked.command
    then next_round (Storing (round_of quorum asked)) (with_own_row me (with_written (asked ∷ others) s))
    else next_round (Querying (round_of quorum asked)) s

abbrev pub begin_round : ℕ → ℕ → List Asked → Ops → Ops
begin_round me quorum [] s = record s { phase = Idle; others = [] }
begin_round me quorum (asked ∷ others) s = record (round_begun me quorum asked others s) { others = others }

-- an ask begins alone
abbrev pub with_begun : ℕ → ℕ → Asked → Ops → Ops
with_begun me quorum asked s = begin_round me quorum (asked ∷ []) s

-- where a round is pending, the ask waits behind the others
abbrev pub after_ask : ℕ → ℕ → Asked → Ops → Ops
after_ask me quorum asked s =
    if is_idle s.phase then with_begun me quorum asked s else record s { line = s.line ++ asked ∷ [] }

-- what an ask begins
abbrev pub begun_by_ask : Asked → Ops → List Asked
begun_by_ask asked s = if is_idle s.phase then asked ∷ [] else []

-- what an operation begins with
abbrev pub first_post : ℕ → Asked → Ops → Message
first_post me asked after =
    if is_writing asked.command then message.Store after.view after.tag me else message.Query after.tag me

-- what asks begin with that begin at once, if any do
abbrev pub post_of_round : ℕ → List Asked → Ops → Option Message
post_of_round me asks after = option_map (λ asked. first_post me asked after) (first_in asks)

-- whether an answer to q under this tag is to the pending round
abbrev pub is_own : ℕ → ℕ → ℕ → Ops → Bool
is_own me tag q s = (q == me) && (tag == s.tag)

-- one more reply to the query: with the last one, what is seen by then is stored back
abbrev pub after_reply : ℕ → ViewMap → Phase → Ops → Ops
after_reply quorum v (Querying p) s =
    if is_last p
    then next_round (StoringBack (round_of quorum p.asked) (merge s.view v)) (merged v s)
    else record (merged v s) { phase = Querying (counted p) }
after_reply quorum v _ s = s

-- the round is done: the first one of the asks that wait begins
abbrev pub after_last : ℕ → ℕ → Ops → Ops
after_last me quorum s = begin_round me quorum (first_round s.share s.line) (record s { line = line_behind s.share s.line })

-- one more acknowledgement of the store: with the last one the operation is done
abbrev pub after_ack : ℕ → ℕ → Phase → Ops → Ops
after_ack me quorum Idle s = s
after_ack me quorum (Storing p) s = if is_last p then after_last me quorum s else record s { phase = Storing (counted p) }
after_ack me quorum (Querying p) s = s
after_ack me quorum (StoringBack p seen) s = if is_last p then after_last me quorum s else record s { phase = StoringBack (counted p) seen }

-- whether one more acknowledgement ends the operation
abbrev pub ends_store : Phase → Bool
ends_store Idle = false
ends_store (Storing p) = is_last p
ends_store (Querying p) = false
ends_store (StoringBack p seen) = is_last p

abbrev pub after_message : ℕ → ℕ → Message → Ops → Ops
after_message me quorum (message.EnterEcho c v from_joined q) s = merged v s
after_message me quorum (message.QueryReply v tag q) s = if is_own me tag q s then after_reply quorum v s.phase s else s
after_message me quorum (message.Store v tag q) s = merged v s
after_message me quorum (message.StoreAck tag q) s = if is_own me tag q s then after_ack me quorum s.phase s else s
after_message me quorum (message.Snapshot c v) s = merged v s
after_message me quorum _ s = s

-- the asks that begin with one more acknowledgement
abbrev pub begun_in : Phase → Ops → List Asked
begun_in phase s = if ends_store phase then first_round s.share s.line else []

-- the asks that a message lets begin
abbrev pub begun_by : ℕ → Message → Ops → List Asked
begun_by me (message.StoreAck tag q) s = if is_own me tag q s then begun_in s.phase s else []
begun_by me _ s = []

-- whether a reply ends the query
abbrev pub ends_query : Phase → Bool
ends_query (Querying p) = is_last p
ends_query _ = false

-- before and after are the states around the message. Only a node that has joined serves others
abbrev pub post_of : ℕ → Bool → Message → Ops → Ops → Option Message
post_of me is_joined (message.Query tag q) before after = then_some is_joined (message.QueryReply after.view tag q)
post_of me is_joined (message.QueryReply v tag q) before after =
    then_some (is_own me tag q before && ends_query before.phase) (message.Store after.view after.tag me)
post_of me is_joined (message.Store v tag q) before after = then_some is_joined (message.StoreAck tag q)
post_of me is_joined (message.StoreAck tag q) before after =
    post_of_round me (begun_by me (message.StoreAck tag q) before) after
post_of me is_joined _ before after = None

-- the answer to an ask, read from that view
abbrev pub told : ViewMap → Asked → Reply
told seen asked = record { session = asked.session; request = asked.request; answer = answer_of asked.command seen }

-- what one more acknowledgement lets clients be told: the answers of a round, in its order; a store reads no view
abbrev pub replies_in : ViewMap → List Asked → Phase → List Reply
replies_in view others Idle = []
replies_in view others (Storing p) = if is_last p then map (told view) (p.asked ∷ others) else []
replies_in view others (Querying p) = []
replies_in view others (StoringBack p seen) = if is_last p then map (told seen) (p.asked ∷ others) else []

abbrev pub replies_of : ℕ → Message → Ops → List Reply
replies_of me (message.StoreAck tag q) s = if is_own me tag q s then replies_in s.view s.others s.phase else []
replies_of me _ s = []

-- the pending phase of the same ask, of which no answer has come; what is stored back stays
abbrev pub again : ℕ → Phase → Phase
again quorum Idle = Idle
again quorum (Storing p) = Storing (round_of quorum p.asked)
again quorum (Querying p) = Querying (round_of quorum p.asked)
again quorum (StoringBack p seen) = StoringBack (round_of quorum p.asked) seen

-- the pending phase begins anew: under the next tag, with the need of now
abbrev pub anew : ℕ → Ops → Ops
anew quorum s = next_round (again quorum s.phase) s

-- from the next round on so many asks begin together at most
abbrev pub with_share : ℕ → Ops → Ops
with_share share s = record s { share = share }

-- what a phase asks the others under a tag, where the node sees that view
abbrev pub question_in : ℕ → ViewMap → ℕ → Phase → Option Message
question_in me view tag Idle = None
question_in me view tag (Storing p) = Some (message.Store view tag me)
question_in me view tag (Querying p) = Some (message.Query tag me)
question_in me view tag (StoringBack p seen) = Some (message.Store seen tag me)

abbrev pub question : ℕ → Ops → Option Message
question me s = question_in me s.view s.tag s.phase

-- an operation waits for more answers than it has
pub record IsWaiting (p : Pending) : Type 0 where
  pub count : p.count < p.need
  pub need : p.need ≤ known_limit

-- the first ask of the pending round
abbrev pub asked_in : Phase → List Asked
asked_in Idle = []
asked_in (Storing p) = p.asked ∷ []
asked_in (Querying p) = p.asked ∷ []
asked_in (StoringBack p seen) = p.asked ∷ []

-- the asks that are pending
abbrev pub pending : Ops → List Asked
pending s = asked_in s.phase ++ s.others

-- the asks that are not answered yet
abbrev pub unanswered : Ops → List Asked
unanswered s = pending s ++ s.line

-- the own value once all that wait have begun
abbrev pub mine_at_last : Ops → Value
mine_at_last s = written_by s.line s.mine
