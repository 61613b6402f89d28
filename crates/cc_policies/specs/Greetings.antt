-- Which nodes are taken when they greet, and what is remembered of their greetings.
--     why_unwelcome                 why a node isn't taken that greets: the first of six reasons
--     Greetings                     of each node that was welcomed the birth that it told first, its last run, and the last other one
--     found, row_after, with_row    the row of a node, if it has one;  once it was welcomed;  one in place of it
--     greeted, after_greeting       what is made of a greeting;  and what is remembered then
--     greeter_after                 for whom a connection may speak once its greeting was judged
--     answer_to                     the frame that answers a greeting
--     is_old_copy                   a folder is behind what was told of it
--     hello_of, met                 what a node greets a peer with;  and what it makes of the frame that comes back
--     told                          what the greetings of a node told that were welcomed: what its row has to be
--     AreRemembered, AreAllRemembered     what is remembered of any greetings
use Rattle.std.specs.Prelude.{◌≡◌, ◌≤◌, ◌<◌, ℕ, ◌==◌, ◌&&◌, nat_lt, not, Bool, true, false, List, [], ◌∷◌, ◌++◌, length, filter, find, bytes_eq}
use Rattle.std.specs.Prelude.{Option, Some, None, option_map, unwrap_or, if◌then◌else◌}
use Rattle.std.specs.List.{list_any}
use Rattle.cc_changes.specs.declared.fraction.Fraction.{Fraction}
use Rattle.cc_connections.specs.declared.frame.Frame.{Frame}
use Rattle.cc_connections.specs.declared.frame.Frame.TheVariants as frame
use Rattle.cc_connections.specs.declared.hello.Hello.{Hello}
use Rattle.cc_connections.specs.declared.hello.Reason.{Reason}
use Rattle.cc_connections.specs.declared.hello.Reason.TheVariants as reason
use Rattle.cc_policies.specs.declared.greetings.Recipient.{Recipient}
use Rattle.cc_policies.specs.declared.greetings.PeerGreeting.{PeerGreeting}
use Rattle.cc_policies.specs.declared.greetings.Greeted.{Greeted}
use Rattle.cc_policies.specs.declared.greetings.Greeted.TheVariants as greets
use Rattle.cc_policies.specs.declared.greetings.Greeter.{Greeter}
use Rattle.cc_policies.specs.declared.greetings.Met.{Met}
use Rattle.cc_policies.specs.declared.greetings.Met.TheVariants as meets

-- ---- who is welcome

-- shares are compared as they are written: 6/8 isn't 3/4
abbrev pub is_same_share : Fraction → Fraction → Bool
is_same_share a b = (a.num == b.num) && (a.den == b.den)

abbrev pub counts_alike : Recipient → Hello → Bool
counts_alike me h = is_same_share h.beta me.beta && is_same_share h.gamma me.gamma

-- a node of that id was welcomed with another birth
abbrev pub is_other_birth : Option ℕ → ℕ → Bool
is_other_birth None birth = false
is_other_birth (Some first) birth = not (first == birth)

-- why a node isn't taken that greets, where a node of its id told `birth` when it was welcomed first
abbrev pub why_unwelcome : Recipient → Hello → Option ℕ → Bool → Option Reason
why_unwelcome me h birth has_left =
    if not (bytes_eq h.cluster me.cluster) then Some reason.OtherCluster
    else (if not (h.to == me.node) then Some reason.OtherNode
    else (if h.from == me.node then Some reason.OwnId
    else (if is_other_birth birth h.birth then Some reason.OtherBirth
    else (if not (counts_alike me h) then Some reason.OtherQuorums
    else (if has_left then Some reason.HasLeft else None)))))

-- ---- what is remembered

abbrev pub Greetings : Type 0
Greetings = List PeerGreeting

-- as many as a node knows ids
abbrev pub peer_limit : ℕ
peer_limit = 256

abbrev pub found : ℕ → Greetings → Option PeerGreeting
found node rows = find (λ (r : PeerGreeting). r.node == node) rows

abbrev pub birth_of : ℕ → Greetings → Option ℕ
birth_of node rows = option_map (λ (r : PeerGreeting). r.birth) (found node rows)

-- the run that was heard before the last one, and was another
abbrev pub is_run : ℕ → Option ℕ → Bool
is_run run None = false
is_run run (Some other) = other == run

-- that run was heard before, and another one since
abbrev pub is_doubled : ℕ → ℕ → Greetings → Bool
is_doubled node run rows = list_any (λ (r : PeerGreeting). (r.node == node) && is_run run r.other_run) rows

abbrev pub other_run_after : ℕ → PeerGreeting → Option ℕ
other_run_after run row = if row.run == run then row.other_run else Some row.run

abbrev pub row_first : Hello → PeerGreeting
row_first h = record { node = h.from; birth = h.birth; run = h.run; other_run = None }

-- the birth stays that which was told first
abbrev pub row_next : Hello → PeerGreeting → PeerGreeting
row_next h row = record { node = h.from; birth = row.birth; run = h.run; other_run = other_run_after h.run row }

abbrev pub row_after : Hello → Option PeerGreeting → PeerGreeting
row_after h known = unwrap_or (option_map (row_next h) known) (row_first h)

abbrev pub others : ℕ → Greetings → Greetings
others node rows = filter (λ (r : PeerGreeting). not (r.node == node)) rows

abbrev pub with_row : PeerGreeting → Greetings → Greetings
with_row row rows =
    if nat_lt (length (others row.node rows)) peer_limit then others row.node rows ++ row ∷ [] else others row.node rows

-- once a greeting was welcomed
abbrev pub after_welcome : Hello → Greetings → Greetings
after_welcome h rows = with_row (row_after h (found h.from rows)) rows

-- ---- a greeting

abbrev pub welcomed : Bool → Greeted
welcomed true = greets.Doubled
welcomed false = greets.Welcome

abbrev pub greeted_unless : Option Reason → Hello → Greetings → Greeted
greeted_unless (Some why) h rows = greets.Unwelcome why
greeted_unless None h rows = welcomed (is_doubled h.from h.run rows)

abbrev pub greeted : Recipient → Hello → Bool → Greetings → Greeted
greeted me h has_left rows = greeted_unless (why_unwelcome me h (birth_of h.from rows) has_left) h rows

abbrev pub after_unless : Option Reason → Hello → Greetings → Greetings
after_unless (Some why) h rows = rows
after_unless None h rows = after_welcome h rows

abbrev pub after_greeting : Recipient → Hello → Bool → Greetings → Greetings
after_greeting me h has_left rows = after_unless (why_unwelcome me h (birth_of h.from rows) has_left) h rows

-- what the node `me` answers, that has taken in what the other posted up to `heard`
abbrev pub answer_to : ℕ → ℕ → Greeted → Frame
answer_to me heard greets.Welcome = frame.Welcome heard
answer_to me heard greets.Doubled = frame.Doubled heard
answer_to me heard (greets.Unwelcome why) = frame.Unwelcome why me

-- a peer has heard more than was ever posted to it
abbrev pub is_old_copy : ℕ → ℕ → Bool
is_old_copy heard posted = nat_lt posted heard

-- the node that greeted, where it is taken
abbrev pub greeter_after : Greeted → Hello → Option ℕ
greeter_after greets.Welcome h = Some h.from
greeter_after greets.Doubled h = Some h.from
greeter_after (greets.Unwelcome why) h = None

-- ---- the other end

-- what a peer is greeted with whose posts were taken in up to `heard`
abbrev pub hello_of : Greeter → ℕ → ℕ → Hello
hello_of g peer heard = record {
  cluster = g.me.cluster;
  from = g.me.node;
  to = peer;
  beta = g.me.beta;
  gamma = g.me.gamma;
  birth = g.birth;
  run = g.run;
  heard = heard;
}

-- a peer that has heard more than was posted tells of an old copy, whatever else it tells
abbrev pub unless_old : Met → ℕ → ℕ → Met
unless_old m heard posted = if is_old_copy heard posted then meets.OldCopy heard else m

-- what the frame that comes back tells a node that has posted up to `posted` to that peer
abbrev pub met : ℕ → Frame → Met
met posted (frame.Welcome heard) = unless_old meets.Welcome heard posted
met posted (frame.Doubled heard) = unless_old meets.Doubled heard posted
met posted (frame.Unwelcome why node) = meets.Unwelcome why node
met posted _ = meets.NoAnswer

pub record IsGreetings (rows : Greetings) (capacity : ℕ) : Type 0 where
  pub fits : length rows ≤ peer_limit
  pub room : peer_limit ≤ capacity

-- ---- what a row says, of the greetings that were welcomed, the newest first

abbrev pub of_node : ℕ → List Hello → List Hello
of_node node hellos = filter (λ (h : Hello). h.from == node) hellos

-- what greetings of one node told first
abbrev pub first_birth : List Hello → Option ℕ
first_birth [] = None
first_birth (h ∷ hs) = Some (unwrap_or (first_birth hs) h.birth)

-- the last run that isn't this one
abbrev pub last_other : ℕ → List Hello → Option ℕ
last_other run hs = option_map (λ (h : Hello). h.run) (find (λ (h : Hello). not (h.run == run)) hs)

abbrev pub told_by : List Hello → Option PeerGreeting
told_by [] = None
told_by (h ∷ hs) = Some (record { node = h.from; birth = unwrap_or (first_birth hs) h.birth; run = h.run; other_run = last_other h.run hs })

abbrev pub told : ℕ → List Hello → Option PeerGreeting
told node hellos = told_by (of_node node hellos)

-- the table after all of them
abbrev pub table_of : List Hello → Greetings
table_of [] = []
table_of (h ∷ hs) = after_welcome h (table_of hs)

-- a row is what the greetings of its node told
abbrev pub AreRemembered : Type 0
AreRemembered = (hellos : List Hello) (node : ℕ) (row : PeerGreeting) → found node (table_of hellos) ≡ Some row → told node hellos ≡ Some row

-- and where the table isn't full, each node that was welcomed has one
abbrev pub AreAllRemembered : Type 0
AreAllRemembered = (hellos : List Hello) (node : ℕ) → length (table_of hellos) < peer_limit → found node (table_of hellos) ≡ told node hellos
