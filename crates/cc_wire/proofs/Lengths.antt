-- How long spellings are at most.
use Rattle.std.proofs.Common.{◌≡◌, ℕ, ◌+◌, ◌*◌, ◌≤◌, Bool, true, false, List, [], ◌∷◌, ◌++◌, length, refl, arith}
use Rattle.std.specs.Int.{w32, w64, to_be_bytes}
use Rattle.std.specs.List.{flat_map, AllByRecursion}
use Rattle.std.proofs.lemmas.List.{length-append}
use Rattle.std.proofs.lemmas.List.Concat.{flat_map-cons}
use Rattle.cc_views.specs.NatSets.{NatSet, items}
use Rattle.cc_views.specs.declared.value.Value.{Value}
use Rattle.cc_views.specs.declared.row.Row.{Row}
use Rattle.cc_views.specs.Rows.{ViewMap, rows_of}
use Rattle.cc_changes.specs.ChangeSets.{ChangeSets}
use Rattle.cc_messages.specs.declared.message.Message.{Message}
use Rattle.cc_messages.specs.declared.message.Message.TheVariants as messages
use Rattle.cc_messages.specs.declared.command.Command.{Command}
use Rattle.cc_messages.specs.declared.command.Command.TheVariants as commands
use Rattle.cc_messages.specs.declared.answer.Answer.{Answer}
use Rattle.cc_messages.specs.declared.answer.Answer.TheVariants as answers
use Rattle.cc_messages.specs.declared.event.Event.{Event}
use Rattle.cc_messages.specs.declared.event.Event.TheVariants as events
use Rattle.cc_wire.specs.Spellings.{text_spelling, IsText, flag_spelling, number_spelling, number_set_spelling, IsNumberSet, value_spelling, IsValue}
use Rattle.cc_wire.specs.Spellings.{row_spelling, IsRow, view_spelling, IsView, listed_spelling, number_list_spelling, IsNumberList, id_set_spelling}
use Rattle.cc_wire.specs.Spellings.{IsIdSet, changes_spelling, IsChanges}
use Rattle.cc_wire.specs.Messages.{call_spelling, echo_spelling, IsEcho, snapshot_spelling, IsSnapshot, message_spelling, IsMessage}
use Rattle.cc_wire.specs.Commands.{command_spelling, IsCommand}
use Rattle.cc_wire.specs.Answers.{answer_spelling, IsAnswer}
use Rattle.cc_wire.specs.Events.{numbered_spelling, delivery_spelling, IsDelivery, asked_spelling, IsAsked, event_spelling, IsEvent}
use Rattle.cc_wire.proofs.Views.{len-rows_of}

-- each piece has at most so many bytes
pub length-pieces : {X : Type 0} (P : X → Type 0) (f : X → List ℕ) (most : ℕ) → ((x : X) → P x → length (f x) ≤ most) → (xs : List X)
    → AllByRecursion P xs → length (flat_map f xs) ≤ most * length xs
length-pieces P f most each [] all = omega arith
length-pieces P f most each (x ∷ xs) all =
    omega (arith, flat_map-cons f x xs, length-append (f x) (flat_map f xs), each x all.0, length-pieces P f most each xs all.1)

-- numbers take four bytes each
pub length-numbers : (ns : List ℕ) → length (flat_map number_spelling ns) ≡ 4 * length ns
length-numbers [] = refl
length-numbers (n ∷ ns) = omega (arith, length-numbers ns)

-- a length and at most 64 bytes
pub length-text : (text : List ℕ) → IsText text → length (text_spelling text) ≤ 65
length-text text is = omega (arith, is.fits)

-- one byte
pub length-flag : (flag : Bool) → length (flag_spelling flag) ≡ 1
length-flag true = refl
length-flag false = refl

-- a count and at most 32 numbers
pub length-number_set : (s : NatSet) → IsNumberSet s → length (number_set_spelling s) ≤ 129
length-number_set s is = omega (arith, is.fits, length-numbers (items s))

-- text, maximum, flag and set
pub length-value : (v : Value) → IsValue v → length (value_spelling v) ≤ 203
length-value v is =
    omega (
      arith,
      length-append (text_spelling v.text) (to_be_bytes w64 v.max ++ (flag_spelling v.flag ++ number_set_spelling v.set)),
      length-append (flag_spelling v.flag) (number_set_spelling v.set),
      length-text v.text is.text,
      length-flag v.flag,
      length-number_set v.set is.set,
    )

-- node, number and value
pub length-row : (row : Row) → IsRow row → length (row_spelling row) ≤ 215
length-row row is = omega (arith, length-value row.value is.value)

-- a count and at most 256 rows
pub length-view : (v : ViewMap) → IsView v → length (view_spelling v) ≤ 55042
length-view v is = omega (arith, length-pieces IsRow row_spelling 215 length-row (rows_of v) is.rows, len-rows_of v, is.fits)

-- a count and the numbers
pub length-listed : (ns : List ℕ) → length (listed_spelling ns) ≡ 2 + 4 * length ns
length-listed ns = omega (arith, length-numbers ns)

-- at most 8,192 numbers
pub length-number_list : (s : NatSet) → IsNumberList s → length (number_list_spelling s) ≤ 32770
length-number_list s is = omega (arith, is.fits, length-listed (items s))

-- at most 256 ids
length-id_set : (s : NatSet) → IsIdSet s → length (id_set_spelling s) ≤ 1026
length-id_set s is = omega (arith, is.fits, length-listed (items s))

-- three sets of ids
pub length-changes : (c : ChangeSets) → IsChanges c → length (changes_spelling c) ≤ 3078
length-changes c is =
    omega (
      arith,
      length-append (id_set_spelling c.entered) (id_set_spelling c.joined ++ id_set_spelling c.left),
      length-append (id_set_spelling c.joined) (id_set_spelling c.left),
      length-id_set c.entered is.entered,
      length-id_set c.joined is.joined,
      length-id_set c.left is.left,
    )

-- a view, a tag and a node
length-view_call : (v : ViewMap) (tag node : ℕ) → IsView v → length (view_spelling v ++ call_spelling tag node) ≤ 55054
length-view_call v tag node is = omega (arith, length-append (view_spelling v) (call_spelling tag node), length-view v is)

-- changes, a view, a flag and a node
length-echo : (c : ChangeSets) (v : ViewMap) (b : Bool) (node : ℕ) → IsEcho c v node → length (echo_spelling c v b node) ≤ 58125
length-echo c v b node is =
    omega (
      arith,
      length-append (changes_spelling c) (view_spelling v ++ (flag_spelling b ++ to_be_bytes w32 node)),
      length-append (view_spelling v) (flag_spelling b ++ to_be_bytes w32 node),
      length-append (flag_spelling b) (to_be_bytes w32 node),
      length-changes c is.changes_fit,
      length-view v is.view_fits,
      length-flag b,
    )

-- changes and a view
length-snapshot : (c : ChangeSets) (v : ViewMap) → IsSnapshot c v → length (snapshot_spelling c v) ≤ 58120
length-snapshot c v is =
    omega (arith, length-append (changes_spelling c) (view_spelling v), length-changes c is.changes_fit, length-view v is.view_fits)

-- an echo is the longest
pub length-message : (m : Message) → IsMessage m → length (message_spelling m) ≤ 58126
length-message (messages.Enter node) is = omega arith
length-message (messages.EnterEcho c v b node) is = omega (arith, length-echo c v b node is)
length-message (messages.Join node) is = omega arith
length-message (messages.JoinEcho node) is = omega arith
length-message (messages.Leave node) is = omega arith
length-message (messages.LeaveEcho node) is = omega arith
length-message (messages.Query tag node) is = omega arith
length-message (messages.QueryReply v tag node) is = omega (arith, length-view_call v tag node is.0)
length-message (messages.Store v tag node) is = omega (arith, length-view_call v tag node is.0)
length-message (messages.StoreAck tag node) is = omega arith
length-message (messages.Snapshot c v) is = omega (arith, length-snapshot c v is)

-- a text is the longest
pub length-command : (c : Command) → IsCommand c → length (command_spelling c) ≤ 66
length-command (commands.Store text) is = omega (arith, length-text text is)
length-command commands.Collect is = omega arith
length-command (commands.WriteMax n) is = omega arith
length-command commands.ReadMax is = omega arith
length-command commands.SetFlag is = omega arith
length-command commands.ReadFlag is = omega arith
length-command (commands.AddMember n) is = omega arith
length-command commands.ReadSet is = omega arith

-- a view is the longest
pub length-answer : (a : Answer) → IsAnswer a → length (answer_spelling a) ≤ 55043
length-answer answers.Stored is = omega arith
length-answer (answers.Seen v) is = omega (arith, length-view v is)
length-answer (answers.Max n) is = omega arith
length-answer (answers.Flag b) is = omega (arith, length-flag b)
length-answer (answers.Set s) is = omega (arith, length-number_list s is)

-- a node, a number and a message
pub length-delivery : (from n : ℕ) (m : Message) → IsDelivery from n m → length (delivery_spelling from n m) ≤ 58138
length-delivery from n m is = omega (arith, length-append (numbered_spelling from n) (message_spelling m), length-message m is.message_fits)

-- a place and a command
pub length-asked : (session request : ℕ) (c : Command) → IsAsked session request c → length (asked_spelling session request c) ≤ 82
length-asked session request c is = omega (arith, length-command c is.command_fits)

-- a delivery is the longest
pub length-event : (e : Event) → IsEvent e → length (event_spelling e) ≤ 58139
length-event events.Enter is = omega arith
length-event events.Leave is = omega arith
length-event (events.Deliver from n m) is = omega (arith, length-delivery from n m is)
length-event (events.Acked peer n) is = omega arith
length-event (events.Ask session request c) is = omega (arith, length-asked session request c is)
length-event (events.Retire node) is = omega arith
length-event (events.Lapse node) is = omega arith
length-event events.Snapshot is = omega arith
length-event (events.Skip from posts) is = omega arith
length-event (events.Share share) is = omega arith
