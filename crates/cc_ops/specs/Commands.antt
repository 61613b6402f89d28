-- The commands of a client: each writes one slot of the node's own value, or reads one slot over a view.
--     is_writing c       whether a command writes
--     written c mine     the own value after a command; a reading one leaves it
--     finds_no_room      whether a command would put a number too many into the set slot
--     answer_of c v      what a command is answered, a reading one from that view
use Rattle.std.specs.Prelude.{Bool, true, false, max, not, ◌&&◌, ◌==◌}
use Rattle.cc_views.specs.Limits.{set_limit}
use Rattle.cc_views.specs.NatSets as set
use Rattle.cc_views.specs.Rows.{ViewMap}
use Rattle.cc_views.specs.declared.value.Value.{Value}
use Rattle.cc_objects.specs.Objects.{max_of, flag_of, set_of}
use Rattle.cc_messages.specs.declared.command.Command.{Command}
use Rattle.cc_messages.specs.declared.command.Command.TheVariants as command
use Rattle.cc_messages.specs.declared.answer.Answer.{Answer}
use Rattle.cc_messages.specs.declared.answer.Answer.TheVariants as answer

abbrev pub is_writing : Command → Bool
is_writing (command.Store text) = true
is_writing command.Collect = false
is_writing (command.WriteMax x) = true
is_writing command.ReadMax = false
is_writing command.SetFlag = true
is_writing command.ReadFlag = false
is_writing (command.AddMember x) = true
is_writing command.ReadSet = false

abbrev pub written : Command → Value → Value
written (command.Store text) mine = record mine { text = text }
written (command.WriteMax x) mine = record mine { max = max mine.max x }
written command.SetFlag mine = record mine { flag = true }
written (command.AddMember x) mine = record mine { set = set.insert mine.set x }
written _ mine = mine

abbrev pub answer_of : Command → ViewMap → Answer
answer_of command.Collect v = answer.Seen v
answer_of command.ReadMax v = answer.Max (max_of v)
answer_of command.ReadFlag v = answer.Flag (flag_of v)
answer_of command.ReadSet v = answer.Set (set_of v)
answer_of _ v = answer.Stored

-- whether a command finds no room in the set slot
abbrev pub finds_no_room : Value → Command → Bool
finds_no_room mine (command.AddMember x) = (set.len mine.set == set_limit) && not (set.contains mine.set x)
finds_no_room mine _ = false
