-- What the entries that were accepted in one life lead to.
--     life_limit              how many there are at most
--     core_after              the core after them
--     entry_at                the next one, for an event
--     stirs                   whether an event makes a post or an answer
use Rattle.std.specs.Prelude.{ℕ, ◌^◌, ◌||◌, ◌==◌, not, Bool, List, length, is_some}
use Rattle.cc_messages.specs.declared.event.Event.{Event}
use Rattle.cc_node.specs.Core.{Core, made}
use Rattle.cc_node.specs.Node.{Node, after}
use Rattle.cc_node.specs.declared.made.Made.{Made}
use Rattle.cc_journal.specs.declared.entry.Entry.{Entry}
use Rattle.cc_journal.specs.Batches.{events_in}

abbrev pub life_limit : ℕ
life_limit = 2 ^ 61

abbrev pub core_after : Node → List Entry → Core
core_after opening entries = (after opening (events_in entries)).core

-- the event with what it makes of this core
abbrev pub entry_at : Core → Event → Entry
entry_at core event = record { event = event; made = made core event }

-- beside an acknowledgement, which nobody waits for, there is a post or an answer in what an event makes
abbrev pub stirs : Made → Bool
stirs m = is_some m.post || not (length m.answers == 0)
