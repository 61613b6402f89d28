-- When an intake refuses an event.
--     MayAccept               the core doesn't refuse it, and the life has room for it
--     Refuses                 what each refusal says, and leaves
use Rattle.std.specs.Prelude.{◌≡◌, ◌⊎◌, ◌+◌, ◌<◌, ℕ, None, Some, List, length}
use Rattle.crossbeam_queue.specs.Fifo.{Held}
use Rattle.cc_messages.specs.declared.event.Event.{Event}
use Rattle.cc_messages.specs.declared.refusal.Refusal.{Refusal}
use Rattle.cc_messages.specs.declared.refusal.Refusal.TheVariants.{Spent, NoMemory, QueueFull}
use Rattle.cc_node.specs.Node.{Node}
use Rattle.cc_node.specs.Refusals.{decides}
use Rattle.cc_journal.specs.declared.entry.Entry.{Entry}
use Rattle.cc_intake.specs.Histories.{life_limit, core_after}
use Rattle.cc_intake.specs.Intakes.{Accepting}
use Rattle.cc_intake.specs.Ends.{queue_limit}
use Rattle.cc_intake.specs.Line.{WasRest}

abbrev pub MayAccept : Node → Accepting → Event → Type 0
MayAccept opening i event = (decides (core_after opening i.entries) event ≡ None) × (length i.entries < life_limit)

-- Why an intake refuses the event, and the intake that it leaves: the core's own reason, the limit of one life, memory, or a
-- queue that was full: what it accepted is the list that was all that had been popped at this very look, and 256 entries
-- behind it. Each look that found the queue full counts, so none stands for two refusals.
abbrev pub Refuses : Node → (ℕ → List Entry → Type 0) → Accepting → Event → Refusal → Accepting → Type 0
Refuses opening taken i event Spent j =
    ((decides (core_after opening i.entries) event ≡ Some Spent) ⊎ ((decides (core_after opening i.entries) event ≡ None)
    × (length i.entries ≡ life_limit))) × (j ≡ i)
Refuses opening taken i event NoMemory j = MayAccept opening i event × (j ≡ i)
Refuses opening taken i event QueueFull j =
    MayAccept opening i event × (j ≡ record { entries = i.entries; finds = i.finds + 1; issued = i.issued })
    × Held queue_limit (WasRest taken i.finds i.entries)
Refuses opening taken i event r j = (decides (core_after opening i.entries) event ≡ Some r) × (j ≡ i)
