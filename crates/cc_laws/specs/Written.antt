-- Which values a node's clients wrote: each writing ask makes one, in the order in which the asks were accepted.
--     values_of mine asks       what the writing asks of a list make of the own value, one after the other
--     IsWrite values k x        write number k, counted from 1, made x
--     IsWriteOf events k x      the k-th writing ask among the events of a node made x
use Rattle.std.specs.Prelude.{◌≡◌, ℕ, ◌+◌, List, [], ◌∷◌, Some, slice_get, if◌then◌else◌}
use Rattle.cc_views.specs.declared.value.Value.{Value}
use Rattle.cc_messages.specs.declared.event.Event.{Event}
use Rattle.cc_ops.specs.declared.pending_operation.Asked.{Asked}
use Rattle.cc_ops.specs.Commands.{is_writing, written}
use Rattle.cc_ops.specs.Ops.{nothing_stored}
use Rattle.cc_node.specs.Writes.{asked_along}

abbrev pub values_of : Value → List Asked → List Value
values_of mine [] = []
values_of mine (asked ∷ asks) =
    if is_writing asked.command
    then written asked.command mine ∷ values_of (written asked.command mine) asks
    else values_of mine asks

abbrev pub IsWrite : List Value → ℕ → Value → Type 0
IsWrite values k x = (before : ℕ) × (k ≡ before + 1) × (slice_get values before ≡ Some x)

abbrev pub IsWriteOf : List Event → ℕ → Value → Type 0
IsWriteOf events k x = IsWrite (values_of nothing_stored (asked_along events)) k x
