-- Which asks are accepted along a list of events, and which begin.
--     asked_by e           the ask that an event is, if it is one: one at most
--     asked_along es       the asks among a list of events, in order
--     begun_along n es     those that begin along it
use Rattle.std.specs.Prelude.{List, [], ◌∷◌, ◌++◌}
use Rattle.cc_messages.specs.declared.event.Event.{Event}
use Rattle.cc_messages.specs.declared.event.Event.TheVariants as event
use Rattle.cc_ops.specs.declared.pending_operation.Asked.{Asked}
use Rattle.cc_node.specs.Core.{asked_of, begun}
use Rattle.cc_node.specs.Node.{Node, step}

abbrev pub asked_by : Event → List Asked
asked_by (event.Ask s r command) = asked_of s r command ∷ []
asked_by _ = []

abbrev pub asked_along : List Event → List Asked
asked_along [] = []
asked_along (e ∷ es) = asked_by e ++ asked_along es

abbrev pub begun_along : Node → List Event → List Asked
begun_along n [] = []
begun_along n (e ∷ es) = begun n.core e ++ begun_along (step n e) es
