-- What each moment keeps, for a life that began at a node and was handed events. A moment is what a crash leaves of the two
-- sides then, and what the outlet has got by then.
--     AllMade      what the outlet got stood at the start, or was made by the events
--     IsGoodAt     the sides stand for the node after a prefix that has the durable events, and what was sent was made in it
--     RestsAt      one side holds the node after all events, and what was sent was made by them
use Rattle.std.specs.Prelude.{◌≤◌, ℕ, List, length, take, drop}
use Rattle.std.specs.List.{Contains}
use Rattle.cc_messages.specs.declared.event.Event.{Event}
use Rattle.cc_messages.specs.declared.output.Output.{Output}
use Rattle.cc_node.specs.Node.{Node, after, MayBeOut}
use Rattle.cc_node_state.specs.Sides.{StandsAt, Stands}

-- the same past the first `opening` outputs
abbrev pub AllMade : Node → List Event → ℕ → List Output → Type 0
AllMade start events opening told = (output : Output) → Contains (drop opening told) output → MayBeOut start events output

pub record IsGoodAt (start : Node) (events : List Event) (durable opening : ℕ) (a b : List ℕ) (told : List Output) : Type 0 where
  pub a_there : 1 ≤ length a
  pub b_there : 1 ≤ length b
  pub prefix : ℕ
  pub has_durable : durable ≤ prefix
  pub within : prefix ≤ length events
  pub stands : Stands a b (after start (take prefix events))
  pub made : AllMade start (take prefix events) opening told

pub record RestsAt (generation place : ℕ) (start : Node) (events : List Event) (opening : ℕ) (bytes others : List ℕ) (told : List Output) : Type 0 where
  pub other_there : 1 ≤ length others
  pub stands : StandsAt bytes others generation place (after start events)
  pub made : AllMade start events opening told
