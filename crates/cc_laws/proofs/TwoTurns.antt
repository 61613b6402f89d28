-- What two nodes take, one event after the other, and the moves that this is.
--     Taken                  an event that node 1 or 2 takes, and what it puts out;  asks, hears: a client's ask, a message
--     events_by q ts         the events that node q takes
--     sent_along ts          what both put out
--     moves_along i j ts     the moves, where node 1 took i events before, and node 2 took j
use Rattle.std.proofs.Common.{ℕ, ◌+◌, List, [], ◌∷◌, ◌++◌}
use Rattle.std.specs.Prelude.{◌==◌, if◌then◌else◌}
use Rattle.cc_messages.specs.declared.command.Command.{Command}
use Rattle.cc_messages.specs.declared.event.Event.{Event}
use Rattle.cc_messages.specs.declared.event.Event.TheVariants as event
use Rattle.cc_messages.specs.declared.message.Message.{Message}
use Rattle.cc_messages.specs.declared.output.Output.{Output}
use Rattle.cc_messages.specs.declared.output.Output.TheVariants as output
use Rattle.cc_laws.specs.Clusters.{Sent, Move, Accept, Receive}
use Rattle.cc_laws.proofs.Turns.{sent_by, turn}

pub record Taken : Type 0 where
  pub node : ℕ
  pub event : Event
  pub outputs : List Output

abbrev pub asks : ℕ → ℕ → ℕ → Command → List Output → Taken
asks q s r command outputs = record { node = q; event = event.Ask s r command; outputs = outputs }

-- it acknowledges the message first
abbrev pub hears : ℕ → ℕ → ℕ → Message → List Output → Taken
hears q from n m outputs = record { node = q; event = event.Deliver from n m; outputs = output.Ack from n ∷ outputs }

abbrev move_of : Event → Move
move_of (event.Deliver from n m) = Receive from n m
move_of e = Accept e

abbrev pub events_by : ℕ → List Taken → List Event
events_by q [] = []
events_by q (t ∷ ts) = if t.node == q then t.event ∷ events_by q ts else events_by q ts

abbrev pub sent_along : List Taken → List Sent
sent_along [] = []
sent_along (t ∷ ts) = sent_by t.node t.outputs ++ sent_along ts

abbrev pub moves_along : ℕ → ℕ → List Taken → List (ℕ × Move)
moves_along i j [] = []
moves_along i j (t ∷ ts) =
    if t.node == 1
    then turn 1 (move_of t.event) i ++ moves_along (i + 1) j ts
    else turn 2 (move_of t.event) j ++ moves_along i (j + 1) ts
