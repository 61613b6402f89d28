-- What a message is, beside what it carries.
--     is_snapshot m     it says all that its sender knows
--     is_for m peer     the peer is one of those that it is for
use Rattle.std.specs.Prelude.{ℕ, ◌==◌, Bool, true, false}
use Rattle.cc_messages.specs.declared.message.Message.{Message}
use Rattle.cc_messages.specs.declared.message.Message.TheVariants.{QueryReply, StoreAck, Snapshot}

-- a snapshot is taken under any number above the last that was heard
abbrev pub is_snapshot : Message → Bool
is_snapshot (Snapshot changes view) = true
is_snapshot _ = false

-- an answer is for the node that asked, each other message for every peer
abbrev pub is_for : Message → ℕ → Bool
is_for (QueryReply view tag q) peer = q == peer
is_for (StoreAck tag q) peer = q == peer
is_for _ peer = true
