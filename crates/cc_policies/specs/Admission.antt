-- What may be handed to a node, so that there is room left for what others need of it.
--     free_posts          how many posts may still be kept
--     may_stir            whether the node `me` may make a post or an answer of a message, in one state or another
--     may_hand_over       whether an event may be handed over now
--     is_given_up         whether an event that is held back waits no longer
--     is_furthest_behind  whether a peer's acknowledgement would free a post
use Rattle.std.specs.Prelude.{ℕ, ◌-◌, ◌==◌, ◌&&◌, ◌||◌, not, nat_le, Bool, true, false}
use Rattle.std.specs.Option.{option_map_or}
use Rattle.std.specs.FinMap as table
use Rattle.cc_messages.specs.declared.event.Event.{Event}
use Rattle.cc_messages.specs.declared.event.Event.TheVariants as event
use Rattle.cc_messages.specs.declared.message.Message.{Message}
use Rattle.cc_messages.specs.declared.message.Message.TheVariants as message
use Rattle.cc_links.specs.Links.{reach}
use Rattle.cc_outbox.specs.Outbox.{post_limit}
use Rattle.cc_node.specs.Core.{Core, live_links, lowest}

-- a node keeps 512 posts at most
abbrev pub free_posts : ℕ → ℕ
free_posts kept = post_limit - kept

-- the two echoes that end what they echo are never answered, and answers to the operation of another node are its alone
abbrev pub may_stir : ℕ → Message → Bool
may_stir me (message.JoinEcho q) = false
may_stir me (message.LeaveEcho q) = false
may_stir me (message.QueryReply view tag q) = q == me
may_stir me (message.StoreAck tag q) = q == me
may_stir me _ = true

-- an ask leaves room for 384 posts, unless it waited ten seconds, and then the node decides; an ask under number 0 is always refused,
-- so it needs no room; a message that may be answered leaves room for 256, unless it comes from one of the peers that are furthest behind: they are read on, since their
-- acknowledgements, which come behind it, are what makes room
abbrev pub may_hand_over : ℕ → Event → ℕ → Bool → ℕ → Bool
may_hand_over me (event.Deliver from number m) kept is_furthest waited = not (may_stir me m) || (is_furthest || nat_le 256 (free_posts kept))
may_hand_over me (event.Ask session request command) kept is_furthest waited = (request == 0) || (nat_le 10 waited || nat_le 384 (free_posts kept))
may_hand_over me _ kept is_furthest waited = true

-- a message that was held back for five seconds: its link sends it again
abbrev pub is_given_up : Event → ℕ → Bool
is_given_up (event.Deliver from number m) waited = nat_le 5 waited
is_given_up _ waited = false

-- of the links to peers that haven't left, its link is one of those that have come least far
abbrev pub is_furthest_behind : Core → ℕ → Bool
is_furthest_behind c peer = table.contains_key (live_links c) peer && option_map_or (λ l. reach l == lowest c) (table.get c.links peer) false
