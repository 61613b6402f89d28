-- How many asks the round of a node may have, along a list of events.
--     share_after share e          the share after an event, where it was `share` before it
--     share_along share es         after a list of events
--     IsShareAlong share n es      the share is that whenever one of the events comes
use Rattle.std.specs.Prelude.{◌≡◌, ℕ, List, [], ◌∷◌}
use Rattle.cc_messages.specs.declared.event.Event.{Event}
use Rattle.cc_messages.specs.declared.event.Event.TheVariants as event
use Rattle.cc_node.specs.Node.{Node, step}

abbrev pub share_after : ℕ → Event → ℕ
share_after share (event.Share other) = other
share_after share _ = share

abbrev pub share_along : ℕ → List Event → ℕ
share_along share [] = share
share_along share (e ∷ es) = share_along (share_after share e) es

abbrev pub IsShareAlong : ℕ → Node → List Event → Type 0
IsShareAlong share n [] = Unit {0}
IsShareAlong share n (e ∷ es) = (n.core.ops.share ≡ share) × IsShareAlong share (step n e) es
