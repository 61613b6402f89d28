-- Which connection speaks for a node: the newest one that brought a frame of it.
--     Speaking                  each such connection with its node
--     spoken                    what is made of a frame of a node that comes over a connection
--     speaking_after            who speaks then
--     has_speaker               whether one speaks for a node
--     silenced                  without a connection
--     IsSpeaking                how many there are
use Rattle.std.specs.Prelude.{◌≤◌, ℕ, ◌==◌, ◌&&◌, ◌||◌, nat_lt, not, Bool, List, [], ◌∷◌, ◌++◌, length, filter, find, option_map, Option, Some, None}
use Rattle.std.specs.Prelude.{if◌then◌else◌}
use Rattle.std.specs.List.{list_any}
use Rattle.cc_policies.specs.declared.speakers.Speaker.{Speaker}
use Rattle.cc_policies.specs.declared.speakers.Spoken.{Spoken}
use Rattle.cc_policies.specs.declared.speakers.Spoken.TheVariants as spoke

abbrev pub Speaking : Type 0
Speaking = List Speaker

-- one of each connection that may be open
abbrev pub speaker_limit : ℕ
speaker_limit = 1032

-- a newer connection speaks for the node
abbrev pub is_replaced : ℕ → ℕ → Speaking → Bool
is_replaced node ticket rows = list_any (λ (r : Speaker). (r.node == node) && nat_lt ticket r.ticket) rows

abbrev pub has_speaker : ℕ → Speaking → Bool
has_speaker node rows = list_any (λ (r : Speaker). r.node == node) rows

-- an older one spoke for it
abbrev pub replaces : ℕ → ℕ → Speaker → Bool
replaces node ticket r = (r.node == node) && nat_lt r.ticket ticket

abbrev pub older_of : ℕ → ℕ → Speaking → Option ℕ
older_of node ticket rows = option_map (λ (r : Speaker). r.ticket) (find (replaces node ticket) rows)

abbrev pub spoken_over : Option ℕ → Spoken
spoken_over (Some older) = spoke.Instead older
spoken_over None = spoke.Alone

abbrev pub spoken : ℕ → ℕ → Speaking → Spoken
spoken node ticket rows = if is_replaced node ticket rows then spoke.Replaced else spoken_over (older_of node ticket rows)

-- neither of the node nor of the connection
abbrev pub others : ℕ → ℕ → Speaking → Speaking
others node ticket rows = filter (λ (r : Speaker). not ((r.node == node) || (r.ticket == ticket))) rows

-- a connection speaks for one node, and each node has one that speaks for it
abbrev pub speaking_after : ℕ → ℕ → Speaking → Speaking
speaking_after node ticket rows =
    if is_replaced node ticket rows then rows else (
    if nat_lt (length (others node ticket rows)) speaker_limit
    then others node ticket rows ++ record { node = node; ticket = ticket } ∷ []
    else others node ticket rows
    )

abbrev pub silenced : ℕ → Speaking → Speaking
silenced ticket rows = filter (λ (r : Speaker). not (r.ticket == ticket)) rows

pub record IsSpeaking (rows : Speaking) (capacity : ℕ) : Type 0 where
  pub fits : length rows ≤ speaker_limit
  pub room : speaker_limit ≤ capacity
