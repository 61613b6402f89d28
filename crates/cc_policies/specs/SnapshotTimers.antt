-- When a node posts a snapshot.
--     Calls                    what is remembered of the last one, and of the voices of absent peers
--     Look                     what is seen in a second
--     ticked                   a second has passed
--     is_called_back, is_due   whether the voice of an absent peer calls for a snapshot;  whether anything else does
--     calls, after_look        whether one is posted;  and what is remembered then
--     VoicesGoOn, NoneCalls    absent peers are heard in each second, and nothing else calls;  no second calls
use Rattle.std.specs.Prelude.{◌≡◌, ℕ, ◌+◌, ◌*◌, ◌==◌, ◌&&◌, ◌||◌, nat_le, min, Bool, true, false, if◌then◌else◌, List, [], ◌∷◌, ⊤}
use Rattle.cc_policies.specs.Absence.{period}
use Rattle.cc_policies.specs.declared.snapshot_timer.Calls.{Calls}

abbrev pub no_calls : Calls
no_calls = record { since = 8; wait = 1; quiet = 0 }

-- in a second: something came from a peer that is absent; the pending operation needs more answers than one that begins now;
-- and a live peer is absent, or one operation has been pending for long
pub record Look : Type 0 where
  pub is_back : Bool
  pub needs_anew : Bool
  pub is_held : Bool

abbrev pub quiet_then : Bool → ℕ → ℕ
quiet_then is_back quiet = if is_back then 0 else min (quiet + 1) period

-- voices that were silent for long are answered soon again
abbrev pub ticked : Bool → Calls → Calls
ticked is_back c = record {
  since = min (c.since + 1) period;
  wait = if quiet_then is_back c.quiet == period then 1 else c.wait;
  quiet = quiet_then is_back c.quiet;
}

abbrev pub is_called_back : Bool → Calls → Bool
is_called_back is_back t = is_back && nat_le t.wait t.since

abbrev pub is_due : Bool → Bool → Calls → Bool
is_due needs_anew is_held t = needs_anew || (is_held && nat_le period t.since)

abbrev pub calls : Look → Calls → Bool
calls look c = is_called_back look.is_back (ticked look.is_back c) || is_due look.needs_anew look.is_held (ticked look.is_back c)

-- while voices go on unheard, each waits twice as long as the one before
abbrev pub answered : Calls → Calls
answered t = record { since = 0; wait = min (2 * t.wait) period; quiet = t.quiet }

abbrev pub posted : Calls → Calls
posted t = record { since = 0; wait = t.wait; quiet = t.quiet }

abbrev pub after_look : Look → Calls → Calls
after_look look c =
    if is_called_back look.is_back (ticked look.is_back c) then answered (ticked look.is_back c)
    else (if is_due look.needs_anew look.is_held (ticked look.is_back c) then posted (ticked look.is_back c) else ticked look.is_back c)

abbrev pub VoicesGoOn : List Look → Type 0
VoicesGoOn [] = ⊤
VoicesGoOn (look ∷ looks) = (look.is_back ≡ true) × (look.needs_anew ≡ false) × VoicesGoOn looks

abbrev pub NoneCalls : Calls → List Look → Type 0
NoneCalls c [] = ⊤
NoneCalls c (look ∷ looks) = (calls look c ≡ false) × NoneCalls (after_look look c) looks
