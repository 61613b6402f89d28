-- How a peer stands: whether it acknowledges in time what the node sent to it.
--     PeerHealth                       in time; with something due since so many seconds; or absent
--     after_second, after_ack        how it stands after a second, and after an acknowledgement of its own that was accepted
--     is_late                        whether it has owed for a second or more
--     may_lapse                      whether what is kept for it may lapse
--     Second, after_seconds          what is seen of a peer in a second;  how it stands after some of them
--     KeepsUp                        by each second it has acknowledged what was sent by the one two before it
use Rattle.std.specs.Prelude.{ℕ, ◌+◌, ◌-◌, ◌≤◌, Bool, true, false, ◌&&◌, ◌||◌, nat_le, nat_lt, if◌then◌else◌, List, [], ◌∷◌, ⊤}
use Rattle.cc_policies.specs.Absence.{patience, pinned}
use Rattle.cc_policies.specs.declared.peer_health.PeerHealth.{PeerHealth}
use Rattle.cc_policies.specs.declared.peer_health.PeerHealth.TheVariants.{Current, Owing, Absent}

-- with something sent that isn't acknowledged: it is due from now on, or has been for a second more
abbrev pub of_owing : PeerHealth → ℕ → ℕ → PeerHealth
of_owing Current acked sent = Owing sent 0
of_owing (Owing due seconds) acked sent =
    if nat_le due acked then Owing sent 0 else (if nat_le patience (seconds + 1) then Absent else Owing due (seconds + 1))
of_owing Absent acked sent = Absent

abbrev pub is_absent : PeerHealth → Bool
is_absent Current = false
is_absent (Owing due seconds) = false
is_absent Absent = true

-- who owes since this very second is in time: under load something is always on its way
abbrev pub is_late : PeerHealth → Bool
is_late Current = false
is_late (Owing due seconds) = nat_lt 0 seconds
is_late Absent = true

-- once absent it stays so, whatever counts as acknowledged: a lapse isn't an acknowledgement of its own
abbrev pub of_live : PeerHealth → ℕ → ℕ → PeerHealth
of_live standing acked sent = if is_absent standing then Absent else (if nat_le sent acked then Current else of_owing standing acked sent)

-- a peer that isn't live owes nothing
abbrev pub after_second : PeerHealth → ℕ → ℕ → Bool → PeerHealth
after_second standing acked sent is_live = if is_live then of_live standing acked sent else Current

abbrev pub after_ack : PeerHealth → PeerHealth
after_ack Current = Current
after_ack (Owing due seconds) = Owing due seconds
after_ack Absent = Current

-- reach is the last post that it has acknowledged, posts are all that were made, and asked_at as many as were made when a
-- lapse was handed in last
abbrev pub may_lapse : PeerHealth → ℕ → ℕ → ℕ → Bool → Bool
may_lapse standing reach posts asked_at is_tick = is_absent standing && (nat_lt pinned (posts - reach) && (nat_le asked_at reach || is_tick))

pub record Second : Type 0 where
  pub acked : ℕ
  pub sent : ℕ
  pub is_live : Bool

abbrev pub after_seconds : PeerHealth → List Second → PeerHealth
after_seconds standing [] = standing
after_seconds standing (s ∷ seconds) = after_seconds (after_second standing s.acked s.sent s.is_live) seconds

-- of the seconds before the first, the last two ended with so much sent
abbrev pub KeepsUp : ℕ → ℕ → List Second → Type 0
KeepsUp before last [] = ⊤
KeepsUp before last (s ∷ seconds) = (before ≤ s.acked) × KeepsUp last s.sent seconds
