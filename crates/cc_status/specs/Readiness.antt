-- Whether a node is ready.
--     says_heard q n           that a note says of node q that it is neither silent nor absent
--     is_away me notes q       that node q isn't the node itself, and no note says that it is heard
--     away c notes             how many members are away
--     is_ready c need notes    that the node has joined and hasn't left, and enough members aren't away
--     Judges n notes s         that s tells just that of a node, and how many members there are and have to answer
use Rattle.std.specs.Prelude.{◌≡◌, ℕ, ◌-◌, List, length, Bool, ◌&&◌, not, ◌==◌, nat_le}
use Rattle.std.specs.Option.{is_some}
use Rattle.std.specs.List.{filter, list_any}
use Rattle.cc_views.specs.NatSets as set
use Rattle.cc_changes.specs.ChangeSets.{members}
use Rattle.cc_churn.specs.Churn.{has_joined, has_left}
use Rattle.cc_node.specs.Core.{Core}
use Rattle.cc_status.specs.declared.live.PeerNote.{PeerNote}
use Rattle.cc_status.specs.declared.live.Shown.{Shown}
use Rattle.cc_status.specs.declared.status.Status.{Status}

abbrev pub says_heard : ℕ → PeerNote → Bool
says_heard q n = ((n.peer == q) && not n.is_silent) && not (is_some n.absent_since)

abbrev pub is_away : ℕ → List PeerNote → ℕ → Bool
is_away me notes q = not (q == me) && not (list_any (says_heard q) notes)

abbrev pub away : Core → List PeerNote → ℕ
away c notes = length (filter (is_away c.me notes) (set.items (members c.churn.changes)))

-- members less those that are away reach the need
abbrev pub is_ready : Core → ℕ → List PeerNote → Bool
is_ready c need notes =
    (has_joined c.me c.churn && not (has_left c.me c.churn)) && nat_le need (set.len (members c.churn.changes) - away c notes)

pub record Judges (n : Shown) (notes : List PeerNote) (s : Status) : Type 0 where
  pub members : s.quorum.members ≡ set.len (members n.core.churn.changes)
  pub need : s.quorum.need ≡ n.need
  pub away : s.quorum.away ≡ away n.core notes
  pub ready : s.is_ready ≡ is_ready n.core n.need notes
