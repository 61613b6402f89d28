-- How the peers of a node stand, as it looks at them each second.
--     HealthTable                         of each peer how it stands, what was handed in for it, and whether it has spoken
--     found, row_of, with_row           the row of a peer, if it has one;  and where it has none;  one in place of it
--     passed, after_pass                what a second shows of a peer;  and what is remembered then
--     after_voice, after_heard          once a frame of a peer came;  once an acknowledgement of its own was accepted
--     lapses, after_lapse               whether what is kept for a peer lapses now;  and what is remembered then
--     has_absent                        whether a peer is absent
--     IsHealthTable                        how many there are
use Rattle.std.specs.Prelude.{◌≤◌, ℕ, ◌==◌, ◌&&◌, nat_lt, not, Bool, true, false, List, [], ◌∷◌, ◌++◌, length, filter, find, Option, option_map}
use Rattle.std.specs.Prelude.{unwrap_or, if◌then◌else◌}
use Rattle.std.specs.List.{list_any}
use Rattle.cc_policies.specs.declared.peer_health.PeerHealth.TheVariants.{Current}
use Rattle.cc_policies.specs.declared.health_table.PeerRow.{PeerRow}
use Rattle.cc_policies.specs.declared.health_table.Passed.{Passed}
use Rattle.cc_policies.specs.PeerHealth.{after_second, after_ack, is_absent, may_lapse}

abbrev pub HealthTable : Type 0
HealthTable = List PeerRow

-- as many as a node has links
abbrev pub peer_limit : ℕ
peer_limit = 256

abbrev pub found : ℕ → HealthTable → Option PeerRow
found peer rows = find (λ (r : PeerRow). r.peer == peer) rows

-- a peer that wasn't looked at yet owes nothing
abbrev pub row_of : ℕ → HealthTable → PeerRow
row_of peer rows = record {
  peer = peer;
  standing = unwrap_or (option_map (λ (r : PeerRow). r.standing) (found peer rows)) Current;
  handed_at = unwrap_or (option_map (λ (r : PeerRow). r.handed_at) (found peer rows)) 0;
  has_spoken = unwrap_or (option_map (λ (r : PeerRow). r.has_spoken) (found peer rows)) false;
}

abbrev pub others : ℕ → HealthTable → HealthTable
others peer rows = filter (λ (r : PeerRow). not (r.peer == peer)) rows

abbrev pub with_row : PeerRow → HealthTable → HealthTable
with_row row rows =
    if nat_lt (length (others row.peer rows)) peer_limit then others row.peer rows ++ row ∷ [] else others row.peer rows

-- of a second by whose end a peer has acknowledged `acked` of the `sent` numbers of its link
abbrev pub row_passed : PeerRow → ℕ → ℕ → Bool → PeerRow
row_passed row acked sent is_live =
    record { peer = row.peer; standing = after_second row.standing acked sent is_live; handed_at = row.handed_at; has_spoken = false }

abbrev pub after_pass : ℕ → ℕ → ℕ → Bool → HealthTable → HealthTable
after_pass peer acked sent is_live rows = with_row (row_passed (row_of peer rows) acked sent is_live) rows

-- it is taken for absent at the end of the second at which it becomes so, and is back where it is absent then and has spoken
abbrev pub row_shows : PeerRow → PeerRow → Passed
row_shows before after = record {
  standing = after.standing;
  is_taken = is_absent after.standing && not (is_absent before.standing);
  is_back = is_absent after.standing && before.has_spoken;
}

abbrev pub passed : ℕ → ℕ → ℕ → Bool → HealthTable → Passed
passed peer acked sent is_live rows = row_shows (row_of peer rows) (row_passed (row_of peer rows) acked sent is_live)

abbrev pub row_spoken : PeerRow → PeerRow
row_spoken row = record { peer = row.peer; standing = row.standing; handed_at = row.handed_at; has_spoken = true }

-- the voice of one that is absent alone is noted
abbrev pub after_voice : ℕ → HealthTable → HealthTable
after_voice peer rows = if is_absent (row_of peer rows).standing then with_row (row_spoken (row_of peer rows)) rows else rows

abbrev pub row_heard : PeerRow → PeerRow
row_heard row = record { peer = row.peer; standing = after_ack row.standing; handed_at = row.handed_at; has_spoken = row.has_spoken }

abbrev pub after_heard : ℕ → HealthTable → HealthTable
after_heard peer rows = if is_absent (row_of peer rows).standing then with_row (row_heard (row_of peer rows)) rows else rows

abbrev pub lapses : ℕ → ℕ → ℕ → Bool → HealthTable → Bool
lapses peer reach posts is_tick rows = may_lapse (row_of peer rows).standing reach posts (row_of peer rows).handed_at is_tick

abbrev pub row_lapsed : PeerRow → ℕ → PeerRow
row_lapsed row posts = record { peer = row.peer; standing = row.standing; handed_at = posts; has_spoken = row.has_spoken }

abbrev pub after_lapse : ℕ → ℕ → ℕ → Bool → HealthTable → HealthTable
after_lapse peer reach posts is_tick rows =
    if lapses peer reach posts is_tick rows then with_row (row_lapsed (row_of peer rows) posts) rows else rows

abbrev pub has_absent : HealthTable → Bool
has_absent rows = list_any (λ (r : PeerRow). is_absent r.standing) rows

pub record IsHealthTable (rows : HealthTable) (capacity : ℕ) : Type 0 where
  pub fits : length rows ≤ peer_limit
  pub room : peer_limit ≤ capacity
