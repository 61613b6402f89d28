-- Sessions of clients: the last request of each, and how a next request stands to it.
--     Requests, requests_code            the last request of each session, and the code of such a map
--     last_request                       0 for a session that has none
--     finds_no_room                      a new session beside as many as there may be
--     is_repeat, is_stale, is_skip       the last request again;  one before it;  one that leaves a request out
--     begin_fits                         where there is room, there are no more sessions than may be
use Rattle.std.proofs.Common.{◌≡◌, inl, inr, arith}
use Rattle.std.specs.Prelude.{ℕ, ◌+◌, ◌≤◌, ◌==◌, Bool, true, false, cond, not, ◌&&◌, ◌||◌, nat_lt, IsFalse}
use Rattle.std.specs.Coded.{Coded, coded_ℕ}
use Rattle.std.specs.Cmp.{nat_cmp_total}
use Rattle.std.specs.Option.{unwrap_or}
use Rattle.std.specs.Ordering.{nat_cmp}
use Rattle.std.specs.FinMap as table
use Rattle.std.specs.FinMap.{FinMap}
use Rattle.std.proofs.lemmas.Bool.Decides.{eqb_tells}
use Rattle.cc_views.specs.Limits.{session_limit}

-- of each session the last request
abbrev pub Requests : Type 0
Requests = FinMap nat_cmp ℕ

abbrev pub requests_code : Coded Requests
requests_code = table.code coded_ℕ coded_ℕ

-- the last request of a session, 0 for none
abbrev pub last_request : Requests → ℕ → ℕ
last_request ss s = unwrap_or (table.get ss s) 0

-- whether a session is one too many
abbrev pub finds_no_room : Requests → ℕ → Bool
finds_no_room ss s = not (table.contains_key ss s) && (table.len ss == session_limit)

-- whether it is the last request of its session
abbrev pub is_repeat : Requests → ℕ → ℕ → Bool
is_repeat ss s r = table.contains_key ss s && (r == last_request ss s)

-- whether it comes before the last request. Requests begin at 1
abbrev pub is_stale_after : ℕ → ℕ → Bool
is_stale_after last r = nat_lt r last || (r == 0)

-- whether it leaves a request out
abbrev pub is_skip_after : ℕ → ℕ → Bool
is_skip_after last r = nat_lt (last + 1) r

abbrev pub is_stale : Requests → ℕ → ℕ → Bool
is_stale ss s r = is_stale_after (last_request ss s) r

abbrev pub is_skip : Requests → ℕ → ℕ → Bool
is_skip ss s r = is_skip_after (last_request ss s) r

room_left : (there : Bool) (n m : ℕ) → (not there && (n == session_limit)) ≡ false → n ≤ session_limit → m ≡ cond there n (n + 1) → m ≤ session_limit
room_left true n m h le e = omega (arith, e)
room_left false n m h le e =
    elim (eqb_tells n session_limit) as (λ _. m ≤ session_limit) [
      | inl t ↦ absurd cc
      | inr t ↦ omega (arith, e, t.1)
    ]

pub begin_fits : (ss : Requests) (s r : ℕ) → IsFalse (finds_no_room ss s) → table.len ss ≤ session_limit → table.len (table.insert ss s r) ≤ session_limit
begin_fits ss s r h le = room_left (table.contains_key ss s) (table.len ss) _ h le (table.len-insert nat_cmp_total ss s r)
