-- The node's own sessions: the last one of all stands first, and so on downwards.
--     place_of                 the place of a session
--     is_free                  no request has it, and it has a next number
--     is_out                   a request has it, under that number
--     after                    the session once its ask's fate is known
--     Takes, given_back        what taking a session and giving a key back make of all
use Rattle.std.specs.Prelude.{◌≡◌, ℕ, ◌+◌, ◌-◌, ◌^◌, ◌<◌, ◌==◌, ◌&&◌, not, Bool, true, false, List, length, Option, Some, None, nat_lt, max}
use Rattle.std.specs.Prelude.{slice_index_or, slice_set, if◌then◌else◌}
use Rattle.std.specs.Bool.{beq}
use Rattle.cc_views.specs.Limits.{counter_limit}
use Rattle.cc_web.specs.declared.key.AskKey.{AskKey}
use Rattle.cc_web.specs.declared.own_sessions.Fate.{Fate}
use Rattle.cc_web.specs.declared.own_sessions.Fate.TheVariants as fate
use Rattle.cc_web.specs.declared.own_sessions.OwnSession.{OwnSession}

abbrev pub place_of : ℕ → ℕ
place_of session = 2 ^ 64 - 1 - session

abbrev pub fresh : ℕ → OwnSession
fresh last = record { last = last; is_taken = false; is_doubtful = false }

abbrev pub row_at : List OwnSession → ℕ → OwnSession
row_at rows at = slice_index_or rows at (fresh 0)

abbrev pub is_free : Bool → OwnSession → Bool
is_free is_doubtful row = not row.is_taken && (beq row.is_doubtful is_doubtful && nat_lt row.last counter_limit)

abbrev pub is_out : OwnSession → ℕ → Bool
is_out row request = row.is_taken && (request == row.last + 1)

-- a number that an ask may stand under is used up
abbrev pub after : OwnSession → Fate → OwnSession
after row fate.Answered = record { last = row.last + 1; is_taken = false; is_doubtful = false }
after row fate.Refused = record row { is_taken = false }
after row fate.Abandoned = record { last = row.last + 1; is_taken = false; is_doubtful = true }
after row (fate.Behind last) = record { last = max row.last last; is_taken = false; is_doubtful = true }

-- a place where the test holds, or none anywhere
abbrev pub IsFound : (OwnSession → Bool) → List OwnSession → Option ℕ → Type 0
IsFound test rows None = (at : ℕ) → at < length rows → test (row_at rows at) ≡ false
IsFound test rows (Some at) = (at < length rows) × (test (row_at rows at) ≡ true)

-- a session whose last ask is doubtful comes behind all others
pub record IsBest (rows : List OwnSession) (at : ℕ) : Type 0 where
  pub within : at < length rows
  pub free : (row_at rows at).is_taken ≡ false
  pub next : (row_at rows at).last < counter_limit
  pub sure_first : (row_at rows at).is_doubtful ≡ true → IsFound (is_free false) rows None

abbrev pub IsChoice : List OwnSession → Option ℕ → Type 0
IsChoice rows None = IsFound (is_free false) rows None × IsFound (is_free true) rows None
IsChoice rows (Some at) = IsBest rows at

abbrev pub with_taken : List OwnSession → ℕ → List OwnSession
with_taken rows at = slice_set rows at (record (row_at rows at) { is_taken = true })

pub record Takes (rows : List OwnSession) (key : AskKey) (new : List OwnSession) : Type 0 where
  pub fits : key.session < 2 ^ 64
  pub best : IsBest rows (place_of key.session)
  pub request : key.request ≡ (row_at rows (place_of key.session)).last + 1
  pub taken : new ≡ with_taken rows (place_of key.session)

pub record NoneTaken (rows new : List OwnSession) : Type 0 where
  pub none : IsChoice rows None
  pub same : new ≡ rows

abbrev pub given_back : List OwnSession → AskKey → Fate → List OwnSession
given_back rows key what =
    let at = place_of key.session in
    if nat_lt at (length rows) && is_out (row_at rows at) key.request then slice_set rows at (after (row_at rows at) what) else rows
