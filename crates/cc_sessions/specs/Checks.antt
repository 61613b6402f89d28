-- What a check of a request answers: the first of these cases that holds.
use Rattle.std.specs.Prelude.{ℕ, if◌then◌else◌}
use Rattle.cc_sessions.specs.declared.checked.Checked.{Checked}
use Rattle.cc_sessions.specs.declared.checked.Checked.TheVariants.{Fresh, Repeat, Stale, Skip, Full}
use Rattle.cc_sessions.specs.Sessions.{Requests, last_request, finds_no_room, is_repeat, is_stale_after, is_skip_after}

-- where it isn't the last request again
abbrev pub after_last : ℕ → ℕ → Checked
after_last last r = if is_stale_after last r then Stale last else (if is_skip_after last r then Skip last else Fresh)

abbrev pub checked : Requests → ℕ → ℕ → Checked
checked ss s r =
    if finds_no_room ss s then Full else (if is_repeat ss s r then Repeat else after_last (last_request ss s) r)
