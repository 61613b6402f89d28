-- Which of the node's own sessions is taken.
--     chosen, none_chosen      what was found among the sure ones, and then among the doubtful ones
--     takes                    what is taken at a place that was chosen
use Rattle.std.proofs.Common.{◌≡◌, ℕ, ◌+◌, ◌-◌, ◌<◌, ◌≤◌, ◌^◌, ◌&&◌, not, Bool, true, false, List, length, sym, subst, arith, nat_lt, Some, None}
use Rattle.std.specs.Bool.{beq}
use Rattle.std.proofs.lemmas.Bool.{and_parts, not-true, ltb-true, true≢false}
use Rattle.cc_views.specs.Limits.{counter_limit, session_limit}
use Rattle.cc_web.specs.OwnSessions.{place_of, row_at, is_free, IsFound, IsBest, Takes, with_taken}
use Rattle.cc_web.specs.declared.key.AskKey.{AskKey}
use Rattle.cc_web.specs.declared.own_sessions.OwnSession.{OwnSession}

-- a sure one isn't doubtful
sure : (b : Bool) → beq b false ≡ true → b ≡ true → ⊥
sure true same is = true≢false (sym same)
sure false same is = true≢false (sym is)

pub chosen : (rows : List OwnSession) (at : ℕ) (is_doubtful : Bool) → at < length rows → is_free is_doubtful (row_at rows at) ≡ true
    → ((row_at rows at).is_doubtful ≡ true → beq (row_at rows at).is_doubtful is_doubtful ≡ true → IsFound (is_free false) rows None) → IsBest rows at
chosen rows at is_doubtful within free first =
    let row = row_at rows at in
    let parts = and_parts (not row.is_taken) (beq row.is_doubtful is_doubtful && nat_lt row.last counter_limit) free in
    let others = and_parts (beq row.is_doubtful is_doubtful) (nat_lt row.last counter_limit) parts.1 in
    record {
      within = within;
      free = not-true row.is_taken parts.0;
      next = ltb-true row.last counter_limit others.1;
      sure_first = λ doubtful. first doubtful others.0;
    }

pub sure_chosen : (rows : List OwnSession) (at : ℕ) → IsFound (is_free false) rows (Some at) → IsBest rows at
sure_chosen rows at found = chosen rows at false found.0 found.1 (λ doubtful same. absurd (sure (row_at rows at).is_doubtful same doubtful))

pub doubtful_chosen : (rows : List OwnSession) (at : ℕ) → IsFound (is_free false) rows None → IsFound (is_free true) rows (Some at) → IsBest rows at
doubtful_chosen rows at none found = chosen rows at true found.0 found.1 (λ _ _. none)

pub takes : (rows new : List OwnSession) (key : AskKey) (at : ℕ) → length rows ≤ session_limit → IsBest rows at
    → key.session ≡ 2 ^ 64 - 1 - at → key.request ≡ (row_at rows at).last + 1 → new ≡ with_taken rows at → Takes rows key new
takes rows new key at fits best session request taken =
    let place : at ≡ place_of key.session = omega (arith, session, fits, best.within) in
    record {
      fits = omega (arith, session);
      best = subst (λ (n : ℕ). IsBest rows n) place best;
      request = subst (λ (n : ℕ). key.request ≡ (row_at rows n).last + 1) place request;
      taken = subst (λ (n : ℕ). new ≡ with_taken rows n) place taken;
    }
