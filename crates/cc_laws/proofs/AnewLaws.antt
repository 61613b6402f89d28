-- What a phase that begins anew waits for, and how many answers it has.
use Rattle.std.proofs.Common.{◌≡◌, ℕ, refl}
use Rattle.cc_ops.specs.Ops.{Phase, Idle, awaits_views, answers_in, again}

pub awaited_again : (quorum : ℕ) (phase : Phase) → awaits_views (again quorum phase) ≡ awaits_views phase
awaited_again quorum Idle = refl
awaited_again quorum _ = refl

pub none_again : (quorum : ℕ) (phase : Phase) → answers_in (again quorum phase) ≡ 0
none_again quorum Idle = refl
none_again quorum _ = refl
