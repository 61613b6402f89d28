-- A phase that begins anew is the same round's, under the next tag.
use Rattle.std.proofs.Common.{◌≡◌, ℕ, false, refl}
use Rattle.cc_ops.specs.Ops.{Ops, Phase, Idle, is_idle, awaits_views, answers_in, need_in, again, anew}
use Rattle.cc_ops.specs.OwnLaws.{AsksAnewAlone, asked_again, seen_again}

idle_again : (quorum : ℕ) (phase : Phase) → is_idle (again quorum phase) ≡ is_idle phase
idle_again quorum Idle = refl
idle_again quorum _ = refl

awaited_again : (quorum : ℕ) (phase : Phase) → awaits_views (again quorum phase) ≡ awaits_views phase
awaited_again quorum Idle = refl
awaited_again quorum _ = refl

none_again : (quorum : ℕ) (phase : Phase) → answers_in (again quorum phase) ≡ 0
none_again quorum Idle = refl
none_again quorum _ = refl

need_again : (quorum : ℕ) (phase : Phase) → is_idle phase ≡ false → need_in (again quorum phase) ≡ quorum
need_again quorum Idle busy = cc
need_again quorum _ busy = refl

pub anew_keeps : (quorum : ℕ) (s : Ops) → AsksAnewAlone quorum s (anew quorum s)
anew_keeps quorum s = record {
  view = refl;
  number = refl;
  mine = refl;
  tag = refl;
  share = refl;
  others = refl;
  line = refl;
  asked = asked_again quorum s.phase;
  seen = seen_again quorum s.phase;
  idle = idle_again quorum s.phase;
  awaited = awaited_again quorum s.phase;
  none = none_again quorum s.phase;
  need = need_again quorum s.phase;
}
