-- Snapshots that voices call for keep apart.
--     keep_apart         after one, none is called for before its time
use Rattle.std.proofs.Common.{◌≡◌, ◌+◌, ◌*◌, ◌<◌, ◌≤◌, true, false, ◌&&◌, ◌||◌, nat_le, List, [], ◌∷◌, length, sym, ap, subst, ◌∙◌, arith}
use Rattle.std.specs.Prelude.{min, if◌then◌else◌}
use Rattle.std.proofs.lemmas.Bool.{lt-leb}
use Rattle.std.proofs.Math.Bool.{and-false}
use Rattle.cc_policies.specs.declared.snapshot_timer.Calls.{Calls}
use Rattle.cc_policies.specs.Absence.{period}
use Rattle.cc_policies.specs.SnapshotTimers.{Look, ticked, is_called_back, is_due, answered, posted, calls, after_look, VoicesGoOn, NoneCalls}

-- a second before the time
pub record Early (look : Look) (c : Calls) : Type 0 where
  pub none : calls look c ≡ false
  pub since : (after_look look c).since ≡ c.since + 1
  pub wait : (after_look look c).wait ≡ c.wait

early : (look : Look) (c : Calls) → look.is_back ≡ true → look.needs_anew ≡ false → c.wait ≤ period → c.since + 1 < c.wait → Early look c
early look c back calm within before =
    let b = look.is_back in
    let t = ticked b c in
    let is_wait : t.wait ≡ c.wait = ap (λ x. (ticked x c).wait) back in
    let is_since : t.since ≡ c.since + 1 = omega (arith, within, before) in
    let late : nat_le t.wait t.since ≡ false = lt-leb t.wait t.since (omega (arith, is_wait, is_since, before)) in
    let held : nat_le period t.since ≡ false = lt-leb period t.since (omega (arith, is_since, before, within)) in
    let silent : is_called_back b t ≡ false = ap (λ x. b && x) late ∙ and-false b in
    let idle : is_due look.needs_anew look.is_held t ≡ false = (λ i. calm i || (look.is_held && held i)) ∙ and-false look.is_held in
    let after : after_look look c ≡ t =
    ap (λ x. if x then answered t else (if is_due look.needs_anew look.is_held t then posted t else t)) silent ∙ ap (λ x. if x then posted t else t) idle in
    record { none = (λ i. silent i || idle i); since = ap (λ (d : Calls). d.since) after ∙ is_since; wait = ap (λ (d : Calls). d.wait) after ∙ is_wait }

all_early : (c : Calls) (looks : List Look) → VoicesGoOn looks → c.wait ≤ period → c.since + length looks < c.wait → NoneCalls c looks
all_early c [] on within before = tt
all_early c (look ∷ looks) on within before =
    let e = early look c on.0 on.1 within (omega (arith, before)) in
    (e.none, all_early (after_look look c) looks on.2 (omega (arith, e.wait, within)) (omega (arith, e.since, e.wait, before)))

pub keep_apart : (c : Calls) (look : Look) (looks : List Look) → is_called_back look.is_back (ticked look.is_back c) ≡ true → VoicesGoOn looks
    → length looks < min (2 * (ticked look.is_back c).wait) period → NoneCalls (after_look look c) looks
keep_apart c look looks called on few =
    let t = ticked look.is_back c in
    let after : after_look look c ≡ answered t =
    ap (λ x. if x then answered t else (if is_due look.needs_anew look.is_held t then posted t else t)) called in
    subst (λ (d : Calls). NoneCalls d looks) (sym after) (all_early (answered t) looks on (omega arith) (omega (arith, few)))
