-- Who left is refused as Left.
--     left_again, retired_again     after leaving, and after a node was retired
--     objection_told_whole          an objection is known by its number
--     left_told, taken_told, gone_told     what the operator takes a retirement for, by what a node tells of it
use Rattle.std.proofs.Common.{◌≡◌, ℕ, ◌==◌, ◌||◌, Bool, true, false, cond, List, [], ◌∷◌, ◌++◌, Option, Some, None, refl, sym, ap, subst, ◌∙◌, arith}
use Rattle.std.specs.Bool.{then_some}
use Rattle.std.proofs.lemmas.Bool.Decides.{nat_tests}
use Rattle.cc_messages.specs.Refusals.{first_of}
use Rattle.cc_messages.specs.declared.event.Event.TheVariants as event
use Rattle.cc_messages.specs.declared.refusal.Refusal.{Refusal}
use Rattle.cc_messages.specs.declared.refusal.Refusal.TheVariants as refusal
use Rattle.cc_views.specs.NatSets as set
use Rattle.cc_node.specs.Core.{Core, next}
use Rattle.cc_policies.specs.declared.operator_outcome.Objection.{Objection}
use Rattle.cc_policies.specs.declared.operator_outcome.Objection.TheVariants as objection
use Rattle.cc_policies.specs.declared.operator_outcome.Outcome.TheVariants as outcome
use Rattle.cc_policies.specs.OperatorOutcomes.{objection_frame, outcome_in, probe_event, probe_session, frames_told, nothing_heard, verdict_along, told_of}
use Rattle.cc_policies.specs.OperatorOutcomes.{once_retired, twice_retired, core_after, probe_clue}
use Rattle.cc_policies.specs.declared.operator_outcome.Clue.TheVariants as clue
use Rattle.cc_policies.specs.Frames.{refusing}
use Rattle.cc_node.specs.Refusals as reason
use Rattle.cc_messages.specs.declared.command.Command.TheVariants as commands
use Rattle.cc_sessions.specs.Sessions.{last_request, finds_no_room, is_repeat, is_stale}
use Rattle.std.specs.Prelude.{nat_lt, not}
use Rattle.cc_policies.specs.declared.operator_outcome.Outcome.{Outcome}
use Rattle.cc_policies.proofs.ClientLaws.{told_whole}
use Rattle.cc_node.specs.Refusals.{decides, decides_within}

has_itself : (s : set.NatSet) (q : ℕ) → set.contains (set.insert s q) q ≡ true
has_itself s q = set.contains-insert s q q ∙ grind (arith, nat_tests)

first_or_second : (b : Bool) (rest : List (Option Refusal)) → first_of (then_some b refusal.Left ∷ Some refusal.Left ∷ rest) ≡ Some refusal.Left
first_or_second true rest = refl
first_or_second false rest = refl

pub left_again : (c : Core) → decides (next c event.Leave) event.Leave ≡ Some refusal.Left
unfolding next decides decides_within
left_again c = rw (has_itself c.churn.changes.left c.me) refl

pub retired_again : (c : Core) (q : ℕ) → decides (next c (event.Retire q)) (event.Retire q) ≡ Some refusal.Left
unfolding next decides decides_within
retired_again c q = rw (has_itself c.churn.changes.left q) (first_or_second _ _)

pub objection_told_whole : (why : Objection) → outcome_in (objection_frame why) ≡ Some (outcome.Objected why)
objection_told_whole objection.Itself = refl
objection_told_whole objection.Alive = refl

-- ---- what a node tells of a retirement

or_true : (b : Bool) → (b || true) ≡ true
or_true true = refl
or_true false = refl

-- a refusal that isn't Left
abbrev IsOther : Refusal → Type 0
IsOther why = probe_clue (Some why) ≡ clue.There

abbrev Probed : Option Refusal → Type 0
Probed told = (why : Refusal) × ((told ≡ Some why) × IsOther why)

-- the reasons before the number, which is stale
probed : (l : Option Refusal) (a b c d e : Bool) (last : ℕ) (rest : List (Option Refusal)) → l ≡ None → e ≡ true
    → Probed (first_of (l ∷ then_some a refusal.NotEntered ∷ then_some b refusal.NotJoined ∷ then_some c refusal.TooManySessions
    ∷ then_some d refusal.Repeat ∷ then_some e (refusal.Stale last) ∷ rest))
probed (Some why) a b c d e last rest none stale = absurd cc
probed None true b c d e last rest none stale = (refusal.NotEntered, (refl, refl))
probed None false true c d e last rest none stale = (refusal.NotJoined, (refl, refl))
probed None false false true d e last rest none stale = (refusal.TooManySessions, (refl, refl))
probed None false false false true e last rest none stale = (refusal.Repeat, (refl, refl))
probed None false false false false true last rest none stale = (refusal.Stale last, (refl, refl))
probed None false false false false false last rest none stale = absurd cc

-- one that hasn't left refuses the probe for another reason
probe_told : (c : Core) → reason.left c ≡ None → Probed (decides c probe_event)
unfolding decides decides_within
probe_told c stays =
    let old : is_stale c.sessions probe_session 0 ≡ true = or_true (nat_lt 0 (last_request c.sessions probe_session)) in
    probed (reason.left c) (not (set.contains c.churn.changes.entered c.me)) (not (set.contains c.churn.changes.joined c.me)) (finds_no_room c.sessions probe_session)
    (is_repeat c.sessions probe_session 0) (is_stale c.sessions probe_session 0) (last_request c.sessions probe_session)
    (reason.skip c probe_session 0 ∷ reason.busy 32 c probe_session ∷ reason.set_full c commands.ReadFlag
    ∷ reason.outbox_full c probe_event ∷ reason.spent c probe_event ∷ []) stays old

-- what an operator makes of the refusals of two requests and the probe
abbrev Heard : ℕ → Option Refusal → Option Refusal → Option Refusal → Option Outcome
Heard q first second third =
    verdict_along nothing_heard
    (frames_told first (event.Retire q) ++ frames_told second (event.Retire q) ++ frames_told third probe_event)

heard_along : (c : Core) (q : ℕ) (first second third : Option Refusal) → decides c (event.Retire q) ≡ first
    → decides (core_after c (event.Retire q) first) (event.Retire q) ≡ second
    → decides (core_after (core_after c (event.Retire q) first) (event.Retire q) second) probe_event ≡ third
    → verdict_along nothing_heard (told_of c q) ≡ Heard q first second third
heard_along c q first second third e f g = rw (e, f, g) refl

taken_heard : (q : ℕ) (why : Refusal) → IsOther why → Heard q None (Some refusal.Left) (Some why) ≡ Some outcome.Done
taken_heard q why other = rw (told_whole why, other) refl

gone_heard : (q : ℕ) (why : Refusal) → IsOther why → Heard q (Some refusal.Left) (Some refusal.Left) (Some why) ≡ Some outcome.Done
gone_heard q why other = rw (told_whole why, other) refl

left_refuses : (c : Core) (q : ℕ) → reason.left c ≡ Some refusal.Left → decides c (event.Retire q) ≡ Some refusal.Left
unfolding decides decides_within
left_refuses c q e = rw e refl

left_refuses_probe : (c : Core) → reason.left c ≡ Some refusal.Left → decides c probe_event ≡ Some refusal.Left
unfolding decides decides_within
left_refuses_probe c e = rw e refl

pub left_told : (c : Core) (q : ℕ) → reason.left c ≡ Some refusal.Left → verdict_along nothing_heard (told_of c q) ≡ Some (outcome.Refused refusal.Left)
left_told c q e =
    let r = left_refuses c q e in
    heard_along c q (Some refusal.Left) (Some refusal.Left) (Some refusal.Left) r r (left_refuses_probe c e)

unset : (b : Bool) → then_some b refusal.Left ≡ None → b ≡ false
unset true e = absurd cc
unset false e = refl

without_left : (b : Bool) → b ≡ false → then_some b refusal.Left ≡ None
without_left true e = absurd cc
without_left false e = refl

still_in : (s : set.NatSet) (q me : ℕ) → ¬ (q ≡ me) → set.contains s me ≡ false → set.contains (set.insert s q) me ≡ false
still_in s q me other e = set.contains-insert s q me ∙ grind (arith, nat_tests, e, other)

-- retiring another one leaves a node where it is
stays_in : (c : Core) (q : ℕ) → ¬ (q ≡ c.me) → reason.left c ≡ None → reason.left (next c (event.Retire q)) ≡ None
unfolding next
stays_in c q other e = without_left _ (still_in c.churn.changes.left q c.me other (unset (set.contains c.churn.changes.left c.me) e))

pub taken_told : (c : Core) (q : ℕ) → reason.left c ≡ None → ¬ (q ≡ c.me) → decides c (event.Retire q) ≡ None
    → verdict_along nothing_heard (told_of c q) ≡ Some outcome.Done
taken_told c q stays other taken =
    let probed = probe_told (next c (event.Retire q)) (stays_in c q other stays) in
    heard_along c q None (Some refusal.Left) (Some probed.0) taken (retired_again c q) probed.1.0 ∙ taken_heard q probed.0 probed.1.1

pub gone_told : (c : Core) (q : ℕ) → reason.left c ≡ None → decides c (event.Retire q) ≡ Some refusal.Left
    → verdict_along nothing_heard (told_of c q) ≡ Some outcome.Done
gone_told c q stays gone =
    let probed = probe_told c stays in
    heard_along c q (Some refusal.Left) (Some refusal.Left) (Some probed.0) gone gone probed.1.0 ∙ gone_heard q probed.0 probed.1.1
