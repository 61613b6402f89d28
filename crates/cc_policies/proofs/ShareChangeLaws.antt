-- What the operator takes a request for another share for, by what a node tells of it.
--     share_taken, share_refused     where the node takes it, and where it refuses it
use Rattle.std.proofs.Common.{◌≡◌, ℕ, ◌++◌, Option, Some, None, refl, ◌∙◌}
use Rattle.cc_messages.specs.declared.event.Event.TheVariants as event
use Rattle.cc_messages.specs.declared.refusal.Refusal.{Refusal}
use Rattle.cc_messages.specs.declared.refusal.Refusal.TheVariants as refusal
use Rattle.cc_node.specs.Core.{Core}
use Rattle.cc_node.specs.Refusals.{decides}
use Rattle.cc_node.proofs.ShareLaws.{share_again}
use Rattle.cc_policies.specs.OperatorOutcomes.{frames_told, core_after}
use Rattle.cc_policies.specs.ShareChanges.{share_outcome_told, share_outcome_along, shares_told}
use Rattle.cc_policies.specs.declared.operator_outcome.Outcome.{Outcome}
use Rattle.cc_policies.specs.declared.operator_outcome.Outcome.TheVariants as outcome

-- what is told where the node decides so of the first request, and then so of the second
abbrev Heard : ℕ → Option Refusal → Option Refusal → Option Outcome
Heard share first second = share_outcome_along (frames_told first (event.Share share) ++ frames_told second (event.Share share))

heard_along : (c : Core) (share : ℕ) (first second : Option Refusal) → decides c (event.Share share) ≡ first
    → decides (core_after c (event.Share share) first) (event.Share share) ≡ second
    → share_outcome_along (shares_told c share) ≡ Heard share first second
heard_along c share first second e f = rw (e, f) refl

pub share_taken : (c : Core) (share : ℕ) → decides c (event.Share share) ≡ None → share_outcome_along (shares_told c share) ≡ Some outcome.Done
share_taken c share taken = heard_along c share None (Some refusal.NothingToAck) taken (share_again c share taken)

-- the first refusal tells
first_tells : (share : ℕ) (why : Refusal) → Heard share (Some why) (Some why) ≡ share_outcome_told (Some why)
first_tells share refusal.NothingToAck = refl
first_tells share why = refl

pub share_refused : (c : Core) (share : ℕ) (why : Refusal) → decides c (event.Share share) ≡ Some why
    → share_outcome_along (shares_told c share) ≡ share_outcome_told (Some why)
share_refused c share why e = heard_along c share (Some why) (Some why) e e ∙ first_tells share why
