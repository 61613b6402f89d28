-- What the operator's request for another share came to, which is sent twice over one connection.
--     share_outcome_told     as the refusal says that came back: NothingToAck that the share is that one, by this request or before
--     share_outcome_in       as a frame says, if it is about that request
--     share_outcome_along    as the first of the frames says that is
--     shares_told            what a node tells of the request that comes twice
use Rattle.std.specs.Prelude.{ℕ, ◌==◌, ◌&&◌, List, [], ◌∷◌, ◌++◌, Option, Some, None, if◌then◌else◌}
use Rattle.cc_connections.specs.declared.frame.Frame.{Frame}
use Rattle.cc_connections.specs.declared.frame.Frame.TheVariants as frame
use Rattle.cc_messages.specs.declared.event.Event.TheVariants as event
use Rattle.cc_messages.specs.declared.refusal.Refusal.{Refusal}
use Rattle.cc_messages.specs.declared.refusal.Refusal.TheVariants as refusal
use Rattle.cc_node.specs.Core.{Core}
use Rattle.cc_node.specs.Refusals.{decides}
use Rattle.cc_policies.specs.Clients.{refusal_told}
use Rattle.cc_policies.specs.OperatorOutcomes.{first_verdict, frames_told, core_after}
use Rattle.cc_policies.specs.declared.operator_outcome.Outcome.{Outcome}
use Rattle.cc_policies.specs.declared.operator_outcome.Outcome.TheVariants as outcome

abbrev pub share_outcome_told : Option Refusal → Option Outcome
share_outcome_told None = None
share_outcome_told (Some refusal.NothingToAck) = Some outcome.Done
share_outcome_told (Some why) = Some (outcome.Refused why)

abbrev pub share_outcome_in : Frame → Option Outcome
share_outcome_in (frame.Refused session request number value) =
    if (session == 0) && (request == 0) then share_outcome_told (refusal_told number value) else None
share_outcome_in _ = None

abbrev pub share_outcome_along : List Frame → Option Outcome
share_outcome_along [] = None
share_outcome_along (f ∷ fs) = first_verdict (share_outcome_in f) (share_outcome_along fs)

abbrev pub shares_told : Core → ℕ → List Frame
shares_told c share =
    let e = event.Share share in
    frames_told (decides c e) e ++ frames_told (decides (core_after c e (decides c e)) e) e
