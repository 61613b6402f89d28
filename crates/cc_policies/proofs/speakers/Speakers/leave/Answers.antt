use Rattle.cc_policies.proofs.SpeakerLaws.{kept_speakers}
use Rattle.cc_policies.proofs.speakers.Speakers.leave.Goals as goal

pub invariant_of-self : goal.invariant_of-self
invariant_of-self c = rw (c.remove_ticket.ensures.items, c.remove_ticket.ensures.capacity) (kept_speakers _ _ c.self.invariant _)
