use Rattle.cc_policies.proofs.SpeakerLaws.{kept_speakers}
use Rattle.cc_policies.proofs.speakers.Speakers.speak.Goals as goal

pub invariant_of-self-else-len-lt-MAX_SPEAKERS : goal.invariant_of-self-else-len-lt-MAX_SPEAKERS
invariant_of-self-else-len-lt-MAX_SPEAKERS c = rw (c.keep_others.ensures.items, c.keep_others.ensures.capacity) (kept_speakers _ _ c.self.invariant _)
