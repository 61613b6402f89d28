use Rattle.cc_policies.proofs.GreetingLaws.{kept_greetings}
use Rattle.cc_policies.proofs.greetings.Greetings.put.Goals as goal

pub invariant_of-self-else-len-lt-MAX_PEERS : goal.invariant_of-self-else-len-lt-MAX_PEERS
invariant_of-self-else-len-lt-MAX_PEERS c = rw (c.keep_others.ensures.items, c.keep_others.ensures.capacity) (kept_greetings _ _ c.self.invariant _)
