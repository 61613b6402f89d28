use Rattle.cc_policies.proofs.LastAskLaws.{kept_asks}
use Rattle.cc_policies.proofs.last_asks.LastAsks.remember.Goals as goal

pub invariant_of-self-else-len-lt-MAX_SESSIONS : goal.invariant_of-self-else-len-lt-MAX_SESSIONS
invariant_of-self-else-len-lt-MAX_SESSIONS c = rw (c.keep_others.ensures.items, c.keep_others.ensures.capacity) (kept_asks _ _ c.self.invariant _)
