use Rattle.cc_policies.proofs.HealthTableLaws.{kept_standings}
use Rattle.cc_policies.proofs.health_table.HealthTable.put.Goals as goal

pub invariant_of-self-else-len-lt-MAX_PEERS : goal.invariant_of-self-else-len-lt-MAX_PEERS
invariant_of-self-else-len-lt-MAX_PEERS c = rw (c.keep_others.ensures.items, c.keep_others.ensures.capacity) (kept_standings _ _ c.self.invariant _)
