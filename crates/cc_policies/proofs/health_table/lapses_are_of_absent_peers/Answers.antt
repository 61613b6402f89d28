use Rattle.cc_policies.specs.HealthTables.{row_of}
use Rattle.cc_policies.proofs.PeerHealthLaws.{only_absent}
use Rattle.cc_policies.proofs.health_table.lapses_are_of_absent_peers.Goals as goal

pub returns : goal.returns
returns c = λ rows peer reach posts is_tick h. only_absent (row_of peer rows).standing reach posts (row_of peer rows).handed_at is_tick h
