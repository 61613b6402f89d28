-- What a table of standings keeps.
--     kept_standings       without some of them
use Rattle.std.proofs.Common.{Bool, ℕ, arith}
use Rattle.std.specs.Prelude.{filter}
use Rattle.cc_policies.specs.declared.health_table.PeerRow.{PeerRow}
use Rattle.cc_policies.specs.HealthTables.{HealthTable, IsHealthTable}
use Rattle.cc_policies.proofs.RouteLaws.{shorter}

pub kept_standings : (rows : HealthTable) (capacity : ℕ) → IsHealthTable rows capacity → (p : PeerRow → Bool) → IsHealthTable (filter p rows) capacity
kept_standings rows capacity is p = record { fits = omega (arith, shorter p rows, is.fits); room = is.room }
