use denote.Param.{param}
use mir.Syntax.{named}
use Rattle.cc_server.proofs.EngineCrosses.{calls_sync}
use Rattle.cc_server.proofs.run.run_locked.Goals as goal

pub serve-requires-sync-T : goal.serve-requires-sync-T
serve-requires-sync-T g c κs within = record {
  shared = (calls_sync record { mir = named 7; lft = κs.1.1.1.1.1.1.1.0 } record { mir = named 8; lft = κs.1.1.1.1.1.1.1.1.0 }
      record { mir = named 9; lft = κs.1.1.1.1.1.1.1.1.1.0 } (param 2 g.row.S) (param 0 g.row.L) (param 1 g.row.Q) (param 3 g.row.R) (param 4 g.row.H)
      g.Q.Lane g.S.Site g.L.Life g.L.Ledger c.type_bounds.send-S c.type_bounds.send-L c.type_bounds.sync-L c.type_bounds.send-Q c.type_bounds.sync-Q
      c.type_bounds.sync-R c.type_bounds.sync-H).shared;
}
