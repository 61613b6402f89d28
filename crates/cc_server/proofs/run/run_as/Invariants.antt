use Rattle.cc_server.proofs.run.run_as.Given as goal

-- the queue that was just made
abbrev pub ghosts-run_at : goal.ghosts-run_at
ghosts-run_at g a = record { table = a.ends }
