use Rattle.engine_tests.proofs.threads.lives.live_as.Given as goal

-- the queue that was just made
abbrev pub ghosts-live_at : goal.ghosts-live_at
ghosts-live_at g a = record { table = a.ends }
