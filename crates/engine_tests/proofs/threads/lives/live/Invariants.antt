use Rattle.engine_tests.proofs.threads.lives.live.Given as goal

-- the ledger that was just made
abbrev pub ghosts-live_as-L-Ledger : goal.ghosts-live_as-L-Ledger
ghosts-live_as-L-Ledger g a = record { name = a.blank.name; parts = a.blank.parts }

-- the node that was just opened
abbrev pub ghosts-live_as-L-Life : goal.ghosts-live_as-L-Life
ghosts-live_as-L-Life g a =
    record { opening = a.engine.twin; reached = λ look list. Unit {0}; taken = λ look list. Unit {0}; accepted = λ list. Unit {0}; flushed = λ count. Unit {0} }
