use Rattle.cc_laws.proofs.lives.moments_end_lives.Goals as goal

pub returns-clause-still : goal.returns-clause-still
returns-clause-still g c start events opening left told lawful good run since = record { lawful = lawful; good = good left told (run.each left told since) }
