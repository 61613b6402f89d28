use Rattle.cc_journal.proofs.Multiples.{reaches_multiple}
use Rattle.cc_journal.proofs.ahead.zeros_ahead.Goals as goal

pub returns-then-end-zeros-lt-ROOM_LIMIT-clause-to_multiple : goal.returns-then-end-zeros-lt-ROOM_LIMIT-clause-to_multiple
returns-then-end-zeros-lt-ROOM_LIMIT-clause-to_multiple c grew fits = reaches_multiple c.args.stride c.args.end c.requires.stride
