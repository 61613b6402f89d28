use Rattle.std.proofs.Common.{sym}
use Rattle.cc_wire.proofs.Lengths.{length-listed}
use Rattle.cc_wire.proofs.spelling_lengths.ids_len.Goals as goal

pub returns-clause-len : goal.returns-clause-len
returns-clause-len c = sym (length-listed c.args.ids.now)
