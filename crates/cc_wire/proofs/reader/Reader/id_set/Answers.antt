use Rattle.std.proofs.Common.{arith}
use Rattle.cc_wire.proofs.Formats.{id_set_is_read}
use Rattle.cc_wire.proofs.reader.Reader.id_set.Goals as goal

pub numbers-requires-clause-empty : goal.numbers-requires-clause-empty
numbers-requires-clause-empty c = c.in_ok-set.ensures.items

pub returns : goal.returns
returns c = id_set_is_read c.args.self.now c.in_ok-count.count c.u16.new.self c.numbers.new.set c.numbers.new.self c.in_ok-count.ensures (omega arith)
    c.in_ok-numbers.ensures.read
