use Rattle.std.proofs.Common.{arith}
use Rattle.cc_wire.proofs.Formats.{number_set_is_read}
use Rattle.cc_wire.proofs.reader.Reader.number_set.Goals as goal

pub returns : goal.returns
returns c = number_set_is_read c.args.self.now c.in_ok-count.count c.u8.new.self c.numbers.new.set c.numbers.new.self c.in_ok-count.ensures.exact
    (omega arith) (rw c.from-2.ensures at c.in_ok-numbers.ensures.read)
