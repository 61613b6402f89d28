use Rattle.std.proofs.Common.{rules}
use Rattle.cc_command_line.proofs.AddressWords.{id_of}
use Rattle.cc_command_line.proofs.addresses.node_id.Goals as goal

pub returns : goal.returns
returns c = id_of c.args.word.now c.in_ok-small_number.field-0 c.new.result c.in_ok-small_number.ensures (search rules) c.new.ensures.some c.new.ensures.id
