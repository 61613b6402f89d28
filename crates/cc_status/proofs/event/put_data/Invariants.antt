use Rattle.std.proofs.Common.{take, Ok}
use Rattle.std.specs.List.{flat_map}
use Rattle.cc_status.specs.Writers.{Writes}
use Rattle.cc_status.specs.Events.{data_byte}
use Rattle.cc_status.proofs.event.put_data.Given as goal

abbrev pub invariant-loop-byte : goal.invariant-loop-byte
invariant-loop-byte l = Writes l.fn.out l.out (flat_map data_byte (take l.byte-index l.text)) (Ok tt)
