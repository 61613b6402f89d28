use Rattle.std.proofs.Common.{get_or}
use Rattle.std.proofs.lemmas.List.{get_or_default}
use Rattle.std.proofs.lemmas.Result.{err_from_is_err_and}
use Rattle.cc_status.specs.Events.{data_byte}
use Rattle.cc_status.proofs.Writes.{each_stops}
use Rattle.cc_status.proofs.event.put_data.Goals as goal

pub returns-in_err-put_data_byte : goal.returns-in_err-put_data_byte
returns-in_err-put_data_byte c =
    let p = err_from_is_err_and c.from_residual.result c.from_residual.ensures.1 in
    let byte = get_or c.args.text.now c.loop-byte.byte-index 0 in
    rw p.1 (each_stops data_byte c.args.out.now c.loop-byte.out c.put_data_byte.new.out c.args.text.now c.loop-byte.byte-index byte _ _ c.loop-byte-test.true
    (get_or_default c.args.text.now c.loop-byte.byte-index 0 byte c.loop-byte-test.true) c.loop-byte.invariant c.in_err-put_data_byte.ensures)
