use Rattle.std.proofs.Common.{arith, ap, length}
use Rattle.std.specs.List.{flat_map}
use Rattle.cc_wire.specs.Spellings.{row_spelling}
use Rattle.cc_wire.proofs.Views.{len-rows_of}
use Rattle.cc_wire.proofs.spelling_lengths.view_len.Goals as goal

pub rows_len-requires : goal.rows_len-requires
rows_len-requires c = omega (arith, c.rows.ensures.fits, ap length c.rows.ensures.rows, len-rows_of c.args.view.now)

pub returns-clause-fits : goal.returns-clause-fits
returns-clause-fits c = omega (arith, c.rows_len.ensures.fits, c.rows.ensures.fits, ap length c.rows.ensures.rows, len-rows_of c.args.view.now)

pub returns-clause-len : goal.returns-clause-len
returns-clause-len c = omega (arith, c.rows_len.ensures.len, ap (λ rows. length (flat_map row_spelling rows)) c.rows.ensures.rows)
