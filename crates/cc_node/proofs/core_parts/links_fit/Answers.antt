use Rattle.std.proofs.Common.{ap, arith, length}
use Rattle.std.specs.FinMap as table
use Rattle.std.proofs.lemmas.List.{length-map}
use Rattle.cc_links.specs.Rows.{row_of}
use Rattle.cc_node.proofs.RestoredRows.{links_pass}
use Rattle.cc_node.proofs.core_parts.links_fit.Goals as goal

pub returns-clause-fit : goal.returns-clause-fit
returns-clause-fit c = rw (c.rows_fit.ensures, c.rows.ensures.rows) (links_pass _ _)

pub returns-clause-few : goal.returns-clause-few
returns-clause-few c =
    let ls = c.args.links.now in
    omega (arith, table.len-entries ls, length-map (table.entries ls) row_of, ap length c.rows.ensures.rows, c.rows.ensures.fits)
