use Rattle.std.proofs.Common.{ap, sym, ◌∙◌, arith, length}
use Rattle.std.specs.FinMap as table
use Rattle.std.proofs.lemmas.List.{length-map}
use Rattle.cc_links.specs.Rows.{row_of}
use Rattle.cc_node_state.proofs.PartLaws.{length-front}
use Rattle.cc_node_state.proofs.parts.front_len.Goals as goal

pub returns-clause-len : goal.returns-clause-len
returns-clause-len c kept =
    let links = ap length c.rows.ensures.rows ∙ length-map _ row_of ∙ sym (table.len-entries c.links.result.now) ∙ ap (λ m. table.len m) c.links.ensures in
    omega (arith, length-front c.args.core.now kept, links, c.rows-2.ensures.len, ap (λ m. table.len m) c.sessions.ensures)

pub returns-clause-fits : goal.returns-clause-fits
returns-clause-fits c = omega (arith, c.rows.ensures.fits, c.rows-2.ensures.fits)
