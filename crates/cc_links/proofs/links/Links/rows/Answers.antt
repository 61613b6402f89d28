use Rattle.std.proofs.Common.{ap, ◌∙◌, sym}
use Rattle.cc_views.specs.Tables.{rows-table_of}
use Rattle.cc_links.specs.Rows.{entry_of, row_of, rows_of}
use Rattle.cc_links.proofs.ChangedRows.{row_again}
use Rattle.cc_links.proofs.links.Links.rows.Goals as goal

pub returns-clause-rows : goal.returns-clause-rows
returns-clause-rows c =
    c.deref.ensures.value ∙ sym (rows-table_of entry_of row_of row_again c.self.inside.rows.items c.self.invariant.rising) ∙ ap rows_of c.self.view_is
