use Rattle.std.proofs.Common.{arith, ap, ◌∙◌, sym, refl}
use Rattle.std.specs.FinMap as table
use Rattle.cc_views.specs.Tables.{rows-table_of, len-table_of}
use Rattle.cc_sessions.specs.Rows.{entry_of, row_of, rows_of}
use Rattle.cc_sessions.proofs.sessions.Sessions.rows.Goals as goal

pub returns-clause-rows : goal.returns-clause-rows
returns-clause-rows c =
    c.deref.ensures.value ∙ sym (rows-table_of entry_of row_of (λ row. refl) c.self.inside.rows.items c.self.invariant.rising) ∙ ap rows_of c.self.view_is

pub returns-clause-len : goal.returns-clause-len
returns-clause-len c = omega (arith, len-table_of entry_of c.self.inside.rows.items c.self.invariant.rising, ap table.len c.self.view_is, c.deref.ensures.len)
