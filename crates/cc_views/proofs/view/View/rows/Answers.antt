use Rattle.std.proofs.Common.{arith, ap, ◌∙◌}
use Rattle.std.specs.FinMap as map
use Rattle.cc_views.specs.Rows.{entry_of, rows_of}
use Rattle.cc_views.specs.Tables.{len-table_of, keys_ascend}
use Rattle.cc_views.proofs.Absorbs.{rows_back}
use Rattle.cc_views.proofs.view.View.rows.Goals as goal

pub returns-clause-rows : goal.returns-clause-rows
returns-clause-rows c = c.deref.ensures.value ∙ rows_back c.self.inside.rows.items c.self.invariant.rising ∙ ap rows_of c.self.view_is

pub returns-clause-fits : goal.returns-clause-fits
returns-clause-fits c = omega (arith, len-table_of entry_of c.self.inside.rows.items c.self.invariant.rising, ap map.len c.self.view_is, c.self.invariant.fits)

pub returns-clause-ascending : goal.returns-clause-ascending
returns-clause-ascending c = rw c.deref.ensures.value (keys_ascend entry_of c.self.inside.rows.items c.self.invariant.rising)
