use Rattle.cc_policies.proofs.health_table.HealthTable.pass_second.Goals as goal

pub returns-clause-table : goal.returns-clause-table
returns-clause-table c = rw (c.row_passed.ensures, c.row_of-before.ensures, c.deref.ensures.value, c.self.view_is) at c.put.ensures
