use Rattle.std.proofs.Common.{ℕ, ap, ◌∙◌, map}
use Rattle.std.specs.Ordering.{nat_cmp}
use Rattle.std.specs.FinMap as table
use Rattle.cc_sessions.specs.Rows.{entry_of}
use Rattle.cc_sessions.proofs.sessions.Sessions.new.Goals as goal

pub returns-clause-len : goal.returns-clause-len
returns-clause-len c = ap (λ rows. table.len (table.from_entries {R = nat_cmp} (map entry_of rows))) c.in_ok-rows.ensures.items ∙ table.len-empty nat_cmp ℕ
