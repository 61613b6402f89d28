use Rattle.std.proofs.Common.{ap, ◌∙◌, sym, Some}
use Rattle.cc_views.specs.Tables.{get-at, get-gap}
use Rattle.cc_sessions.specs.declared.session_row.SessionRow.{SessionRow}
use Rattle.cc_sessions.specs.Rows.{entry_of}
use Rattle.cc_sessions.proofs.sessions.Sessions.finish.Goals as goal

pub returns-in-Ok : goal.returns-in-Ok
returns-in-Ok c =
    let there = rw c.deref.ensures.value at c.in-Ok.ensures in
    rw (← c.self.view_is) (ap (λ (r : SessionRow). Some r.last) c.index.ensures ∙ sym (get-at entry_of _ c.self.invariant.rising _ _ there _))

pub returns-in-Err : goal.returns-in-Err
returns-in-Err c = rw (← c.self.view_is) (sym (get-gap entry_of _ _ _ (rw c.deref.ensures.value at c.in-Err.ensures)))
