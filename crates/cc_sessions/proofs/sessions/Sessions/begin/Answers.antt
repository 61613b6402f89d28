use Rattle.std.proofs.Common.{ℕ, arith, refl, ap, ◌≡◌, ◌≤◌, List, length}
use Rattle.std.specs.Prelude.{IsFalse}
use Rattle.std.specs.FinMap as table
use Rattle.cc_views.specs.Tables.{IsTable, table_of, table_of-set, table_of-insert, set_table, insert_table, room_for, len-table_of}
use Rattle.cc_sessions.specs.declared.session_row.SessionRow.{SessionRow}
use Rattle.cc_sessions.specs.Sessions.{Requests, finds_no_room, begin_fits}
use Rattle.cc_sessions.specs.Rows.{entry_of}
use Rattle.cc_sessions.proofs.sessions.Sessions.begin.Goals as goal

-- the rows have room for the session
fits_rows : (rows : List SessionRow) (capacity : ℕ) (ss : Requests) (s r : ℕ) → IsTable entry_of 256 rows capacity → table_of entry_of rows ≡ ss
    → IsFalse (finds_no_room ss s)
    → table.len (table.insert (table_of entry_of rows) s r) ≤ 256
fits_rows rows capacity ss s r is view room = rw view (begin_fits ss s r room (omega (arith, len-table_of entry_of rows is.rising, is.fits, ap table.len view)))

pub invariant_of-self : goal.invariant_of-self
invariant_of-self c = set_table _ _ _ _ c.self.invariant _ _ (rw c.deref.ensures.value at c.in-Ok.ensures) _ refl

pub unwrap-requires : goal.unwrap-requires
unwrap-requires c =
    let fits = fits_rows _ _ _ c.args.session c.args.request c.self.invariant c.self.view_is c.requires in
    let room = room_for _ _ _ _ c.self.invariant _ _ (rw c.deref.ensures.value at c.in-Err.ensures) _ fits in
    c.insert.ensures.succeeds (omega (arith, room, c.deref.ensures.len, ap length c.deref.ensures.value))

pub invariant_of-self-in-Err : goal.invariant_of-self-in-Err
invariant_of-self-in-Err c =
    rw (c.insert.ensures.items, c.unwrap.ensures)
    (insert_table _ _ _ _ c.self.invariant _ _ (rw c.deref.ensures.value at c.in-Err.ensures) _ refl
    (fits_rows _ _ _ c.args.session c.args.request c.self.invariant c.self.view_is c.requires) _ c.insert.ensures.capacity)

pub returns-in-Ok : goal.returns-in-Ok
returns-in-Ok c = rw (← c.self.view_is) (table_of-set entry_of _ c.self.invariant.rising _ _ (rw c.deref.ensures.value at c.in-Ok.ensures) _ refl)

pub returns-in-Err : goal.returns-in-Err
returns-in-Err c = rw (c.insert.ensures.items, c.unwrap.ensures, ← c.self.view_is)
    (table_of-insert entry_of _ _ _ (rw c.deref.ensures.value at c.in-Err.ensures) _ refl)
