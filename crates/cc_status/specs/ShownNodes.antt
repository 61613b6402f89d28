-- What is told of a node.
--     told_text, text_told        a row's text as it is told, and what has to be told of a text
--     told_row, row_told          a row as it is told, and what has to be told of one: node, number, text, maximum, flag, set
--     told_session, session_told  the same of a session: it and its last request
--     Begins c posts s            that s has what takes no memory of that, and lists of nothing
--     Shows c posts s              that s tells of a node with that core, which keeps so many posts
use Rattle.std.specs.Prelude.{◌≡◌, ℕ, List, [], Bool, map, Option, option_map}
use Rattle.std.specs.String.{string_bytes}
use Rattle.cc_views.specs.NatSets as set
use Rattle.cc_views.specs.Rows.{rows_of}
use Rattle.cc_views.specs.declared.row.Row.{Row}
use Rattle.cc_changes.specs.ChangeSets.{members, present}
use Rattle.cc_sessions.specs.Rows as sessions
use Rattle.cc_sessions.specs.declared.session_row.SessionRow.{SessionRow}
use Rattle.cc_node.specs.Core.{Core}
use Rattle.cc_status.specs.Texts.{plain_of, base64_of}
use Rattle.cc_status.specs.declared.status.RowStatus.{RowStatus}
use Rattle.cc_status.specs.declared.status.SessionStatus.{SessionStatus}
use Rattle.cc_status.specs.declared.status.Status.{Status}

-- a text as it stands, or in base64
abbrev pub TextTold : Type 0
TextTold = Option (List ℕ) × Option (List ℕ)

-- node, number, text, maximum, flag and set
abbrev pub RowTold : Type 0
RowTold = ℕ × (ℕ × (TextTold × (ℕ × (Bool × List ℕ))))

abbrev pub told_text : RowStatus → TextTold
told_text r = (option_map string_bytes r.text, option_map string_bytes r.text_base64)

abbrev pub text_told : List ℕ → TextTold
text_told bytes = (plain_of bytes, base64_of bytes)

abbrev pub told_row : RowStatus → RowTold
told_row r = (r.node, (r.number.0, (told_text r, (r.max.0, (r.flag, r.set.items)))))

abbrev pub row_told : Row → RowTold
row_told r = (r.node, (r.number, (text_told r.value.text, (r.value.max, (r.value.flag, set.items r.value.set)))))

abbrev pub told_session : SessionStatus → ℕ × ℕ
told_session s = (s.session.0, s.request.0)

abbrev pub session_told : SessionRow → ℕ × ℕ
session_told r = (r.session, r.last)

pub record Begins (c : Core) (posts : ℕ) (s : Status) : Type 0 where
  pub id : s.id ≡ c.me
  pub view : s.view.items ≡ []
  pub members : s.members.items ≡ []
  pub present : s.present.items ≡ []
  pub left : s.left.items ≡ []
  pub sessions : s.sessions.items ≡ []
  pub made : s.posts.made.0 ≡ c.posts
  pub kept : s.posts.kept ≡ posts

pub record Shows (c : Core) (posts : ℕ) (s : Status) : Type 0 where
  pub id : s.id ≡ c.me
  pub view : map told_row s.view.items ≡ map row_told (rows_of c.ops.view)
  pub members : s.members.items ≡ set.items (members c.churn.changes)
  pub present : s.present.items ≡ set.items (present c.churn.changes)
  pub left : s.left.items ≡ set.items c.churn.changes.left
  pub sessions : map told_session s.sessions.items ≡ map session_told (sessions.rows_of c.sessions)
  pub made : s.posts.made.0 ≡ c.posts
  pub kept : s.posts.kept ≡ posts
