-- The state that fields are, as they are read.
--     own_at          reading the own value under its number, and the tag
--     state_in f      the state of all fields
--     AreRead t       what holds of tables that were read: keys rise, and there are as many rows as may be
--     CanBuild f      whether the parts of a node can be made of them
use Rattle.std.specs.Prelude.{◌<◌, ◌≤◌, ℕ, List, length}
use Rattle.std.specs.Int.{w64}
use Rattle.cc_views.specs.Limits.{counter_limit, known_limit, session_limit}
use Rattle.cc_views.specs.Tables.{IsRising, table_of}
use Rattle.cc_views.specs.declared.value.Value.{Value}
use Rattle.cc_wire.specs.Readers.{Reading, ◌⊗◌, number_at, value_at}
use Rattle.cc_links.specs.Rows as links
use Rattle.cc_sessions.specs.Rows as sessions
use Rattle.cc_outbox.specs.Rows as answers
use Rattle.cc_outbox.specs.Outbox.{post_limit}
use Rattle.cc_ops.specs.Ops.{Phase}
use Rattle.cc_ops.specs.Stages.{phase_of, HasWaiting, WaitsBehind, HasRoom}
use Rattle.cc_ops.specs.declared.pending_operation.Asked.{Asked}
use Rattle.cc_messages.specs.Shares.{share_limit}
use Rattle.cc_node_state.specs.States as states
use Rattle.cc_node_state.specs.declared.fields.Membership.{Membership}
use Rattle.cc_node_state.specs.declared.fields.Own.{Own}
use Rattle.cc_node_state.specs.declared.fields.Entering.{Entering}
use Rattle.cc_node_state.specs.declared.fields.Round.{Round}
use Rattle.cc_node_state.specs.declared.fields.Work.{Work}
use Rattle.cc_node_state.specs.declared.fields.Tables.{Tables}
use Rattle.cc_node_state.specs.declared.fields.Fields.{Fields}

abbrev pub membership_in : Membership → states.Membership
membership_in m = record { me = m.me; beta = m.beta; gamma = m.gamma; changes = m.changes }

abbrev pub round_in : Round → Phase × ((ℕ × List Asked) × List Asked)
round_in r = (phase_of r.stage r.seen, ((r.share, r.others), r.line))

abbrev pub own_at : Reading (ℕ × (Value × ℕ))
own_at = number_at w64 ⊗ value_at ⊗ number_at w64

abbrev pub own_in : Own → ℕ × (Value × ℕ)
own_in own = (own.number, (own.mine, own.tag))

abbrev pub entering_in : Entering → ℕ × ℕ
entering_in entering = (entering.echoes, entering.need)

abbrev pub work_in : Work → states.Work
work_in w = record {
  view = w.view;
  number = w.number;
  mine = w.mine;
  tag = w.tag;
  echoes = w.echoes;
  need = w.need;
  phase = (round_in w.round).0;
  share = w.round.share;
  others = w.round.others;
  line = w.round.line;
}

abbrev pub tables_in : Tables → states.Tables
tables_in t = record {
  posts = t.posts;
  links = table_of links.entry_of t.links.items;
  sessions = table_of sessions.entry_of t.sessions.items;
  kept = t.kept.items;
  answers = table_of answers.entry_of t.answers.items;
}

abbrev pub state_in : Fields → states.State
state_in f = record { membership = membership_in f.membership; work = work_in f.work; tables = tables_in f.tables }

-- keys rise, and the counts that are limited are within their limits
pub record AreRead (t : Tables) : Type 0 where
  pub links : IsRising links.entry_of t.links.items
  pub sessions : IsRising sessions.entry_of t.sessions.items
  pub session_count : length t.sessions.items ≤ session_limit
  pub kept_count : length t.kept.items ≤ post_limit
  pub answers : IsRising answers.entry_of t.answers.items

-- the parts of a node can be made of the fields
pub record CanBuild (f : Fields) : Type 0 where
  pub links : length f.tables.links.items ≤ known_limit
  pub answers : length f.tables.answers.items ≤ session_limit
  pub kept : length f.tables.kept.items ≤ f.tables.posts
  pub number : f.work.number ≤ counter_limit
  pub tag : f.work.tag ≤ counter_limit
  pub echoes : f.work.echoes ≤ counter_limit
  pub waits : HasWaiting f.work.round.stage
  pub behind : WaitsBehind f.work.round.stage f.work.round.line
  pub some : 1 ≤ f.work.round.share
  pub most : f.work.round.share ≤ share_limit
  pub beside : length f.work.round.others < f.work.round.share
  pub room : HasRoom f.work.round.line f.work.mine
