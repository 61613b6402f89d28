-- Of the fields of each lawful state the parts of a node can be made.
use Rattle.std.proofs.Common.{◌≡◌, ◌≤◌, ◌-◌, length, refl, subst, arith}
use Rattle.std.specs.FinMap as table
use Rattle.cc_views.specs.NatSets.{len_within}
use Rattle.cc_views.specs.Rows.{ViewMap}
use Rattle.cc_views.specs.Tables.{len-table_of}
use Rattle.cc_links.specs.Links.{Links}
use Rattle.cc_links.specs.Rows as links
use Rattle.cc_sessions.specs.Sessions.{Requests}
use Rattle.cc_outbox.specs.Rows as kept_rows
use Rattle.cc_outbox.proofs.Edits.{len_posts}
use Rattle.cc_ops.specs.declared.pending_operation.Pending.{Pending}
use Rattle.cc_ops.specs.declared.stage.Stage.{Stage}
use Rattle.cc_ops.specs.declared.stage.Stage.TheVariants as stage
use Rattle.cc_ops.specs.Ops.{IsWaiting}
use Rattle.cc_ops.specs.Stages.{phase_of, stage_of, HasWaiting, WaitsBehind}
use Rattle.cc_node.specs.Node.{Node}
use Rattle.cc_node.specs.Lawful.{IsPendingIn, IsPhaseOf, IsLawfulNode}
use Rattle.cc_node_state.specs.States.{node_of}
use Rattle.cc_node_state.specs.declared.fields.Fields.{Fields}
use Rattle.cc_node_state.specs.Fields.{state_in, AreRead, CanBuild}

stage_again : (at : Stage) (seen : ViewMap) → stage_of (phase_of at seen) ≡ at
stage_again stage.Idle seen = refl
stage_again (stage.Storing p) seen = refl
stage_again (stage.Querying p) seen = refl
stage_again (stage.StoringBack p) seen = refl

waits_in : (sessions : Requests) (p : Pending) → IsPendingIn sessions p → IsWaiting p
waits_in sessions p is = record { count = is.count; need = is.need }

waits_at : (ls : Links) (sessions : Requests) (at : Stage) (seen : ViewMap) → IsPhaseOf ls sessions (phase_of at seen) → HasWaiting at
waits_at ls sessions stage.Idle seen is = tt
waits_at ls sessions (stage.Storing p) seen is = waits_in sessions p is.0
waits_at ls sessions (stage.Querying p) seen is = waits_in sessions p is.0
waits_at ls sessions (stage.StoringBack p) seen is = waits_in sessions p is.0

-- there are no more kept answers than sessions
pub answers_within : (n : Node) → IsLawfulNode n → table.len n.outbox.answers ≤ 256
answers_within n is =
    let within : table.len n.outbox.answers ≤ table.len n.core.sessions = len_within n.outbox.answers n.core.sessions (λ s h. (is.answers s h).0) in
    omega (arith, within, is.core.session_count)

pub lawful_builds : (f : Fields) → AreRead f.tables → IsLawfulNode (node_of (state_in f)) → CanBuild f
lawful_builds f read is =
    let rows = f.tables.links.items in
    let answers = f.tables.answers.items in
    let kept = f.tables.kept.items in
    record {
      links = omega (arith, len-table_of links.entry_of rows read.links, is.core.link_count);
      answers = omega (arith, len-table_of kept_rows.entry_of answers read.answers, answers_within (node_of (state_in f)) is);
      kept = omega (arith, len_posts (f.tables.posts - length kept) kept, is.posts.count);
      number = is.core.counts.number;
      tag = is.core.counts.tag;
      echoes = is.core.counts.echoes;
      waits = waits_at _ _ f.work.round.stage f.work.round.seen is.core.phase;
      behind = subst (λ (at : Stage). WaitsBehind at f.work.round.line) (stage_again f.work.round.stage f.work.round.seen) is.core.line.behind;
      some = is.core.line.round.some;
      most = is.core.line.round.most;
      beside = is.core.line.round.few;
      room = is.core.set;
    }
