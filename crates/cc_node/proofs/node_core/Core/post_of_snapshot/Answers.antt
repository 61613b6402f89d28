use Rattle.std.proofs.Common.{◌≡◌, ℕ, ◌+◌, ◌≤◌, sym, ap, subst, ◌∙◌}
use Rattle.std.specs.Prelude.{IfOk}
use Rattle.std.specs.FinMap as table
use Rattle.std.proofs.lemmas.Bool.{leb-false}
use Rattle.cc_views.specs.Limits.{counter_limit, known_limit}
use Rattle.cc_churn.specs.Churn as churn
use Rattle.cc_ops.specs.Ops as ops
use Rattle.cc_messages.specs.declared.message.Message.{Message}
use Rattle.cc_messages.specs.declared.message.Message.TheVariants as message
use Rattle.cc_node.specs.Core.{Core, quorum, asks_anew, churn_told, question_if, post_of_snapshot}
use Rattle.cc_node.specs.contracts.node_core.Core.{the_view}
use Rattle.cc_node.proofs.PartDecisions.{only_question}
use Rattle.cc_node.proofs.Effects.{delivery_room}
use Rattle.cc_node.proofs.RefusalLaws.{takes_delivery}
use Rattle.cc_node.proofs.ToldLaws.{snapshot_tag}
use Rattle.cc_node.proofs.node_core.Core.post_of_snapshot.Goals as goal

pub joins_told-requires : goal.joins_told-requires
joins_told-requires c = leb-false _ _ (takes_delivery c.args.self.now c.args.from c.args.number c.args.message.now c.requires.taken).new

pub question-requires-clause-fits : goal.question-requires-clause-fits
question-requires-clause-fits c =
    let a = the_view c.self.inside in
    let q = quorum c.args.self.now in
    let room = delivery_room c.args.number c.self.view_is c.requires.taken c.self.invariant in
    subst (λ (k : Core). table.len (ops.merged c.in-Snapshot.view k.ops).view ≤ known_limit) c.self.view_is
    (subst (λ (m : Message). table.len (ops.after_message a.me q m a.ops).view ≤ known_limit) c.in-Snapshot.is (room.view (λ i. q)))

pub question-requires-clause-tag : goal.question-requires-clause-tag
question-requires-clause-tag c asks =
    let a = the_view c.self.inside in
    let q = quorum c.args.self.now in
    let m = c.args.message.now in
    let room = delivery_room c.args.number c.self.view_is c.requires.taken c.self.invariant in
    let fits = room.anew (λ i. q) (ap (λ (k : Core). asks_anew k c.args.from c.args.number m) c.self.view_is ∙ asks) in
    subst (λ (k : Core). k.ops.tag + 1 ≤ counter_limit) c.self.view_is
    (subst (λ (t : ℕ). t + 1 ≤ counter_limit) (snapshot_tag a.me q m a.ops c.requires.snapshot) fits)

pub returns-else-joins_told : goal.returns-else-joins_told
returns-else-joins_told c =
    let s = c.args.self.now in
    let from = c.args.from in
    let n = c.args.number in
    let v = c.in-Snapshot.view in
    let m = message.Snapshot c.in-Snapshot.changes v in
    let again = churn.quorum s.beta (churn_told s from n m) in
    subst (λ o. IfOk c.question.result (λ p. p ≡ o))
    (ap (λ (k : Message). question_if (asks_anew s from n k) s.me again (ops.merged v s.ops)) c.in-Snapshot.is
    ∙ only_question s from n m (sym (c.joins_told.ensures v) ∙ c.if-joins_told.false) ∙ ap (post_of_snapshot s from n) (sym c.in-Snapshot.is))
    (c.question.ensures again)
