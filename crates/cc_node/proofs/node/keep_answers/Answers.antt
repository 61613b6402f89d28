use Rattle.std.proofs.Common.{◌≡◌, ◌≤◌, arith, List, sym, ap, subst, ◌∙◌}
use Rattle.std.specs.FinMap as table
use Rattle.cc_views.specs.Limits.{session_limit}
use Rattle.cc_ops.specs.declared.pending_operation.Reply.{Reply}
use Rattle.cc_outbox.specs.Outbox as kept
use Rattle.cc_outbox.specs.Outbox.{Outbox}
use Rattle.cc_node.specs.Node.{keep}
use Rattle.cc_node.proofs.KeptLaws.{keep_grows}
use Rattle.cc_node.proofs.node.keep_answers.Goals as goal

pub keep-requires : goal.keep-requires
keep-requires c =
    let o = c.loop-reply.outbox in
    let r = c.in-Some.reply in
    let rs = c.take_first.new.self in
    let now = kept.keep r.session r.answer o in
    let leads : keep rs now ≡ keep c.args.answers c.args.outbox.now = ap (λ (l : List Reply). keep l o) (sym c.in-Some.ensures.some) ∙ c.loop-reply.invariant in
    let fits : table.len (keep rs now).answers ≤ session_limit = subst (λ (u : Outbox). table.len u.answers ≤ session_limit) (sym leads) c.requires in
    let less : table.len now.answers ≤ table.len (keep rs now).answers = keep_grows rs now in
    omega (arith, fits, less)

pub loop-reply-preserved : goal.loop-reply-preserved
loop-reply-preserved c =
    ap (λ (u : Outbox). keep c.take_first.new.self u) c.keep.ensures
    ∙ ap (λ (l : List Reply). keep l c.loop-reply.outbox) (sym c.in-Some.ensures.some) ∙ c.loop-reply.invariant

pub returns : goal.returns
returns c = ap (λ (l : List Reply). keep l c.loop-reply.outbox) (sym (c.take_first.ensures.none c.in_default.is).0) ∙ c.loop-reply.invariant
