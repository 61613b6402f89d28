use Rattle.std.proofs.Common.{◌≡◌, true, sym, subst, ◌∙◌, Bool}
use Rattle.std.specs.Prelude.{IfOk}
use Rattle.cc_ops.specs.Ops as ops
use Rattle.cc_node.specs.Core.{Core, asks_anew, question_if}
use Rattle.cc_node.proofs.node_core.Core.question.Goals as goal

pub returns : goal.returns
returns c quorum =
    let s = c.args.self.now in
    let view = c.args.told.now in
    let asks : asks_anew s c.args.from c.args.number c.args.message.now ≡ true = sym c.asks_anew.ensures ∙ c.if-not-asks_anew.false in
    subst (λ (b : Bool). IfOk c.question.result (λ p. p ≡ question_if b s.me quorum (ops.merged view s.ops))) (sym asks)
    (subst (λ (k : Core). IfOk c.question.result (λ p. p ≡ ops.question k.me (ops.anew quorum (ops.merged view k.ops)))) c.self.view_is
    (c.question.ensures quorum))
