use Rattle.std.proofs.Common.{◌≡◌, ◌∷◌, ◌++◌, [], Bool, true, List, length, map, take, ap, sym, ◌∙◌, arith}
use Rattle.std.specs.Prelude.{if◌then◌else◌}
use Rattle.cc_ops.specs.declared.pending_operation.Asked.{Asked}
use Rattle.cc_ops.specs.Ops.{Ops, is_last, told}
use Rattle.cc_ops.proofs.ToldAnswers.{told_more, told_all, told_count, front_few}
use Rattle.cc_ops.proofs.ops.Ops.told_if_last.Goals as goal

pub loop-asked-init : goal.loop-asked-init
loop-asked-init c = c.in_ok-replies.ensures ∙ ap (λ r. r ∷ []) c.in_ok-first.ensures

pub push-requires-clause-some : goal.push-requires-clause-some
push-requires-clause-some c =
    omega (
      arith,
      ap length c.loop-asked.invariant,
      told_count c.args.seen.now c.args.pending.now.asked
          (take c.loop-asked.asked-index c.asks-asked-items.result.now),
    )

pub push-requires-clause-room : goal.push-requires-clause-room
push-requires-clause-room c =
    let few = front_few c.asks-asked-items.result.now c.loop-asked.asked-index in
    let count = ap length c.loop-asked.invariant ∙ told_count c.args.seen.now c.args.pending.now.asked
    (take c.loop-asked.asked-index c.asks-asked-items.result.now) in
    omega (arith, few, count, c.loop-asked-test.true, ap length c.asks-asked-items.ensures.asks, c.self.invariant.beside, c.self.invariant.few)

pub loop-asked-preserved : goal.loop-asked-preserved
loop-asked-preserved c =
    let seen = c.args.seen.now in
    let items = c.asks-asked-items.result.now in
    c.in_ok-push.ensures.pushed
    ∙ (λ i. c.loop-asked.invariant i ++ c.in_ok-reply.ensures i ∷ [])
    ∙ sym (told_more seen c.args.pending.now.asked items c.loop-asked.asked-index c.asked-item.result c.loop-asked-test.true c.asked-item.is)

pub returns : goal.returns
returns c =
    let seen = c.args.seen.now in
    let a = c.args.pending.now.asked in
    let items = c.asks-asked-items.result.now in
    let all = c.args.self.now.others in
    let same : items ≡ all = c.asks-asked-items.ensures.asks ∙ ap (λ (o : Ops). o.others) c.self.view_is in
    let last : is_last c.args.pending.now ≡ true = sym c.is_last.ensures ∙ c.if-not-is_last.false in
    c.loop-asked.invariant ∙ told_all seen a items c.loop-asked.asked-index c.loop-asked-test.false
    ∙ ap (λ (l : List Asked). map (told seen) (a ∷ l)) same
    ∙ sym (ap (λ (b : Bool). if b then map (told seen) (a ∷ all) else []) last)
