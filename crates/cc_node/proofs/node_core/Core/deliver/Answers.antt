use Rattle.std.proofs.Common.{◌≡◌, ℕ, ◌+◌, ◌≤◌, cond, rules, refl, sym, ap, subst, ◌∙◌}
use Rattle.std.specs.Prelude.{is_some}
use Rattle.std.proofs.lemmas.Bool.{leb-false}
use Rattle.cc_messages.specs.declared.event.Event.TheVariants as event
use Rattle.cc_changes.specs.ChangeSets.{FitsRoom}
use Rattle.cc_churn.specs.Churn as churn
use Rattle.cc_ops.specs.Ops as ops
use Rattle.cc_node.specs.Core.{Core, quorum, links_heard, tells, asks_anew, post, next}
use Rattle.cc_node.specs.contracts.node_core.Core.{the_view}
use Rattle.cc_node.proofs.Effects.{delivery_room, next_delivery, next_keeps, told_as, anew_as, byte_is}
use Rattle.cc_node.proofs.RefusalLaws.{takes_delivery}
use Rattle.cc_node.proofs.node_core.Core.deliver.Goals as goal
use Rattle.cc_node.proofs.node_core.Core.deliver.Goals.{After-ask_anew}

pub link_named-requires : goal.link_named-requires
link_named-requires c = (delivery_room c.args.number c.self.view_is c.requires c.self.invariant).named

pub add-requires : goal.add-requires
add-requires c = rw c.link_named.ensures (delivery_room c.args.number c.self.view_is c.requires c.self.invariant).links

pub apply-requires : goal.apply-requires
apply-requires c =
    let room = delivery_room c.args.number c.self.view_is c.requires c.self.invariant in
    record { positive = search rules; share = search rules; fits = room.changes; echoes = room.echoes }

pub apply-requires-2 : goal.apply-requires-2
apply-requires-2 c =
    let room = delivery_room c.args.number c.self.view_is c.requires c.self.invariant in
    let needed = c.quorum-quorum.ensures in
    record { some = search rules; few = room.few needed; fits = room.view needed; number = room.number needed; tag = room.tag needed }

-- the fields are then those of the next core
after : (c : After-ask_anew) → let a = the_view c.self.inside in
    record a { churn = c.count_told.new.churn; ops = c.ask_anew.new.ops; posts = a.posts + c.from-made.result; links = c.hear.new.self }
    ≡ next c.args.self.now (event.Deliver c.args.from c.args.number c.args.message.now)
after c =
    let a = the_view c.self.inside in
    let from = c.args.from in
    let n = c.args.number in
    let m = c.args.message.now in
    let e = event.Deliver from n m in
    let view = sym c.self.view_is in
    let churn_is = c.count_told.ensures ∙ told_as from n m c.self.view_is c.tells-told.ensures c.apply.ensures in
    let served = c.apply-2.ensures ∙ ap (λ (q : ℕ). ops.after_message a.me q m a.ops) (c.quorum-quorum.ensures ∙ ap quorum view) in
    let again = c.quorum.ensures ∙ ap (churn.quorum a.beta) churn_is in
    let ops_is = c.ask_anew.ensures ∙ anew_as from n m c.self.view_is c.asks_anew-anew.ensures again served in
    let links_is : c.hear.new.self ≡ links_heard a from n m = rw (c.hear.ensures, c.add.ensures, c.link_named.ensures) refl in
    let made : c.from-made.result ≡ cond (is_some (post a e)) 1 0 =
    byte_is _ _ _ c.from-made.ensures c.makes_post.ensures ∙ ap (λ (s : Core). cond (is_some (post s e)) 1 0) view in
    (λ i. record a { churn = churn_is i; ops = ops_is i; posts = a.posts + made i; links = links_is i })
    ∙ sym (next_delivery a from n m) ∙ ap (λ (s : Core). next s e) c.self.view_is

pub makes_post-requires : goal.makes_post-requires
makes_post-requires c = leb-false _ _ (takes_delivery c.args.self.now c.args.from c.args.number c.args.message.now c.requires).new

pub tells-told-requires : goal.tells-told-requires
tells-told-requires c = leb-false _ _ (takes_delivery c.args.self.now c.args.from c.args.number c.args.message.now c.requires).new

pub count_told-requires-clause-fits : goal.count_told-requires-clause-fits
count_told-requires-clause-fits c =
    subst (λ (k : churn.Churn). FitsRoom k.changes)
    (sym (told_as c.args.from c.args.number c.args.message.now c.self.view_is c.tells-told.ensures c.apply.ensures))
    (delivery_room c.args.number c.self.view_is c.requires c.self.invariant).told

pub count_told-requires-clause-echoes : goal.count_told-requires-clause-echoes
count_told-requires-clause-echoes c told =
    let tells_is = ap (λ (s : Core). tells s c.args.from c.args.number c.args.message.now) c.self.view_is ∙ sym c.tells-told.ensures in
    rw c.apply.ensures ((delivery_room c.args.number c.self.view_is c.requires c.self.invariant).counts (tells_is ∙ told))

pub ask_anew-requires-clause-few : goal.ask_anew-requires-clause-few
ask_anew-requires-clause-few c =
    let told = told_as c.args.from c.args.number c.args.message.now c.self.view_is c.tells-told.ensures c.apply.ensures in
    subst (λ (q : ℕ). q ≤ 256) (sym (c.quorum.ensures ∙ ap (churn.quorum (the_view c.self.inside).beta) (c.count_told.ensures ∙ told)))
    (delivery_room c.args.number c.self.view_is c.requires c.self.invariant).again

pub ask_anew-requires-clause-tag : goal.ask_anew-requires-clause-tag
ask_anew-requires-clause-tag c anew =
    let asks = ap (λ (s : Core). asks_anew s c.args.from c.args.number c.args.message.now) c.self.view_is ∙ sym c.asks_anew-anew.ensures in
    rw c.apply-2.ensures ((delivery_room c.args.number c.self.view_is c.requires c.self.invariant).anew c.quorum-quorum.ensures (asks ∙ anew))

pub invariant_of-self : goal.invariant_of-self
invariant_of-self c = next_keeps _ c.self.view_is (after (goal.at.invariant_of-self c).After-ask_anew) c.requires c.self.invariant

pub returns : goal.returns
returns c = after (goal.at.returns c).After-ask_anew
