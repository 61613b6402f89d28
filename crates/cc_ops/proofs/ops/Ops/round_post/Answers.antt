use Rattle.std.proofs.Common.{◌≡◌, ◌+◌, ◌≤◌, List, true, sym, ap, subst, ◌∙◌}
use Rattle.std.specs.FinMap.{len}
use Rattle.cc_views.specs.Limits.{known_limit}
use Rattle.cc_views.specs.Merge.{merge}
use Rattle.cc_views.specs.Rows.{ViewMap, single}
use Rattle.cc_ops.specs.declared.pending_operation.Asked.{Asked}
use Rattle.cc_ops.specs.Commands.{is_writing}
use Rattle.cc_ops.specs.Ops.{Ops}
use Rattle.cc_ops.specs.Rounds.{first_round}
use Rattle.cc_ops.specs.WaitingAsks.{writes_by, written_by}
use Rattle.cc_ops.proofs.Rooms.{round_view}
use Rattle.cc_ops.proofs.ops.Ops.round_post.Goals as goal

pub merge_row-requires : goal.merge_row-requires
merge_row-requires c =
    let s = c.args.self.now in
    let own = c.self.inside in
    let me = c.args.me in
    let writes : is_writing c.args.asked.now.command ≡ true = sym c.is_writing.ensures ∙ c.if-not-is_writing.false in
    let some : 1 ≤ s.share = subst (λ (o : Ops). 1 ≤ o.share) c.self.view_is c.self.invariant.some in
    let view = round_view me 0 c.args.asked.now s c.requires.first writes some in
    let fits = subst (λ (v : ViewMap). len v ≤ known_limit) view (c.requires.fits 0) in
    let seen = c.in_ok-view.ensures ∙ ap (λ (o : Ops). o.view) c.self.view_is in
    let number =
    ap (λ k. own.number + k) (c.writes_of_round.ensures.count ∙ ap (λ (l : List Asked). writes_by (first_round own.share l)) c.asks.ensures.asks)
    ∙ ap (λ (o : Ops). o.number + writes_by (first_round o.share o.line)) c.self.view_is in
    let value =
    c.value_of_round.ensures ∙ ap (λ (l : List Asked). written_by (first_round own.share l) own.mine) c.asks-2.ensures.asks
    ∙ ap (λ (o : Ops). written_by (first_round o.share o.line) o.mine) c.self.view_is in
    subst (λ (v : ViewMap). len v ≤ known_limit) (sym (λ i. merge (seen i) (single (record { node = me; number = number i; value = value i })))) fits
