-- What lives put, and what the node shows that was opened last, along their one history.
--     seen_views        each such view is the node's view at a point of it
--     seen_grows        and at most the one with which the node was opened last
use Rattle.std.proofs.Common.{◌≡◌, inl, inr, ◌+◌, List, take, length, sym, ap, subst, ◌∙◌, arith}
use Rattle.std.specs.Prelude.{Some}
use Rattle.std.proofs.lemmas.List.{take_all}
use Rattle.cc_views.specs.Rows.{ViewMap}
use Rattle.cc_views.specs.Merge.{IsAtMost}
use Rattle.cc_messages.specs.declared.event.Event.{Event}
use Rattle.cc_messages.specs.declared.output.Output.{Output}
use Rattle.cc_node.specs.Node.{Node, after, MayBeOut}
use Rattle.cc_node.specs.Openings.{Opening, fresh}
use Rattle.cc_laws.specs.Shown.{in_output, Shows}
use Rattle.cc_laws.specs.Histories.{view_at, IsViewOf, shown, put}
use Rattle.cc_laws.specs.Lives.{Life, IsSeen, IsHistoryOf}
use Rattle.cc_laws.proofs.Appearances.{views_appear}
use Rattle.cc_laws.proofs.LaterViews.{views_grow}
use Rattle.cc_laws.proofs.ResentViews.{has_shown}

made_view : (o : Opening) (es : List Event) (output : Output) (v : ViewMap) → in_output output ≡ Some v → MayBeOut (fresh o) es output → IsViewOf (fresh o) es v
made_view o es output v is (inl stood) = views_appear o es v (shown 0 (has_shown (fresh o) output v stood is))
made_view o es output v is (inr new) = views_appear o es v (put output new is)

-- a view at a point is at most the last one
at_most_last : (n : Node) (es : List Event) (v : ViewMap) → IsViewOf n es v → IsAtMost v (after n es).core.ops.view
at_most_last n es v of =
    let further : take (of.0 + length es) es ≡ es = take_all (of.0 + length es) es (omega arith) in
    subst (λ (w : ViewMap). IsAtMost w (after n es).core.ops.view) (sym of.1)
    (subst (λ (l : List Event). IsAtMost (view_at n es of.0) (after n l).core.ops.view) further (views_grow n es of.0 (of.0 + length es) (omega arith)))

module _ (o : Opening) (ls : List Life) (m : Node) (es : List Event) (history : IsHistoryOf (fresh o) ls m es) where
  stands_views : (v : ViewMap) → Shows m v → IsViewOf (fresh o) es v
  stands_views v shows =
      let all : take (length es) es ≡ es = take_all (length es) es (omega arith) in
      let is : m ≡ after (fresh o) (take (length es) es) = history.leads_to ∙ ap (after (fresh o)) (sym all) in
      views_appear o es v (shown (length es) (subst (λ (x : Node). Shows x v) is shows))

  pub seen_views : (v : ViewMap) → IsSeen ls m v → IsViewOf (fresh o) es v
  seen_views v (inl puts) = made_view o es puts.0 v puts.2 (history.made puts.0 puts.1)
  seen_views v (inr shows) = stands_views v shows

  pub seen_grows : (v : ViewMap) → IsSeen ls m v → IsAtMost v m.core.ops.view
  seen_grows v seen =
      subst (λ (x : Node). IsAtMost v x.core.ops.view) (sym history.leads_to) (at_most_last (fresh o) es v (seen_views v seen))
