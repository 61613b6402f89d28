-- Each view that appears along a history from a fresh node on is the node's view at a point of it.
--     view_of_front         a view of a front of a list is one of the list
--     fresh_view, views_appear
use Rattle.std.proofs.Common.{◌≡◌, ℕ, zero, suc, List, [], ◌∷◌, take, refl, sym, ap, ◌∙◌}
use Rattle.std.specs.List.{AllByRecursion}
use Rattle.std.specs.FinMap as table
use Rattle.cc_views.specs.Rows.{ViewMap}
use Rattle.cc_messages.specs.declared.event.Event.{Event}
use Rattle.cc_node.specs.Node.{Node, after, line}
use Rattle.cc_node.specs.Openings.{Opening, fresh}
use Rattle.cc_laws.specs.Shown.{in_output}
use Rattle.cc_laws.specs.Histories.{view_at, IsViewOf, Appears, shown, put}
use Rattle.cc_laws.proofs.Lists.{at_some, all_at}
use Rattle.cc_laws.proofs.ShownParts.{OfOutput}
use Rattle.cc_laws.proofs.ShownViews.{ShowsOnly, all_shown, fresh_shows, of_shown}

front_of_front : (j k : ℕ) (es : List Event) → (i : ℕ) × (take j (take k es) ≡ take i es)
front_of_front zero k es = (0, refl)
front_of_front (suc j) zero es = (0, refl)
front_of_front (suc j) (suc k) [] = (0, refl)
front_of_front (suc j) (suc k) (e ∷ es) = let front = front_of_front j k es in (suc front.0, ap (λ (l : List Event). e ∷ l) front.1)

pub view_of_front : (n : Node) (es : List Event) (k : ℕ) (v : ViewMap) → IsViewOf n (take k es) v → IsViewOf n es v
view_of_front n es k v of =
    let front = front_of_front of.0 k es in
    (front.0, of.1 ∙ ap (λ (l : List Event). (after n l).core.ops.view) front.1)

fresh_view : (o : Opening) → (fresh o).core.ops.view ≡ table.empty
unfolding fresh
fresh_view o = refl

module _ (o : Opening) (es : List Event) where
  fresh_points : (k : ℕ)
      → ShowsOnly (IsViewOf (fresh o) es) (after (fresh o) (take k es)) × AllByRecursion (OfOutput (IsViewOf (fresh o) es)) (line (fresh o) (take k es))
  fresh_points k =
      all_shown (IsViewOf (fresh o) es) (fresh o) (take k es) (fresh_shows (IsViewOf (fresh o) es) o (0, sym (fresh_view o)))
      (λ j. view_of_front (fresh o) es k (view_at (fresh o) (take k es) j) (j, refl))

  fresh_puts : AllByRecursion (OfOutput (IsViewOf (fresh o) es)) (line (fresh o) es)
  fresh_puts =
      (all_shown (IsViewOf (fresh o) es) (fresh o) es (fresh_shows (IsViewOf (fresh o) es) o (0, sym (fresh_view o))) (λ j. (j, refl))).1

  pub views_appear : (v : ViewMap) → Appears (fresh o) es v → IsViewOf (fresh o) es v
  views_appear v (shown k is) = of_shown (IsViewOf (fresh o) es) (after (fresh o) (take k es)) v (fresh_points k).0 is
  views_appear v (put output has is) =
      at_some (IsViewOf (fresh o) es) (in_output output) v is
      (all_at (OfOutput (IsViewOf (fresh o) es)) (line (fresh o) es) output fresh_puts has)
