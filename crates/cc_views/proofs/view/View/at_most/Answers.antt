use Rattle.std.proofs.Common.{◌∙◌, ap, List}
use Rattle.std.specs.List.{list_all}
use Rattle.cc_views.specs.declared.row.Row.{Row}
use Rattle.cc_views.specs.Merge.{keeps}
use Rattle.cc_views.proofs.Orders.{all_kept_is_at_most}
use Rattle.cc_views.proofs.view.View.at_most.Goals as goal

pub returns : goal.returns
returns c =
    all_kept_is_at_most c.self.inside.rows.items c.args.self.now c.args.other.now _ c.self.invariant.rising c.self.view_is
    (c.all_kept.ensures ∙ ap (λ (rows : List Row). list_all (keeps c.args.other.now) rows) c.deref.ensures.value)
