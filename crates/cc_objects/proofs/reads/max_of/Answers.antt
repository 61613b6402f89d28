use Rattle.std.proofs.Common.{◌∙◌, ap, List, Option, ℕ, map, max}
use Rattle.std.specs.List.{reduce}
use Rattle.std.specs.Option.{unwrap_or}
use Rattle.cc_views.specs.declared.row.Row.{Row}
use Rattle.cc_views.specs.Rows.{rows_of}
use Rattle.cc_objects.proofs.Readings.{greatest_is}
use Rattle.cc_objects.proofs.reads.max_of.Goals as goal

pub returns : goal.returns
returns c =
    c.unwrap_or.ensures ∙ ap (λ (r : Option ℕ). unwrap_or r 0) c.greatest_max.ensures
    ∙ ap (λ (rows : List Row). unwrap_or (reduce max (map (λ row. row.value.max) rows)) 0) c.rows.ensures.rows
    ∙ greatest_is (map (λ (row : Row). row.value.max) (rows_of c.args.view.now))
