use Rattle.std.proofs.Common.{arith, ap, ◌∙◌, length}
use Rattle.std.proofs.lemmas.List.{length-map}
use Rattle.cc_views.specs.Rows.{entry_of, entries_of, absorbed_all}
use Rattle.cc_views.proofs.Absorbs.{merge_of_absorbed, merge_fits, rising-absorbed_all}
use Rattle.cc_views.proofs.view.View.merge.Goals as goal

pub absorb_all-requires-clause-fits : goal.absorb_all-requires-clause-fits
absorb_all-requires-clause-fits c = rw c.deref.ensures.value (merge_fits _ _ _ _ c.self.invariant.rising c.other.invariant.rising c.self.view_is
    c.other.view_is c.requires)

pub invariant_of-self : goal.invariant_of-self
invariant_of-self c =
    let left = c.self.inside.rows.items in
    let right = c.other.inside.rows.items in
    let rows = c.absorb_all.ensures.rows ∙ ap (absorbed_all (entries_of left)) c.deref.ensures.value in
    let fits = merge_fits left right _ _ c.self.invariant.rising c.other.invariant.rising c.self.view_is c.other.view_is c.requires in
    record {
      rising = rw rows (rising-absorbed_all right (entries_of left) c.self.invariant.rising);
      fits = omega (arith, fits, ap length rows, length-map c.absorb_all.new.rows.items entry_of);
      room = c.absorb_all.ensures.room;
    }

pub returns : goal.returns
returns c = rw (← c.self.view_is, ← c.other.view_is, c.absorb_all.ensures.rows, c.deref.ensures.value)
    (merge_of_absorbed c.self.inside.rows.items c.other.inside.rows.items c.other.invariant.rising)
