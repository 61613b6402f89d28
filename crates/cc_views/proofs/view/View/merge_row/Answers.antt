use Rattle.std.proofs.Common.{arith, ap, length, refl, [], ◌∷◌}
use Rattle.std.proofs.lemmas.List.{length-map}
use Rattle.cc_views.specs.Rows.{single, entry_of, entries_of}
use Rattle.cc_views.proofs.Absorbs.{merge_of_absorbed, merge_fits, rising-absorbed_all}
use Rattle.cc_views.proofs.view.View.merge_row.Goals as goal

pub absorb_all-requires-clause-fits : goal.absorb_all-requires-clause-fits
absorb_all-requires-clause-fits c = merge_fits _ (c.args.row ∷ []) _ (single c.args.row) c.self.invariant.rising refl c.self.view_is refl c.requires

pub invariant_of-self : goal.invariant_of-self
invariant_of-self c =
    let fits = merge_fits c.self.inside.rows.items (c.args.row ∷ []) _ (single c.args.row) c.self.invariant.rising refl c.self.view_is refl c.requires in
    record {
      rising = rw c.absorb_all.ensures.rows (rising-absorbed_all (c.args.row ∷ []) (entries_of c.self.inside.rows.items) c.self.invariant.rising);
      fits = omega (arith, fits, ap length c.absorb_all.ensures.rows, length-map c.absorb_all.new.rows.items entry_of);
      room = c.absorb_all.ensures.room;
    }

pub returns : goal.returns
returns c = rw (← c.self.view_is, c.absorb_all.ensures.rows) (merge_of_absorbed c.self.inside.rows.items (c.args.row ∷ []) refl)
