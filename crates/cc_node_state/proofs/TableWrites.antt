-- Tables are written as they are spelled: a count, and their rows.
use Rattle.std.proofs.Common.{◌≡◌, ℕ, ◌≤◌, List, [], ◌∷◌, length, map, Result, Ok, Err, sym, ap, subst, ◌∙◌}
use Rattle.std.specs.Prelude.{OnOk}
use Rattle.std.specs.Global.{Vec}
use Rattle.std.specs.Int.{w16, to_be_bytes}
use Rattle.std.specs.List.{flat_map, AllByRecursion}
use Rattle.std.specs.Ordering.{nat_cmp}
use Rattle.std.specs.FinMap as table
use Rattle.std.specs.FinMap.{FinMap}
use Rattle.std.specs.declared.alloc.AllocError.{AllocError}
use Rattle.std.proofs.lemmas.List.{length-map}
use Rattle.std.proofs.lemmas.List.Folds.{flat_map-map}
use Rattle.cc_wire.specs.Writers.{Writes}
use Rattle.cc_wire.proofs.Writes.{writes_then}
use Rattle.cc_node_state.specs.States.{table_spelling, IsTableOf}

pub on_ok : {A E : Type 0} {P Q : Type 0} (r : Result A E) → (P → Q) → OnOk r P → OnOk r Q
on_ok (Ok x) to h = to h
on_ok (Err e) to h = tt

module _ {X Row : Type 0} (entry : Row → ℕ × X) (row_of : ℕ × X → Row) (again : ◌≡◌ {A = ℕ × X → ℕ × X} (λ e. entry (row_of e)) (λ e. e)) where
  length_rows : (m : FinMap nat_cmp X) (rows : List Row) → rows ≡ map row_of (table.entries m) → length rows ≡ table.len m
  length_rows m rows are = ap length are ∙ length-map (table.entries m) row_of ∙ sym (table.len-entries m)

  pub table_writes : (f : ℕ × X → List ℕ) (old mid new : Vec ℕ) (m : FinMap nat_cmp X) (rows : List Row) (r : Result (Unit {0}) AllocError)
      → rows ≡ map row_of (table.entries m) → Writes old mid (to_be_bytes w16 (length rows)) (Ok tt)
      → Writes mid new (flat_map (λ row. f (entry row)) rows) r → Writes old new (table_spelling f m) r
  table_writes f old mid new m rows r are first second =
      let es = table.entries m in
      let spelled : flat_map (λ e. f (entry (row_of e))) es ≡ flat_map f es = ap (λ (g : ℕ × X → ℕ × X). flat_map (λ e. f (g e)) es) again in
      let body = ap (flat_map (λ row. f (entry row))) are ∙ flat_map-map (λ row. f (entry row)) row_of es ∙ spelled in
      writes_then old mid new (to_be_bytes w16 (table.len m)) (flat_map f es) r
      (subst (λ (n : ℕ). Writes old mid (to_be_bytes w16 n) (Ok tt)) (length_rows m rows are) first)
      (subst (λ (t : List ℕ). Writes mid new t r) body second)

  all_again : (Is : ℕ × X → Type 0) (es : List (ℕ × X)) → AllByRecursion (λ row. Is (entry row)) (map row_of es) → AllByRecursion Is es
  all_again Is [] all = tt
  all_again Is (e ∷ es) all = (subst Is (ap (λ (g : ℕ × X → ℕ × X). g e) again) all.0, all_again Is es all.1)

  pub table_fits : (Is : ℕ × X → Type 0) (limit : ℕ) (m : FinMap nat_cmp X) (rows : List Row) → rows ≡ map row_of (table.entries m) → length rows ≤ limit
      → AllByRecursion (λ row. Is (entry row)) rows → IsTableOf Is limit m
  table_fits Is limit m rows are few all = record {
    fits = subst (λ (n : ℕ). n ≤ limit) (length_rows m rows are) few;
    rows = all_again Is (table.entries m) (subst (λ (rs : List Row). AllByRecursion (λ row. Is (entry row)) rs) are all);
  }
