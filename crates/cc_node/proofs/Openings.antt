-- Ids of an opening: which of them are 0, and how many are known.
--     zero_listed, zero_first      a 0 among them
--     links_room, initial_room     that there is room for their links
--     fails, some_so               what a test that fails tells of it
use Rattle.std.proofs.Common.{◌≡◌, ◌↔◌, ℕ, zero, suc, ◌<◌, arith, Bool, true, false, List, [], ◌∷◌, ◌≤◌, nat_eq, sym, ap, ◌∙◌, inl, inr}
use Rattle.std.specs.List.{Contains}
use Rattle.std.specs.FinMap as table
use Rattle.std.proofs.lemmas.Bool.{or_left, or_right}
use Rattle.std.proofs.lemmas.List.Folds.{list_any-append}
use Rattle.cc_views.specs.NatSets as set
use Rattle.cc_views.specs.NatSets.{len_within, contains-from_list}
use Rattle.cc_links.specs.Links.{add, add_all}
use Rattle.cc_links.specs.LinkLaws.{add_all-append, len_add_all}
use Rattle.cc_node.specs.Openings.{Opening, ids_of}
use Rattle.cc_node.proofs.FreshLaws.{known_listed}
use Rattle.std.specs.Prelude.{IsTrue, slice_index_or}
use Rattle.std.proofs.lemmas.List.Elements.{Contains-append_left, Contains-append_right, Contains-append_cases}

pub zero_listed : (me : ℕ) (ns : List ℕ) → Contains ns 0 → Contains (me ∷ ns) 0
zero_listed me ns h = Contains-append_right (me ∷ []) ns 0 h

pub initial_listed : (o : Opening) → Contains o.initial 0 → Contains (ids_of o) 0
initial_listed o h = Contains-append_left (o.me ∷ o.initial) o.contacts 0 (zero_listed o.me o.initial h)

at_first : (me k : ℕ) → k < 1 → slice_index_or (me ∷ []) k 0 ≡ 0 → me ≡ 0
at_first me zero h e = e
at_first me (suc k) h e = let none : ⊥ = omega arith in absurd none

only_itself : (me : ℕ) → Contains (me ∷ []) 0 → me ≡ 0
only_itself me c = at_first me c.0 c.1 c.2

-- neither the first nor one of the rest
pub zero_first : (me : ℕ) (ns : List ℕ) → (me ≡ 0 → ⊥) → (Contains ns 0 → ⊥) → Contains (me ∷ ns) 0 → ⊥
zero_first me ns h k l =
    elim (Contains-append_cases (me ∷ []) ns 0 l) as (λ _. ⊥) [
      | inl e ↦ h (only_itself me e)
      | inr e ↦ k e
    ]

pub differ : (b : Bool) → b ≡ false → IsTrue b → ⊥
differ true e h = cc
differ false e h = cc

-- ---- room

module _ (o : Opening) where
  pub opening_links : add 0 o.me (add_all 0 o.initial (add_all 0 o.contacts table.empty)) ≡ add_all 0 (ids_of o) table.empty
  opening_links = sym (add_all-append 0 (o.me ∷ o.initial) o.contacts table.empty)

  pub record LinksRoom : Type 0 where
    pub contacts : table.len (add_all 0 o.contacts table.empty) ≤ 256
    pub initial : table.len (add_all 0 o.initial (add_all 0 o.contacts table.empty)) ≤ 256
    pub all : table.len (add 0 o.me (add_all 0 o.initial (add_all 0 o.contacts table.empty))) ≤ 256

  pub links_room : set.len (set.from_list (ids_of o)) ≤ 256 → LinksRoom
  links_room few =
      let most : table.len (add_all 0 (ids_of o) table.empty) ≤ 256 =
      omega (arith, len_within (add_all 0 (ids_of o) table.empty) (set.from_list (ids_of o)) (known_listed o), few) in
      let same = ap table.len opening_links in
      let a = len_add_all 0 o.initial (add_all 0 o.contacts table.empty) in
      let b = len_add_all 0 (o.me ∷ []) (add_all 0 o.initial (add_all 0 o.contacts table.empty)) in
      record { contacts = omega (arith, most, same, a, b); initial = omega (arith, most, same, b); all = omega (arith, most, same) }

  pub initial_room : set.len (set.from_list (ids_of o)) ≤ 256 → set.len (set.from_list o.initial) ≤ 256
  initial_room few =
      omega (
        arith,
        few,
        len_within (set.from_list o.initial) (set.from_list (ids_of o)) (λ q h.
            contains-from_list (ids_of o) q
            ∙ list_any-append (nat_eq q) (o.me ∷ o.initial) o.contacts ∙ or_left _ _ (or_right _ _ (sym (contains-from_list o.initial q) ∙ h))),
      )

-- what is told to hold by an answer that is false doesn't hold
pub fails : {P : Type 0} (b : Bool) → b ≡ false → (IsTrue b ↔ P) → ¬ P
fails true is told = absurd cc
fails false is told = λ holds. let t = told.1 holds in cc

-- so what has it doesn't hold either, where something is told
pub some_so : {P Q : Type 0} → ¬ P → (Q → P) → (true ≡ false ↔ Q)
some_so never has = (λ t. absurd cc, λ q. absurd (never (has q)))
