-- The ids of links and of a message together, and how many they are.
--     AreKnown             ids in order, and no more than there is room for
--     FillsUp              what comes of some ids that don't all fit: those in front of the first one that is one too many
--     ids_of               the peers of links, as a set
--     peers_of-rows_of     the peers of rows
--     len-add_all          the links after a row for each of some ids are as many as those ids and the peers together
use Rattle.std.proofs.Common.{◌≡◌, ℕ, ◌+◌, ◌<◌, ◌≤◌, ◌||◌, List, [], ◌∷◌, map, length, take, refl, sym, ap, ◌∙◌, arith}
use Rattle.std.specs.Prelude.{nat_eq}
use Rattle.std.specs.List.{list_any}
use Rattle.std.specs.FinMap as table
use Rattle.std.proofs.Math.Bool.{or_comm}
use Rattle.cc_views.specs.Limits.{known_limit}
use Rattle.cc_views.specs.NatSets as set
use Rattle.cc_views.specs.NatSets.{NatSet, marked, IsWithin, len_within, contains-insert_all, contains-from_list, contains-keys}
use Rattle.cc_views.specs.Tables.{IsRising}
use Rattle.cc_links.specs.Links.{Link, Links, add_all}
use Rattle.cc_links.specs.Rows.{row_of, rows_of, peers_of}
use Rattle.cc_links.specs.LinkLaws.{contains-add_all}

pub record AreKnown (ids : List ℕ) : Type 0 where
  pub rising : IsRising marked ids
  pub fits : length ids ≤ known_limit

pub record FillsUp (old : NatSet) (ids : List ℕ) (new : NatSet) : Type 0 where
  pub count : ℕ
  pub within : count < length ids
  pub is : new ≡ set.insert_all old (take count ids)
  pub over : known_limit < set.len (set.insert_all old (take (count + 1) ids))

abbrev pub ids_of : Links → NatSet
ids_of ls = set.from_list (table.keys ls)

contains-ids_of : (ls : Links) (q : ℕ) → set.contains (ids_of ls) q ≡ table.contains_key ls q
contains-ids_of ls q = contains-from_list (table.keys ls) q ∙ sym (contains-keys ls q)

same_keys : (posts : ℕ) (ids : List ℕ) (ls : Links) (q : ℕ) → table.contains_key (add_all posts ids ls) q ≡ set.contains (set.insert_all (ids_of ls) ids) q
same_keys posts ids ls q =
    contains-add_all posts ids ls q ∙ or_comm (list_any (nat_eq q) ids) (table.contains_key ls q)
    ∙ sym (contains-insert_all (ids_of ls) ids q ∙ ap (λ b. b || list_any (nat_eq q) ids) (contains-ids_of ls q))

pub len-add_all : (posts : ℕ) (ids : List ℕ) (ls : Links) → table.len (add_all posts ids ls) ≡ set.len (set.insert_all (ids_of ls) ids)
len-add_all posts ids ls =
    let there : IsWithin (add_all posts ids ls) (set.insert_all (ids_of ls) ids) = λ q h. sym (same_keys posts ids ls q) ∙ h in
    let back : IsWithin (set.insert_all (ids_of ls) ids) (add_all posts ids ls) = λ q h. same_keys posts ids ls q ∙ h in
    omega (arith, len_within _ _ there, len_within _ _ back)

peers_of_entries : (es : List (ℕ × Link)) → peers_of (map row_of es) ≡ map (λ e. e.0) es
peers_of_entries [] = refl
peers_of_entries (e ∷ es) = ap (λ (qs : List ℕ). e.0 ∷ qs) (peers_of_entries es)

-- the peers of the rows are the peers of the links
pub peers_of-rows_of : (ls : Links) → peers_of (rows_of ls) ≡ table.keys ls
peers_of-rows_of ls = peers_of_entries (table.entries ls)
