-- From how many peers something was heard, after a row more and after a number more.
--     get-heard               which rows are counted
--     heard_of-hear           a number more counts its sender, where nothing was heard from it before
--     heard_of-add_all        a new row counts for nothing
use Rattle.std.proofs.Common.{◌≡◌, ℕ, ◌+◌, ◌<◌, Bool, true, false, cond, nat_eq, List, [], ◌∷◌, refl, sym, ap, ◌∙◌}
use Rattle.std.specs.Prelude.{nat_lt, Option, Some, None, is_some}
use Rattle.std.specs.Option.{option_map_or}
use Rattle.std.specs.Cmp.{nat_cmp_total}
use Rattle.std.specs.FinMap as table
use Rattle.std.specs.FinMap.{nat_cmp-IsAntisymmetric}
use Rattle.std.proofs.lemmas.Bool.{lt-ltb}
use Rattle.cc_views.specs.NatSets.{get-insert_key}
use Rattle.cc_links.specs.Links.{Link, Links, with_row, add, add_all, hear, heard_from, heard_of}
use Rattle.cc_links.specs.LinkLaws.{added, get-add}

-- the number that was last heard on a link, 0 for none
abbrev heard_in : Option Link → ℕ
heard_in o = option_map_or (λ l. l.heard) o 0

-- a link of which something was heard
abbrev if_heard : Option Link → Option Link
if_heard o = cond (nat_lt 0 (heard_in o)) o None

abbrev heard_links : Links → Links
heard_links ls = table.retain_keys ls (λ peer. nat_lt 0 (heard_from peer ls))

pub get-heard : (ls : Links) (q : ℕ) → table.get (table.retain_keys ls (λ peer. nat_lt 0 (heard_from peer ls))) q
    ≡ cond (nat_lt 0 (heard_from q ls)) (table.get ls q) None
get-heard ls q =
    table.get-retain_keys ls (λ k. nat_lt 0 (heard_from k ls)) q (λ x tied. ap (λ k. nat_lt 0 (heard_from k ls)) (sym (nat_cmp-IsAntisymmetric q x tied)))

-- links that are alike where something was heard are counted alike
same_heard : (ls ms : Links) → ((q : ℕ) → if_heard (table.get ls q) ≡ if_heard (table.get ms q)) → heard_of ls ≡ heard_of ms
same_heard ls ms alike =
    ap table.len (table.same_map nat_cmp_total nat_cmp-IsAntisymmetric (heard_links ls) (heard_links ms) (λ q. get-heard ls q ∙ alike q ∙ sym (get-heard ms q)))

-- ---- a number more

either_heard : (b : Bool) (l : Link) (o : Option Link) → nat_lt 0 l.heard ≡ true → if_heard (cond b (Some l) o) ≡ cond b (Some l) (if_heard o)
either_heard true l o h = ap (λ c. cond c (Some l) None) h
either_heard false l o h = refl

-- the row that is written is counted
heard_insert : (ls : Links) (from : ℕ) (l : Link) → nat_lt 0 l.heard ≡ true → heard_links (table.insert ls from l) ≡ table.insert (heard_links ls) from l
heard_insert ls from l h = table.same_map nat_cmp_total nat_cmp-IsAntisymmetric _ _ (λ q.
    get-heard (table.insert ls from l) q ∙ ap if_heard (get-insert_key ls from l q) ∙ either_heard (nat_eq q from) l (table.get ls q) h
    ∙ sym (get-insert_key (heard_links ls) from l q ∙ ap (λ o. cond (nat_eq q from) (Some l) o) (get-heard ls q)))

there_if_heard : (b : Bool) (l : Link) → is_some (cond b (Some l) None) ≡ b
there_if_heard true l = refl
there_if_heard false l = refl

pub heard_of-hear : (from n : ℕ) (ls : Links) (l : Link) → table.get ls from ≡ Some l → 0 < n
    → heard_of (hear from n ls) ≡ cond (nat_lt 0 l.heard) (heard_of ls) (heard_of ls + 1)
heard_of-hear from n ls l e some =
    let heard : Link = record l { heard = n } in
    ap (λ o. heard_of (with_row from (λ m. record m { heard = n }) o ls)) e
    ∙ ap table.len (heard_insert ls from heard (lt-ltb 0 n some))
    ∙ table.len-insert nat_cmp_total (heard_links ls) from heard
    ∙ ap (λ b. cond b (heard_of ls) (heard_of ls + 1)) (ap is_some (get-heard ls from ∙ ap if_heard e) ∙ there_if_heard (nat_lt 0 l.heard) l)

-- ---- a row more

new_unheard : (posts : ℕ) (b : Bool) (o : Option Link) → if_heard (cond b (added posts o) o) ≡ if_heard o
new_unheard posts true None = refl
new_unheard posts true (Some l) = refl
new_unheard posts false o = refl

heard_of-add : (posts p : ℕ) (ls : Links) → heard_of (add posts p ls) ≡ heard_of ls
heard_of-add posts p ls = same_heard (add posts p ls) ls (λ q. ap if_heard (get-add posts p ls q) ∙ new_unheard posts (nat_eq q p) (table.get ls q))

pub heard_of-add_all : (posts : ℕ) (peers : List ℕ) (ls : Links) → heard_of (add_all posts peers ls) ≡ heard_of ls
heard_of-add_all posts [] ls = refl
heard_of-add_all posts (p ∷ ps) ls = heard_of-add posts p (add_all posts ps ls) ∙ heard_of-add_all posts ps ls
