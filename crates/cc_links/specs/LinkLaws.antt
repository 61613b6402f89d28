-- What adding, hearing and acknowledging make of links, and how far every live link has come.
--     lowest_above, lowest_below, lowest_within     bounds of `lowest`;  lowest_grows: links that go on don't fall back
--     LinksGoOn, .._goes                 each link is there still, with what was acknowledged
--     lapse_is_ack, lapse_is_news        a lapse is the acknowledgement of all, and is news where any would be
--     .._links                           what keeps links within their bounds
--     contains-add_all, .._len           which rows there are, and how many
--     add_all-add, add_all-append        the order in which rows are added is no matter;  rows for two lists
--     reaches_.., len_..                 what one row more keeps, and how many rows there are at most
--     all_known, hear_twice              rows that are there are not added;  of two numbers that are heard the second stays
use Rattle.std.proofs.Common.{◌≡◌, ℕ, ◌+◌, ◌-◌, ◌<◌, ◌≤◌, Bool, true, false, cond, not, ◌||◌, ◌&&◌, nat_eq, List, [], ◌∷◌, ◌++◌, refl, sym, ap, subst}
use Rattle.std.proofs.Common.{◌∙◌, inl, inr, arith}
use Rattle.std.specs.Prelude.{Option, Some, None, IfSome, is_some, min, nat_lt, ⊤}
use Rattle.std.specs.Option.{option_map_or, unwrap_or}
use Rattle.std.specs.List.{AllByRecursion, list_any}
use Rattle.std.specs.Ordering.{nat_cmp}
use Rattle.std.specs.Cmp.{nat_cmp_total}
use Rattle.std.specs.FinMap as table
use Rattle.std.specs.FinMap.{FinMap, nat_cmp-IsAntisymmetric}
use Rattle.std.proofs.Math.Bool.{or_assoc, and-true}
use Rattle.std.proofs.lemmas.Bool.{and_parts, not-false, ltb-true, leb-true, le-leb, or_right}
use Rattle.std.proofs.lemmas.Bool.Decides.{eqb_tells}
use Rattle.cc_views.specs.NatSets as set
use Rattle.cc_views.specs.NatSets.{NatSet, IsWithin, get-insert_key, contains-insert_key, len_within}
use Rattle.cc_views.specs.MapLaws.{all_insert, within_same, insert_within, all_values, each_value, len_insert}
use Rattle.cc_views.specs.Limits.{counter_limit}
use Rattle.cc_links.specs.Links.{Link, Links, new_link, with_row, add_absent, add, add_all, hear, ack, lapse, heard_from, live, least, reach, lowest}
use Rattle.cc_links.specs.Links.{awaits_ack, awaits_any, IsLinkWithin, LinksWithin, ReachesWithin}

-- ---- the least of a list

all_weaker : (a b : ℕ) (xs : List ℕ) → a ≤ b → AllByRecursion (λ x. b ≤ x) xs → AllByRecursion (λ x. a ≤ x) xs
all_weaker a b [] h k = tt
all_weaker a b (x ∷ xs) h k = (omega (arith, k.0), all_weaker a b xs h k.1)

least_above : (b none : ℕ) (xs : List ℕ) → AllByRecursion (λ x. b ≤ x) xs → b ≤ none → b ≤ least none xs
least_above b none [] h k = k
least_above b none (x ∷ []) h k = h.0
least_above b none (x ∷ y ∷ ys) h k = let rest : b ≤ least none (y ∷ ys) = least_above b none (y ∷ ys) h.1 k in omega (arith, h.0)

least_below : (none : ℕ) (xs : List ℕ) → AllByRecursion (λ x. least none xs ≤ x) xs
least_below none [] = tt
least_below none (x ∷ []) = (omega arith, tt)
least_below none (x ∷ y ∷ ys) =
    (omega arith, all_weaker (min x (least none (y ∷ ys))) (least none (y ∷ ys)) (y ∷ ys) (omega arith) (least_below none (y ∷ ys)))

least_within : (p none : ℕ) (xs : List ℕ) → AllByRecursion (λ x. x ≤ p) xs → none ≤ p → least none xs ≤ p
least_within p none [] h k = k
least_within p none (x ∷ []) h k = h.0
least_within p none (x ∷ y ∷ ys) h k = omega (arith, h.0)

-- ---- lowest

pub get-live : (left : NatSet) (ls : Links) (q : ℕ) → table.get (live left ls) q ≡ cond (not (set.contains left q)) (table.get ls q) None
get-live left ls q = table.get-retain_keys ls (λ k. not (set.contains left k)) q
    (λ x tied. ap (λ k. not (set.contains left k)) (sym (nat_cmp-IsAntisymmetric q x tied)))

lowest_above : (b : ℕ) (left : NatSet) (posts : ℕ) (ls : Links) → b ≤ posts → ((q : ℕ) → IfSome (table.get (live left ls) q) (λ l. b ≤ reach l))
    → b ≤ lowest left posts ls
lowest_above b left posts ls h k = least_above b posts _ (all_values (λ x. b ≤ x) reach (live left ls) k) h

pub lowest_below : (left : NatSet) (posts : ℕ) (ls : Links) (q : ℕ) → IfSome (table.get (live left ls) q) (λ l. lowest left posts ls ≤ reach l)
lowest_below left posts ls q = each_value (λ x. lowest left posts ls ≤ x) reach (live left ls) (least_below posts _) q

in_reach : (posts : ℕ) (b : Bool) (o : Option Link) → IfSome o (IsLinkWithin posts) → IfSome (cond b o None) (λ l. reach l ≤ posts)
in_reach posts true None h = tt
in_reach posts true (Some l) h = omega (arith, h.0, h.1)
in_reach posts false o h = tt

pub lowest_within : (left : NatSet) (posts : ℕ) (ls : Links) → LinksWithin posts ls → lowest left posts ls ≤ posts
lowest_within left posts ls h =
    least_within posts posts _ (all_values (λ x. x ≤ posts) reach (live left ls)
    (λ q. subst (λ o. IfSome o (λ l. reach l ≤ posts)) (sym (get-live left ls q)) (in_reach posts (not (set.contains left q)) (table.get ls q) (h q))))
    (omega arith)

-- a link is there still, with what was acknowledged; a new one starts behind the posts so far
abbrev pub LinkGoesOn : ℕ → Option Link → Option Link → Type 0
LinkGoesOn posts None None = ⊤
LinkGoesOn posts None (Some m) = m.start ≡ posts
LinkGoesOn posts (Some l) None = ⊥
LinkGoesOn posts (Some l) (Some m) = (m.start ≡ l.start) × (l.acked ≤ m.acked) × (l.heard ≤ m.heard)

abbrev pub LinksGoOn : ℕ → Links → Links → Type 0
LinksGoOn posts ls ms = (q : ℕ) → LinkGoesOn posts (table.get ls q) (table.get ms q)

goes_same : (posts : ℕ) (o : Option Link) → LinkGoesOn posts o o
goes_same posts None = tt
goes_same posts (Some l) = (refl, omega arith, omega arith)

goes_then : (posts : ℕ) (a b c : Option Link) → LinkGoesOn posts a b → LinkGoesOn posts b c → LinkGoesOn posts a c
goes_then posts None None c h k = k
goes_then posts None (Some m) None h k = tt
goes_then posts None (Some m) (Some n) h k = k.0 ∙ h
goes_then posts (Some l) None c h k = absurd h
goes_then posts (Some l) (Some m) None h k = absurd k
goes_then posts (Some l) (Some m) (Some n) h k = (k.0 ∙ h.0, omega (arith, h.1, k.1), omega (arith, h.2, k.2))

pub go_same : (posts : ℕ) (ls : Links) → LinksGoOn posts ls ls
go_same posts ls q = goes_same posts (table.get ls q)

pub go_then : (posts : ℕ) (ls ms ns : Links) → LinksGoOn posts ls ms → LinksGoOn posts ms ns → LinksGoOn posts ls ns
go_then posts ls ms ns h k q = goes_then posts (table.get ls q) (table.get ms q) (table.get ns q) (h q) (k q)

go_insert : (posts : ℕ) (ls : Links) (k : ℕ) (m : Link) → LinkGoesOn posts (table.get ls k) (Some m) → LinksGoOn posts ls (table.insert ls k m)
go_insert posts ls k m h q =
    subst (LinkGoesOn posts (table.get ls q)) (sym (get-insert_key ls k m q))
    (elim (eqb_tells q k) as (λ _. LinkGoesOn posts (table.get ls q) (cond (nat_eq q k) (Some m) (table.get ls q))) [
      | inl e ↦ subst (λ b. LinkGoesOn posts (table.get ls q) (cond b (Some m) (table.get ls q))) (sym e.0)
          (subst (λ n. LinkGoesOn posts (table.get ls n) (Some m)) (sym e.1) h)
      | inr e ↦ subst (λ b. LinkGoesOn posts (table.get ls q) (cond b (Some m) (table.get ls q))) (sym e.0) (goes_same posts (table.get ls q))
    ])

add_goes : (posts peer : ℕ) (o : Option Link) (ls : Links) → table.get ls peer ≡ o → LinksGoOn posts ls (add_absent posts peer o ls)
add_goes posts peer None ls e = go_insert posts ls peer (new_link posts) (subst (λ o. LinkGoesOn posts o (Some (new_link posts))) (sym e) refl)
add_goes posts peer (Some l) ls e = go_same posts ls

pub add_all_goes : (posts : ℕ) (peers : List ℕ) (ls : Links) → LinksGoOn posts ls (add_all posts peers ls)
add_all_goes posts [] ls = go_same posts ls
add_all_goes posts (p ∷ ps) ls =
    go_then posts ls (add_all posts ps ls) _ (add_all_goes posts ps ls) (add_goes posts p (table.get (add_all posts ps ls) p) (add_all posts ps ls) refl)

row_goes : (posts peer : ℕ) (change : Link → Link) (o : Option Link) (ls : Links) → table.get ls peer ≡ o
    → IfSome o (λ l. LinkGoesOn posts (Some l) (Some (change l))) → LinksGoOn posts ls (with_row peer change o ls)
row_goes posts peer change None ls e h = go_same posts ls
row_goes posts peer change (Some l) ls e h = go_insert posts ls peer (change l) (subst (λ o. LinkGoesOn posts o (Some (change l))) (sym e) h)

higher : (n : ℕ) (o : Option Link) → option_map_or (λ l. l.heard) o 0 ≤ n → IfSome o (λ l. (l.start ≡ l.start) × (l.acked ≤ l.acked) × (l.heard ≤ n))
higher n None h = tt
higher n (Some l) h = (refl, omega arith, h)

pub hear_goes : (posts from n : ℕ) (ls : Links) → heard_from from ls ≤ n → LinksGoOn posts ls (hear from n ls)
hear_goes posts from n ls h = row_goes posts from (λ l. record l { heard = n }) (table.get ls from) ls refl (higher n (table.get ls from) h)

-- what is acknowledged was posted on the link, and not acknowledged before
pub awaited : (posts n : ℕ) (o : Option Link) → not (option_map_or (awaits_ack posts n) o false) ≡ false → IfSome o (λ l. (l.acked < n) × (n ≤ posts - l.start))
awaited posts n None h = tt
awaited posts n (Some l) h = let both = and_parts _ _ (not-false _ h) in (ltb-true l.acked n both.0, leb-true n (posts - l.start) both.1)

newer : (n m : ℕ) (o : Option Link) → IfSome o (λ l. (l.acked < n) × (n ≤ m - l.start))
    → IfSome o (λ l. (l.start ≡ l.start) × (l.acked ≤ n) × (l.heard ≤ l.heard))
newer n m None h = tt
newer n m (Some l) h = (refl, omega (arith, h.0), omega arith)

pub ack_goes : (posts peer n : ℕ) (ls : Links) → not (option_map_or (awaits_ack posts n) (table.get ls peer) false) ≡ false → LinksGoOn posts ls (ack peer n ls)
ack_goes posts peer n ls h = row_goes posts peer (λ l. record l { acked = n }) (table.get ls peer) ls refl
    (newer n posts (table.get ls peer) (awaited posts n (table.get ls peer) h))

-- a lapse is the acknowledgement of all that was sent
pub lapse_is_ack : (posts peer : ℕ) (ls : Links) (l : Link) → table.get ls peer ≡ Some l → lapse posts peer ls ≡ ack peer (posts - l.start) ls
lapse_is_ack posts peer ls l e =
    ap (λ o. with_row peer (λ m. record m { acked = posts - m.start }) o ls) e
    ∙ sym (ap (λ o. with_row peer (λ m. record m { acked = posts - l.start }) o ls) e)

-- that acknowledgement is news where any would be
pub lapse_is_news : (posts : ℕ) (l : Link) → awaits_any posts l ≡ awaits_ack posts (posts - l.start) l
lapse_is_news posts l = sym (ap (λ b. nat_lt l.acked (posts - l.start) && b) (le-leb (posts - l.start) (posts - l.start) (omega arith))
    ∙ and-true (nat_lt l.acked (posts - l.start)))

lapsed : (posts : ℕ) (o : Option Link) → not (option_map_or (awaits_any posts) o false) ≡ false
    → IfSome o (λ l. (l.start ≡ l.start) × (l.acked ≤ posts - l.start) × (l.heard ≤ l.heard))
lapsed posts None h = tt
lapsed posts (Some l) h = let up : l.acked < posts - l.start = ltb-true l.acked (posts - l.start) (not-false _ h) in (refl, omega arith, omega arith)

pub lapse_goes : (posts peer : ℕ) (ls : Links) → not (option_map_or (awaits_any posts) (table.get ls peer) false) ≡ false
    → LinksGoOn posts ls (lapse posts peer ls)
lapse_goes posts peer ls h = row_goes posts peer (λ l. record l { acked = posts - l.start }) (table.get ls peer) ls refl (lapsed posts (table.get ls peer) h)

-- ---- what goes on has every row, and lowest doesn't fall

still_there : (posts : ℕ) (a b : Option Link) → LinkGoesOn posts a b → is_some a ≡ true → is_some b ≡ true
still_there posts None b h e = cc
still_there posts (Some l) None h e = absurd h
still_there posts (Some l) (Some m) h e = refl

pub go_within : (posts : ℕ) (ls ms : Links) → LinksGoOn posts ls ms → IsWithin ls ms
go_within posts ls ms h q k = still_there posts (table.get ls q) (table.get ms q) (h q) k

low_goes : (low posts : ℕ) (a b : Option Link) → low ≤ posts → LinkGoesOn posts a b → IfSome a (λ l. low ≤ reach l) → IfSome b (λ l. low ≤ reach l)
low_goes low posts None None p h k = tt
low_goes low posts None (Some m) p h k = omega (arith, h)
low_goes low posts (Some l) None p h k = tt
low_goes low posts (Some l) (Some m) p h k = omega (arith, h.0, h.1, k)

live_still : (P : Link → Type 0) (b c : Bool) (o o' : Option Link) → (b ≡ true → c ≡ true) → IfSome (cond (not b) o None) P → (IfSome o P → IfSome o' P)
    → IfSome (cond (not c) o' None) P
live_still P b true o o' grows h goes = tt
live_still P true false o o' grows h goes = let e : false ≡ true = grows refl in cc
live_still P false false o o' grows h goes = goes h

pub lowest_grows : (left left' : NatSet) (posts posts' : ℕ) (ls ms : Links) → IsWithin left left' → LinksGoOn posts ls ms → LinksWithin posts ls
    → posts ≤ posts'
    → lowest left posts ls ≤ lowest left' posts' ms
lowest_grows left left' posts posts' ls ms grows go within more =
    let low = lowest left posts ls in
    let start : low ≤ posts = lowest_within left posts ls within in
    lowest_above low left' posts' ms (omega arith) (λ q.
    subst (λ o. IfSome o (λ l. low ≤ reach l)) (sym (get-live left' ms q))
    (live_still (λ l. low ≤ reach l) (set.contains left q) (set.contains left' q) (table.get ls q) (table.get ms q) (grows q)
    (subst (λ o. IfSome o (λ l. low ≤ reach l)) (get-live left ls q) (lowest_below left posts ls q))
    (low_goes low posts (table.get ls q) (table.get ms q) start (go q))))

-- ---- links within their bounds

more_posts : (posts posts' : ℕ) (o : Option Link) → posts ≤ posts' → IfSome o (IsLinkWithin posts) → IfSome o (IsLinkWithin posts')
more_posts posts posts' None h k = tt
more_posts posts posts' (Some l) h k = (omega (arith, k.0), omega (arith, k.1), k.2)

pub links_more_posts : (posts posts' : ℕ) (ls : Links) → posts ≤ posts' → LinksWithin posts ls → LinksWithin posts' ls
links_more_posts posts posts' ls h k q = more_posts posts posts' (table.get ls q) h (k q)

add_links : (posts peer : ℕ) (o : Option Link) (ls : Links) → LinksWithin posts ls → LinksWithin posts (add_absent posts peer o ls)
add_links posts peer None ls h = all_insert (λ _. IsLinkWithin posts) ls peer (new_link posts) h (omega arith, omega arith, omega arith)
add_links posts peer (Some l) ls h = h

pub add_all_links : (posts : ℕ) (peers : List ℕ) (ls : Links) → LinksWithin posts ls → LinksWithin posts (add_all posts peers ls)
add_all_links posts [] ls h = h
add_all_links posts (p ∷ ps) ls h = add_links posts p (table.get (add_all posts ps ls) p) (add_all posts ps ls) (add_all_links posts ps ls h)

row_links : (posts peer : ℕ) (change : Link → Link) (o : Option Link) (ls : Links) → LinksWithin posts ls → IfSome o (λ l. IsLinkWithin posts (change l))
    → LinksWithin posts (with_row peer change o ls)
row_links posts peer change None ls h k = h
row_links posts peer change (Some l) ls h k = all_insert (λ _. IsLinkWithin posts) ls peer (change l) h k

heard_link : (posts n : ℕ) (o : Option Link) → n ≤ counter_limit → IfSome o (IsLinkWithin posts) → IfSome o (λ l. IsLinkWithin posts (record l { heard = n }))
heard_link posts n None h k = tt
heard_link posts n (Some l) h k = (k.0, k.1, h)

pub hear_links : (posts from n : ℕ) (ls : Links) → n ≤ counter_limit → LinksWithin posts ls → LinksWithin posts (hear from n ls)
hear_links posts from n ls h k = row_links posts from (λ l. record l { heard = n }) (table.get ls from) ls k (heard_link posts n (table.get ls from) h (k from))

acked_link : (posts n : ℕ) (o : Option Link) → IfSome o (λ l. (l.acked < n) × (n ≤ posts - l.start)) → IfSome o (IsLinkWithin posts)
    → IfSome o (λ l. IsLinkWithin posts (record l { acked = n }))
acked_link posts n None h k = tt
acked_link posts n (Some l) h k = (k.0, h.1, k.2)

pub ack_links : (posts peer n : ℕ) (ls : Links) → not (option_map_or (awaits_ack posts n) (table.get ls peer) false) ≡ false → LinksWithin posts ls
    → LinksWithin posts (ack peer n ls)
ack_links posts peer n ls h k =
    row_links posts peer (λ l. record l { acked = n }) (table.get ls peer) ls k
    (acked_link posts n (table.get ls peer) (awaited posts n (table.get ls peer) h) (k peer))

lapsed_link : (posts : ℕ) (o : Option Link) → IfSome o (IsLinkWithin posts) → IfSome o (λ l. IsLinkWithin posts (record l { acked = posts - l.start }))
lapsed_link posts None k = tt
lapsed_link posts (Some l) k = (k.0, omega arith, k.2)

pub lapse_links : (posts peer : ℕ) (ls : Links) → LinksWithin posts ls → LinksWithin posts (lapse posts peer ls)
lapse_links posts peer ls k = row_links posts peer (λ l. record l { acked = posts - l.start }) (table.get ls peer) ls k
    (lapsed_link posts (table.get ls peer) (k peer))

-- ---- which rows there are

absent_or_there : {X : Type 0} (m : FinMap nat_cmp X) (peer q : ℕ) (l : X) → table.get m peer ≡ Some l
    → table.contains_key m q ≡ (nat_eq q peer || table.contains_key m q)
absent_or_there {X} m peer q l e =
    elim (eqb_tells q peer) as (λ _. table.contains_key m q ≡ (nat_eq q peer || table.contains_key m q)) [
      | inl t ↦ (ap (table.contains_key m) t.1 ∙ ap is_some e) ∙ sym (ap (λ b. b || table.contains_key m q) t.0)
      | inr t ↦ sym (ap (λ b. b || table.contains_key m q) t.0)
    ]

contains-add_absent : (posts peer q : ℕ) (o : Option Link) (ls : Links) → table.get ls peer ≡ o
    → table.contains_key (add_absent posts peer o ls) q ≡ (nat_eq q peer || table.contains_key ls q)
contains-add_absent posts peer q None ls e = contains-insert_key ls peer (new_link posts) q
contains-add_absent posts peer q (Some l) ls e = absent_or_there ls peer q l e

pub contains-add_all : (posts : ℕ) (peers : List ℕ) (ls : Links) (q : ℕ) → table.contains_key (add_all posts peers ls) q
    ≡ (list_any (nat_eq q) peers || table.contains_key ls q)
contains-add_all posts [] ls q = refl
contains-add_all posts (p ∷ ps) ls q =
    contains-add_absent posts p q (table.get (add_all posts ps ls) p) (add_all posts ps ls) refl
    ∙ ap (λ b. nat_eq q p || b) (contains-add_all posts ps ls q) ∙ sym (or_assoc (nat_eq q p) (list_any (nat_eq q) ps) _)

-- no row is added where a row is changed
row_within : (peer : ℕ) (change : Link → Link) (o : Option Link) (ls : Links) → table.get ls peer ≡ o → IsWithin (with_row peer change o ls) ls
row_within peer change None ls e = within_same ls
row_within peer change (Some l) ls e = insert_within ls ls peer (change l) (within_same ls) (ap is_some e)

pub hear_len : (from n : ℕ) (ls : Links) → table.len (hear from n ls) ≤ table.len ls
hear_len from n ls = len_within _ ls (row_within from (λ l. record l { heard = n }) (table.get ls from) ls refl)

pub ack_len : (peer n : ℕ) (ls : Links) → table.len (ack peer n ls) ≤ table.len ls
ack_len peer n ls = len_within _ ls (row_within peer (λ l. record l { acked = n }) (table.get ls peer) ls refl)

pub lapse_len : (posts peer : ℕ) (ls : Links) → table.len (lapse posts peer ls) ≤ table.len ls
lapse_len posts peer ls = len_within _ ls (row_within peer (λ l. record l { acked = posts - l.start }) (table.get ls peer) ls refl)

-- ---- bounds that a reader of links asks for

reach_of : (posts : ℕ) (o : Option Link) → IfSome o (IsLinkWithin posts) → IfSome o (λ l. reach l ≤ posts)
reach_of posts None h = tt
reach_of posts (Some l) h = omega (arith, h.0, h.1)

pub reaches_within : (posts : ℕ) (ls : Links) → LinksWithin posts ls → ReachesWithin posts ls
reaches_within posts ls h q = reach_of posts (table.get ls q) (h q)

-- ---- the order of adding

-- what stands for a peer once it is added
abbrev pub added : ℕ → Option Link → Option Link
added posts o = Some (unwrap_or o (new_link posts))

get-add_absent : (posts p : ℕ) (o : Option Link) (ls : Links) (q : ℕ) → table.get ls p ≡ o
    → table.get (add_absent posts p o ls) q ≡ cond (nat_eq q p) (added posts (table.get ls q)) (table.get ls q)
get-add_absent posts p None ls q e =
    elim (eqb_tells q p) as (λ _. table.get (table.insert ls p (new_link posts)) q ≡ cond (nat_eq q p) (added posts (table.get ls q)) (table.get ls q)) [
      | inl t ↦ get-insert_key ls p (new_link posts) q ∙ rw t.0 (ap (added posts) (sym (ap (table.get ls) t.1 ∙ e)))
      | inr t ↦ get-insert_key ls p (new_link posts) q ∙ rw t.0 refl
    ]
get-add_absent posts p (Some l) ls q e =
    elim (eqb_tells q p) as (λ _. table.get ls q ≡ cond (nat_eq q p) (added posts (table.get ls q)) (table.get ls q)) [
      | inl t ↦ let here : table.get ls q ≡ Some l = ap (table.get ls) t.1 ∙ e in rw (t.0, here) refl
      | inr t ↦ rw t.0 refl
    ]

pub get-add : (posts p : ℕ) (ls : Links) (q : ℕ) → table.get (add posts p ls) q ≡ cond (nat_eq q p) (added posts (table.get ls q)) (table.get ls q)
get-add posts p ls q = get-add_absent posts p (table.get ls p) ls q refl

either_first : (posts : ℕ) (a b : Bool) (o : Option Link)
    → cond a (added posts (cond b (added posts o) o)) (cond b (added posts o) o) ≡ cond b (added posts (cond a (added posts o) o)) (cond a (added posts o) o)
either_first posts true true o = refl
either_first posts true false o = refl
either_first posts false true o = refl
either_first posts false false o = refl

add_swap : (posts p r : ℕ) (ls : Links) → add posts p (add posts r ls) ≡ add posts r (add posts p ls)
add_swap posts p r ls = table.same_map nat_cmp_total nat_cmp-IsAntisymmetric _ _ (λ q.
    get-add posts p (add posts r ls) q ∙ ap (λ o. cond (nat_eq q p) (added posts o) o) (get-add posts r ls q)
    ∙ either_first posts (nat_eq q p) (nat_eq q r) (table.get ls q)
    ∙ sym (get-add posts r (add posts p ls) q ∙ ap (λ o. cond (nat_eq q r) (added posts o) o) (get-add posts p ls q)))

pub add_all-add : (posts p : ℕ) (ps : List ℕ) (ls : Links) → add_all posts ps (add posts p ls) ≡ add posts p (add_all posts ps ls)
add_all-add posts p [] ls = refl
add_all-add posts p (r ∷ ps) ls = ap (add posts r) (add_all-add posts p ps ls) ∙ add_swap posts r p (add_all posts ps ls)

-- to add two lists is to add the second, then the first
pub add_all-append : (posts : ℕ) (ps qs : List ℕ) (ls : Links) → add_all posts (ps ++ qs) ls ≡ add_all posts ps (add_all posts qs ls)
add_all-append posts [] qs ls = refl
add_all-append posts (p ∷ ps) qs ls = ap (add posts p) (add_all-append posts ps qs ls)

pub within_add_all : (posts : ℕ) (ps : List ℕ) (ls : Links) → IsWithin ls (add_all posts ps ls)
within_add_all posts ps ls q h = contains-add_all posts ps ls q ∙ or_right (list_any (nat_eq q) ps) _ h

-- no fewer rows than before
pub len_add_all : (posts : ℕ) (ps : List ℕ) (ls : Links) → table.len ls ≤ table.len (add_all posts ps ls)
len_add_all posts ps ls = len_within ls (add_all posts ps ls) (within_add_all posts ps ls)

-- ---- one row more

pub reaches_empty : (posts : ℕ) → ReachesWithin posts table.empty
reaches_empty posts q = subst (λ o. IfSome o (λ (l : Link). reach l ≤ posts)) (sym (table.get-empty nat_cmp q)) tt

pub reaches_insert : (posts : ℕ) (ls : Links) (peer : ℕ) (l : Link) → ReachesWithin posts ls → reach l ≤ posts → ReachesWithin posts (table.insert ls peer l)
reaches_insert posts ls peer l h k = all_insert (λ _ m. reach m ≤ posts) ls peer l h k

len_add_absent : (posts peer : ℕ) (o : Option Link) (ls : Links) → table.len (add_absent posts peer o ls) ≤ table.len ls + 1
len_add_absent posts peer None ls = len_insert ls peer (new_link posts)
len_add_absent posts peer (Some l) ls = omega arith

pub len_add : (posts peer : ℕ) (ls : Links) → table.len (add posts peer ls) ≤ table.len ls + 1
len_add posts peer ls = len_add_absent posts peer (table.get ls peer) ls

-- rows that are there are not added
add_known : (posts p : ℕ) (o : Option Link) (ls : Links) → is_some o ≡ true → add_absent posts p o ls ≡ ls
add_known posts p None ls there = cc
add_known posts p (Some l) ls there = refl

pub all_known : (posts : ℕ) (ps : List ℕ) (ls : Links) → AllByRecursion (λ p. table.contains_key ls p ≡ true) ps → add_all posts ps ls ≡ ls
all_known posts [] ls there = refl
all_known posts (p ∷ ps) ls there = ap (add posts p) (all_known posts ps ls there.1) ∙ add_known posts p (table.get ls p) ls there.0

heard_row : ℕ → Option Link → Option Link
heard_row n None = None
heard_row n (Some l) = Some (record l { heard = n })

get-heard : (from n : ℕ) (o : Option Link) (ls : Links) (q : ℕ) → table.get ls from ≡ o
    → table.get (with_row from (λ l. record l { heard = n }) o ls) q ≡ cond (nat_eq q from) (heard_row n (table.get ls q)) (table.get ls q)
unfolding heard_row
get-heard from n None ls q e =
    elim (eqb_tells q from) as (λ _. table.get ls q ≡ cond (nat_eq q from) (heard_row n (table.get ls q)) (table.get ls q)) [
      | inl t ↦ let here : table.get ls q ≡ None = ap (table.get ls) t.1 ∙ e in rw (t.0, here) refl
      | inr t ↦ rw t.0 refl
    ]
get-heard from n (Some l) ls q e =
    let m = table.insert ls from (record l { heard = n }) in
    elim (eqb_tells q from) as (λ _. table.get m q ≡ cond (nat_eq q from) (heard_row n (table.get ls q)) (table.get ls q)) [
      | inl t ↦ get-insert_key ls from (record l { heard = n }) q ∙ rw t.0 (ap (heard_row n) (sym (ap (table.get ls) t.1 ∙ e)))
      | inr t ↦ get-insert_key ls from (record l { heard = n }) q ∙ rw t.0 refl
    ]

get-hear : (from n : ℕ) (ls : Links) (q : ℕ) → table.get (hear from n ls) q ≡ cond (nat_eq q from) (heard_row n (table.get ls q)) (table.get ls q)
get-hear from n ls q = get-heard from n (table.get ls from) ls q refl

only_last : (b : Bool) (p q k l : ℕ) (o : Option Link) → (let once = cond b (added p o) o in let heard = cond b (heard_row k once) once in
    let again = cond b (added q heard) heard in cond b (heard_row l again) again ≡ cond b (heard_row l once) once)
unfolding heard_row
only_last true p q k l o = refl
only_last false p q k l o = refl

-- of two numbers that are heard one after the other the second stays
pub hear_twice : (p q from k l : ℕ) (ls : Links) → hear from l (add q from (hear from k (add p from ls))) ≡ hear from l (add p from ls)
hear_twice p q from k l ls =
    let once = add p from ls in
    let heard = hear from k once in
    let again = add q from heard in
    table.same_map nat_cmp_total nat_cmp-IsAntisymmetric _ _ (λ r.
    let b = nat_eq r from in
    let first = get-add p from ls r in
    let second = get-hear from k once r ∙ ap (λ o. cond b (heard_row k o) o) first in
    let third = get-add q from heard r ∙ ap (λ o. cond b (added q o) o) second in
    get-hear from l again r ∙ ap (λ o. cond b (heard_row l o) o) third ∙ only_last b p q k l (table.get ls r)
    ∙ sym (get-hear from l once r ∙ ap (λ o. cond b (heard_row l o) o) first))
