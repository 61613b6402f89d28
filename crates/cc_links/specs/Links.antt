-- Numbered links: for each known peer, from which post on it is sent posts, and how far both ends have come.
--     Link, Links, links_code             one link;  the links by peer, and their code
--     add, add_all, hear, ack, lapse      a row more, or one row changed
--     heard_from, wire_number             readings of one row
--     heard_of                            from how many peers something was heard
--     live, lowest                        the links to peers that haven't left, and how far each of them has come
--     ReachesWithin, LinksWithin          that no link is acknowledged beyond the posts that were made;  and that its counts fit
--     awaits_ack, awaits_any              whether an acknowledgement is news;  whether any would be
use Rattle.std.specs.Prelude.{ℕ, ◌+◌, ◌-◌, ◌≤◌, Bool, not, ◌&&◌, nat_lt, nat_le, List, [], ◌∷◌, map, min, refl, Option, Some, None, IfSome}
use Rattle.std.specs.Bool.{then_some}
use Rattle.std.specs.Coded.{Coded, code_by, coded×, coded_ℕ}
use Rattle.std.specs.Option.{option_map_or}
use Rattle.std.specs.Ordering.{nat_cmp}
use Rattle.std.specs.FinMap as table
use Rattle.std.specs.FinMap.{FinMap}
use Rattle.cc_views.specs.Limits.{counter_limit}
use Rattle.cc_views.specs.NatSets as set
use Rattle.cc_views.specs.NatSets.{NatSet}

-- the posts up to `start` aren't sent on the link; of the later ones `acked` are acknowledged, and of the peer's posts `heard` are taken
pub record Link : Type 0 where
  pub start : ℕ
  pub acked : ℕ
  pub heard : ℕ

abbrev pub Links : Type 0
Links = FinMap nat_cmp Link

abbrev pub link_code : Coded Link
link_code =
    code_by (ℕ × (ℕ × ℕ)) (coded× coded_ℕ (coded× coded_ℕ coded_ℕ))
    (λ l. (l.start, (l.acked, l.heard))) (λ p. record { start = p.0; acked = p.1.0; heard = p.1.1 }) (λ _. refl)

abbrev pub links_code : Coded Links
links_code = table.code coded_ℕ link_code

abbrev pub new_link : ℕ → Link
new_link posts = record { start = posts; acked = 0; heard = 0 }

-- the row of a peer, changed, where there is one
abbrev pub with_row : ℕ → (Link → Link) → Option Link → Links → Links
with_row peer change None ls = ls
with_row peer change (Some l) ls = table.insert ls peer (change l)

abbrev pub add_absent : ℕ → ℕ → Option Link → Links → Links
add_absent posts peer None ls = table.insert ls peer (new_link posts)
add_absent posts peer (Some l) ls = ls

-- a row for a peer that has none
abbrev pub add : ℕ → ℕ → Links → Links
add posts peer ls = add_absent posts peer (table.get ls peer) ls

-- a row for each of these peers
abbrev pub add_all : ℕ → List ℕ → Links → Links
add_all posts [] ls = ls
add_all posts (peer ∷ peers) ls = add posts peer (add_all posts peers ls)

abbrev pub hear : ℕ → ℕ → Links → Links
hear from n ls = with_row from (λ l. record l { heard = n }) (table.get ls from) ls

abbrev pub ack : ℕ → ℕ → Links → Links
ack peer n ls = with_row peer (λ l. record l { acked = n }) (table.get ls peer) ls

-- what is kept for a peer lapses: all that was sent to it counts as acknowledged
abbrev pub lapse : ℕ → ℕ → Links → Links
lapse posts peer ls = with_row peer (λ l. record l { acked = posts - l.start }) (table.get ls peer) ls

-- 0 without a row
abbrev pub heard_from : ℕ → Links → ℕ
heard_from peer ls = option_map_or (λ l. l.heard) (table.get ls peer) 0

-- from how many peers something was heard
abbrev pub heard_of : Links → ℕ
heard_of ls = table.len (table.retain_keys ls (λ peer. nat_lt 0 (heard_from peer ls)))

-- the number of post n on a link, where it is sent there
abbrev pub wire_number_on : ℕ → Option Link → Option ℕ
wire_number_on n None = None
wire_number_on n (Some l) = then_some (nat_lt l.start n) (n - l.start)

abbrev pub wire_number : ℕ → ℕ → Links → Option ℕ
wire_number peer n ls = wire_number_on n (table.get ls peer)

-- the links to peers that haven't left
abbrev pub live : NatSet → Links → Links
live left ls = table.retain_keys ls (λ peer. not (set.contains left peer))

-- the least of a list, and a default for none
abbrev pub least : ℕ → List ℕ → ℕ
least none [] = none
least none (x ∷ []) = x
least none (x ∷ y ∷ ys) = min x (least none (y ∷ ys))

-- the last post that the peer has acknowledged
abbrev pub reach : Link → ℕ
reach l = l.start + l.acked

-- the last post that every live link has acknowledged
abbrev pub lowest : NatSet → ℕ → Links → ℕ
lowest left posts ls = least posts (map reach (table.values (live left ls)))

-- no link is acknowledged beyond these posts
abbrev pub ReachesWithin : ℕ → Links → Type 0
ReachesWithin posts ls = (q : ℕ) → IfSome (table.get ls q) (λ l. reach l ≤ posts)

-- whether a link waits for the acknowledgement of its number n
abbrev pub awaits_ack : ℕ → ℕ → Link → Bool
awaits_ack posts n l = nat_lt l.acked n && nat_le n (posts - l.start)

-- whether a link waits for the acknowledgement of any number
abbrev pub awaits_any : ℕ → Link → Bool
awaits_any posts l = nat_lt l.acked (posts - l.start)

abbrev pub IsLinkWithin : ℕ → Link → Type 0
IsLinkWithin posts l = (l.start ≤ posts) × (l.acked ≤ posts - l.start) × (l.heard ≤ counter_limit)

abbrev pub LinksWithin : ℕ → Links → Type 0
LinksWithin posts ls = (q : ℕ) → IfSome (table.get ls q) (IsLinkWithin posts)
