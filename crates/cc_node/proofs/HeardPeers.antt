-- From how many peers something was heard, once something is from one of them.
--     heard_first, heard_again     the sender is counted, where nothing was heard from it before
use Rattle.std.proofs.Common.{◌≡◌, ℕ, ◌+◌, ◌<◌, true, cond, List, ◌∷◌, refl, sym, ap, ◌∙◌, arith}
use Rattle.std.specs.Prelude.{nat_lt, Option, Some, None, is_some}
use Rattle.std.specs.Option.{option_map_or}
use Rattle.std.specs.FinMap as table
use Rattle.std.proofs.lemmas.Bool.{lt-ltb, le-ltb, or_left}
use Rattle.cc_links.specs.Links.{Link, Links, add_all, hear, heard_from, heard_of}
use Rattle.cc_links.specs.LinkLaws.{contains-add_all}
use Rattle.cc_links.specs.HeardLaws.{heard_of-hear, heard_of-add_all}
use Rattle.cc_messages.specs.declared.message.Message.{Message}
use Rattle.cc_node.specs.Core.{Core, ids_of, links_heard}
use Rattle.cc_node.proofs.KnownLaws.{same_number}
use Rattle.cc_node.proofs.LawfulLaws.{add_all_heard}

of_sender : (from n : ℕ) (ls : Links) (o : Option Link) → table.get ls from ≡ o → is_some o ≡ true → 0 < n
    → heard_of (hear from n ls) ≡ cond (nat_lt 0 (option_map_or (λ l. l.heard) o 0)) (heard_of ls) (heard_of ls + 1)
of_sender from n ls None e h some = cc
of_sender from n ls (Some l) e h some = heard_of-hear from n ls l e some

heard_sender : (c : Core) (from n : ℕ) (m : Message) → 0 < n
    → heard_of (links_heard c from n m) ≡ cond (nat_lt 0 (heard_from from c.links)) (heard_of c.links) (heard_of c.links + 1)
heard_sender c from n m some =
    let qs : List ℕ = from ∷ ids_of m in
    let ls = add_all c.posts qs c.links in
    let there : is_some (table.get ls from) ≡ true = contains-add_all c.posts qs c.links from ∙ or_left _ _ (or_left _ _ (same_number from)) in
    of_sender from n ls (table.get ls from) refl there some
    ∙ (λ i. cond (nat_lt 0 (add_all_heard c.posts qs c.links from i)) (heard_of-add_all c.posts qs c.links i) (heard_of-add_all c.posts qs c.links i + 1))

pub heard_first : (c : Core) (from n : ℕ) (m : Message) → 0 < n → heard_from from c.links ≡ 0 → heard_of c.links + 1 ≡ heard_of (links_heard c from n m)
heard_first c from n m some none =
    sym (heard_sender c from n m some ∙ ap (λ b. cond b (heard_of c.links) (heard_of c.links + 1)) (le-ltb 0 (heard_from from c.links) (omega (arith, none))))

pub heard_again : (c : Core) (from n : ℕ) (m : Message) → 0 < n → (heard_from from c.links ≡ 0 → ⊥) → heard_of c.links ≡ heard_of (links_heard c from n m)
heard_again c from n m some none =
    sym (heard_sender c from n m some ∙ ap (λ b. cond b (heard_of c.links) (heard_of c.links + 1)) (lt-ltb 0 (heard_from from c.links) (omega (arith, none))))
