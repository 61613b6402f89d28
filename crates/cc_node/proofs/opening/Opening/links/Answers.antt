use Rattle.std.proofs.Common.{◌≡◌, ◌≤◌, ◌∷◌, sym, subst, ap, ◌∙◌}
use Rattle.std.specs.FinMap as table
use Rattle.std.proofs.lemmas.List.Elements.{Contains-append_left, Contains-append_right}
use Rattle.cc_links.specs.Links.{Links, add, add_all}
use Rattle.cc_node.specs.Openings.{told}
use Rattle.cc_node.proofs.Openings.{zero_listed, links_room, opening_links}
use Rattle.cc_node.proofs.opening.Opening.links.Goals as goal
use Rattle.cc_node.proofs.opening.Opening.links.Goals.{After-unwrap}

pub link_numbers-requires-clause-ids : goal.link_numbers-requires-clause-ids
link_numbers-requires-clause-ids c h = let o = told c.args.self.now in c.requires.ids (Contains-append_right (o.me ∷ o.initial) o.contacts 0 h)

pub link_numbers-requires-clause-few : goal.link_numbers-requires-clause-few
link_numbers-requires-clause-few c =
    let o = told c.args.self.now in
    subst (λ (ls : Links). table.len (add_all 0 o.contacts ls) ≤ 256) (sym c.in_ok-peers.ensures.empty) (links_room o c.requires.few).contacts

pub link_numbers-requires-2-clause-ids : goal.link_numbers-requires-2-clause-ids
link_numbers-requires-2-clause-ids c h =
    let o = told c.args.self.now in
    c.requires.ids (Contains-append_left (o.me ∷ o.initial) o.contacts 0 (zero_listed o.me o.initial h))

pub link_numbers-requires-2-clause-few : goal.link_numbers-requires-2-clause-few
link_numbers-requires-2-clause-few c =
    let o = told c.args.self.now in
    let first = c.link_numbers.ensures ∙ ap (add_all 0 o.contacts) c.in_ok-peers.ensures.empty in
    subst (λ (ls : Links). table.len (add_all 0 o.initial ls) ≤ 256) (sym first) (links_room o c.requires.few).initial

linked : (c : After-unwrap) → let o = told c.args.self.now in
    add 0 c.unwrap.result c.link_numbers-2.new.peers ≡ add 0 o.me (add_all 0 o.initial (add_all 0 o.contacts table.empty))
linked c =
    let o = told c.args.self.now in
    let me_is : c.unwrap.result ≡ o.me = rw c.unwrap.ensures at c.new-2.ensures.id in
    let peers = c.link_numbers-2.ensures ∙ ap (add_all 0 o.initial) (c.link_numbers.ensures ∙ ap (add_all 0 o.contacts) c.in_ok-peers.ensures.empty) in
    λ i. add 0 (me_is i) (peers i)

pub add-requires : goal.add-requires
add-requires c =
    subst (λ (ls : Links). table.len ls ≤ 256) (sym (linked (goal.at.add-requires c).After-unwrap)) (links_room (told c.args.self.now) c.requires.few).all

pub returns : goal.returns
returns c = c.add.ensures ∙ linked (goal.at.returns c).After-unwrap ∙ opening_links (told c.args.self.now)
