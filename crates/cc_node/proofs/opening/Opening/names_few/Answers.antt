use Rattle.std.proofs.Common.{◌≡◌, [], ◌∷◌, ◌++◌, true, false, refl, subst}
use Rattle.std.proofs.lemmas.List.Elements.{Contains-append_left, Contains-append_right}
use Rattle.cc_views.specs.NatSets as set
use Rattle.cc_node.specs.Known.{Marks}
use Rattle.cc_node.proofs.Named.{marks_too_many, marks_then}
use Rattle.cc_node.proofs.Openings.{zero_listed}
use Rattle.cc_node.proofs.opening.Opening.names_few.Goals as goal
use Rattle.cc_node.proofs.opening.Opening.names_few.Goals.{After-add_numbers, After-add_numbers-2}

-- the contacts, and then those who have joined from the start too
contacts : (c : After-add_numbers) → Marks set.empty c.args.self.now.contacts.now c.add_numbers.result c.add_numbers.new.self
contacts c =
    subst (λ s. Marks s c.args.self.now.contacts.now c.add_numbers.result c.add_numbers.new.self) c.new-known.ensures
    (record { fits = c.add_numbers.ensures.fits; added = c.add_numbers.ensures.added })

initial : (c : After-add_numbers-2) → c.add_numbers.result ≡ true
    → Marks set.empty c.args.self.now.contacts.now c.add_numbers.result c.add_numbers.new.self
    → Marks set.empty (c.args.self.now.initial.now ++ c.args.self.now.contacts.now) c.add_numbers-2.result c.add_numbers-2.new.self
initial c fit before =
    marks_then _ _ _ _ c.args.self.now.initial.now _ _ fit before (record { fits = c.add_numbers-2.ensures.fits; added = c.add_numbers-2.ensures.added })

pub add_numbers-requires : goal.add_numbers-requires
add_numbers-requires c h = let o = c.args.self.now in c.requires (Contains-append_right (o.me ∷ o.initial.now) o.contacts.now 0 h)

pub returns-then-not-add_numbers : goal.returns-then-not-add_numbers
returns-then-not-add_numbers c =
    let o = c.args.self.now in
    (marks_too_many _ _ _ (o.me ∷ []) false refl (marks_too_many _ _ _ o.initial.now _ c.if-not-add_numbers.true
    (contacts (goal.at.returns-then-not-add_numbers c).After-add_numbers))).fits

pub add_numbers-requires-2 : goal.add_numbers-requires-2
add_numbers-requires-2 c h =
    let o = c.args.self.now in
    c.requires (Contains-append_left (o.me ∷ o.initial.now) o.contacts.now 0 (zero_listed o.me o.initial.now h))

pub returns-then-not-add_numbers-2 : goal.returns-then-not-add_numbers-2
returns-then-not-add_numbers-2 c =
    let at = goal.at.returns-then-not-add_numbers-2 c in
    (marks_too_many _ _ _ (c.args.self.now.me ∷ []) _ c.if-not-add_numbers-2.true
    (initial at.After-add_numbers-2 c.if-not-add_numbers.false (contacts at.After-add_numbers))).fits

pub returns : goal.returns
returns c =
    let at = goal.at.returns c in
    let me_is : c.unwrap.result ≡ c.args.self.now.me = rw c.unwrap.ensures at c.new.ensures.id in
    let me : Marks c.add_numbers-2.new.self (c.args.self.now.me ∷ []) c.add.result c.add.new.self =
    subst (λ q. Marks c.add_numbers-2.new.self (q ∷ []) c.add.result c.add.new.self) me_is
    (record { fits = c.add.ensures.fits; added = c.add.ensures.added }) in
    (marks_then _ _ _ _ (c.args.self.now.me ∷ []) _ _ c.if-not-add_numbers-2.false
    (initial at.After-add_numbers-2 c.if-not-add_numbers.false (contacts at.After-add_numbers)) me).fits
