use Rattle.std.proofs.Common.{◌≡◌, refl, sym, subst}
use Rattle.cc_node.specs.Node.{Node, step}
use Rattle.cc_node.specs.Lawful.{IsLawfulNode}
use Rattle.cc_node.proofs.LawfulLaws.{step_lawful}
use Rattle.cc_node.proofs.Effects.{post_room, answer_room}
use Rattle.cc_node.proofs.node.Node.settle.Goals as goal
use Rattle.cc_node.proofs.node.Node.settle.Goals.{After-trim}

pub keep_post-requires-clause-room : goal.keep_post-requires-clause-room
keep_post-requires-clause-room c makes =
    rw c.forget_asked.ensures (post_room c.args.event c.self.view_is c.requires.accepted c.self.invariant (rw c.requires.made at makes))

pub keep_answers-requires : goal.keep_answers-requires
keep_answers-requires c =
    rw (c.keep_post.ensures, c.forget_asked.ensures, c.requires.made) (answer_room c.args.event c.self.view_is c.requires.accepted c.self.invariant)

-- the fields are then those of the next node
after : (c : After-trim) → ◌≡◌ {A = Node} (record { core = c.apply.new.self; outbox = c.trim.new.self }) (step c.args.self.now c.args.event)
unfolding step
after c =
    rw (c.trim.ensures, c.lowest.ensures, c.apply.ensures, c.keep_answers.ensures)
    (rw (c.keep_post.ensures, c.forget_asked.ensures, c.requires.made, ← c.self.view_is) refl)

pub invariant_of-self : goal.invariant_of-self
invariant_of-self c =
    subst IsLawfulNode (sym (after (goal.at.invariant_of-self c).After-trim))
    (step_lawful _ _ c.requires.accepted (subst IsLawfulNode c.self.view_is c.self.invariant))

pub returns : goal.returns
returns c = after (goal.at.returns c).After-trim
