use Rattle.std.proofs.Common.{◌≡◌, refl}
use Rattle.cc_node.specs.Openings.{told, fresh}
use Rattle.cc_node.proofs.FreshLaws.{fresh_lawful}
use Rattle.cc_node.proofs.node_core.Core.begun.Goals as goal

pub invariant_of-result : goal.invariant_of-result
unfolding fresh
invariant_of-result c =
    let me_is : c.unwrap-me.result ≡ c.args.opening.now.me = rw c.unwrap-me.ensures at c.new.ensures.id in
    rw (me_is, c.from_parts.ensures, c.in_ok-changes.ensures, c.in-Ok-links.ensures, c.in-Ok.ensures, c.in-Ok-new.ensures.empty)
    (fresh_lawful (told c.args.opening.now) c.requires).core

pub returns : goal.returns
unfolding fresh
returns c =
    let me_is : c.unwrap-me.result ≡ c.args.opening.now.me = rw c.unwrap-me.ensures at c.new.ensures.id in
    rw (me_is, c.from_parts.ensures, c.in_ok-changes.ensures, c.in-Ok-links.ensures, c.in-Ok.ensures, c.in-Ok-new.ensures.empty) refl
