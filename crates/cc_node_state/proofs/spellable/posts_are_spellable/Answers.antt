use Rattle.std.proofs.Common.{◌≤◌, length, subst, arith}
use Rattle.std.specs.List.{AllByRecursion}
use Rattle.std.specs.FinMap as table
use Rattle.std.proofs.lemmas.List.{take_all}
use Rattle.cc_wire.specs.Messages.{IsMessage}
use Rattle.cc_node_state.proofs.NodeStates.{length-values}
use Rattle.cc_node_state.proofs.spellable.posts_are_spellable.Goals as goal

pub returns : goal.returns
returns c =
    let posts = table.values c.args.outbox.now.posts in
    let all : length posts ≤ c.loop-at.at = omega (arith, length-values c.args.outbox.now.posts, c.post_count-at-end.ensures.count, c.loop-at-test.false) in
    record {
      fits = omega (arith, length-values c.args.outbox.now.posts, c.post_count-at-end.ensures.count, c.post_count-at-end.ensures.fits);
      each = subst (AllByRecursion IsMessage) (take_all c.loop-at.at posts all) c.loop-at.invariant;
    }
