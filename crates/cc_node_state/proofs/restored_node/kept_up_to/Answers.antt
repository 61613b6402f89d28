use Rattle.std.proofs.Common.{◌≡◌, ◌+◌, ◌-◌, ◌++◌, ◌∷◌, [], ℕ, length, ap, refl, sym, ◌∙◌, arith}
use Rattle.std.proofs.lemmas.List.{length_push}
use Rattle.cc_outbox.specs.Rows.{outbox_of}
use Rattle.cc_outbox.proofs.Edits.{len_posts, outbox_of-add}
use Rattle.cc_node_state.proofs.Restored.{moved_on, one_left, all_came}
use Rattle.cc_node_state.proofs.restored_node.kept_up_to.Goals as goal

pub loop-post-init : goal.loop-post-init
loop-post-init c = record {
  parts = c.into_iter-post-iterator.ensures.into_iter_gives.0;
  outbox =
      let start : c.args.posts - c.len.result ≡ c.args.posts - c.len.result + 0 = omega arith in
      c.in_ok-outbox.ensures.empty ∙ ap (λ (last : ℕ). outbox_of last [] []) start;
}

pub add-requires-clause-room : goal.add-requires-clause-room
add-requires-clause-room c =
    let so_far = c.loop-post.yielded in
    let fewer = one_left so_far _ c.loop-post.invariant.parts c.in-Some.ensures.steps.0 in
    rw c.loop-post.invariant.outbox (omega (arith, len_posts (c.args.posts - c.len.result + length so_far - length so_far) so_far, fewer, c.requires.few))

pub add-requires-clause-number : goal.add-requires-clause-number
add-requires-clause-number c =
    let fewer = one_left c.loop-post.yielded _ c.loop-post.invariant.parts c.in-Some.ensures.steps.0 in
    rw c.loop-post.invariant.outbox (omega (arith, fewer, c.requires.numbers, c.len.ensures, c.ranges.posts.fits))

pub loop-post-preserved : goal.loop-post-preserved
loop-post-preserved c =
    let post = c.in-Some.post in
    let so_far = c.loop-post.yielded in
    let last = c.args.posts - c.len.result + length so_far in
    let more : c.args.posts - c.len.result + length (so_far ++ post ∷ []) ≡ last + 1 = omega (arith, length_push so_far post) in
    record {
      parts = moved_on _ _ c.loop-post.invariant.parts c.in-Some.ensures.steps.0;
      outbox = rw (c.add.ensures, c.loop-post.invariant.outbox, more) (sym (outbox_of-add last so_far [] (omega arith) post));
    }

pub returns : goal.returns
returns c =
    let last : c.args.posts - c.len.result + length c.args.kept.items ≡ c.args.posts = omega (arith, c.len.ensures, c.requires.numbers) in
    let left = c.loop-post.post-iterator.rest in
    let all = all_came _ left.items c.loop-post.invariant.parts (omega (arith, c.in-None.ensures.steps.0, left.ok)) in
    rw (c.loop-post.invariant.outbox, all, last) refl
