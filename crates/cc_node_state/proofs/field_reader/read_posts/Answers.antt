use Rattle.std.proofs.Common.{rules, ◌+◌, ◌∙◌, ap, refl}
use Rattle.std.proofs.lemmas.List.{length_push}
use Rattle.cc_wire.specs.Messages.{message_at}
use Rattle.cc_wire.proofs.Items.{is_done}
use Rattle.cc_node_state.proofs.TableReads.{err_is, posts_go_on}
use Rattle.cc_node_state.proofs.SourceLaws.{misses_along}
use Rattle.cc_node_state.proofs.field_reader.read_posts.Goals as goal

pub loop-init : goal.loop-init
loop-init g c = record { run = g.met.S.Source.starts _ _ c.requires; so_far = λ _. search rules; length = search rules }

pub returns-in_err-post-clause-exact : goal.returns-in_err-post-clause-exact
returns-in_err-post-clause-exact g c =
    rw (err_is c.from_residual.result c.from_residual.ensures.1) (λ honest.
    misses_along g.S.Source.told (λ _. message_at) (λ _. 0) _ _ _ _ 0 _ _ c.loop-test.true
    (c.in_err-post.ensures.exact (g.met.S.Source.honest_on _ _ _ _ c.loop.invariant.run honest)) (c.loop.invariant.so_far honest))

pub loop-preserved : goal.loop-preserved
loop-preserved g c =
    let read = λ (honest : g.S.Source.honest c.args.device.now). c.in_ok-post.ensures.exact (g.met.S.Source.honest_on _ _ _ _ c.loop.invariant.run honest) in
    rw c.in_ok-push.ensures.items (record {
      run = g.met.S.Source.goes_on _ _ _ _ _ _ _ c.loop.invariant.run c.in_ok-post.ensures.run;
      so_far = λ honest. posts_go_on _ _ _ _ _ _ _ c.loop-test.true (read honest) (c.loop.invariant.so_far honest);
      length = length_push _ _ ∙ ap (λ k. k + 1) c.loop.invariant.length;
    })

pub returns-clause-exact : goal.returns-clause-exact
returns-clause-exact g c = λ honest. is_done (λ _. message_at) (λ _. 0) _ _ _ 0 _ _ c.loop-test.false (c.loop.invariant.so_far honest)

pub returns-in_err-post-clause-run : goal.returns-in_err-post-clause-run
returns-in_err-post-clause-run g c =
    rw (err_is c.from_residual.result c.from_residual.ensures.1) (g.met.S.Source.goes_on _ _ _ _ _ _ _ c.loop.invariant.run c.in_err-post.ensures.run)

pub message-requires : goal.message-requires
message-requires g c = record { lies = g.met.S.Source.lies_on _ _ _ _ c.loop.invariant.run }

pub returns-in_err-post-clause-length : goal.returns-in_err-post-clause-length
returns-in_err-post-clause-length g c = rw (err_is c.from_residual.result c.from_residual.ensures.1) tt

pub returns-in_err-push-clause-length : goal.returns-in_err-push-clause-length
returns-in_err-push-clause-length g c = rw (err_is c.from_residual-in_err-push.result c.from_residual-in_err-push.ensures.1) tt

pub returns-in_err-push-clause-exact : goal.returns-in_err-push-clause-exact
returns-in_err-push-clause-exact g c = rw (err_is c.from_residual-in_err-push.result c.from_residual-in_err-push.ensures.1) (λ honest some. absurd (some refl))

pub returns-in_err-push-clause-run : goal.returns-in_err-push-clause-run
returns-in_err-push-clause-run g c =
    rw (err_is c.from_residual-in_err-push.result c.from_residual-in_err-push.ensures.1) (
    g.met.S.Source.goes_on _ _ _ _ _ _ _ c.loop.invariant.run c.in_ok-post.ensures.run)

pub returns-clause-run : goal.returns-clause-run
returns-clause-run g c = c.loop.invariant.run
