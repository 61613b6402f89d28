use Rattle.std.proofs.Common.{◌+◌, ◌∙◌, arith, ap}
use Rattle.std.proofs.lemmas.List.{length_push}
use Rattle.cc_node_state.specs.States.{ask_at}
use Rattle.cc_wire.proofs.Items.{ends, is_done}
use Rattle.cc_node_state.proofs.TableReads.{err_is, many_go_on}
use Rattle.cc_node_state.proofs.state_reader.read_asks.Goals as goal

pub returns-in_err-session : goal.returns-in_err-session
returns-in_err-session c =
    rw (err_is c.from_residual.result c.from_residual.ensures.1)
    (ends (λ _. ask_at) (λ _. 0) _ _ _ _ 0 _ _ c.loop-test.true c.in_err-session.ensures c.loop.invariant.so_far)

pub push-requires : goal.push-requires
push-requires c = omega (arith, c.loop.invariant.length, c.loop-test.true, c.requires.few)

pub loop-preserved : goal.loop-preserved
loop-preserved c =
    rw c.push.ensures (record {
      so_far = many_go_on ask_at _ _ _ _ _ _ _ c.loop-test.true c.in_ok-session.ensures c.loop.invariant.so_far;
      length = length_push _ _ ∙ ap (λ k. k + 1) c.loop.invariant.length;
    })

pub returns : goal.returns
returns c = is_done (λ _. ask_at) (λ _. 0) _ _ _ 0 _ _ c.loop-test.false c.loop.invariant.so_far
