use Rattle.std.proofs.Common.{rules, arith}
use Rattle.cc_sessions.specs.Rows.{entry_of}
use Rattle.cc_wire.proofs.Items.{ends, is_done}
use Rattle.cc_node_state.specs.States.{session_at}
use Rattle.cc_node_state.proofs.TableReads.{err_is, row_read}
use Rattle.cc_node_state.proofs.state_reader.read_sessions.Goals as goal

pub loop-init : goal.loop-init
loop-init c = record {
  read = record { so_far = λ _. search rules; length = search rules; below = search rules; rising = search rules };
  room = search rules;
}

pub returns-in_err-row-clause-exact : goal.returns-in_err-row-clause-exact
returns-in_err-row-clause-exact c =
    rw (err_is c.from_residual-in_err-row.result c.from_residual-in_err-row.ensures.1)
    (ends session_at (λ e. e.0) _ _ _ _ _ _ _ c.loop-test.true c.in_err-row.ensures.exact (c.loop.invariant.read.so_far tt))

pub loop-preserved : goal.loop-preserved
loop-preserved c =
    rw (c.push.ensures.items, c.unwrap.ensures, c.from-least.ensures) (record {
      read = row_read entry_of session_at c.loop-test.true (λ _. c.in_ok-row.ensures.exact) c.in_ok-row.ensures.least c.loop.invariant.read;
      room = omega (arith, c.push.ensures.capacity, c.loop.invariant.room);
    })

pub returns-clause-exact : goal.returns-clause-exact
returns-clause-exact c = is_done session_at (λ e. e.0) _ _ _ _ _ _ c.loop-test.false (c.loop.invariant.read.so_far tt)
