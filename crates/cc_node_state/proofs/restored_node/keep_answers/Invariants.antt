use Rattle.std.proofs.Common.{◌≡◌}
use Rattle.cc_outbox.specs.Rows.{entry_of}
use Rattle.cc_node_state.proofs.Restored.{Came}
use Rattle.cc_node_state.proofs.restored_node.keep_answers.Given as goal

abbrev pub invariant-loop-kept : goal.invariant-loop-kept
invariant-loop-kept l = record {
  came : Came entry_of l.fn.answers.items l.yielded l.kept-iterator.rest.items l.outbox.answers;
  beside : l.outbox ≡ record { last = l.fn.outbox.last; posts = l.fn.outbox.posts; answers = l.outbox.answers };
}
