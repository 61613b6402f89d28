use Rattle.std.proofs.Common.{◌≡◌, ◌++◌, ◌+◌, [], length}
use Rattle.cc_outbox.specs.Rows.{outbox_of}
use Rattle.cc_node_state.proofs.restored_node.kept_up_to.Given as goal

abbrev pub invariant-loop-post : goal.invariant-loop-post
invariant-loop-post l = record {
  parts : l.yielded ++ l.post-iterator.rest.items ≡ l.fn.kept.items;
  outbox : l.outbox ≡ outbox_of (l.dropped + length l.yielded) l.yielded [];
}
