use Rattle.std.proofs.Common.{◌≡◌, ◌≤◌, ◌-◌, length, drop}
use Rattle.std.specs.VecDeque.{deque_len, deque_capacity}
use Rattle.cc_outbox.proofs.outbox.keep_last.Given as goal

abbrev pub invariant-front : goal.invariant-front
invariant-front l = record {
  left : l.count ≤ length l.posts.items;
  rest : drop (length l.posts.items - l.count) l.posts.items ≡ drop (length l.fn.posts.items - l.count) l.fn.posts.items;
  room : deque_capacity l.posts ≡ deque_capacity l.fn.posts;
}

abbrev pub decreases-front : goal.decreases-front
decreases-front l = deque_len l.posts
