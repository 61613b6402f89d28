use Rattle.std.specs.Prelude.{◌≡◌, ◌-◌, length, None}
use Rattle.cc_wire.proofs.Items.{with_front}
use Rattle.cc_node_state.specs.States.{posts_at}
use Rattle.cc_node_state.proofs.field_reader.read_posts.Given as goal

abbrev pub invariant-loop : goal.invariant-loop
invariant-loop g l =
    let s = g.S.Source in
    let total = posts_at l.count (s.ahead l.fn.device l.fn.piece l.fn.source) in
    record {
      run : s.runs l.fn.device l.fn.source l.device l.source None;
      so_far : s.honest l.fn.device → with_front l.posts.items (posts_at (l.count - l.counter) (s.ahead l.device l.piece l.source)) ≡ total;
      length : length l.posts.items ≡ l.counter;
    }
