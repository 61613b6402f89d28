use Rattle.std.proofs.Common.{ap, arith}
use Rattle.cc_views.specs.NatSets.{NatSet, len, len_insert_at_most}
use Rattle.parts_tests.proofs.web.responses.full_row.Goals as goal

pub push-requires-2-clause-room : goal.push-requires-2-clause-room
push-requires-2-clause-room c =
    omega (arith, ap (λ (s : NatSet). len s) c.push.ensures.set, len_insert_at_most c.new-set.result 5, c.new-set.ensures.len)
