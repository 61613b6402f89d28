use Rattle.std.proofs.Common.{ap, arith, refl}
use Rattle.cc_views.specs.NatSets as set
use Rattle.cc_ops.proofs.ops.Ops.new.Goals as goal

pub invariant_of-result : goal.invariant_of-result
invariant_of-result c =
    let lists = c.in-Ok-two_lists.ensures in
    rw (ap (λ both. both.0) lists, ap (λ both. both.1) lists, c.empty.ensures)
    (record {
      number = omega arith;
      tag = omega arith;
      some = c.requires.some;
      few = c.requires.few;
      beside = omega (arith, c.requires.some);
      waits = tt;
      behind = refl;
      room = omega (arith, set.len-empty);
    })
