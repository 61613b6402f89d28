use Rattle.std.proofs.Common.{◌∙◌, ap, sym, length}
use Rattle.cc_views.specs.NatLists.{len-items}
use Rattle.cc_views.proofs.number_set.NumberSet.len.Goals as goal

pub returns-clause-len : goal.returns-clause-len
returns-clause-len c = ap length c.as_slice.ensures.numbers ∙ sym (len-items c.args.self.now)
