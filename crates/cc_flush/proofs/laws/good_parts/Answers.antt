use Rattle.cc_journal.specs.GoodSideLaws.{good_parts}
use Rattle.cc_flush.proofs.laws.good_parts.Goals as goal

pub returns : goal.returns
returns c = good_parts
