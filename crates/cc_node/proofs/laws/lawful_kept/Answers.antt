use Rattle.cc_node.proofs.LawfulLaws.{step_lawful}
use Rattle.cc_node.proofs.FreshLaws.{fresh_lawful, after_lawful}
use Rattle.cc_node.proofs.laws.lawful_kept.Goals as goal

pub returns : goal.returns
returns c = record { fresh = fresh_lawful; step = step_lawful; after = after_lawful }
