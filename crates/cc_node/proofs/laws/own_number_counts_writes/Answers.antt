use Rattle.cc_node.proofs.CoreLaws.{own_number, own_value, own_number_along, own_value_along}
use Rattle.cc_node.proofs.laws.own_number_counts_writes.Goals as goal

pub returns : goal.returns
returns c = record { number = own_number; value = own_value; number_after = own_number_along; value_after = own_value_along }
