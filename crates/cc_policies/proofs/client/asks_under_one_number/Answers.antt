use Rattle.cc_policies.proofs.ClientLaws.{all_known, any_number}
use Rattle.cc_policies.proofs.client.asks_under_one_number.Goals as goal

pub returns-clause-known : goal.returns-clause-known
returns-clause-known c = all_known

pub returns-clause-any : goal.returns-clause-any
returns-clause-any c = any_number
