use Rattle.cc_web.proofs.OwnLaws.{never_again}
use Rattle.cc_web.proofs.own_laws.a_key_has_one_ask.Goals as goal

pub returns : goal.returns
returns c = never_again
