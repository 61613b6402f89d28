use Rattle.cc_command_line.proofs.IdentityLines.{one_identity, no_fault}
use Rattle.cc_command_line.proofs.identities.identities_are_read_again.Goals as goal

pub returns : goal.returns
returns c = record {
  one = λ a b text fits fits_too spells other. one_identity a text fits spells b fits_too other;
  none = λ a text e fits spells bad. no_fault a text fits spells e bad;
}
