use Rattle.cc_command_line.proofs.IdentityLines.{no_birth, bad_number}
use Rattle.cc_command_line.proofs.identities.birth_in.Goals as goal

pub returns-in_default : goal.returns-in_default
returns-in_default c = no_birth c.args.text.now c.in_default.ensures

pub returns-in_default-number : goal.returns-in_default-number
returns-in_default-number c = bad_number c.args.text.now _ _ c.in-Some.ensures c.in_default-number.ensures
