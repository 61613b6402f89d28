use Rattle.cc_policies.proofs.ShareChangeLaws.{share_taken, share_refused}
use Rattle.cc_policies.proofs.share_change.a_share_is_told.Goals as goal

pub returns-clause-taken : goal.returns-clause-taken
returns-clause-taken c = share_taken

pub returns-clause-refused : goal.returns-clause-refused
returns-clause-refused c = share_refused
