use Rattle.cc_status.proofs.TextsApart.{told_apart}
use Rattle.cc_status.proofs.laws.texts_are_told_apart.Goals as goal

pub returns : goal.returns
returns c = told_apart
