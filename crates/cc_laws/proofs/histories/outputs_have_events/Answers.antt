use Rattle.cc_laws.proofs.Lines.{made_in}
use Rattle.cc_laws.proofs.histories.outputs_have_events.Goals as goal

pub returns : goal.returns
returns c = made_in
