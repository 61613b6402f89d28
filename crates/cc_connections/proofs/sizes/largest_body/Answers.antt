use Rattle.cc_connections.proofs.BodyLengths.{length-body}
use Rattle.cc_connections.proofs.sizes.largest_body.Goals as goal

pub returns : goal.returns
returns c = length-body
