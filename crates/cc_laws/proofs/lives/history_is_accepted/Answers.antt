use Rattle.cc_laws.proofs.Accepted.{each_accepted, parts_accepted, parts_durable}
use Rattle.cc_laws.proofs.lives.history_is_accepted.Goals as goal

pub returns : goal.returns
returns c = record {
  each = λ n ls m es history. each_accepted n ls es history.parts;
  accepted = λ n ls m es history. parts_accepted n ls es history.parts;
  durable = λ n ls m es history. parts_durable n ls es history.parts;
}
