use Rattle.std.proofs.Common.{sym, ◌∙◌}
use Rattle.cc_node_state.specs.RecordLaws.{one_record}
use Rattle.cc_node_state.proofs.record_laws.one_spelling_of_records.Goals as goal

pub returns-clause-one : goal.returns-clause-one
returns-clause-one c = one_record

pub returns-clause-same : goal.returns-clause-same
returns-clause-same c = λ a b x p q. p.spelled ∙ sym q.spelled
