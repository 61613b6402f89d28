use Rattle.cc_node_state.proofs.Decoded.{node_is_told, unlawful_is_told}
use Rattle.cc_node_state.proofs.state.decode_state.Goals as goal

pub returns-clause-answer : goal.returns-clause-answer
returns-clause-answer c = c.decode_all.ensures

pub returns-clause-only : goal.returns-clause-only
returns-clause-only c = node_is_told c.args.layout c.args.bytes.now _ c.decode_all.ensures

pub returns-clause-unlawful : goal.returns-clause-unlawful
returns-clause-unlawful c = unlawful_is_told c.args.layout c.args.bytes.now _ c.decode_all.ensures
