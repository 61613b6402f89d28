use Rattle.cc_node_state.proofs.PartLaws.{parts_spell}
use Rattle.cc_checkpoint.proofs.pieces.Pieces.new.Goals as goal

pub returns-clause-whole : goal.returns-clause-whole
returns-clause-whole c = parts_spell c.args.node.now
