use Rattle.cc_node.proofs.RestoredRows.{answers_finished}
use Rattle.cc_node.proofs.node.keeps_answers.Goals as goal

pub returns : goal.returns
returns c = rw (c.are_finished.ensures, c.answers.ensures.answers) (answers_finished c.args.outbox.now c.args.sessions.now _)
