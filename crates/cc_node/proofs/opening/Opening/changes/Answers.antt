use Rattle.cc_node.specs.Openings.{told}
use Rattle.cc_node.proofs.Openings.{initial_listed, initial_room}
use Rattle.cc_node.proofs.opening.Opening.changes.Goals as goal

pub id_set-requires-clause-ids : goal.id_set-requires-clause-ids
id_set-requires-clause-ids c h = c.requires.ids (initial_listed (told c.args.self.now) h)

pub id_set-requires-clause-few : goal.id_set-requires-clause-few
id_set-requires-clause-few c = initial_room (told c.args.self.now) c.requires.few
