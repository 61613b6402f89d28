use Rattle.cc_connections.proofs.HostNames.{without_dot, after_dot}
use Rattle.cc_connections.proofs.hosts.last_label.Goals as goal

pub returns-in-Some : goal.returns-in-Some
returns-in-Some c = after_dot c.args.name.now c.rsplit_once.result c.in-Some.field-0-0 c.in-Some.label c.rsplit_once.ensures.cases c.in-Some.is

pub returns-in-None : goal.returns-in-None
returns-in-None c = without_dot c.args.name.now c.rsplit_once.result c.rsplit_once.ensures.cases c.in-None.is
