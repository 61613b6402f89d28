use Rattle.cc_views.specs.NatLists.{items-from_list}
use Rattle.cc_messages.proofs.number_list.NumberList.from_ascending.Goals as goal

pub returns-clause-items : goal.returns-clause-items
returns-clause-items c = items-from_list c.args.numbers.items c.requires.ascending
