use Rattle.cc_node.proofs.Named.{marks_too_many, marks_then}
use Rattle.cc_node.proofs.named_nodes.mark_more.Goals as goal

pub returns-then-not-fit : goal.returns-then-not-fit
returns-then-not-fit c = λ before marked h. marks_too_many before c.args.known.now marked c.args.ids.now c.args.fit c.if-not-fit.true h

pub returns : goal.returns
returns c = λ before marked h.
    marks_then before c.args.known.now c.add_all.new.self marked c.args.ids.now c.args.fit c.add_all.result c.if-not-fit.false h
    (record { fits = c.add_all.ensures.fits; added = c.add_all.ensures.added })
