use Rattle.std.proofs.Common.{sym, subst}
use Rattle.cc_node.specs.Node.{line}
use Rattle.cc_journal.specs.Batches.{events_in}
use Rattle.cc_journal.specs.GoodSides.{MayBeLeft, EachLeaves}
use Rattle.cc_journal.specs.Journals.{StaysGood}
use Rattle.cc_flush.specs.Engine.{IsOwed}
use Rattle.cc_flush.specs.Commits.{LeadsToOwed}
use Rattle.cc_flush.proofs.KeptSides.{sound_released}
use Rattle.cc_flush.proofs.PutOutputs.{released}
use Rattle.cc_flush.proofs.flusher.Flusher.release.Goals as goal

pub returns-clause-good : goal.returns-clause-good
returns-clause-good g c honest tells =
    let s = g.S.Site in
    let old = c.self.inside in
    let batch = c.args.landed in
    let new = c.put_outputs.new.site in
    subst (λ e. IsOwed e batch → s.honest e.site → StaysGood s (LeadsToOwed s batch e) e.site new) c.self.view_is
    (λ owed h. released s g.met.S.Site.may_read _ new c.self.invariant batch c.put_outputs.ensures.puts owed h tells) c.requires.owed honest

pub returns-clause-contents : goal.returns-clause-contents
returns-clause-contents g c honest =
    let s = g.S.Site in
    let new = c.put_outputs.new.site in
    subst (λ e. s.honest e.site → EachLeaves s (MayBeLeft (s.state e.site)) e.site new) c.self.view_is c.put_outputs.ensures.puts.contents honest

pub invariant_of-self : goal.invariant_of-self
invariant_of-self g c =
    let s = g.S.Site in
    let old = c.self.inside in
    let batch = c.args.landed in
    let owed = subst (λ e. IsOwed e batch) (sym c.self.view_is) c.requires.owed in
    rw c.put_outputs.ensures.node (sound_released s _ c.put_outputs.new.site
    (line old.node (events_in batch)) c.self.invariant c.put_outputs.ensures.puts batch owed)
