use Rattle.std.proofs.Common.{subst}
use Rattle.cc_site.specs.declared.site.Side.TheVariants.{A, B}
use Rattle.cc_node.specs.Node.{after}
use Rattle.cc_node_state.specs.Good.{IsGoodAt}
use Rattle.cc_laws.proofs.FirstLives.{all_stand, leaves_all, rests_good_now}
use Rattle.cc_laws.proofs.lives.crashes_end_lives.Goals as goal

pub returns-clause-good : goal.returns-clause-good
returns-clause-good g c = leaves_all g.S.Site c.args.site.now

pub returns-clause-rests : goal.returns-clause-rests
returns-clause-rests g c at generation start events opening lawful rests =
    leaves_all g.S.Site c.args.site.now start events opening lawful
    (rests_good_now g.S.Site c.args.site.now at generation start events opening rests)

pub returns-clause-whole : goal.returns-clause-whole
returns-clause-whole g c start l next life durable stands =
    let good = subst (λ n. IsGoodAt start l.events n l.opening (l.left A) (l.left B) l.told) durable life.good in
    c.one_node.ensures.node (l.left A) (l.left B) next (after start l.events) stands (all_stand start l.events l.opening (l.left A) (l.left B) l.told good)
