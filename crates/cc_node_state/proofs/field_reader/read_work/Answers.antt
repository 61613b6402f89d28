use Rattle.cc_node_state.specs.States.{work_at}
use Rattle.cc_node_state.proofs.SourceLaws.{misses_then}
use Rattle.cc_node_state.proofs.field_reader.read_work.Goals as goal
use Rattle.std.proofs.Common.{refl}

pub returns-in-Err-clause-exact : goal.returns-in-Err-clause-exact
unfolding work_at
returns-in-Err-clause-exact g c = λ honest.
    let h1 = g.met.S.Source.honest_on _ _ _ _ c.in_ok-view.ensures.run honest in
    rw (c.in_ok-view.ensures.exact honest) (misses_then _ _ _ _ (misses_then _ _ _ _ (misses_then _ _ _ _ (c.in-Err.ensures.exact h1))))

pub returns-in-Err-clause-run : goal.returns-in-Err-clause-run
returns-in-Err-clause-run g c = g.met.S.Source.goes_on _ _ _ _ _ _ _ c.in_ok-view.ensures.run c.in-Err.ensures.run

pub returns-in-Err-entering-clause-exact : goal.returns-in-Err-entering-clause-exact
unfolding work_at
returns-in-Err-entering-clause-exact g c = λ honest.
    let h1 = g.met.S.Source.honest_on _ _ _ _ c.in_ok-view.ensures.run honest in
    let h2 = g.met.S.Source.honest_on _ _ _ _ c.in-Ok.ensures.run h1 in
    rw (c.in_ok-view.ensures.exact honest, c.in-Ok.ensures.exact h1)
    (misses_then _ _ _ _ (misses_then _ _ _ _ (misses_then _ _ _ _ (c.in-Err-entering.ensures.exact h2))))

pub returns-in-Err-round-clause-exact : goal.returns-in-Err-round-clause-exact
unfolding work_at
returns-in-Err-round-clause-exact g c = λ honest.
    let h1 = g.met.S.Source.honest_on _ _ _ _ c.in_ok-view.ensures.run honest in
    let h2 = g.met.S.Source.honest_on _ _ _ _ c.in-Ok.ensures.run h1 in
    let h3 = g.met.S.Source.honest_on _ _ _ _ c.in-Ok-entering.ensures.run h2 in
    rw (c.in_ok-view.ensures.exact honest, c.in-Ok.ensures.exact h1, c.in-Ok-entering.ensures.exact h2)
    (misses_then _ _ _ _ (misses_then _ _ _ _ (misses_then _ _ _ _ (c.in-Err-round.ensures.exact h3))))

pub returns-in-Ok-round-clause-exact : goal.returns-in-Ok-round-clause-exact
unfolding work_at
returns-in-Ok-round-clause-exact g c = λ honest.
    let h1 = g.met.S.Source.honest_on _ _ _ _ c.in_ok-view.ensures.run honest in
    let h2 = g.met.S.Source.honest_on _ _ _ _ c.in-Ok.ensures.run h1 in
    let h3 = g.met.S.Source.honest_on _ _ _ _ c.in-Ok-entering.ensures.run h2 in
    rw (c.in_ok-view.ensures.exact honest, c.in-Ok.ensures.exact h1, c.in-Ok-entering.ensures.exact h2, c.in-Ok-round.ensures.exact h3) refl

pub returns-in-Err-entering-clause-run : goal.returns-in-Err-entering-clause-run
returns-in-Err-entering-clause-run g c =
    g.met.S.Source.goes_on _ _ _ _ _ _ _ (g.met.S.Source.goes_on _ _ _ _ _ _ _ c.in_ok-view.ensures.run c.in-Ok.ensures.run) c.in-Err-entering.ensures.run

pub returns-in-Err-round-clause-run : goal.returns-in-Err-round-clause-run
returns-in-Err-round-clause-run g c =
    let own = g.met.S.Source.goes_on _ _ _ _ _ _ _ c.in_ok-view.ensures.run c.in-Ok.ensures.run in
    g.met.S.Source.goes_on _ _ _ _ _ _ _ (g.met.S.Source.goes_on _ _ _ _ _ _ _ own c.in-Ok-entering.ensures.run) c.in-Err-round.ensures.run

pub returns-in-Ok-round-clause-run : goal.returns-in-Ok-round-clause-run
returns-in-Ok-round-clause-run g c =
    let own = g.met.S.Source.goes_on _ _ _ _ _ _ _ c.in_ok-view.ensures.run c.in-Ok.ensures.run in
    g.met.S.Source.goes_on _ _ _ _ _ _ _ (g.met.S.Source.goes_on _ _ _ _ _ _ _ own c.in-Ok-entering.ensures.run) c.in-Ok-round.ensures.run
