use Rattle.cc_node_state.specs.States.{state_at}
use Rattle.std.proofs.Common.{refl}
use Rattle.cc_node_state.proofs.TableReads.{err_is}
use Rattle.cc_node_state.proofs.SourceLaws.{misses_then}
use Rattle.cc_node_state.proofs.field_reader.read_fields.Goals as goal

pub returns-in-Err-clause-exact : goal.returns-in-Err-clause-exact
unfolding state_at
returns-in-Err-clause-exact g c = λ honest.
    let h1 = g.met.S.Source.honest_on _ _ _ _ c.in_ok-membership.ensures.run honest in
    rw (c.in_ok-membership.ensures.exact honest) (misses_then _ _ _ _ (misses_then _ _ _ _ (misses_then _ _ _ _ (c.in-Err.ensures.exact h1))))

pub returns-in-Err-read_tables-clause-exact : goal.returns-in-Err-read_tables-clause-exact
unfolding state_at
returns-in-Err-read_tables-clause-exact g c = λ honest.
    let h1 = g.met.S.Source.honest_on _ _ _ _ c.in_ok-membership.ensures.run honest in
    let h2 = g.met.S.Source.honest_on _ _ _ _ c.in-Ok.ensures.run h1 in
    rw (c.in_ok-membership.ensures.exact honest, c.in-Ok.ensures.exact h1)
    (misses_then _ _ _ _ (misses_then _ _ _ _ (misses_then _ _ _ _ (c.in-Err-read_tables.ensures.exact h2))))

pub returns-in_err-membership-clause-exact : goal.returns-in_err-membership-clause-exact
unfolding state_at
returns-in_err-membership-clause-exact g c = rw (err_is c.from_residual.result c.from_residual.ensures.1) (λ honest.
    misses_then _ _ _ _ (misses_then _ _ _ _ (c.in_err-membership.ensures.exact honest)))

pub returns-in_err-membership-clause-run : goal.returns-in_err-membership-clause-run
returns-in_err-membership-clause-run g c = rw (err_is c.from_residual.result c.from_residual.ensures.1) c.in_err-membership.ensures.run

pub returns-in_err-membership-clause-read : goal.returns-in_err-membership-clause-read
returns-in_err-membership-clause-read g c = rw (err_is c.from_residual.result c.from_residual.ensures.1) tt

pub read_work-requires : goal.read_work-requires
read_work-requires g c = g.met.S.Source.lies_on _ _ _ _ c.in_ok-membership.ensures.run

pub returns-in-Err-clause-run : goal.returns-in-Err-clause-run
returns-in-Err-clause-run g c = g.met.S.Source.goes_on _ _ _ _ _ _ _ c.in_ok-membership.ensures.run c.in-Err.ensures.run

pub returns-in-Err-clause-read : goal.returns-in-Err-clause-read
returns-in-Err-clause-read g c = tt

pub read_tables-requires : goal.read_tables-requires
read_tables-requires g c = g.met.S.Source.lies_on _ _ _ _ (g.met.S.Source.goes_on _ _ _ _ _ _ _ c.in_ok-membership.ensures.run c.in-Ok.ensures.run)

pub returns-in-Ok-read_tables-clause-exact : goal.returns-in-Ok-read_tables-clause-exact
unfolding state_at
returns-in-Ok-read_tables-clause-exact g c = λ honest.
    let h1 = g.met.S.Source.honest_on _ _ _ _ c.in_ok-membership.ensures.run honest in
    let h2 = g.met.S.Source.honest_on _ _ _ _ c.in-Ok.ensures.run h1 in
    rw (c.in_ok-membership.ensures.exact honest, c.in-Ok.ensures.exact h1, c.in-Ok-read_tables.ensures.exact h2) refl

pub returns-in-Ok-read_tables-clause-run : goal.returns-in-Ok-read_tables-clause-run
returns-in-Ok-read_tables-clause-run g c =
    g.met.S.Source.goes_on _ _ _ _ _ _ _ (g.met.S.Source.goes_on _ _ _ _ _ _ _ c.in_ok-membership.ensures.run c.in-Ok.ensures.run)
    c.in-Ok-read_tables.ensures.run

pub returns-in-Ok-read_tables-clause-read : goal.returns-in-Ok-read_tables-clause-read
returns-in-Ok-read_tables-clause-read g c = c.in-Ok-read_tables.ensures.read

pub returns-in-Err-read_tables-clause-run : goal.returns-in-Err-read_tables-clause-run
returns-in-Err-read_tables-clause-run g c =
    g.met.S.Source.goes_on _ _ _ _ _ _ _ (g.met.S.Source.goes_on _ _ _ _ _ _ _ c.in_ok-membership.ensures.run c.in-Ok.ensures.run)
    c.in-Err-read_tables.ensures.run

pub returns-in-Err-read_tables-clause-read : goal.returns-in-Err-read_tables-clause-read
returns-in-Err-read_tables-clause-read g c = tt
