use Rattle.cc_node_state.specs.States.{tables_at}
use Rattle.cc_node_state.proofs.TableReads.{err_is}
use Rattle.cc_node_state.proofs.SourceLaws.{misses_then}
use Rattle.cc_node_state.proofs.field_reader.read_tables.Goals as goal
use Rattle.std.proofs.Common.{refl}

pub returns-in_err-links-clause-exact : goal.returns-in_err-links-clause-exact
unfolding tables_at
returns-in_err-links-clause-exact g c = rw (err_is c.from_residual-in_err-links.result c.from_residual-in_err-links.ensures.1) (λ honest.
    let h1 = g.met.S.Source.honest_on _ _ _ _ c.in_ok-posts.ensures.run honest in
    rw (c.in_ok-posts.ensures.exact honest) (misses_then _ _ _ _ (misses_then _ _ _ _ (misses_then _ _ _ _ (c.in_err-links.ensures.exact h1)))))

pub returns-in_err-sessions-clause-exact : goal.returns-in_err-sessions-clause-exact
unfolding tables_at
returns-in_err-sessions-clause-exact g c = rw (err_is c.from_residual-in_err-sessions.result c.from_residual-in_err-sessions.ensures.1) (λ honest.
    let h1 = g.met.S.Source.honest_on _ _ _ _ c.in_ok-posts.ensures.run honest in
    let h2 = g.met.S.Source.honest_on _ _ _ _ c.in_ok-links.ensures.run h1 in
    rw (c.in_ok-posts.ensures.exact honest, c.in_ok-links.ensures.exact h1)
    (misses_then _ _ _ _ (misses_then _ _ _ _ (misses_then _ _ _ _ (misses_then _ _ _ _ (c.in_err-sessions.ensures.exact h2))))))

pub returns-in_err-kept-clause-exact : goal.returns-in_err-kept-clause-exact
unfolding tables_at
returns-in_err-kept-clause-exact g c = rw (err_is c.from_residual-in_err-kept.result c.from_residual-in_err-kept.ensures.1) (λ honest.
    let h1 = g.met.S.Source.honest_on _ _ _ _ c.in_ok-posts.ensures.run honest in
    let h2 = g.met.S.Source.honest_on _ _ _ _ c.in_ok-links.ensures.run h1 in
    let h3 = g.met.S.Source.honest_on _ _ _ _ c.in_ok-sessions.ensures.run h2 in
    rw (c.in_ok-posts.ensures.exact honest, c.in_ok-links.ensures.exact h1, c.in_ok-sessions.ensures.exact h2)
    (misses_then _ _ _ _ (misses_then _ _ _ _ (misses_then _ _ _ _ (misses_then _ _ _ _ (misses_then _ _ _ _ (c.in_err-kept.ensures.exact h3)))))))

pub returns-in_err-answers-clause-exact : goal.returns-in_err-answers-clause-exact
unfolding tables_at
returns-in_err-answers-clause-exact g c = rw (err_is c.from_residual-in_err-answers.result c.from_residual-in_err-answers.ensures.1) (λ honest.
    let h1 = g.met.S.Source.honest_on _ _ _ _ c.in_ok-posts.ensures.run honest in
    let h2 = g.met.S.Source.honest_on _ _ _ _ c.in_ok-links.ensures.run h1 in
    let h3 = g.met.S.Source.honest_on _ _ _ _ c.in_ok-sessions.ensures.run h2 in
    let h4 = g.met.S.Source.honest_on _ _ _ _ c.in_ok-kept.ensures.run h3 in
    rw (c.in_ok-posts.ensures.exact honest, c.in_ok-links.ensures.exact h1, c.in_ok-sessions.ensures.exact h2, c.in_ok-kept.ensures.exact h3)
    (misses_then _ _ _ _ (misses_then _ _ _ _ (misses_then _ _ _ _ (misses_then _ _ _ _ (misses_then _ _ _ _ (c.in_err-answers.ensures.exact h4)))))))

pub returns-clause-exact : goal.returns-clause-exact
unfolding tables_at
returns-clause-exact g c = λ honest.
    let h1 = g.met.S.Source.honest_on _ _ _ _ c.in_ok-posts.ensures.run honest in
    let h2 = g.met.S.Source.honest_on _ _ _ _ c.in_ok-links.ensures.run h1 in
    let h3 = g.met.S.Source.honest_on _ _ _ _ c.in_ok-sessions.ensures.run h2 in
    let h4 = g.met.S.Source.honest_on _ _ _ _ c.in_ok-kept.ensures.run h3 in
    rw (
      c.in_ok-posts.ensures.exact honest,
      c.in_ok-links.ensures.exact h1,
      c.in_ok-sessions.ensures.exact h2,
      c.in_ok-kept.ensures.exact h3,
      c.in_ok-answers.ensures.exact h4,
    ) refl

pub returns-in_err-links-clause-run : goal.returns-in_err-links-clause-run
returns-in_err-links-clause-run g c = rw (err_is c.from_residual-in_err-links.result c.from_residual-in_err-links.ensures.1) (
    g.met.S.Source.goes_on _ _ _ _ _ _ _ c.in_ok-posts.ensures.run c.in_err-links.ensures.run)

pub returns-in_err-sessions-clause-run : goal.returns-in_err-sessions-clause-run
returns-in_err-sessions-clause-run g c = rw (err_is c.from_residual-in_err-sessions.result c.from_residual-in_err-sessions.ensures.1) (
    let r1 = g.met.S.Source.goes_on _ _ _ _ _ _ _ c.in_ok-posts.ensures.run c.in_ok-links.ensures.run in
    g.met.S.Source.goes_on _ _ _ _ _ _ _ r1 c.in_err-sessions.ensures.run)

pub returns-in_err-kept-clause-run : goal.returns-in_err-kept-clause-run
returns-in_err-kept-clause-run g c = rw (err_is c.from_residual-in_err-kept.result c.from_residual-in_err-kept.ensures.1) (
    let r1 = g.met.S.Source.goes_on _ _ _ _ _ _ _ c.in_ok-posts.ensures.run c.in_ok-links.ensures.run in
    let r2 = g.met.S.Source.goes_on _ _ _ _ _ _ _ r1 c.in_ok-sessions.ensures.run in
    g.met.S.Source.goes_on _ _ _ _ _ _ _ r2 c.in_err-kept.ensures.run)

pub returns-in_err-answers-clause-run : goal.returns-in_err-answers-clause-run
returns-in_err-answers-clause-run g c = rw (err_is c.from_residual-in_err-answers.result c.from_residual-in_err-answers.ensures.1) (
    let r1 = g.met.S.Source.goes_on _ _ _ _ _ _ _ c.in_ok-posts.ensures.run c.in_ok-links.ensures.run in
    let r2 = g.met.S.Source.goes_on _ _ _ _ _ _ _ r1 c.in_ok-sessions.ensures.run in
    let r3 = g.met.S.Source.goes_on _ _ _ _ _ _ _ r2 c.in_ok-kept.ensures.run in
    g.met.S.Source.goes_on _ _ _ _ _ _ _ r3 c.in_err-answers.ensures.run)

pub returns-in_err-posts-clause-exact : goal.returns-in_err-posts-clause-exact
unfolding tables_at
returns-in_err-posts-clause-exact g c = rw (err_is c.from_residual.result c.from_residual.ensures.1) (λ honest.
    misses_then _ _ _ _ (misses_then _ _ _ _ (c.in_err-posts.ensures.exact honest)))

pub returns-in_err-posts-clause-run : goal.returns-in_err-posts-clause-run
returns-in_err-posts-clause-run g c = rw (err_is c.from_residual.result c.from_residual.ensures.1) c.in_err-posts.ensures.run

pub returns-in_err-posts-clause-read : goal.returns-in_err-posts-clause-read
returns-in_err-posts-clause-read g c = rw (err_is c.from_residual.result c.from_residual.ensures.1) tt

pub read_link_table-requires : goal.read_link_table-requires
read_link_table-requires g c = g.met.S.Source.lies_on _ _ _ _ c.in_ok-posts.ensures.run

pub sessions-requires : goal.sessions-requires
sessions-requires g c =
    record { lies = g.met.S.Source.lies_on _ _ _ _ (g.met.S.Source.goes_on _ _ _ _ _ _ _ c.in_ok-posts.ensures.run c.in_ok-links.ensures.run) }

pub read_kept-requires : goal.read_kept-requires
read_kept-requires g c =
    g.met.S.Source.lies_on _ _ _ _
    (g.met.S.Source.goes_on _ _ _ _ _ _ _ (g.met.S.Source.goes_on _ _ _ _ _ _ _ c.in_ok-posts.ensures.run c.in_ok-links.ensures.run)
    c.in_ok-sessions.ensures.run)

pub read_answer_table-requires : goal.read_answer_table-requires
read_answer_table-requires g c =
    g.met.S.Source.lies_on _ _ _ _
    (g.met.S.Source.goes_on _ _ _ _ _ _ _
    (g.met.S.Source.goes_on _ _ _ _ _ _ _ (g.met.S.Source.goes_on _ _ _ _ _ _ _ c.in_ok-posts.ensures.run c.in_ok-links.ensures.run)
    c.in_ok-sessions.ensures.run) c.in_ok-kept.ensures.run)

pub returns-in_err-links-clause-read : goal.returns-in_err-links-clause-read
returns-in_err-links-clause-read g c = rw (err_is c.from_residual-in_err-links.result c.from_residual-in_err-links.ensures.1) tt

pub returns-in_err-sessions-clause-read : goal.returns-in_err-sessions-clause-read
returns-in_err-sessions-clause-read g c = rw (err_is c.from_residual-in_err-sessions.result c.from_residual-in_err-sessions.ensures.1) tt

pub returns-in_err-kept-clause-read : goal.returns-in_err-kept-clause-read
returns-in_err-kept-clause-read g c = rw (err_is c.from_residual-in_err-kept.result c.from_residual-in_err-kept.ensures.1) tt

pub returns-in_err-answers-clause-read : goal.returns-in_err-answers-clause-read
returns-in_err-answers-clause-read g c = rw (err_is c.from_residual-in_err-answers.result c.from_residual-in_err-answers.ensures.1) tt

pub returns-clause-run : goal.returns-clause-run
returns-clause-run g c =
    g.met.S.Source.goes_on _ _ _ _ _ _ _
    (g.met.S.Source.goes_on _ _ _ _ _ _ _
    (g.met.S.Source.goes_on _ _ _ _ _ _ _ (g.met.S.Source.goes_on _ _ _ _ _ _ _ c.in_ok-posts.ensures.run c.in_ok-links.ensures.run)
    c.in_ok-sessions.ensures.run) c.in_ok-kept.ensures.run) c.in_ok-answers.ensures.run

pub returns-clause-read : goal.returns-clause-read
returns-clause-read g c = record {
  links = c.in_ok-links.ensures.rising;
  sessions = c.in_ok-sessions.ensures.rows.0;
  session_count = c.in_ok-sessions.ensures.rows.1;
  kept_count = c.in_ok-kept.ensures.few;
  answers = c.in_ok-answers.ensures.rising;
}
