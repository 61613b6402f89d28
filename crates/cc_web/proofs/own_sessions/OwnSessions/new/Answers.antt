use Rattle.std.proofs.Common.{◌≡◌, ℕ, ◌+◌, List, [], ◌∷◌, ◌++◌, map, take, ap, sym, ◌∙◌, arith}
use Rattle.std.proofs.lemmas.List.{map_more}
use Rattle.cc_web.specs.declared.own_sessions.OwnSession.{OwnSession}
use Rattle.cc_web.specs.OwnSessions.{fresh}
use Rattle.cc_web.proofs.own_sessions.OwnSessions.new.Goals as goal

pub loop-last-preserved : goal.loop-last-preserved
loop-last-preserved c =
    let lasts = c.args.lasts.now in
    let i = c.loop-last.last-index in
    c.in_ok-push.ensures.items ∙ ap (λ (rows : List OwnSession). rows ++ c.fresh.result ∷ []) c.loop-last.invariant
    ∙ ap (λ (row : OwnSession). map fresh (take i lasts) ++ row ∷ []) c.fresh.ensures ∙ sym (map_more fresh lasts i 0 (omega arith))
