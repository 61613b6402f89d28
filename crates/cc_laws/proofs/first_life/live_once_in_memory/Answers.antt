use Rattle.std.proofs.lemmas.Result.{MatchResult-weaker}
use Rattle.cc_laws.proofs.first_life.live_once_in_memory.Goals as goal

pub returns-clause-every_moment : goal.returns-clause-every_moment
returns-clause-every_moment c shut =
    MatchResult-weaker c.live_once.result (c.live_once.ensures.every_moment shut) (λ s run lost left sent since. (run lost).each left sent since) (λ _ _. tt)
