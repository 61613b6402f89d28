use Rattle.std.proofs.Common.{subst}
use Rattle.cc_views.specs.Rows.{ViewMap}
use Rattle.cc_node.specs.Openings.{fresh}
use Rattle.cc_node.proofs.FreshLaws.{fresh_lawful}
use Rattle.cc_laws.specs.Shown.{Has}
use Rattle.cc_laws.proofs.LaterViews.{comparable, one_value}
use Rattle.cc_laws.proofs.HeldOutputs.{seen_views, seen_grows}
use Rattle.cc_laws.proofs.JoinedLives.{join}
use Rattle.cc_laws.proofs.OwnWrites.{own_written}
use Rattle.cc_laws.proofs.lives.lives_hold.Goals as goal

pub returns-clause-views : goal.returns-clause-views
returns-clause-views c = seen_views

pub returns-clause-one_value : goal.returns-clause-one_value
returns-clause-one_value c o ls m opens lives v w of_v of_w =
    let history = join c.one_node.ensures.node (fresh o) ls m (fresh_lawful o opens) lives in
    one_value (fresh o) history.0 v w (seen_views o ls m history.0 history.1 v of_v) (seen_views o ls m history.0 history.1 w of_w)

pub returns-clause-comparable : goal.returns-clause-comparable
returns-clause-comparable c o ls m opens lives v w of_v of_w =
    let history = join c.one_node.ensures.node (fresh o) ls m (fresh_lawful o opens) lives in
    comparable (fresh o) history.0 v w (seen_views o ls m history.0 history.1 v of_v) (seen_views o ls m history.0 history.1 w of_w)

pub returns-clause-grows : goal.returns-clause-grows
returns-clause-grows c o ls m opens lives v of_v =
    let history = join c.one_node.ensures.node (fresh o) ls m (fresh_lawful o opens) lives in
    seen_grows o ls m history.0 history.1 v of_v

pub returns-clause-own : goal.returns-clause-own
returns-clause-own c o ls m es opens history old v of_v k x has =
    let of = seen_views o ls m es history v of_v in
    own_written o es opens history.lawful old of.0 k x (subst (λ (u : ViewMap). Has u o.me k x) of.1 has)
