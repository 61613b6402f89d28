use Rattle.std.proofs.Common.{ℕ, List, [], ◌∷◌, sym, ◌∙◌}
use Rattle.std.specs.Prelude.{Option}
use Rattle.cc_messages.specs.declared.refusal.Refusal.{Refusal}
use Rattle.cc_messages.specs.declared.command.Command.{Command}
use Rattle.cc_ops.specs.WaitingAsks.{line_limit}
use Rattle.cc_node.specs.Core.{Core}
use Rattle.cc_node.specs.Refusals.{decides, decides_within, busy, set_full}
use Rattle.cc_node.proofs.PartDecisions.{of_member, of_request, err_there, err_then, ok_later, ok_then, ok_none, is_next}
use Rattle.cc_node.proofs.node_core.Core.decide_ask.Goals as goal

abbrev pending : ℕ → Command → Core → List (Option Refusal)
pending session command s = busy line_limit s session ∷ set_full s command ∷ []

pub returns-in_err-decide_ask : goal.returns-in_err-decide_ask
unfolding decides decides_within
returns-in_err-decide_ask c = err_then of_member _ _ c.self.view_is c.decide_ask.ensures c.in_err-decide_ask.was _ c.from_residual.ensures.1

pub returns-in_err-decide_request : goal.returns-in_err-decide_request
unfolding decides decides_within
returns-in_err-decide_request c =
    err_there (of_request c.args.self.now c.args.session c.args.request) _ _ _ c.from_residual-in_err-decide_request.ensures.1
    (sym c.decide_request.ensures ∙ c.in_err-decide_request.was)
    ∙ ok_then of_member _ _ c.self.view_is c.decide_ask.ensures c.in_ok-decide_ask.was

pub returns-in_err-decide_ask-2 : goal.returns-in_err-decide_ask-2
unfolding decides decides_within
returns-in_err-decide_ask-2 c =
    err_then (pending c.args.session c.args.command.now) _ _ c.self.view_is c.decide_ask-2.ensures c.in_err-decide_ask-2.was _
    c.from_residual-in_err-decide_ask-2.ensures.1
    ∙ ok_later (of_request c.args.self.now c.args.session c.args.request) _ (sym c.decide_request.ensures ∙ c.in_ok-decide_request.was)
    ∙ ok_then of_member _ _ c.self.view_is c.decide_ask.ensures c.in_ok-decide_ask.was

pub returns : goal.returns
unfolding decides decides_within
returns c =
    let s = c.args.self.now in
    let numbered = sym c.decide_request.ensures ∙ c.in_ok-decide_request.was in
    c.decide_command.ensures c.args.session (is_next s c.args.session c.args.request (ok_none _ numbered))
    ∙ ok_then (pending c.args.session c.args.command.now) _ _ c.self.view_is c.decide_ask-2.ensures c.in_ok-decide_ask-2.was
    ∙ ok_later (of_request s c.args.session c.args.request) _ numbered
    ∙ ok_then of_member _ _ c.self.view_is c.decide_ask.ensures c.in_ok-decide_ask.was
