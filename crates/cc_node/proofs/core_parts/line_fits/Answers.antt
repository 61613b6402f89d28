use Rattle.std.proofs.Common.{◌≡◌, ◌≤◌, List, length, sym, ap, subst, ◌∙◌}
use Rattle.std.specs.List.{list_all}
use Rattle.cc_ops.specs.Stages.{stage_of, WaitsBehind}
use Rattle.cc_ops.specs.WaitingAsks.{line_limit}
use Rattle.cc_ops.specs.declared.pending_operation.Asked.{Asked}
use Rattle.cc_node.specs.Parts.{is_last_of}
use Rattle.cc_node.proofs.RestoredRows.{asks_pass}
use Rattle.cc_node.proofs.core_parts.line_fits.Goals as goal

pub returns-then-not-are_last_requests-clause-fits : goal.returns-then-not-are_last_requests-clause-fits
returns-then-not-are_last_requests-clause-fits c =
    let ss = c.args.sessions.now in
    let s = c.args.ops.now in
    let asks : c.asks-asks.result.now ≡ s.line = c.asks-asks.ensures.asks ∙ c.line.ensures.line in
    let same = c.are_last_requests.ensures ∙ ap (list_all (is_last_of ss)) asks in (
      λ h. cc,
      λ line. sym c.if-not-are_last_requests.true ∙ same ∙ (asks_pass ss s.line).1 line.last,
    )

pub returns-clause-fits : goal.returns-clause-fits
returns-clause-fits c =
    let ss = c.args.sessions.now in
    let s = c.args.ops.now in
    let asks : c.asks-asks.result.now ≡ s.line = c.asks-asks.ensures.asks ∙ c.line.ensures.line in
    let same = c.are_last_requests.ensures ∙ ap (list_all (is_last_of ss)) asks in (
      λ h. record {
        behind = subst (λ (l : List Asked). WaitsBehind (stage_of s.phase) l) c.line.ensures.line c.line.ensures.behind;
        few = subst (λ (l : List Asked). length l ≤ line_limit) asks c.asks-asks.ensures.few;
        apart = c.are_apart.ensures.0 c.if-not-are_apart.false;
        last = (asks_pass ss s.line).0 (sym same ∙ c.if-not-are_last_requests.false);
        round = c.round_fits.ensures.0 h;
      },
      λ line. c.round_fits.ensures.1 line.round,
    )
