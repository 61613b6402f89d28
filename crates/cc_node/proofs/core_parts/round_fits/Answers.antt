use Rattle.std.proofs.Common.{◌≡◌, List, arith, ap, sym, subst, ◌∙◌}
use Rattle.std.specs.List.{list_all}
use Rattle.cc_ops.specs.declared.pending_operation.Asked.{Asked}
use Rattle.cc_node.specs.Lawful.{IsBeside}
use Rattle.cc_node.specs.Parts.{is_last_of}
use Rattle.cc_node.proofs.RestoredRows.{asks_pass}
use Rattle.cc_node.proofs.core_parts.round_fits.Goals as goal

pub returns : goal.returns
returns c =
    let ss = c.args.sessions.now in
    let s = c.args.ops.now in
    let asks : c.asks.result.now ≡ s.others = c.asks.ensures.asks ∙ c.others.ensures.others in
    let asks-2 : c.asks-2.result.now ≡ s.others = c.asks-2.ensures.asks ∙ c.others-2.ensures.others in
    let same = c.are_last_requests.ensures ∙ ap (list_all (is_last_of ss)) asks-2 in (
      λ h. record {
        some = omega (arith, c.share.ensures.share, c.share.ensures.some);
        most = omega (arith, c.share.ensures.share, c.share.ensures.few);
        few = rw (c.others.ensures.others) at c.others.ensures.few;
        alike = subst (λ (l : List Asked). IsBeside s.phase l) asks (c.are_beside.ensures.0 c.if-not-are_beside.false);
        last = (asks_pass ss s.others).0 (sym same ∙ h);
      },
      λ round. same ∙ (asks_pass ss s.others).1 round.last,
    )
