use Rattle.std.proofs.Common.{ap, refl, ◌∙◌, arith}
use Rattle.std.specs.Ordering.{nat_cmp}
use Rattle.std.specs.FinMap.{FinMap}
use Rattle.cc_messages.specs.declared.answer.Answer.{Answer}
use Rattle.cc_outbox.specs.Outbox.{Outbox}
use Rattle.cc_outbox.specs.Rows.{entry_of}
use Rattle.cc_node_state.proofs.Restored.{row_came, all_in, one_more_fits}
use Rattle.cc_node_state.proofs.restored_node.keep_answers.Goals as goal

pub loop-kept-init : goal.loop-kept-init
loop-kept-init c = record {
  came = record { parts = c.into_iter-kept-iterator.ensures.into_iter_gives.0; table = c.requires.none };
  beside = refl;
}

pub keep-requires : goal.keep-requires
keep-requires c = one_more_fits entry_of c.requires.rising c.in-Some.ensures.steps.0 c.loop-kept.invariant.came 256 c.requires.few

pub loop-kept-preserved : goal.loop-kept-preserved
loop-kept-preserved c = record {
  came = row_came entry_of c.requires.rising c.in-Some.ensures.steps.0 c.loop-kept.invariant.came (ap (λ (o : Outbox). o.answers) c.keep.ensures);
  beside = rw c.keep.ensures (rw c.loop-kept.invariant.beside refl);
}

pub returns : goal.returns
returns c =
    let all = all_in entry_of c.loop-kept.invariant.came (omega (arith, c.in-None.ensures.steps.0, c.loop-kept.kept-iterator.rest.ok)) in
    c.loop-kept.invariant.beside ∙ ap (λ (kept : FinMap nat_cmp Answer). record c.args.outbox.now { answers = kept }) all
