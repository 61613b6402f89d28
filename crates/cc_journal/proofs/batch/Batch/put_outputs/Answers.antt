use Rattle.std.proofs.Common.{◌≡◌, List, ◌∷◌, ◌++◌, ◌∙◌, refl, sym, ap, subst, arith}
use Rattle.std.proofs.lemmas.List.{take_all}
use Rattle.arrayvec.specs.Iter.{drain_items}
use Rattle.cc_node.specs.Core.{outputs}
use Rattle.cc_node.specs.Node.{after, line}
use Rattle.cc_journal.specs.declared.entry.Entry.{Entry}
use Rattle.cc_journal.specs.Batches.{AreLawful, events_in}
use Rattle.cc_journal.proofs.Puts.{HasPut, put_none, put_more}
use Rattle.cc_journal.proofs.batch.Batch.put_outputs.Goals as goal

pub loop-entry-init : goal.loop-entry-init
loop-entry-init g c =
    let s = g.S.Site in
    let node = c.args.node.now in
    let all : drain_items c.into_iter-entry-iterator.result ≡ c.args.self.now =
    ap (λ d. drain_items d) c.into_iter-entry-iterator.ensures.into_iter_gives ∙ c.drain-entry-items.ensures.rest
    ∙ take_all _ c.self.inside.entries.items (omega arith) ∙ c.self.view_is in
    record {
      can = rw c.into_iter-entry-iterator.ensures.into_iter_gives c.drain-entry-items.ensures.ready;
      ends = tt;
      keeps = (refl, refl);
      leads = ap (λ (l : List Entry). after node (events_in l)) all;
      lawful = subst (AreLawful node) (sym all) c.requires;
      put = subst (λ (l : List Entry). HasPut s c.args.site.now c.args.site.now (line node (events_in c.args.self.now)) (line node (events_in l))) (sym all)
          (put_none s c.args.site.now _ (g.met.S.Site.only_now c.args.site.now));
    }

pub loop-entry-preserved : goal.loop-entry-preserved
loop-entry-preserved g c =
    let inv = c.loop-entry.invariant in
    let node = c.loop-entry.node in
    let entry = c.in-Some.entry in
    let left = drain_items c.next.new.self in
    let took : drain_items c.loop-entry.entry-iterator ≡ entry ∷ left = c.in-Some.ensures.steps.0 in
    let lawful = subst (AreLawful node) took inv.lawful in
    let stepped = c.put_entry.ensures.node in
    record {
      can = c.in-Some.ensures.goes.keeps;
      ends = tt;
      keeps = (c.in-Some.ensures.steps.1.0 ∙ inv.keeps.0, c.in-Some.ensures.steps.1.1 ∙ inv.keeps.1);
      leads = ap (λ n. after n (events_in left)) stepped ∙ ap (λ l. after node (events_in l)) (sym took) ∙ inv.leads;
      lawful = subst (λ n. AreLawful n left) (sym stepped) lawful.2;
      put = put_more g.S.Site _ _ _ _ _ _ _ inv.put
          (ap (λ l. line node (events_in l)) took ∙ ap (λ n. outputs node.core entry.event ++ line n (events_in left)) (sym stepped)) c.put_entry.ensures.puts;
    }
