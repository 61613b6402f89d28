use Rattle.std.proofs.Common.{ap, ◌∙◌, sym, Some}
use Rattle.cc_views.specs.Tables.{get-at, get-gap}
use Rattle.cc_links.specs.declared.link_row.LinkRow.{LinkRow}
use Rattle.cc_links.specs.Rows.{entry_of, link_of}
use Rattle.cc_links.proofs.links.Links.get.Goals as goal

pub returns-in-Ok-clause-link : goal.returns-in-Ok-clause-link
returns-in-Ok-clause-link c =
    let there = rw c.deref.ensures.value at c.in-Ok.ensures in
    rw (← c.self.view_is) (ap (λ (r : LinkRow). Some (link_of r)) c.index.ensures ∙ sym (get-at entry_of _ c.self.invariant.rising _ _ there _))

pub returns-in-Err-clause-link : goal.returns-in-Err-clause-link
returns-in-Err-clause-link c = rw (← c.self.view_is) (sym (get-gap entry_of _ _ _ (rw c.deref.ensures.value at c.in-Err.ensures)))
