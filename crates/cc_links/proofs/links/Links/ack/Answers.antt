use Rattle.std.proofs.Common.{refl}
use Rattle.cc_links.proofs.ChangedRows.{table_kept, link_changed, link_unchanged}
use Rattle.cc_links.proofs.links.Links.ack.Goals as goal

pub invariant_of-self : goal.invariant_of-self
invariant_of-self c = table_kept _ _ c.self.invariant _ _ (rw c.deref.ensures.value at c.in-Ok.ensures) _ _ c.index_mut.ensures.value refl

pub returns-in-Ok : goal.returns-in-Ok
returns-in-Ok c =
    link_changed _ _ c.self.invariant _ _ (rw c.deref.ensures.value at c.in-Ok.ensures) _ _ c.index_mut.ensures.value refl
    (λ l. record l { acked = c.args.n }) refl _ c.self.view_is

pub returns-in_default : goal.returns-in_default
returns-in_default c = link_unchanged _ _ c.self.invariant _ _ (rw c.deref.ensures.value at c.in_default.ensures) (λ l. record l { acked = c.args.n }) _
    c.self.view_is
