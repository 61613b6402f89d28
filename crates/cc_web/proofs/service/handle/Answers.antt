use Rattle.std.proofs.Common.{◌≡◌, [], Result, refl, sym, subst, ◌∙◌}
use Rattle.cc_web.specs.declared.fault.WebFault.{WebFault}
use Rattle.cc_web.specs.declared.order.WebOrder.{WebOrder}
use Rattle.cc_web.specs.declared.problem.Problem.TheVariants as problem
use Rattle.cc_web.specs.declared.reply.Reply.TheVariants as replies
use Rattle.cc_web.specs.Services.{Handles}
use Rattle.cc_web.proofs.service.handle.Goals as goal

pub returns-in-Ok : goal.returns-in-Ok
returns-in-Ok g c =
    let t = c.carry_out.ensures in
    (t.0, t.1, subst (λ (o : Result WebOrder WebFault). Handles o t.0 c.carry_out.result) (sym c.in-Ok.is ∙ c.order_in.ensures) t.2)

pub returns-in-Err : goal.returns-in-Err
returns-in-Err g c = (
  [],
  refl,
  subst (λ (o : Result WebOrder WebFault). Handles o [] (replies.Problem (problem.Fault c.in-Err.why))) (sym c.in-Err.is ∙ c.order_in.ensures) (refl, refl),
)
