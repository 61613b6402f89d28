use Rattle.std.proofs.Common.{[], ◌∷◌, not, ◌&&◌, refl, sym, ap, ◌∙◌}
use Rattle.std.specs.Prelude.{◌==◌}
use Rattle.std.specs.Bool.{then_some}
use Rattle.std.specs.FinMap as table
use Rattle.cc_messages.specs.declared.refusal.Refusal.TheVariants as refusal
use Rattle.cc_node.specs.Core.{Core}
use Rattle.cc_node.specs.Refusals.{too_many_nodes}
use Rattle.cc_node.specs.contracts.node_core.Core.{the_view}
use Rattle.cc_node.proofs.Named.{has_link, one_too_many}
use Rattle.cc_node.proofs.node_core.Core.knows_too_many_with.Goals as goal

pub returns-then-is_some : goal.returns-then-is_some
returns-then-is_some c =
    let a = the_view c.self.inside in
    let q = c.args.node in
    let there = has_link _ c.get.result (table.get a.links q) c.get.ensures.link ∙ sym c.is_some.ensures ∙ c.if-is_some.true in
    sym (ap (λ b. then_some b refusal.TooManyNodes)
    (one_too_many a.posts q a.links (table.get a.links q) refl c.self.invariant.link_count ∙ ap (λ b. not b && (table.len a.links == 256)) there))
    ∙ ap (λ (s : Core). too_many_nodes s (q ∷ [])) c.self.view_is

pub returns : goal.returns
returns c =
    let a = the_view c.self.inside in
    let q = c.args.node in
    let none = has_link _ c.get.result (table.get a.links q) c.get.ensures.link ∙ sym c.is_some.ensures ∙ c.if-is_some.false in
    ap (λ n. then_some (n == 256) refusal.TooManyNodes) c.len.ensures.len
    ∙ sym (ap (λ b. then_some b refusal.TooManyNodes)
    (one_too_many a.posts q a.links (table.get a.links q) refl c.self.invariant.link_count ∙ ap (λ b. not b && (table.len a.links == 256)) none))
    ∙ ap (λ (s : Core). too_many_nodes s (q ∷ [])) c.self.view_is
