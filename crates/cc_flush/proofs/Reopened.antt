-- An engine that was opened and moved.
--     anew_after     it was written anew, unless no generation is left for that
use Rattle.std.proofs.Common.{◌≡◌, ◌⊎◌, ◌≤◌, ◌∷◌, inl, inr, sym, ◌∙◌, ap, subst}
use Rattle.cc_site.specs.declared.site.Site.{Ghosts}
use Rattle.cc_site.specs.Sides.{durable, other}
use Rattle.cc_node_state.specs.Sides.{OPEN}
use Rattle.cc_checkpoint.specs.Checkpoints.{image_of}
use Rattle.cc_node.specs.Node.{Node}
use Rattle.cc_views.specs.Limits.{counter_limit}
use Rattle.cc_flush.specs.declared.opened.Opened.{Opened}
use Rattle.cc_flush.specs.Engine.{Engine}
use Rattle.cc_flush.specs.Checkpoints.{Moves}
use Rattle.cc_flush.specs.Reopenings.{IsAnew}

pub anew_after : {D : Type 0} (s : Ghosts D) (old new : Engine D) → old.opened.side ≡ old.at.side → new.opened ≡ old.opened → new.twin ≡ old.twin
    → s.honest old.site → ((counter_limit ≤ old.generation) × (new ≡ old)) ⊎ Moves s old new → IsAnew s new
anew_after s old new in_use opened twin honest (inl stays) = inl (subst (λ (e : Engine _). counter_limit ≤ e.generation) (sym stays.1) stays.0)
anew_after s old new in_use opened twin honest (inr moves) = inr (record {
  side = moves.side ∙ sym (ap (λ (o : Opened). other o.side) opened ∙ ap other in_use);
  holds = subst (λ (n : Node). s.state new.site new.at.side ≡ durable (OPEN ∷ image_of new.generation n)) (sym twin) (moves.holds honest);
})
