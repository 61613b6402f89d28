-- An output of a line is made by an event of the list.
--     made_in
use Rattle.std.proofs.Common.{inl, inr, List, [], ◌∷◌, refl, ap, arith}
use Rattle.std.specs.List.{Contains}
use Rattle.std.proofs.lemmas.List.Elements.{Contains-append_cases}
use Rattle.cc_messages.specs.declared.event.Event.{Event}
use Rattle.cc_messages.specs.declared.output.Output.{Output}
use Rattle.cc_node.specs.Core.{outputs}
use Rattle.cc_node.specs.Node.{Node, step, line}
use Rattle.cc_laws.specs.Histories.{IsMadeIn}

pub made_in : (n : Node) (es : List Event) (o : Output) → Contains (line n es) o → IsMadeIn n es o
made_in n [] o has = absurd (omega (arith, has.1))
made_in n (e ∷ es) o has =
    elim (Contains-append_cases (outputs n.core e) (line (step n e) es) o has) as (λ _. IsMadeIn n (e ∷ es) o) [
      | inl here ↦ record { before = []; event = e; later = es; parts = refl; makes = here }
      | inr there ↦
          let made = made_in (step n e) es o there in
          record { before = e ∷ made.before; event = made.event; later = made.later; parts = ap (λ (l : List Event). e ∷ l) made.parts; makes = made.makes }
    ]
