-- All lives of a node are one history.
--     later_made     what was made from a later point on, or stood there, was made from the start on
--     join           the lives of a lawful node, and the list of events that they are
use Rattle.std.proofs.Common.{◌≡◌, ◌⊎◌, inl, inr, ℕ, List, [], ◌∷◌, ◌++◌, take, drop, refl, sym, subst, ◌∙◌, arith, take-append-drop}
use Rattle.std.specs.List.{Contains}
use Rattle.std.proofs.lemmas.List.Elements.{Contains-append_right, Contains-append_cases}
use Rattle.cc_messages.specs.declared.event.Event.{Event}
use Rattle.cc_messages.specs.declared.output.Output.{Output}
use Rattle.cc_site.specs.declared.site.Side.TheVariants.{A, B}
use Rattle.cc_node.specs.Node.{Node, after, line, MayBeOut, IsLawful}
use Rattle.cc_node.specs.Lawful.{IsLawfulNode}
use Rattle.cc_node.specs.Histories.{after-append, line-append, IsLawful-append, lawful_parts, made_more}
use Rattle.cc_node_state.specs.Sides.{Stands}
use Rattle.cc_node.proofs.FreshLaws.{after_lawful}
use Rattle.cc_node.proofs.StandingLaws.{standing_made}
use Rattle.cc_laws.specs.Lives.{Life, LivesFrom, put_by, put_along, IsHistoryOf}

later_made : (n : Node) (xs ys : List Event) (o : Output) → IsLawfulNode n → IsLawful n xs → MayBeOut (after n xs) ys o → MayBeOut n (xs ++ ys) o
later_made n xs ys o start lawful (inl stood) = made_more n xs ys o (standing_made n xs o start lawful stood)
later_made n xs ys o start lawful (inr new) =
    inr (subst (λ (l : List Output). Contains l o) (sym (line-append n xs ys)) (Contains-append_right (line n xs) (line (after n xs) ys) o new))

none_put : (n : Node) (o : Output) → Contains [] o → MayBeOut n [] o
none_put n o has = absurd (omega (arith, has.1))

abbrev pub OneNode : Type 0
OneNode = (a b : List ℕ) (n m : Node) → Stands a b n → Stands a b m → n ≡ m

module _ (one_node : OneNode) where
  pub join : (n : Node) (ls : List Life) (m : Node) → IsLawfulNode n → LivesFrom n ls m → (es : List Event) × IsHistoryOf n ls m es
  join n [] m start lives = ([], record { lawful = tt; leads_to = lives; made = none_put n; parts = refl })
  join n (l ∷ ls) m start lives =
      let good = lives.0.good in
      let front = take good.prefix l.events in
      let back = drop good.prefix l.events in
      let lawful = (lawful_parts n front back (subst (IsLawful n) (sym (take-append-drop good.prefix l.events)) lives.0.lawful)).0 in
      let opened : lives.1 ≡ after n front = one_node (l.left A) (l.left B) lives.1 (after n front) lives.2 good.stands in
      let rest = join (after n front) ls m (after_lawful n front lawful start) (subst (λ (next : Node). LivesFrom next ls m) opened lives.3) in (
        front ++ rest.0,
        record {
          lawful = IsLawful-append n front rest.0 lawful rest.1.lawful;
          leads_to = rest.1.leads_to ∙ sym (after-append n front rest.0);
          made = λ o has. either_made n front rest.0 o start lawful (put_by l) (put_along ls) (good.made o) (rest.1.made o)
              (Contains-append_cases (put_by l) (put_along ls) o has);
          parts = record {
            kept = good.prefix;
            has_durable = good.has_durable;
            within = good.within;
            opened = good.stands;
            rest = rest.0;
            parts = refl;
            follows = rest.1.parts;
          };
        },
      )
    where
      either_made : (n : Node) (xs ys : List Event) (o : Output) → IsLawfulNode n → IsLawful n xs → (first second : List Output)
          → (Contains first o → MayBeOut n xs o) → (Contains second o → MayBeOut (after n xs) ys o) → Contains first o ⊎ Contains second o
          → MayBeOut n (xs ++ ys) o
      either_made n xs ys o start lawful first second now later (inl here) = made_more n xs ys o (now here)
      either_made n xs ys o start lawful first second now later (inr there) = later_made n xs ys o start lawful (later there)
