-- Events after events.
--     after-append, line-append                      a list of events in two parts
--     IsLawful-append, lawful_parts                  it is lawful where both parts are
--     made_more                                      what was made in a prefix was made
use Rattle.std.proofs.Common.{◌≡◌, inl, inr, List, [], ◌∷◌, ◌++◌, refl, sym, ◌∙◌, ap, subst}
use Rattle.std.specs.List.{Contains}
use Rattle.std.proofs.lemmas.List.{append_assoc}
use Rattle.std.proofs.lemmas.List.Elements.{Contains-append_left}
use Rattle.cc_messages.specs.declared.event.Event.{Event}
use Rattle.cc_messages.specs.declared.output.Output.{Output}
use Rattle.cc_node.specs.Core.{outputs}
use Rattle.cc_node.specs.Node.{Node, step, after, line, IsLawful, MayBeOut}

pub after-append : (n : Node) (xs ys : List Event) → after n (xs ++ ys) ≡ after (after n xs) ys
after-append n [] ys = refl
after-append n (x ∷ xs) ys = after-append (step n x) xs ys

pub line-append : (n : Node) (xs ys : List Event) → line n (xs ++ ys) ≡ line n xs ++ line (after n xs) ys
line-append n [] ys = refl
line-append n (x ∷ xs) ys =
    ap (λ (l : List Output). outputs n.core x ++ l) (line-append (step n x) xs ys)
    ∙ sym (append_assoc (outputs n.core x) (line (step n x) xs) (line (after (step n x) xs) ys))

pub IsLawful-append : (n : Node) (xs ys : List Event) → IsLawful n xs → IsLawful (after n xs) ys → IsLawful n (xs ++ ys)
IsLawful-append n [] ys first second = second
IsLawful-append n (x ∷ xs) ys first second = (first.0, IsLawful-append (step n x) xs ys first.1 second)

pub lawful_parts : (n : Node) (xs ys : List Event) → IsLawful n (xs ++ ys) → IsLawful n xs × IsLawful (after n xs) ys
lawful_parts n [] ys all = (tt, all)
lawful_parts n (x ∷ xs) ys all = let rest = lawful_parts (step n x) xs ys all.1 in ((all.0, rest.0), rest.1)

pub made_more : (n : Node) (xs ys : List Event) (output : Output) → MayBeOut n xs output → MayBeOut n (xs ++ ys) output
made_more n xs ys output (inl stood) = inl stood
made_more n xs ys output (inr new) =
    inr (subst (λ (l : List Output). Contains l output) (sym (line-append n xs ys)) (Contains-append_left (line n xs) (line (after n xs) ys) output new))
