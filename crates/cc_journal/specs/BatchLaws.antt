-- Batches, one behind the other.
--     after_both                           the node that both lead to
--     lawful_both                          two batches that are lawful one after the other
--     lawful_front, lawful_rest            the first of them;  those behind
--     lawful_more, core_more               one entry more, and the core that it leads to
use Rattle.std.specs.Prelude.{◌≡◌, List, [], ◌∷◌, ◌++◌, None, refl}
use Rattle.cc_node.specs.Core.{next, made}
use Rattle.cc_node.specs.Node.{Node, after, step}
use Rattle.cc_node.specs.Refusals.{decides}
use Rattle.cc_journal.specs.declared.entry.Entry.{Entry}
use Rattle.cc_journal.specs.Batches.{AreLawful, events_in}

pub after_both : (n : Node) (xs ys : List Entry) → after n (events_in (xs ++ ys)) ≡ after (after n (events_in xs)) (events_in ys)
after_both n [] ys = refl
after_both n (x ∷ xs) ys = after_both (step n x.event) xs ys

pub lawful_both : (n : Node) (xs ys : List Entry) → AreLawful n xs → AreLawful (after n (events_in xs)) ys → AreLawful n (xs ++ ys)
lawful_both n [] ys a b = b
lawful_both n (x ∷ xs) ys a b = (a.0, a.1, lawful_both (step n x.event) xs ys a.2 b)

pub lawful_front : (n : Node) (xs ys : List Entry) → AreLawful n (xs ++ ys) → AreLawful n xs
lawful_front n [] ys a = tt
lawful_front n (x ∷ xs) ys a = (a.0, a.1, lawful_front (step n x.event) xs ys a.2)

pub lawful_rest : (n : Node) (xs ys : List Entry) → AreLawful n (xs ++ ys) → AreLawful (after n (events_in xs)) ys
lawful_rest n [] ys a = a
lawful_rest n (x ∷ xs) ys a = lawful_rest (step n x.event) xs ys a.2

pub lawful_more : (n : Node) (xs : List Entry) (x : Entry) → AreLawful n xs → decides (after n (events_in xs)).core x.event ≡ None
    → x.made ≡ made (after n (events_in xs)).core x.event → AreLawful n (xs ++ x ∷ [])
lawful_more n xs x lawful taken made_is = lawful_both n xs (x ∷ []) lawful (taken, made_is, tt)

core_stepped : (n : Node) (x : Entry) → (step n x.event).core ≡ next n.core x.event
unfolding step
core_stepped n x = refl

pub core_more : (n : Node) (xs : List Entry) (x : Entry) → (after n (events_in (xs ++ x ∷ []))).core ≡ next (after n (events_in xs)).core x.event
core_more n [] x = core_stepped n x
core_more n (y ∷ xs) x = core_more (step n y.event) xs x
