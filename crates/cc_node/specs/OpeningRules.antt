-- The rules of a node's beginning.
--     Breaks                    a beginning breaks that rule
--     earlier, KeepsEarlier     the rules that come before one;  a beginning keeps these
--     fault_text                what is printed of a beginning that no node has
use Rattle.std.specs.Prelude.{◌≡◌, ◌≤◌, ◌⊎◌, ℕ, List, [], ◌∷◌, codes}
use Rattle.std.specs.List.{AllByRecursion, Contains}
use Rattle.std.specs.List.Sorted.{IsStrictlyIncreasing}
use Rattle.cc_views.specs.Limits.{known_limit}
use Rattle.cc_views.specs.NatSets as set
use Rattle.cc_changes.specs.Need.{IsShare}
use Rattle.cc_node.specs.Openings.{Opening, ids_of}
use Rattle.cc_messages.specs.Shares.{share_limit}
use Rattle.cc_node.specs.declared.opening.OpeningRule.{OpeningRule}
use Rattle.cc_node.specs.declared.opening.OpeningRule.TheVariants as rule
use Rattle.cc_node.specs.declared.opening.Fresh.{Fresh}
use Rattle.cc_node.specs.declared.opening.Fresh.TheVariants.{BadOpening, NoMemory}

abbrev pub Breaks : Opening → OpeningRule → Type 0
Breaks o rule.Beta = ¬ (IsShare o.beta)
Breaks o rule.Gamma = ¬ (IsShare o.gamma)
Breaks o rule.Initial = ¬ (IsStrictlyIncreasing o.initial)
Breaks o rule.Contacts = ¬ (IsStrictlyIncreasing o.contacts)
Breaks o rule.Member = ¬ ((o.initial ≡ []) ⊎ Contains o.initial o.me)
Breaks o rule.OwnContact = Contains o.contacts o.me
Breaks o rule.Zero = Contains (ids_of o) 0
Breaks o rule.Share = ¬ ((1 ≤ o.share) × (o.share ≤ share_limit))
Breaks o rule.Many = ¬ (set.len (set.from_list (ids_of o)) ≤ known_limit)

-- in the order in which they are looked at
abbrev pub earlier : OpeningRule → List OpeningRule
earlier rule.Beta = []
earlier rule.Gamma = rule.Beta ∷ []
earlier rule.Initial = rule.Beta ∷ rule.Gamma ∷ []
earlier rule.Contacts = rule.Beta ∷ rule.Gamma ∷ rule.Initial ∷ []
earlier rule.Member = rule.Beta ∷ rule.Gamma ∷ rule.Initial ∷ rule.Contacts ∷ []
earlier rule.OwnContact = rule.Beta ∷ rule.Gamma ∷ rule.Initial ∷ rule.Contacts ∷ rule.Member ∷ []
earlier rule.Zero = rule.Beta ∷ rule.Gamma ∷ rule.Initial ∷ rule.Contacts ∷ rule.Member ∷ rule.OwnContact ∷ []
earlier rule.Share = rule.Beta ∷ rule.Gamma ∷ rule.Initial ∷ rule.Contacts ∷ rule.Member ∷ rule.OwnContact ∷ rule.Zero ∷ []
earlier rule.Many =
    rule.Beta ∷ rule.Gamma ∷ rule.Initial ∷ rule.Contacts ∷ rule.Member ∷ rule.OwnContact ∷ rule.Zero ∷ rule.Share ∷ []

abbrev pub KeepsEarlier : Opening → OpeningRule → Type 0
KeepsEarlier o broken = AllByRecursion (λ before. ¬ (Breaks o before)) (earlier broken)

abbrev pub fault_text : Fresh → List ℕ
fault_text BadOpening = codes "BadOpening"
fault_text NoMemory = codes "NoMemory"
