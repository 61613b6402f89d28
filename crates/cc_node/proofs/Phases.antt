-- What a pending operation's stage says of its phase.
--     stores_back              a read that stores back what it has seen
--     all_write, all_read      tests of each ask, and what they say
--     beside_idle, ..          the others of a round are of its kind
use Rattle.std.proofs.Common.{◌≡◌, Bool, true, false, not, List, [], ◌∷◌, refl, subst}
use Rattle.std.specs.Prelude.{◌↔◌, Some, IsTrue, IsFalse}
use Rattle.std.specs.List.{list_all, AllByRecursion}
use Rattle.std.proofs.lemmas.Bool.{and_parts, and_from, not-true, not_from_false}
use Rattle.cc_views.specs.NatSets.{IsWithin}
use Rattle.cc_views.specs.Rows.{ViewMap}
use Rattle.cc_links.specs.Links.{Links}
use Rattle.cc_ops.specs.Commands.{is_writing}
use Rattle.cc_ops.specs.Ops.{Phase, Idle, Storing, Querying, StoringBack, seen_in}
use Rattle.cc_ops.specs.Stages.{stage_of}
use Rattle.cc_ops.specs.declared.pending_operation.Asked.{Asked}
use Rattle.cc_ops.specs.declared.pending_operation.Pending.{Pending}
use Rattle.cc_ops.specs.declared.stage.Stage.TheVariants as stage
use Rattle.cc_sessions.specs.Sessions.{Requests}
use Rattle.cc_node.specs.Lawful.{IsPendingIn, IsPhaseOf, IsBeside}

module _ (ls : Links) (ss : Requests) (p : Pending) (is_known : Bool) (read : IsPendingIn ss p × IsFalse (is_writing p.asked.command)) where
  second_round : (q : Pending) (seen : ViewMap) → p ≡ q → IsTrue is_known ↔ IsWithin seen ls → IsTrue is_known ↔ IsPhaseOf ls ss (StoringBack q seen)
  second_round q seen same known =
      subst (λ (r : Pending). IsTrue is_known ↔ IsPhaseOf ls ss (StoringBack r seen)) same (λ h. (read.0, read.1, known.0 h), λ h. known.1 h.2)

  -- a read that stores back what it has seen
  pub stores_back : (phase : Phase) → stage.StoringBack p ≡ stage_of phase → ((seen : ViewMap) → seen_in phase ≡ Some seen → IsTrue is_known ↔ IsWithin seen ls)
      → IsTrue is_known ↔ IsPhaseOf ls ss phase
  stores_back (StoringBack q seen) e known = let same : p ≡ q = cc in second_round q seen same (known seen refl)
  stores_back _ e known = absurd cc

-- ---- the others of a round

abbrev pub IsOfKind : Bool → List Asked → Type 0
IsOfKind kind asks = AllByRecursion (λ a. is_writing a.command ≡ kind) asks

pub all_write : (asks : List Asked) → IsTrue (list_all (λ (a : Asked). is_writing a.command) asks) ↔ IsOfKind true asks
all_write [] = (λ h. tt, λ h. refl)
all_write (a ∷ asks) = (
  λ h. let both = and_parts _ _ h in (both.0, (all_write asks).0 both.1),
  λ h. and_from _ _ h.0 ((all_write asks).1 h.1),
)

pub all_read : (asks : List Asked) → IsTrue (list_all (λ (a : Asked). not (is_writing a.command)) asks) ↔ IsOfKind false asks
all_read [] = (λ h. tt, λ h. refl)
all_read (a ∷ asks) = (
  λ h. let both = and_parts _ _ h in (not-true _ both.0, (all_read asks).0 both.1),
  λ h. and_from _ _ (not_from_false _ h.0) ((all_read asks).1 h.1),
)

module _ (others : List Asked) where
  pub beside_idle : (phase : Phase) → stage.Idle ≡ stage_of phase → (others ≡ []) ↔ IsBeside phase others
  beside_idle Idle e = (λ h. h, λ h. h)
  beside_idle _ e = absurd cc

  pub beside_writes : (p : Pending) (phase : Phase) → stage.Storing p ≡ stage_of phase
      → IsTrue (list_all (λ (a : Asked). is_writing a.command) others) ↔ IsBeside phase others
  beside_writes p (Storing q) e = all_write others
  beside_writes p _ e = absurd cc

  pub beside_query : (p : Pending) (phase : Phase) → stage.Querying p ≡ stage_of phase
      → IsTrue (list_all (λ (a : Asked). not (is_writing a.command)) others) ↔ IsBeside phase others
  beside_query p (Querying q) e = all_read others
  beside_query p _ e = absurd cc

  pub beside_seen : (p : Pending) (phase : Phase) → stage.StoringBack p ≡ stage_of phase
      → IsTrue (list_all (λ (a : Asked). not (is_writing a.command)) others) ↔ IsBeside phase others
  beside_seen p (StoringBack q seen) e = all_read others
  beside_seen p _ e = absurd cc
