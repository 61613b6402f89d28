-- How a node begins.
--     Opening, told    what a node is told of itself and of others, and the same of one with references
--     IsOpening o      a node can begin so
--     fresh o          the node that it begins as
use Rattle.std.specs.Prelude.{◌≡◌, ℕ, ◌≤◌, ◌⊎◌, List, [], ◌∷◌, ◌++◌}
use Rattle.std.specs.List.{Contains}
use Rattle.std.specs.List.Sorted.{IsStrictlyIncreasing}
use Rattle.std.specs.FinMap as table
use Rattle.cc_views.specs.Limits.{known_limit}
use Rattle.cc_views.specs.NatSets as set
use Rattle.cc_changes.specs.declared.fraction.Fraction.{Fraction}
use Rattle.cc_ops.specs.Ops.{nothing_done}
use Rattle.cc_outbox.specs.Outbox.{starting_after}
use Rattle.cc_links.specs.Links.{add_all}
use Rattle.cc_node.specs.Node.{Node}
use Rattle.cc_messages.specs.Shares.{share_limit}
use Rattle.cc_changes.specs.Need.{IsShare}
use Rattle.cc_node.specs.declared.opening.Opening.{Opening as Told}

pub record Opening : Type 0 where
  pub me : ℕ
  -- who has joined from the start, empty for a node that enters later
  pub initial : List ℕ
  -- whom else it can reach
  pub contacts : List ℕ
  pub beta : Fraction
  pub gamma : Fraction
  -- how many asks of one kind begin together at most
  pub share : ℕ

-- an opening, without the references
abbrev pub told : Told → Opening
told o = record { me = o.me; initial = o.initial.now; contacts = o.contacts.now; beta = o.beta; gamma = o.gamma; share = o.share }

abbrev pub ids_of : Opening → List ℕ
ids_of o = o.me ∷ o.initial ++ o.contacts

pub record IsOpening (o : Opening) : Type 0 where
  pub no_zero : ¬ (Contains (ids_of o) 0)
  pub initial_ascends : IsStrictlyIncreasing o.initial
  pub contacts_ascend : IsStrictlyIncreasing o.contacts
  pub own_initial : (o.initial ≡ []) ⊎ Contains o.initial o.me
  pub no_own_contact : ¬ (Contains o.contacts o.me)
  pub few : set.len (set.from_list (ids_of o)) ≤ known_limit
  pub beta : IsShare o.beta
  pub gamma : IsShare o.gamma
  pub some : 1 ≤ o.share
  pub most : o.share ≤ share_limit

unfoldable pub fresh : Opening → Node
fresh o = record {
  core = record {
    me = o.me;
    beta = o.beta;
    gamma = o.gamma;
    churn = record {
      changes = record { entered = set.from_list o.initial; joined = set.from_list o.initial; left = set.empty };
      echoes = 0;
      need = 0;
    };
    ops = nothing_done o.share;
    posts = 0;
    links = add_all 0 (ids_of o) table.empty;
    sessions = table.empty;
  };
  outbox = starting_after 0;
}
