-- The text of a file that tells the node of a folder from others.
--     line_spelling                          a key, a blank and a word on a line, and what follows the line
--     IsLine, NoLine                         a text begins with a line of that key, of that word;  it doesn't
--     cluster_spelling, birth_spelling       the first line;  the second one
--     identity_spelling, SpellsIdentity      both
--     line_at_fault                          the line that a fault is of
--     IsBirthFault, IsIdentityFault          why a text is none
use Rattle.std.specs.Prelude.{◌≡◌, ◌≢◌, ◌≤◌, ◌<◌, ◌^◌, ◌==◌, ℕ, Bool, List, [], ◌∷◌, ◌++◌, length, slice_index, codes}
use Rattle.std.specs.Fmt.{decimal}
use Rattle.std.specs.List.{list_any}
use Rattle.cc_connections.specs.Clusters.{IsClusterName}
use Rattle.cc_command_line.specs.declared.identities.Identity.{Identity}
use Rattle.cc_command_line.specs.declared.identities.IdentityFault.{IdentityFault}
use Rattle.cc_command_line.specs.declared.identities.IdentityFault.TheVariants as fault

-- ---- lines

abbrev pub Lacks : ℕ → List ℕ → Type 0
Lacks byte text = (i : ℕ) → i < length text → slice_index text i ≢ byte

abbrev pub has_blank : List ℕ → Bool
has_blank text = list_any (λ b. b == 32) text

abbrev pub line_spelling : List ℕ → List ℕ → List ℕ → List ℕ
line_spelling key word rest = key ++ 32 ∷ (word ++ 10 ∷ rest)

pub record IsLine (key text word rest : List ℕ) : Type 0 where
  pub spelled : text ≡ line_spelling key word rest
  pub on_line : Lacks 10 word

abbrev pub NoLine : List ℕ → List ℕ → Type 0
NoLine key text = (word rest : List ℕ) → Lacks 10 word → text ≢ line_spelling key word rest

-- ---- an identity

-- a cluster that has a name
pub record IsNamed (name : List ℕ) : Type 0 where
  pub some : 1 ≤ length name
  pub is_name : IsClusterName name

abbrev pub cluster_spelling : List ℕ → List ℕ → List ℕ
cluster_spelling name rest = line_spelling (codes "cluster") name rest

abbrev pub birth_spelling : ℕ → List ℕ → List ℕ
birth_spelling birth rest = line_spelling (codes "birth") (decimal birth) rest

abbrev pub identity_spelling : Identity → List ℕ
identity_spelling i = cluster_spelling i.cluster (birth_spelling i.birth [])

pub record SpellsIdentity (text : List ℕ) (i : Identity) : Type 0 where
  pub named : IsNamed i.cluster
  pub spelled : text ≡ identity_spelling i

-- ---- faults

abbrev pub line_at_fault : IdentityFault → ℕ
line_at_fault fault.NoCluster = 1
line_at_fault fault.NoBirth = 2
line_at_fault fault.More = 3

pub record IsMore (text : List ℕ) : Type 0 where
  pub birth : ℕ
  pub more : List ℕ
  pub fits : birth < 2 ^ 64
  pub spelled : text ≡ birth_spelling birth more
  pub some : 1 ≤ length more

-- of what stands behind the first line
abbrev pub IsBirthFault : List ℕ → IdentityFault → Type 0
IsBirthFault text fault.NoCluster = ⊥
IsBirthFault text fault.NoBirth = (birth : ℕ) (rest : List ℕ) → birth < 2 ^ 64 → text ≢ birth_spelling birth rest
IsBirthFault text fault.More = IsMore text

pub record IsSecondFault (text : List ℕ) (e : IdentityFault) : Type 0 where
  pub name : List ℕ
  pub rest : List ℕ
  pub named : IsNamed name
  pub spelled : text ≡ cluster_spelling name rest
  pub bad : IsBirthFault rest e

abbrev pub IsIdentityFault : List ℕ → IdentityFault → Type 0
IsIdentityFault text fault.NoCluster = (name rest : List ℕ) → IsNamed name → text ≢ cluster_spelling name rest
IsIdentityFault text fault.NoBirth = IsSecondFault text fault.NoBirth
IsIdentityFault text fault.More = IsSecondFault text fault.More
