-- The greeting of a connection between nodes, as bytes.
--     cluster_at                                     the name of a cluster: a text of its bytes
--     quorum_spelling, IsShare, quorum_at            a share that nodes count by
--     hello_spelling, IsHello, hello_at              what a node greets another with
--     reason_spelling, reason_at                     why a node isn't taken
use Rattle.std.specs.Prelude.{◌≡◌, ℕ, ◌<◌, ◌^◌, List, [], ◌∷◌, ◌++◌, Bool, true, Option, Some, None, Result, Ok, Err, ◌==◌, ◌||◌, nat_lt, if◌then◌else◌}
use Rattle.std.specs.Int.{w32, w64, to_be_bytes}
use Rattle.std.specs.List.{list_all}
use Rattle.cc_changes.specs.declared.fraction.Fraction.{Fraction}
use Rattle.cc_changes.specs.Need.{IsShare}
use Rattle.cc_connections.specs.Hosts.{is_name_byte}
use Rattle.cc_connections.specs.Clusters.{bad_byte}
use Rattle.cc_wire.specs.declared.fault.WireFault.{WireFault}
use Rattle.cc_wire.specs.declared.fault.WireFault.TheVariants.{BadKind, NotAscending}
use Rattle.cc_wire.specs.Readers.{◌>>=◌, Reading, ◌⊗◌, via, nothing_at, kinded, number_at, number_from, text_at}
use Rattle.cc_wire.specs.Spellings.{text_spelling, IsText, IsId}
use Rattle.cc_connections.specs.declared.hello.Hello.{Hello}
use Rattle.cc_connections.specs.declared.hello.Reason.{Reason}
use Rattle.cc_connections.specs.declared.hello.Reason.TheVariants as reasons

-- ---- the name of a cluster

pub record IsName (name : List ℕ) : Type 0 where
  pub text : IsText name
  pub named : list_all is_name_byte name ≡ true

abbrev pub unless_bad : List ℕ × List ℕ → Option ℕ → Result (List ℕ × List ℕ) WireFault
unless_bad name None = Ok name
unless_bad name (Some byte) = Err (BadKind byte)

unfoldable pub cluster_at : Reading (List ℕ)
cluster_at bytes = text_at bytes >>= λ name. unless_bad name (bad_byte name.0)

-- ---- a share that nodes count by

abbrev pub quorum_spelling : Fraction → List ℕ
quorum_spelling share = to_be_bytes w32 share.num ++ to_be_bytes w32 share.den

pub record IsQuorum (share : Fraction) : Type 0 where
  pub is_share : IsShare share
  pub fits : share.den < 2 ^ 32

abbrev pub quorum_with : ℕ × ℕ → Fraction
quorum_with f = record { num = f.0; den = f.1 }

-- 0, or more than the whole
abbrev pub is_no_share : ℕ × ℕ → Bool
is_no_share f = nat_lt f.0 1 || nat_lt f.1 f.0

unfoldable pub quorum_at : Reading Fraction
quorum_at = via quorum_with (λ bytes. (number_at w32 ⊗ number_at w32) bytes >>= λ f. if is_no_share f.0 then Err NotAscending else Ok f)

-- ---- what a node greets another with

-- who it is for whom, what both count by, and what tells this node and this run of it from others
abbrev pub nodes_spelling : Hello → List ℕ
nodes_spelling h = to_be_bytes w32 h.from ++ to_be_bytes w32 h.to

abbrev pub quorums_spelling : Hello → List ℕ
quorums_spelling h = quorum_spelling h.beta ++ quorum_spelling h.gamma

abbrev pub marks_spelling : Hello → List ℕ
marks_spelling h = to_be_bytes w64 h.birth ++ (to_be_bytes w64 h.run ++ to_be_bytes w64 h.heard)

abbrev pub hello_spelling : Hello → List ℕ
hello_spelling h = text_spelling h.cluster ++ (nodes_spelling h ++ (quorums_spelling h ++ marks_spelling h))

pub record IsHello (h : Hello) : Type 0 where
  pub cluster : IsName h.cluster
  pub sender : IsId h.from
  pub receiver : IsId h.to
  pub beta : IsQuorum h.beta
  pub gamma : IsQuorum h.gamma
  pub birth : h.birth < 2 ^ 64
  pub run : h.run < 2 ^ 64
  pub heard : h.heard < 2 ^ 64

abbrev pub nodes_at : Reading (ℕ × ℕ)
nodes_at = number_from 1 ⊗ number_from 1

abbrev pub quorums_at : Reading (Fraction × Fraction)
quorums_at = quorum_at ⊗ quorum_at

abbrev pub marks_at : Reading (ℕ × (ℕ × ℕ))
marks_at = number_at w64 ⊗ number_at w64 ⊗ number_at w64

abbrev pub hello_with : List ℕ × ((ℕ × ℕ) × ((Fraction × Fraction) × (ℕ × (ℕ × ℕ)))) → Hello
hello_with f = record {
  cluster = f.0;
  from = f.1.0.0;
  to = f.1.0.1;
  beta = f.1.1.0.0;
  gamma = f.1.1.0.1;
  birth = f.1.1.1.0;
  run = f.1.1.1.1.0;
  heard = f.1.1.1.1.1;
}

unfoldable pub hello_at : Reading Hello
hello_at = via hello_with (cluster_at ⊗ nodes_at ⊗ quorums_at ⊗ marks_at)

-- ---- why a node isn't taken

abbrev pub reason_spelling : Reason → List ℕ
reason_spelling reasons.OtherCluster = 1 ∷ []
reason_spelling reasons.OtherNode = 2 ∷ []
reason_spelling reasons.OwnId = 3 ∷ []
reason_spelling reasons.OtherBirth = 4 ∷ []
reason_spelling reasons.OtherQuorums = 5 ∷ []
reason_spelling reasons.HasLeft = 6 ∷ []

abbrev pub reason_fields : ℕ → Reading Reason
reason_fields kind =
    if kind == 1 then via (λ _. reasons.OtherCluster) nothing_at
    else (if kind == 2 then via (λ _. reasons.OtherNode) nothing_at
    else (if kind == 3 then via (λ _. reasons.OwnId) nothing_at
    else (if kind == 4 then via (λ _. reasons.OtherBirth) nothing_at
    else (if kind == 5 then via (λ _. reasons.OtherQuorums) nothing_at
    else (if kind == 6 then via (λ _. reasons.HasLeft) nothing_at
    else (λ bytes. Err (BadKind kind)))))))

unfoldable pub reason_at : Reading Reason
reason_at = kinded reason_fields

-- the reason, and the node that doesn't take the other
abbrev pub unwelcome_spelling : Reason → ℕ → List ℕ
unwelcome_spelling reason node = reason_spelling reason ++ to_be_bytes w32 node

abbrev pub unwelcome_at : Reading (Reason × ℕ)
unwelcome_at = reason_at ⊗ number_from 1
