-- The greeting of a connection is read as it is spelled.
use Rattle.std.proofs.Common.{◌≡◌, ℕ, ◌≤◌, ◌<◌, true, false, cond, eqb, ltb, List, [], ◌∷◌, ◌++◌, Option, Some, None, Ok}
use Rattle.std.proofs.Common.{refl, subst, arith, inl, inr}
use Rattle.std.proofs.lemmas.Bool.{cases_Bool, ltb-false, le-ltb}
use Rattle.cc_changes.specs.declared.fraction.Fraction.{Fraction}
use Rattle.cc_connections.specs.Clusters.{bad_byte}
use Rattle.cc_connections.proofs.ClusterNames.{none_bad, all_good}
use Rattle.cc_wire.specs.declared.fault.WireFault.TheVariants.{NotAscending}
use Rattle.cc_wire.specs.Readers.{Reading, via, nothing_at, text_at}
use Rattle.cc_wire.specs.Spellings.{text_spelling, IsId}
use Rattle.cc_wire.proofs.Spelled.{IsBytes, bind_ok, ok_is, Takes, Spelled, both, as_fields, as_facts, tested, nothing_spelled, kind_or, kinded_takes}
use Rattle.cc_wire.proofs.Formats.{text_spelled, id_spelled, u32_spelled, u64_spelled}
use Rattle.cc_connections.specs.declared.hello.Hello.{Hello}
use Rattle.cc_connections.specs.declared.hello.Reason.{Reason}
use Rattle.cc_connections.specs.declared.hello.Reason.TheVariants as reasons
use Rattle.cc_connections.specs.Hellos.{IsName, unless_bad, cluster_at, quorum_spelling, IsQuorum, quorum_with, is_no_share, quorum_at, hello_spelling, IsHello}
use Rattle.cc_connections.specs.Hellos.{hello_with, hello_at, reason_spelling, reason_fields, reason_at, unwelcome_spelling, unwelcome_at}

-- ---- the name of a cluster

unless_ok : (name other : List ℕ × List ℕ) (bad : Option ℕ) → unless_bad name bad ≡ Ok other → (bad ≡ None) × (name ≡ other)
unless_ok name other None e = (refl, ok_is name other e)
unless_ok name other (Some byte) e = absurd cc

pub cluster_spelled : Spelled cluster_at IsName text_spelling
unfolding cluster_at
cluster_spelled = record {
  takes = λ bytes x rest fits e.
      let a = bind_ok (text_at bytes) (λ name. unless_bad name (bad_byte name.0)) (x, rest) e in
      let g = unless_ok a.0 (x, rest) (bad_byte a.0.0) a.2 in
      let t = text_spelled.takes bytes a.0.0 a.0.1 fits a.1 in
      subst (λ (y : List ℕ × List ℕ). Takes bytes (text_spelling y.0) y.1 × IsName y.0) g.1 (t.0, record { text = t.1; named = all_good a.0.0 g.0 });
  again = λ x rest is. rw (text_spelled.again x rest is.text, none_bad x is.named) refl;
}

-- ---- a share that nodes count by

share_of_test : (num den : ℕ) → is_no_share (num, den) ≡ false → (0 < num) × (num ≤ den)
share_of_test num den e =
    elim (cases_Bool (ltb num 1)) [
      | inl none ↦ absurd (let h : true ≡ false = rw none at e in cc)
      | inr some ↦ (omega (arith, ltb-false _ _ some), ltb-false _ _ (rw some at e))
    ]

test_of_share : (num den : ℕ) → 0 < num → num ≤ den → is_no_share (num, den) ≡ false
test_of_share num den above within = rw (le-ltb num 1 (omega (arith, above)), le-ltb den num within) refl

abbrev quorum_fields : Fraction → ℕ × ℕ
quorum_fields q = (q.num, q.den)

pub quorum_spelled : Spelled quorum_at IsQuorum quorum_spelling
unfolding quorum_at
quorum_spelled = as_facts IsQuorum
    (λ q h. record { is_share = record { above = h.1.0; within = h.1.1 }; fits = h.0.1 })
    (λ q h. ((omega (arith, h.is_share.within, h.fits), h.fits), (h.is_share.above, h.is_share.within)))
    (as_fields quorum_with quorum_fields (λ _. refl) (λ _ _. refl)
    (tested is_no_share NotAscending (λ f. (0 < f.0) × (f.0 ≤ f.1)) (λ f e. share_of_test f.0 f.1 e) (λ f h. test_of_share f.0 f.1 h.0 h.1)
    (both u32_spelled u32_spelled)))

-- ---- what a node greets another with

abbrev hello_fields : Hello → List ℕ × ((ℕ × ℕ) × ((Fraction × Fraction) × (ℕ × (ℕ × ℕ))))
hello_fields h = (h.cluster, ((h.from, h.to), ((h.beta, h.gamma), (h.birth, (h.run, h.heard)))))

pub hello_spelled : Spelled hello_at IsHello hello_spelling
unfolding hello_at
hello_spelled = as_facts IsHello
    (λ h is. record {
      cluster = is.0;
      sender = is.1.0.0;
      receiver = is.1.0.1;
      beta = is.1.1.0.0;
      gamma = is.1.1.0.1;
      birth = is.1.1.1.0;
      run = is.1.1.1.1.0;
      heard = is.1.1.1.1.1;
    })
    (λ h is. (is.cluster, ((is.sender, is.receiver), ((is.beta, is.gamma), (is.birth, (is.run, is.heard))))))
    (as_fields hello_with hello_fields (λ _. refl) (λ _ _. refl)
    (both cluster_spelled (both (both id_spelled id_spelled) (both (both quorum_spelled quorum_spelled) (both u64_spelled (both u64_spelled u64_spelled))))))

-- ---- why a node isn't taken

module _ (bytes after : List ℕ) (k : ℕ) (m : Reason) (rest : List ℕ) (fits : IsBytes after) (front : Takes bytes (k ∷ []) after) where
  abbrev case : (make : Unit {0} → Reason) (kind : ℕ) → ((a : Unit {0}) → reason_spelling (make a) ≡ kind ∷ [])
      → (other : Reading Reason) → (other after ≡ Ok (m, rest) → Takes bytes (reason_spelling m) rest × Unit {0})
      → (cond (eqb k kind) (via make nothing_at) other) after ≡ Ok (m, rest) → Takes bytes (reason_spelling m) rest × Unit {0}
  case make kind text = kind_or reason_spelling (λ _. Unit {0}) bytes after k m rest fits front nothing_spelled make kind (λ _ _. tt) text

  reason_take : reason_fields k after ≡ Ok (m, rest) → Takes bytes (reason_spelling m) rest × Unit {0}
  reason_take =
      case (λ _. reasons.OtherCluster) 1 (λ _. refl) _ (
      case (λ _. reasons.OtherNode) 2 (λ _. refl) _ (
      case (λ _. reasons.OwnId) 3 (λ _. refl) _ (
      case (λ _. reasons.OtherBirth) 4 (λ _. refl) _ (
      case (λ _. reasons.OtherQuorums) 5 (λ _. refl) _ (
      case (λ _. reasons.HasLeft) 6 (λ _. refl) _ (
      λ e. absurd cc))))))

reason_again : (m : Reason) (rest : List ℕ) → reason_at (reason_spelling m ++ rest) ≡ Ok (m, rest)
unfolding reason_at
reason_again reasons.OtherCluster rest = refl
reason_again reasons.OtherNode rest = refl
reason_again reasons.OwnId rest = refl
reason_again reasons.OtherBirth rest = refl
reason_again reasons.OtherQuorums rest = refl
reason_again reasons.HasLeft rest = refl

pub reason_spelled : Spelled reason_at (λ _. Unit {0}) reason_spelling
unfolding reason_at
reason_spelled = record { takes = kinded_takes reason_take; again = λ m rest _. reason_again m rest }

pub unwelcome_spelled : Spelled unwelcome_at (λ f. Unit {0} × IsId f.1) (λ f. unwelcome_spelling f.0 f.1)
unwelcome_spelled = both reason_spelled id_spelled
