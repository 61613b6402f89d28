-- What stays true of a cluster: only rows that their nodes released were ever sent or delivered.
--     IsAt c q m            m is the member at this id
--     Released, Holds       a row that its node released;  what stays true
--     each_member, one_at   of each member;  there is one at an id
--     Grows, GrownAt        what a node released stays the front of what it has released later
--     member_holds          it does where a member that released more stands in the place of another
--     sent_holds            and where more is sent, that has only such rows
use Rattle.std.proofs.Common.{◌≡◌, ◌⊎◌, ℕ, cond, List, [], ◌∷◌, ◌++◌, take, sym, ap, subst, ◌∙◌, inl, inr, ◌≤◌, drop, refl}
use Rattle.std.specs.Prelude.{Some, map}
use Rattle.std.specs.List.{AllByRecursion}
use Rattle.std.specs.FinMap as table
use Rattle.std.proofs.lemmas.Bool.Decides.{eqb_tells}
use Rattle.std.proofs.lemmas.Option.{same_Some}
use Rattle.std.proofs.lemmas.List.{append-nil}
use Rattle.cc_views.specs.NatSets.{get-insert_key}
use Rattle.cc_views.specs.declared.value.Value.{Value}
use Rattle.cc_messages.specs.declared.event.Event.{Event}
use Rattle.cc_messages.specs.declared.output.Output.{Output}
use Rattle.cc_laws.specs.Written.{IsWriteOf}
use Rattle.cc_laws.specs.Clusters.{Member, Sent, Cluster, with_member, with_sent}
use Rattle.cc_laws.proofs.Lists.{all_both, all_changed}
use Rattle.cc_laws.proofs.Rows.{EventRows}
use Rattle.cc_laws.proofs.WritingAsks.{write_front}
use Rattle.cc_laws.proofs.Members.{IsSound, OutputRows, output_changed, events_changed, front_parts}

abbrev pub IsAt : Cluster → ℕ → Member → Type 0
IsAt c q m = table.get c.members q ≡ Some m

-- the k-th writing ask of the released part made x
abbrev pub Released : Cluster → ℕ → ℕ → Value → Type 0
Released c p k x = (m : Member) × IsAt c p m × IsWriteOf (take m.released m.events) k x

abbrev pub SentRows : (ℕ → ℕ → Value → Type 0) → Sent → Type 0
SentRows P s = OutputRows P s.output

pub record Holds (c : Cluster) : Type 0 where
  pub sound : (q : ℕ) (m : Member) → IsAt c q m → IsSound q m
  pub brought : (q : ℕ) (m : Member) → IsAt c q m → AllByRecursion (EventRows (Released c)) m.events
  pub sent : AllByRecursion (SentRows (Released c)) c.sent

-- ---- one member in the place of another

-- a longer part is released
abbrev pub IsLonger : Member → Member → Type 0
IsLonger m n = (more : List Event) × (take n.released n.events ≡ take m.released m.events ++ more)

-- who is at an id after the change of one
abbrev pub IsPlaced : Cluster → ℕ → Member → ℕ → Type 0
IsPlaced c q n p =
    ((p ≡ q) × IsAt (with_member q n c) p n) ⊎ (table.get (with_member q n c).members p ≡ table.get c.members p)

pub at_id : (c : Cluster) (q : ℕ) (n : Member) (p : ℕ) → IsPlaced c q n p
at_id c q n p =
    let is = get-insert_key c.members q n p in
    elim (eqb_tells p q) as (λ _. IsPlaced c q n p) [
      | inl e ↦ inl (e.1, is ∙ ap (λ t. cond t (Some n) (table.get c.members p)) e.0)
      | inr e ↦ inr (is ∙ ap (λ t. cond t (Some n) (table.get c.members p)) e.0)
    ]

-- what holds of the member that is put there, and of all others, holds of each
pub each_member : (P : ℕ → Member → Type 0) (c : Cluster) (q : ℕ) (n : Member) → P q n → ((p : ℕ) (o : Member) → IsAt c p o → P p o)
    → (p : ℕ) (o : Member) → IsAt (with_member q n c) p o → P p o
each_member P c q n here there p o is =
    elim (at_id c q n p) as (λ _. P p o) [
      | inl e ↦ subst (P p) (same_Some n o (sym e.1 ∙ is)) (subst (λ (k : ℕ). P k n) (sym e.0) here)
      | inr e ↦ there p o (sym e ∙ is)
    ]

-- there is one member at an id
pub one_at : (c : Cluster) (p q : ℕ) (m n : Member) → p ≡ q → IsAt c p m → IsAt c q n → m ≡ n
one_at c p q m n is here there = same_Some m n (sym here ∙ ap (table.get c.members) is ∙ there)

-- ---- what is released only grows

pub record Grows (m n : Member) : Type 0 where
  pub opening : n.opening ≡ m.opening
  pub longer : IsLonger m n

-- a later state of the member
abbrev pub GrownAt : Cluster → ℕ → Member → Type 0
GrownAt d q m = (n : Member) × IsAt d q n × Grows m n

pub grows_same : (m n : Member) → n.opening ≡ m.opening → take n.released n.events ≡ take m.released m.events → Grows m n
grows_same m n same is = record { opening = same; longer = ([], is ∙ sym (append-nil (take m.released m.events))) }

pub grows_by : (m n : Member) (k : ℕ) → n.opening ≡ m.opening → m.released ≤ k → take n.released n.events ≡ take k m.events → Grows m n
grows_by m n k same le is =
    record { opening = same; longer = (drop m.released (take k m.events), is ∙ sym (front_parts m.released k m.events le)) }

pub member_grows : (c : Cluster) (q : ℕ) (m n : Member) → IsAt c q m → Grows m n
    → (p : ℕ) (o : Member) → IsAt c p o → GrownAt (with_member q n c) p o
member_grows c q m n at grows p o is =
    elim (at_id c q n p) as (λ _. GrownAt (with_member q n c) p o) [
      | inl e ↦ (n, e.1, subst (λ (w : Member). Grows w n) (one_at c q p m o (sym e.0) at is) grows)
      | inr e ↦ (o, e ∙ is, grows_same o o refl refl)
    ]

-- ---- only rows that were released

released_kept : (c : Cluster) (q : ℕ) (m n : Member) → IsAt c q m → Grows m n
    → (p k : ℕ) (x : Value) → Released c p k x → Released (with_member q n c) p k x
released_kept c q m n at grows p k x r =
    let g = member_grows c q m n at grows p r.0 r.1 in
    let longer = g.2.longer in
    (g.0, g.1, subst (λ (es : List Event). IsWriteOf es k x) (sym longer.1) (write_front (take (r.0).released (r.0).events) longer.0 k x r.2))

pub member_holds : (c : Cluster) (q : ℕ) (m n : Member) → Holds c → IsAt c q m → Grows m n → IsSound q n
    → AllByRecursion (EventRows (Released c)) n.events → Holds (with_member q n c)
member_holds c q m n h at grows sound brought =
    let P = Released c in
    let Q = Released (with_member q n c) in
    let kept = released_kept c q m n at grows in
    record {
      sound = each_member IsSound c q n sound h.sound;
      brought = each_member (λ _ o. AllByRecursion (EventRows Q) o.events) c q n (events_changed P Q kept n.events brought)
          (λ p o is. events_changed P Q kept o.events (h.brought p o is));
      sent = all_changed (SentRows P) (SentRows Q) (λ s. output_changed P Q kept s.output) c.sent h.sent;
    }

-- ---- more is sent

pub all_from : (Q : Sent → Type 0) (q : ℕ) (os : List Output) → AllByRecursion (λ (o : Output). Q (record { from = q; output = o })) os
    → AllByRecursion Q (map (λ o. record { from = q; output = o }) os)
all_from Q q [] h = tt
all_from Q q (o ∷ os) h = (h.0, all_from Q q os h.1)

pub sent_holds : (c : Cluster) (q : ℕ) (os : List Output) → Holds c → AllByRecursion (OutputRows (Released c)) os → Holds (with_sent q os c)
sent_holds c q os h k = record {
  sound = h.sound;
  brought = h.brought;
  sent = all_both (SentRows (Released c)) c.sent (map (λ o. record { from = q; output = o }) os) h.sent (all_from (SentRows (Released c)) q os k);
}
