-- Two sets of nodes that are each more than half of all share a node; so rounds meet where members stay the same.
--     shares          of two lists of different nodes among some, that are more than these together, one node is in both
--     rounds_meet
use Rattle.std.proofs.Common.{◌≡◌, ◌⊎◌, inl, inr, ℕ, ◌+◌, ◌*◌, ◌<◌, ◌≤◌, true, false, cond, nat_eq, List, [], ◌∷◌, ◌++◌, length, sym, ap, subst, ◌∙◌, arith}
use Rattle.std.proofs.Common.{length-append}
use Rattle.std.specs.Prelude.{IsTrue}
use Rattle.std.specs.List.{Contains, AllByRecursion, list_any}
use Rattle.std.proofs.lemmas.Bool.{or_from, cases_Bool}
use Rattle.std.proofs.lemmas.List.Elements.{Contains-append_right}
use Rattle.std.proofs.lemmas.List.Folds.{list_any-append}
use Rattle.cc_views.specs.NatSets as set
use Rattle.cc_views.specs.NatSets.{NatSet, contains-from_list, len-empty, len-insert, len_within}
use Rattle.cc_changes.specs.Need.{needed}
use Rattle.cc_node.specs.Openings.{fresh}
use Rattle.cc_laws.specs.Clusters.{Member, Cluster, Move}
use Rattle.cc_laws.specs.Runs.{Run, IsFreshCluster}
use Rattle.cc_laws.specs.Regular.{released_events, RoundOf, RoundsMeet}
use Rattle.cc_laws.specs.Rounds.{peers_of}
use Rattle.cc_laws.specs.Fixed.{count_of, IsFixedCluster, Stays}
use Rattle.cc_laws.proofs.Lists.{all_both, all_take, contains_head, all_there}
use Rattle.cc_laws.proofs.ClusterSteps.{Holds, IsAt}
use Rattle.cc_laws.proofs.ClusterMoves.{run_holds, fresh_holds}
use Rattle.cc_laws.proofs.Traces.{Traces, run_traces, fresh_traces}
use Rattle.cc_laws.proofs.Once.{Apart, peers_apart, peers_there, any_holds}
use Rattle.cc_laws.proofs.SteadyMembers.{IsQuiet}
use Rattle.cc_laws.proofs.Steady.{member_knows, AreQuiet, run_steady, fresh_quiet, fresh_quorum, round_size}

any_there : (x : ℕ) (xs : List ℕ) → list_any (nat_eq x) xs ≡ true → Contains xs x
any_there x xs is = any_holds (Contains xs) x xs is (all_there (Contains xs) xs (λ _ has. has))

abbrev pub ShareOne : List ℕ → List ℕ → Type 0
ShareOne xs ys = (r : ℕ) × Contains xs r × Contains ys r

abbrev NoneIn : List ℕ → List ℕ → Type 0
NoneIn ys xs = AllByRecursion (λ x. list_any (nat_eq x) ys ≡ false) xs

-- some node of the first list is in the second, or none is
search_shared : (xs ys : List ℕ) → ShareOne xs ys ⊎ NoneIn ys xs
search_shared [] ys = inr tt
search_shared (x ∷ xs) ys =
    elim (cases_Bool (list_any (nat_eq x) ys)) as (λ _. ShareOne (x ∷ xs) ys ⊎ NoneIn ys (x ∷ xs)) [
      | inl e ↦ inl (x, contains_head x xs, any_there x ys e)
      | inr e ↦ elim (search_shared xs ys) as (λ _. ShareOne (x ∷ xs) ys ⊎ NoneIn ys (x ∷ xs)) [
        | inl h ↦ inl (h.0, Contains-append_right (x ∷ []) xs h.0 h.1, h.2)
        | inr h ↦ inr (e, h)
      ]
    ]

both_apart : (xs ys : List ℕ) → Apart xs → Apart ys → NoneIn ys xs → Apart (xs ++ ys)
both_apart [] ys h k none = k
both_apart (x ∷ xs) ys h k none = (list_any-append (nat_eq x) xs ys ∙ or_from _ _ h.0 none.0, both_apart xs ys h.1 k none.1)

apart_length : (xs : List ℕ) → Apart xs → length xs ≡ set.len (set.from_list xs)
apart_length [] h = sym len-empty
apart_length (x ∷ xs) h =
    let s = set.from_list xs in
    let new : set.len (set.insert s x) ≡ set.len s + 1 = len-insert s x ∙ ap (λ b. cond b (set.len s) (set.len s + 1)) (contains-from_list xs x ∙ h.0) in
    omega (arith, apart_length xs h.1, new)

apart_fits : (all : NatSet) (xs : List ℕ) → Apart xs → AllByRecursion (λ x. IsTrue (set.contains all x)) xs → length xs ≤ set.len all
apart_fits all xs h k =
    let within = len_within (set.from_list xs) all (λ x is.
    any_holds (λ y. IsTrue (set.contains all y)) x xs (sym (contains-from_list xs x) ∙ is) k) in
    omega (arith, apart_length xs h, within)

pub shares : (all : NatSet) (xs ys : List ℕ) → Apart xs → Apart ys → AllByRecursion (λ x. IsTrue (set.contains all x)) xs
    → AllByRecursion (λ x. IsTrue (set.contains all x)) ys
    → set.len all < length xs + length ys → ShareOne xs ys
shares all xs ys h k in_xs in_ys more =
    elim (search_shared xs ys) as (λ _. ShareOne xs ys) [
      | inl r ↦ r
      | inr none ↦
          let fits = apart_fits all (xs ++ ys) (both_apart xs ys h k none) (all_both (λ x. IsTrue (set.contains all x)) xs ys in_xs in_ys) in
          absurd (omega (arith, fits, length-append xs ys, more))
    ]

module _ (all : List ℕ) (d : Cluster) (h : Holds d) (t : Traces d) (quiet : AreQuiet all d) (fixed : IsFixedCluster all d) where
  size : (q : ℕ) (m : Member) → IsAt d q m → (round : RoundOf m)
      → count_of all < 2 * length (peers_of (fresh m.opening) (released_events m) round)
  size q m at round =
      let f = fixed q m at in
      let need : length (peers_of (fresh m.opening) (released_events m) round) ≡ needed m.opening.beta (count_of all) =
      round_size all m.opening (released_events m) (member_knows all d h fixed q m at) (all_take (IsQuiet all) m.released m.events (quiet q m at)) round
      ∙ fresh_quorum m.opening ∙ ap (λ (l : List ℕ). needed m.opening.beta (count_of l)) f.initial in
      subst (λ (k : ℕ). count_of all < 2 * k) (sym need) f.majority

  pub meeting : RoundsMeet d
  meeting p q m n at at' first second =
      let all_set = set.from_list all in
      let P = λ (x : ℕ). IsTrue (set.contains all_set x) in
      let among : (r : ℕ) (x : Member) → IsAt d r x → P r = λ r x is. (fixed r x is).among in
      shares all_set (peers_of (fresh m.opening) (released_events m) first) (peers_of (fresh n.opening) (released_events n) second)
      (peers_apart d h t p m at first) (peers_apart d h t q n at' second) (peers_there d h t p m at first P among) (peers_there d h t q n at' second P among)
      (omega (arith, size p m at first, size q n at' second))

pub rounds_meet : (all : List ℕ) (c d : Cluster) (moves : List (ℕ × Move)) → IsFreshCluster c → IsFixedCluster all c
    → AllByRecursion (λ move. Stays move.1) moves → Run c moves d → RoundsMeet d
rounds_meet all c d moves begins fixed stays run =
    let h = fresh_holds c begins in
    let t = fresh_traces c begins in
    let steady = run_steady all c moves d h t (fresh_quiet all c begins) fixed stays run in
    meeting all d (run_holds c moves d h run) (run_traces c moves d h t run) steady.0 steady.1
