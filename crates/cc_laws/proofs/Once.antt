-- No node answers one round twice: its answer has one number on each link, and is delivered once.
--     IsAnswerTo, IsRoundOf       an answer to a round of a tag, and the message by which the round began
--     one_answer                  two answers of a node to one round that were delivered had one number
--     new_peer                    so a node whose answer is counted isn't among those that were counted before
--     peers_apart                 and those that a round counted are different nodes, each of them a member
use Rattle.std.proofs.Common.{◌≡◌, ◌⊎◌, inl, inr, ℕ, zero, suc, ◌-◌, ◌<◌, ◌≤◌, true, false, nat_eq, ◌||◌, List, [], ◌∷◌, ◌++◌, refl, sym, ap, subst, ◌∙◌, arith}
use Rattle.std.proofs.Common.{append_assoc}
use Rattle.std.specs.Prelude.{Option, Some, None, IfSome, ⊤}
use Rattle.std.specs.Option.{option_map_or}
use Rattle.std.specs.List.{Contains, AllByRecursion, list_any}
use Rattle.std.specs.Prelude.{slice_index_or}
use Rattle.std.specs.FinMap as table
use Rattle.std.proofs.lemmas.Bool.{leb-false, eqb-true, or_cases, false_from_ne_true}
use Rattle.std.proofs.lemmas.List.{append-nil}
use Rattle.std.proofs.lemmas.List.Elements.{Contains-append_cases}
use Rattle.std.proofs.lemmas.Option.{same_Some, IfSome_then}
use Rattle.cc_views.specs.Rows.{ViewMap}
use Rattle.cc_messages.specs.declared.event.Event.{Event}
use Rattle.cc_messages.specs.declared.event.Event.TheVariants as event
use Rattle.cc_messages.specs.declared.message.Message.{Message}
use Rattle.cc_messages.specs.declared.message.Message.TheVariants as message
use Rattle.cc_links.specs.Links.{Link, heard_from}
use Rattle.cc_links.specs.LinkLaws.{LinkGoesOn}
use Rattle.cc_ops.specs.declared.pending_operation.Asked.{Asked}
use Rattle.cc_ops.specs.Ops.{Phase, Idle, Querying}
use Rattle.cc_node.specs.Core.{Core, next}
use Rattle.cc_node.specs.Node.{Node, step, after, IsLawful}
use Rattle.cc_node.specs.Openings.{fresh}
use Rattle.cc_node.specs.Histories.{lawful_parts}
use Rattle.cc_node.specs.Refusals.{decides}
use Rattle.cc_node.proofs.LawfulLaws.{links_go_on, hears_now}
use Rattle.cc_node.proofs.RefusalLaws.{takes_delivery}
use Rattle.cc_laws.specs.Clusters.{Member, Cluster}
use Rattle.cc_laws.specs.Regular.{released_events, RoundOf}
use Rattle.cc_laws.specs.Rounds.{counts, ends_round, begins_anew, with_peer, peers_next, peers_along, peers_of}
use Rattle.cc_laws.proofs.Members.{lawful_front}
use Rattle.cc_laws.proofs.ClusterSteps.{Holds, IsAt, one_at}
use Rattle.cc_laws.proofs.Places.{front_more, at_once, Place}
use Rattle.cc_laws.proofs.Says.{tag_after, BringsIn, PostSays, GoesTo}
use Rattle.cc_laws.proofs.PendingRounds.{HasAck, HasReply, Pends, core_push, pends}
use Rattle.cc_laws.proofs.CountedAnswers.{with_all, IsCountedFrom, counted_from}
use Rattle.cc_laws.proofs.Knowledge.{me_of, raised_at, Posted, posted, came_at, posted_by, came_before, came_last}
use Rattle.cc_laws.proofs.Lists.{all_changed, at_some, either}
use Rattle.cc_laws.proofs.Traces.{Traces}

-- ---- answers and rounds

abbrev pub IsAnswerTo : ℕ → ℕ → Message → Type 0
IsAnswerTo tag q (message.QueryReply v t p) = (t ≡ tag) × (p ≡ q)
IsAnswerTo tag q (message.StoreAck t p) = (t ≡ tag) × (p ≡ q)
IsAnswerTo tag q _ = ⊥

abbrev pub IsRoundOf : ℕ → ℕ → Message → Type 0
IsRoundOf tag q (message.Query t p) = (t ≡ tag) × (p ≡ q)
IsRoundOf tag q (message.Store v t p) = (t ≡ tag) × (p ≡ q)
IsRoundOf tag q _ = ⊥

answer_says : (c : Core) (e : Event) (tag q : ℕ) (k : Message) → IsAnswerTo tag q k → PostSays c e k → (m : Message) × IsRoundOf tag q m × BringsIn e m
answer_says c e tag q (message.QueryReply v t p) is says = (message.Query t p, is, says.0)
answer_says c e tag q (message.StoreAck t p) is says = (message.Store says.0 t p, is, says.1)
answer_says c e tag q _ is says = absurd is

round_says : (c : Core) (e : Event) (tag q : ℕ) (m : Message) → IsRoundOf tag q m → PostSays c e m
    → (q ≡ c.me) × (c.ops.tag < tag) × (tag ≡ (next c e).ops.tag)
round_says c e tag q (message.Query t p) is says = (sym is.1 ∙ says.0, subst (λ (x : ℕ). c.ops.tag < x) is.0 says.1, sym is.0 ∙ says.2)
round_says c e tag q (message.Store v t p) is says = (sym is.1 ∙ says.0, subst (λ (x : ℕ). c.ops.tag < x) is.0 says.1, sym is.0 ∙ says.2)
round_says c e tag q _ is says = absurd is

-- a post goes to a peer under one number
one_number : (c : Core) (to n k : ℕ) → GoesTo c to n → GoesTo c to k → n ≡ k
one_number c to n k h g =
    let link : h.0 ≡ g.0 = same_Some h.0 g.0 (sym h.1 ∙ g.1) in
    h.2 ∙ ap (λ (l : Link). c.posts - l.start) link ∙ sym g.2

-- ---- what was heard

heard_goes : (posts : ℕ) (a b : Option Link) → LinkGoesOn posts a b → option_map_or (λ (l : Link). l.heard) a 0 ≤ option_map_or (λ (l : Link). l.heard) b 0
heard_goes posts None b goes = omega arith
heard_goes posts (Some l) None goes = absurd goes
heard_goes posts (Some l) (Some k) goes = goes.2

heard_after : (f : ℕ) (n : Node) (es : List Event) → IsLawful n es → heard_from f n.core.links ≤ heard_from f (after n es).core.links
unfolding step
heard_after f n [] d = omega arith
heard_after f n (e ∷ es) d =
    let c = n.core in
    omega (arith, heard_goes c.posts (table.get c.links f) (table.get (next c e).links f) (links_go_on c e d.0 f), heard_after f (step n e) es d.1)

heard_new : (c : Core) (f n : ℕ) (m : Message) → decides c (event.Deliver f n m) ≡ None → heard_from f c.links < n
heard_new c f n m d = leb-false n (heard_from f c.links) (takes_delivery c f n m d).new

heard_now : (c : Core) (f n : ℕ) (m : Message) → heard_from f (next c (event.Deliver f n m)).links ≡ n
unfolding next
heard_now c f n m = hears_now c f n m

-- at one place of a lawful list
record HeardAt (start : Node) (before : List Event) (e : Event) (f n : ℕ) : Type 0 where
  under : heard_from f (after start before).core.links < n
  now : heard_from f (after start (before ++ e ∷ [])).core.links ≡ n

heard_at : (start : Node) (es before later : List Event) (e : Event) → IsLawful start es → es ≡ before ++ e ∷ later → (f n : ℕ) (m : Message)
    → e ≡ event.Deliver f n m → HeardAt start before e f n
heard_at start es before later e lawful parts f n m is =
    let c = (after start before).core in
    let taken = (lawful_parts start before (e ∷ later) (subst (IsLawful start) parts lawful)).1.0 in
    record {
      under = heard_new c f n m (subst (λ (x : Event). decides c x ≡ None) is taken);
      now = ap (λ (d : Core). heard_from f d.links) (core_push start before e) ∙ ap (λ (x : Event). heard_from f (next c x).links) is ∙ heard_now c f n m;
    }

-- ---- a cluster

goes_there : (start : Node) (before other : List Event) (e f : Event) → before ≡ other → e ≡ f → (to n : ℕ)
    → GoesTo (next (after start before).core e) to n → GoesTo (next (after start other).core f) to n
goes_there start before other e f same at to n goes = subst (λ (c : Core). GoesTo c to n) (λ i. next (after start (same i)).core (at i)) goes

module _ (c : Cluster) (h : Holds c) (t : Traces c) where
  -- a node posted one message of a round to a peer, as its tag rose
  posted_once : (q : ℕ) (m : Member) → IsAt c q m → (r w z tag : ℕ) (k j : Message) → IsRoundOf tag q k → IsRoundOf tag q j
      → Posted m r w k → Posted m r z j → w ≡ z
  posted_once q m at r w z tag k j of_k of_j a b =
      let start = fresh m.opening in
      let lawful = lawful_front start m.events m.released (h.sound q m at).lawful in
      let first = round_says (after start a.before).core a.here tag q k of_k a.says in
      let second = round_says (after start b.before).core b.here tag q j of_j b.says in
      let one = at_once (λ n. n.core.ops.tag) tag_after start (released_events m) lawful a.place b.place tag
      first.1 (omega (arith, raised_at start a.before a.here tag first.2)) second.1 (omega (arith, raised_at start b.before b.here tag second.2)) in
      one_number (next (after start b.before).core b.here) r w z (goes_there start a.before b.before a.here b.here one.0 one.1 r w a.goes) b.goes

  -- of an answer that was posted: which message of its round it answers, and that this was heard with it
  record Made (q r : ℕ) (m x : Member) (tag n : ℕ) (k : Message) (p : Posted x q n k) : Type 0 where
    wire : ℕ
    round : Message
    of_round : IsRoundOf tag q round
    begun : Posted m r wire round
    heard : HeardAt (fresh x.opening) p.before p.here q wire

  answer_made : (q : ℕ) (m : Member) → IsAt c q m → (r : ℕ) (x : Member) → IsAt c r x → (tag n : ℕ) (k : Message)
      → IsAnswerTo tag q k → (p : Posted x q n k) → Made q r m x tag n k p
  answer_made q m at r x there tag n k of_k p =
      let start = fresh x.opening in
      let lawful = lawful_front start x.events x.released (h.sound r x there).lawful in
      let asks = answer_says (after start p.before).core p.here tag q k of_k p.says in
      let got = came_last x p.place (event.Deliver asks.2.0 asks.2.1 asks.0) asks.2.2 in
      let begun = posted_by c h t q m at r x there asks.2.0 asks.2.1 asks.0 (λ d e says. (round_says d e tag q asks.0 asks.1 says).0) got in
      record {
        wire = asks.2.1;
        round = asks.0;
        of_round = asks.1;
        begun = begun.1;
        heard = subst (λ (f : ℕ). HeardAt start p.before p.here f asks.2.1) begun.0
            (heard_at start (released_events x) p.before p.later p.here lawful p.parts asks.2.0 asks.2.1 asks.0 asks.2.2);
      }

  pub one_answer : (q : ℕ) (m : Member) → IsAt c q m → (tag r n i : ℕ) (k j : Message) → IsAnswerTo tag q k → IsAnswerTo tag q j
      → Contains m.events (event.Deliver r n k) → Contains m.events (event.Deliver r i j) → n ≡ i
  one_answer q m at tag r n i k j of_k of_j first second =
      let made_k = came_at c h t q m at r n k first in
      let made_j = came_at c h t q m at r i j second in
      let x = made_k.0 in
      let is_x : made_j.0 ≡ x = one_at c r r made_j.0 x refl made_j.1 made_k.1 in
      let a = posted x q n k made_k.2 in
      let b : Posted x q i j = subst (λ (y : Member). Posted y q i j) is_x (posted made_j.0 q i j made_j.2) in
      let start = fresh x.opening in
      let lawful = lawful_front start x.events x.released (h.sound r x made_k.1).lawful in
      let of_a = answer_made q m at r x made_k.1 tag n k of_k a in
      let of_b = answer_made q m at r x made_k.1 tag i j of_j b in
      let wires : of_a.wire ≡ of_b.wire =
      posted_once q m at r of_a.wire of_b.wire tag of_a.round of_b.round of_a.of_round of_b.of_round of_a.begun of_b.begun in
      let one = at_once (λ s. heard_from q s.core.links) (heard_after q) start (released_events x) lawful a.place b.place of_b.wire
      (omega (arith, of_a.heard.under, wires)) (omega (arith, of_a.heard.now, wires)) of_b.heard.under (omega (arith, of_b.heard.now)) in
      one_number (next (after start b.before).core b.here) q n i (goes_there start a.before b.before a.here b.here one.0 one.1 q n a.goes) b.goes

-- ---- the peers of a round

abbrev pub HasAnswer : List Event → ℕ → ℕ → ℕ → Type 0
HasAnswer past me tag r = (n : ℕ) × (k : Message) × Contains past (event.Deliver r n k) × IsAnswerTo tag me k

phase_answers : (start : Node) (past : List Event) (peers : List ℕ) (me number : ℕ) (view : ViewMap) (tag : ℕ) (others : List Asked) (phase : Phase)
    → Pends start past peers me number view tag others phase
    → AllByRecursion (HasAnswer past me tag) peers
phase_answers start past peers me number view tag others Idle h = subst (AllByRecursion (HasAnswer past me tag)) (sym h) tt
phase_answers start past peers me number view tag others (Querying p) h =
    all_changed (HasReply past me tag view) (HasAnswer past me tag) (λ r a. (a.0, message.QueryReply a.1 tag me, a.2, (refl, refl))) peers h.1
phase_answers start past peers me number view tag others _ h =
    all_changed (HasAck past me tag) (HasAnswer past me tag) (λ r a. (a.0, message.StoreAck tag me, a.1, (refl, refl))) peers h.1

abbrev pub IsAnswerFrom : Core → Event → ℕ → Type 0
IsAnswerFrom c e r = (n : ℕ) × (k : Message) × (e ≡ event.Deliver r n k) × IsAnswerTo c.ops.tag c.me k

pub counted_answer : (c : Core) (e : Event) → IfSome (counts c e) (IsAnswerFrom c e)
counted_answer c e = IfSome_then (counts c e) {P = IsCountedFrom c e} {Q = IsAnswerFrom c e} (counted_from c e) answer
  where
    answer : (r : ℕ) → IsCountedFrom c e r → IsAnswerFrom c e r
    answer r (inl reply) = (reply.0.0, message.QueryReply reply.0.1 c.ops.tag c.me, reply.0.2, (refl, refl))
    answer r (inr ack) = (ack.0.0, message.StoreAck c.ops.tag c.me, ack.0.1, (refl, refl))

one_of_one : (x y : Event) (k : ℕ) → k < 1 → slice_index_or (x ∷ []) k y ≡ y → x ≡ y
one_of_one x y zero le is = is
one_of_one x y (suc k) le is = absurd (omega (arith, le))

pub contains_cases : (x : Event) (xs : List Event) (y : Event) → Contains (x ∷ xs) y → (x ≡ y) ⊎ Contains xs y
contains_cases x xs y has =
    elim (Contains-append_cases (x ∷ []) xs y has) as (λ _. (x ≡ y) ⊎ Contains xs y) [
      | inl h ↦ inl (one_of_one x y h.0 h.1 h.2)
      | inr h ↦ inr h
    ]

-- what was delivered was heard
heard_past : (start : Node) (past : List Event) → IsLawful start past → (f n : ℕ) (k : Message) → Contains past (event.Deliver f n k)
    → n ≤ heard_from f (after start past).core.links
unfolding step
heard_past start [] lawful f n k has = absurd (omega (arith, has.1))
heard_past start (e ∷ es) lawful f n k has =
    elim (contains_cases e es (event.Deliver f n k) has) as (λ _. n ≤ heard_from f (after start (e ∷ es)).core.links) [
      | inl is ↦
          let now : heard_from f (next start.core e).links ≡ n = ap (λ (x : Event). heard_from f (next start.core x).links) is ∙ heard_now start.core f n k in
          omega (arith, now, heard_after f (step start e) es lawful.1)
      | inr there ↦ heard_past (step start e) es lawful.1 f n k there
    ]

abbrev pub Apart : List ℕ → Type 0
Apart [] = ⊤
Apart (x ∷ xs) = (list_any (nat_eq x) xs ≡ false) × Apart xs

pub any_holds : (P : ℕ → Type 0) (x : ℕ) (xs : List ℕ) → list_any (nat_eq x) xs ≡ true → AllByRecursion P xs → P x
any_holds P x [] is h = cc
any_holds P x (y ∷ xs) is h =
    elim (or_cases (nat_eq x y) (list_any (nat_eq x) xs) is) as (λ _. P x) [
      | inl e ↦ subst P (sym (eqb-true x y e)) h.0
      | inr e ↦ any_holds P x xs e h.1
    ]

peers_push : (n : Node) (peers : List ℕ) (xs ys : List Event) → peers_along n peers (xs ++ ys) ≡ peers_along (after n xs) (peers_along n peers xs) ys
peers_push n peers [] ys = refl
peers_push n peers (x ∷ xs) ys = peers_push (step n x) (peers_next n.core x peers) xs ys

module _ (c : Cluster) (h : Holds c) (t : Traces c) (q : ℕ) (m : Member) (at : IsAt c q m) where
  abbrev begin : Node
  begin = fresh m.opening

  lawful_all : IsLawful begin (released_events m)
  lawful_all = lawful_front begin m.events m.released (h.sound q m at).lawful

  module _ (front later : List Event) (last : Event) (parts : released_events m ≡ front ++ last ∷ later) where
    abbrev place : Place (released_events m)
    place = record { before = front; here = last; later = later; parts = parts }

    abbrev d : Core
    d = (after begin front).core

    abbrev peers : List ℕ
    peers = peers_along begin [] front

    -- those that a round counted before its last one
    old_answers : AllByRecursion (HasAnswer front d.me d.ops.tag) peers
    old_answers = phase_answers begin front peers d.me d.ops.number d.ops.view d.ops.tag d.ops.others d.ops.phase (pends m.opening front)

    new_peer : (r : ℕ) → counts d last ≡ Some r → list_any (nat_eq r) peers ≡ false
    new_peer r is =
        let all_then = lawful_parts begin front (last ∷ later) (subst (IsLawful begin) parts lawful_all) in
        let now = at_some (IsAnswerFrom d last) (counts d last) r is (counted_answer d last) in
        let me : d.me ≡ q = me_of q m (h.sound q m at) front in
        false_from_ne_true (list_any (nat_eq r) peers) (λ there.
        let old = any_holds (HasAnswer front d.me d.ops.tag) r peers there old_answers in
        let same = one_answer c h t q m at d.ops.tag r old.0 now.0 old.1 now.1
        (subst (λ (x : ℕ). IsAnswerTo d.ops.tag x old.1) me old.3) (subst (λ (x : ℕ). IsAnswerTo d.ops.tag x now.1) me now.3)
        (came_before m place _ old.2) (came_last m place _ now.2) in
        let low = heard_past begin front all_then.0 r old.0 old.1 old.2 in
        let high = heard_new d r now.0 now.1 (subst (λ (x : Event). decides d x ≡ None) now.2 all_then.1.0) in
        omega (arith, same, low, high))

    with_apart : Apart peers → Apart (with_peer (counts d last) peers)
    with_apart apart = one_more (counts d last) new_peer
      where
        one_more : (o : Option ℕ) → ((r : ℕ) → o ≡ Some r → list_any (nat_eq r) peers ≡ false) → Apart (with_peer o peers)
        one_more None new = apart
        one_more (Some r) new = (new r refl, apart)

  apart_from : (past rest later : List Event) → released_events m ≡ (past ++ rest) ++ later → Apart (peers_along begin [] past)
      → Apart (peers_along begin [] (past ++ rest))
  apart_from past [] later parts apart = subst (λ (l : List Event). Apart (peers_along begin [] l)) (sym (append-nil past)) apart
  apart_from past (e ∷ rest) later parts apart =
      let one : past ++ e ∷ rest ≡ (past ++ e ∷ []) ++ rest = front_more past rest e in
      let here : released_events m ≡ past ++ e ∷ (rest ++ later) = parts ∙ append_assoc past (e ∷ rest) later in
      let core = (after begin past).core in
      let ps = with_peer (counts core e) (peers_along begin [] past) in
      let next_apart : Apart (peers_next core e (peers_along begin [] past)) =
      either Apart (begins_anew core e || ends_round core e) [] ps tt (with_apart past (rest ++ later) e here apart) in
      let apart_then : Apart (peers_along begin [] (past ++ e ∷ [])) = subst Apart (sym (peers_push begin [] past (e ∷ []))) next_apart in
      subst (λ (l : List Event). Apart (peers_along begin [] l)) (sym one)
      (apart_from (past ++ e ∷ []) rest later (parts ∙ ap (λ (l : List Event). l ++ later) one) apart_then)

  module _ (round : RoundOf m) where
    pub peers_apart : Apart (peers_of begin (released_events m) round)
    peers_apart =
        with_apart round.before round.later round.last round.parts (apart_from [] round.before (round.last ∷ round.later) round.parts tt)

    -- each of them is a member
    pub peers_there : (P : ℕ → Type 0) → ((r : ℕ) (x : Member) → IsAt c r x → P r) → AllByRecursion P (peers_of begin (released_events m) round)
    peers_there P f =
        let front = round.before in
        let core = (after begin front).core in
        let of_sent : (r n : ℕ) (k : Message) → Contains m.events (event.Deliver r n k) → P r =
        λ r n k has. let made = came_at c h t q m at r n k has in f r made.0 made.1 in
        with_all P (counts core round.last) (peers_along begin [] front)
        (IfSome_then (counts core round.last) {P = IsAnswerFrom core round.last} {Q = P} (counted_answer core round.last)
        (λ r a. of_sent r a.0 a.1 (came_last m (place front round.later round.last round.parts) _ a.2)))
        (all_changed (HasAnswer front core.me core.ops.tag) P (λ r a. of_sent r a.0 a.1 (came_before m (place front round.later round.last round.parts) _ a.2))
        (peers_along begin [] front) (old_answers front round.later round.last round.parts))
