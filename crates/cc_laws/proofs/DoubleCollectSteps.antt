-- Two collects in a row with one view show what stood at one moment.
--     Leads                        a run goes on from the one cluster to the other
--     run_one, later, either_later       a run leads to one cluster only;  of two moments of a run the one leads to the other
--     writes_on, stored_on         what was released, and what was stored, stays so
--     no_both                      nobody has released a write and hasn't
--     shown_writes                 a view that was answered has only writes that were released by then
--     answered_ahead               what was answered had been asked
--     answered_later, lacks_later  a moment before the ask comes before one behind the answer;  so of a write
--     within, sees, none_later     one view is within another;  what such a view has, and what it hasn't
use Rattle.std.proofs.Common.{◌≡◌, ◌⊎◌, ℕ, ◌+◌, ◌<◌, ◌≤◌, Bool, List, [], ◌∷◌, ◌++◌, take, drop, length, refl, sym, ap, subst, ◌∙◌, inl, inr, arith, take-append-drop}
use Rattle.std.specs.Prelude.{Option, Some, None, IsSomeAnd, if◌then◌else◌}
use Rattle.std.specs.List.{Contains}
use Rattle.std.specs.FinMap as table
use Rattle.std.proofs.lemmas.Bool.{cases_lt}
use Rattle.std.proofs.lemmas.List.{take-take}
use Rattle.std.proofs.lemmas.Option.{same_Some, slice_get_within}
use Rattle.cc_views.specs.Rows.{Pair, ViewMap}
use Rattle.cc_views.specs.declared.value.Value.{Value}
use Rattle.cc_messages.specs.declared.answer.Answer.TheVariants as answer
use Rattle.cc_messages.specs.declared.event.Event.{Event}
use Rattle.cc_messages.specs.declared.event.Event.TheVariants as event
use Rattle.cc_messages.specs.declared.output.Output.TheVariants as output
use Rattle.cc_ops.specs.Ops.{nothing_stored}
use Rattle.cc_ops.specs.WaitingAsks.{writes_by}
use Rattle.cc_ops.specs.WaitingAskLaws.{writes_both}
use Rattle.cc_sessions.specs.Sessions.{last_request}
use Rattle.cc_node.specs.Node.{Node, after, IsLawful}
use Rattle.cc_node.specs.Openings.{fresh}
use Rattle.cc_node.specs.Histories.{lawful_parts}
use Rattle.cc_node.specs.Writes.{asked_along}
use Rattle.cc_laws.specs.Clusters.{Member, Cluster, Sent, node_at, Move, Accept, Receive, Sync, Release, Resend, Crash, MovesBy}
use Rattle.cc_laws.specs.Runs.{Run, Step, IsFreshCluster}
use Rattle.cc_laws.specs.Orders.{GoesOn, IsFollowedBy}
use Rattle.cc_laws.specs.Written.{values_of}
use Rattle.cc_laws.specs.Regular.{released_events, IsAnswered, IsWriteAsk, IsStored, IsAhead, HasAtLeast, SeesWrite, RoundsMeet}
use Rattle.cc_laws.specs.DoubleCollects.{Moment, writes_of, HasWrites, LacksWrite, DoubleCollect}
use Rattle.cc_laws.proofs.Lists.{all_at, at_some}
use Rattle.cc_laws.proofs.Members.{lawful_front}
use Rattle.cc_laws.proofs.ClusterSteps.{Holds, IsAt, one_at, Released, SentRows, Grows}
use Rattle.cc_laws.proofs.Rows.{AllRows}
use Rattle.cc_laws.proofs.ClusterMoves.{run_holds, fresh_holds}
use Rattle.cc_laws.proofs.Traces.{Traces, run_traces, fresh_traces, run_grows, run_sent, place_later}
use Rattle.cc_laws.proofs.Places.{front_low}
use Rattle.cc_laws.proofs.Written.{length-values}
use Rattle.cc_laws.proofs.WritingAsks.{asked_both}
use Rattle.cc_laws.proofs.AnswerRounds.{last_after, asked_last, node_lawful}
use Rattle.cc_laws.proofs.Regularity.{reading, run_both, some_and, course, each_shares, collect_sees, collects_in_turn}

-- ---- options

some_at : {X : Type 0} (P : X → Type 0) (o : Option X) (x : X) → o ≡ Some x → P x → IsSomeAnd o P
some_at P o x is h = subst (λ (v : Option _). IsSomeAnd v P) (sym is) h

at_member : (o : Option Member) (P : Member → Type 0) → IsSomeAnd o P → (m : Member) × (o ≡ Some m) × P m
at_member None P h = absurd h
at_member (Some m) P h = (m, refl, h)

-- ---- moments of a run

move_one : (c : Cluster) (q : ℕ) (m : Member) (move : Move) (b d : Cluster) → MovesBy c q m move b → MovesBy c q m move d → b ≡ d
move_one c q m (Accept e) b d h k = h.2 ∙ sym k.2
move_one c q m (Receive from n x) b d h k = h.2 ∙ sym k.2
move_one c q m (Sync n) b d h k = h.2 ∙ sym k.2
move_one c q m (Release n) b d h k = h.2 ∙ sym k.2
move_one c q m (Resend o) b d h k = h.1 ∙ sym k.1
move_one c q m (Crash n) b d h k = h.2 ∙ sym k.2

pub step_one : (c : Cluster) (move : ℕ × Move) (b d : Cluster) → Step c move b → Step c move d → b ≡ d
step_one c move b d h k =
    let same : h.0 ≡ k.0 = same_Some h.0 k.0 (sym h.1 ∙ k.1) in
    move_one c move.0 k.0 move.1 b d (subst (λ (m : Member). MovesBy c move.0 m move.1 b) same h.2) k.2

pub run_one : (c : Cluster) (moves : List (ℕ × Move)) (b d : Cluster) → Run c moves b → Run c moves d → b ≡ d
run_one c [] b d h k = h ∙ sym k
run_one c (move ∷ moves) b d h k =
    let next : h.0 ≡ k.0 = step_one c move h.0 k.0 h.1 k.1 in
    run_one h.0 moves b d h.2 (subst (λ (z : Cluster). Run z moves d) (sym next) k.2)

run_parts : (c : Cluster) (xs ys : List (ℕ × Move)) (d : Cluster) → Run c (xs ++ ys) d → (b : Cluster) × Run c xs b × Run b ys d
run_parts c [] ys d h = (c, refl, h)
run_parts c (move ∷ xs) ys d h = let rest = run_parts h.0 xs ys d h.2 in (rest.0, (h.0, h.1, rest.1), rest.2)

abbrev pub Leads : Cluster → Cluster → Type 0
Leads e f = (moves : List (ℕ × Move)) × Run e moves f

pub led_on : (e f g : Cluster) → Leads e f → Leads f g → Leads e g
led_on e f g h k = (h.0 ++ k.0, run_both e h.0 f k.0 g h.1 k.1)

-- a run that goes on behind a front of its moves
behind : (c : Cluster) (front rest moves : List (ℕ × Move)) (e d : Cluster) → front ++ rest ≡ moves → Run c front e → Run c moves d → Leads e d
behind c front rest moves e d parts to_e run =
    let both = run_parts c front rest d (subst (λ (l : List (ℕ × Move)). Run c l d) (sym parts) run) in
    (rest, subst (λ (z : Cluster). Run z rest d) (run_one c front both.0 e both.1 to_e) both.2)

pub later : (c : Cluster) (moves : List (ℕ × Move)) (k l : ℕ) (e f : Cluster) → k ≤ l → Run c (take k moves) e → Run c (take l moves) f → Leads e f
later c moves k l e f le to_e to_f =
    let rest = drop k (take l moves) in
    behind c (take k moves) rest (take l moves) e f
    (ap (λ (xs : List (ℕ × Move)). xs ++ rest) (sym (take-take k l moves le)) ∙ take-append-drop k (take l moves)) to_e to_f

-- ---- what stays

writes_more : (m n : Member) → Grows m n → writes_of m ≤ writes_of n
writes_more m n grows =
    let more = grows.longer.0 in
    let both : writes_of n ≡ writes_of m + writes_by (asked_along more) =
    ap (λ (es : List Event). writes_by (asked_along es)) grows.longer.1 ∙ ap writes_by (asked_both (released_events m) more)
    ∙ writes_both (asked_along (released_events m)) (asked_along more) in
    omega (arith, both)

pub writes_on : (e f : Cluster) → Holds e → Leads e f → (q n : ℕ) → HasWrites e q n → HasWrites f q n
writes_on e f h on q n has =
    let m = at_member (table.get e.members q) (λ m. n ≤ writes_of m) has in
    let g = run_grows e on.0 f h on.1 q m.0 m.1 in
    some_at (λ m. n ≤ writes_of m) (table.get f.members q) g.0 g.1 (omega (arith, m.2, writes_more m.0 g.0 g.2))

pub no_both : (e : Cluster) (q n : ℕ) → HasWrites e q n → LacksWrite e q n → ⊥
no_both e q n = apart (table.get e.members q)
  where
    apart : (o : Option Member) → IsSomeAnd o (λ m. n ≤ writes_of m) → IsSomeAnd o (λ m. writes_of m < n) → ⊥
    apart None h k = absurd h
    apart (Some m) h k = omega (arith, h, k)

pub stored_writes : (e : Cluster) (q n s r : ℕ) → IsStored e q n s r → HasWrites e q n
stored_writes e q n s r stored =
    let m = stored.0 in
    let w = stored.2 in
    let tail = event.Ask s r w.command ∷ w.later in
    let all : writes_of m ≡ writes_by (asked_along w.before) + writes_by (asked_along tail) =
    ap (λ (es : List Event). writes_by (asked_along es)) w.parts ∙ ap writes_by (asked_both w.before tail)
    ∙ writes_both (asked_along w.before) (asked_along tail) in
    let one : writes_by (asked_along tail) ≡ 1 + writes_by (asked_along w.later) =
    ap (λ (b : Bool). (if b then 1 else 0) + writes_by (asked_along w.later)) w.writes in
    some_at (λ m. n ≤ writes_of m) (table.get e.members q) m stored.1 (omega (arith, all, one, w.number))

pub stored_on : (e f : Cluster) → Holds e → Leads e f → (q n s r : ℕ) → IsStored e q n s r → IsStored f q n s r
stored_on e f h on q n s r stored =
    let m = stored.0 in
    let w = stored.2 in
    let g = run_grows e on.0 f h on.1 q m stored.1 in
    let ask : IsWriteAsk (released_events g.0) n s r = record {
      before = w.before;
      command = w.command;
      later = w.later ++ g.2.longer.0;
      parts = place_later m g.0 g.2 w.before w.later (event.Ask s r w.command) w.parts;
      writes = w.writes;
      number = w.number;
    } in
    (g.0, g.1, ask, run_sent e on.0 f on.1 _ stored.3)

-- ---- what was shown, and what was answered

pub shown_writes : (e : Cluster) → Holds e → (p s r : ℕ) (v : ViewMap) → IsAnswered e p s r (answer.Seen v) → (q n : ℕ) → HasAtLeast v q n → HasWrites e q n
shown_writes e h p s r v has q n shown =
    let row = some_and (table.get v q) (λ k. n ≤ k.0) shown in
    let rows : AllRows (Released e) v = all_at (SentRows (Released e)) e.sent _ h.sent has in
    let wrote : Released e q row.0.0 row.0.1 = at_some (λ (k : Pair). Released e q k.0 k.1) (table.get v q) row.0 row.1 (rows q) in
    let m = wrote.0 in
    let asks = asked_along (released_events m) in
    let below = slice_get_within (values_of nothing_stored asks) wrote.2.0 row.0.1 wrote.2.2 in
    some_at (λ m. n ≤ writes_of m) (table.get e.members q) m wrote.1
    (omega (arith, row.2, wrote.2.1, below, length-values nothing_stored asks))

pub answered_ahead : (e : Cluster) → Holds e → Traces e → (p s r : ℕ) (v : ViewMap) → IsAnswered e p s r (answer.Seen v) → IsAhead e p s r → ⊥
answered_ahead e h t p s r v has ahead =
    let read = reading e h t p s r (answer.Seen v) has (λ is. cc) in
    let m = read.member in
    let op = read.op in
    let start = fresh m.opening in
    let sound = h.sound p m read.there in
    let lawful = lawful_front start m.events m.released sound.lawful in
    let c = (after start op.before).core in
    let asked : last_request c.sessions s ≡ r = asked_last c (node_lawful p m sound op.place).core s r read.asked in
    let up = front_low (λ x. last_request x.core.sessions s) (last_after s) start (released_events m) op.before (op.here ∷ op.later) lawful op.parts in
    let under : last_request (node_at m m.released).core.sessions s < r =
    subst (λ (n : Member). last_request (node_at n n.released).core.sessions s < r) (one_at e p p ahead.0 m refl ahead.1 read.there) ahead.2 in
    omega (arith, asked, up, under)

-- a view that another one goes on from
pub shows_on : (v w : ViewMap) → IsFollowedBy v w → (q n : ℕ) → HasAtLeast v q n → HasAtLeast w q n
shows_on v w follows q n = on (table.get v q) (table.get w q) (follows q)
  where
    on : (a b : Option Pair) → GoesOn a b → IsSomeAnd a (λ e. n ≤ e.0) → IsSomeAnd b (λ e. n ≤ e.0)
    on None b g h = absurd h
    on (Some e) None g h = absurd g
    on (Some e) (Some f) (inl less) h = omega (arith, less, h)
    on (Some e) (Some f) (inr same) h = let is : e.0 ≡ f.0 = ap (λ (k : Pair). k.0) same in omega (arith, is, h)

module _ (c d : Cluster) (moves : List (ℕ × Move)) (begins : IsFreshCluster c) (run : Run c moves d) where
  pub holds_at : (m : Moment c moves) → Holds m.now
  holds_at m = run_holds c (take m.made moves) m.now (fresh_holds c begins) m.run

  traces_at : (m : Moment c moves) → Traces m.now
  traces_at m = run_traces c (take m.made moves) m.now (fresh_holds c begins) (fresh_traces c begins) m.run

  pub either_later : (m n : Moment c moves) → Leads m.now n.now ⊎ Leads n.now m.now
  either_later m n = elim (cases_lt m.made n.made) as (λ _. Leads m.now n.now ⊎ Leads n.now m.now) [
    | inl less ↦ inl (later c moves m.made n.made m.now n.now (omega (arith, less)) m.run n.run)
    | inr no_less ↦ inr (later c moves n.made m.made n.now m.now (omega (arith, no_less)) n.run m.run)
  ]

  pub to_end : (m : Moment c moves) → Leads m.now d
  to_end m = behind c (take m.made moves) (drop m.made moves) moves m.now d (take-append-drop m.made moves) m.run run

  pub answered_later : (m n : Moment c moves) (p s r : ℕ) (v : ViewMap) → IsAhead m.now p s r → IsAnswered n.now p s r (answer.Seen v)
      → Leads m.now n.now
  answered_later m n p s r v ahead has = elim (either_later m n) as (λ _. Leads m.now n.now) [
    | inl on ↦ on
    | inr back ↦ absurd (answered_ahead m.now (holds_at m) (traces_at m) p s r v (run_sent n.now back.0 m.now back.1 _ has) ahead)
  ]

  pub lacks_later : (m n : Moment c moves) (q k : ℕ) → LacksWrite m.now q k → HasWrites n.now q k → Leads m.now n.now
  lacks_later m n q k lacks has = elim (either_later m n) as (λ _. Leads m.now n.now) [
    | inl on ↦ on
    | inr back ↦ absurd (no_both m.now q k (writes_on n.now m.now (holds_at n) back q k has) lacks)
  ]

  -- what is answered at both of two moments that lead on, and is ahead at the later one
  pub never_ahead : (m n : Moment c moves) (p s r : ℕ) (v : ViewMap) → Leads m.now n.now → IsAnswered m.now p s r (answer.Seen v)
      → IsAhead n.now p s r → ⊥
  never_ahead m n p s r v on has ahead =
      answered_ahead n.now (holds_at n) (traces_at n) p s r v (run_sent m.now on.0 n.now on.1 _ has) ahead

  pub none_later : (a : DoubleCollect c moves d) (q n : ℕ) → HasAtLeast a.view q n → HasWrites a.moment.now q n
  none_later a q n shown = shown_writes a.moment.now (holds_at a.moment) a.node a.s a.r a.view a.first q n shown

  module _ (meet : RoundsMeet d) where
    pub within : (a b : DoubleCollect c moves d) → Leads a.moment.now b.moment.now → IsFollowedBy a.view b.view
    within a b on =
        let end = to_end b.moment in
        let along = course c b.moment.now d (take b.moment.made moves) end.0 begins b.moment.run end.1 in
        collects_in_turn along a.node a.s a.r b.node b.x b.y b.apart (each_shares along meet a.node a.s a.r b.node b.x b.y)
        a.view (run_sent a.moment.now on.0 b.moment.now on.1 _ a.first) b.view b.second

    pub sees : (a : DoubleCollect c moves d) (m : Moment c moves) (q n s r : ℕ) → IsStored m.now q n s r → IsAhead m.now a.node a.x a.y
        → SeesWrite d a.view q n
    sees a m q n s r stored ahead =
        let end = to_end m in
        let along = course c m.now d (take m.made moves) end.0 begins m.run end.1 in
        collect_sees along q s r a.node a.x a.y ahead (each_shares along meet q s r a.node a.x a.y) n stored a.view a.second

    -- what was stored before the moment of a double collect
    pub has_stored : (a : DoubleCollect c moves d) (m : Moment c moves) (q n s r : ℕ) → Leads m.now a.moment.now → IsStored m.now q n s r
        → HasAtLeast a.view q n
    has_stored a m q n s r on stored =
        let seen = sees a a.moment q n s r (stored_on m.now a.moment.now (holds_at m) on q n s r stored) a.apart in
        some_at (λ (e : Pair). n ≤ e.0) (table.get a.view q) (seen.0, seen.1) seen.3 seen.2

    pub in_turn : (a b : DoubleCollect c moves d) (m : Moment c moves) → IsAnswered m.now a.node a.x a.y (answer.Seen a.view)
        → IsAhead m.now b.node b.s b.r → IsFollowedBy a.view b.view
    in_turn a b m has ahead =
        within a b (led_on a.moment.now m.now b.moment.now
        (answered_later a.moment m a.node a.x a.y a.view a.apart has) (answered_later m b.moment b.node b.s b.r b.view ahead b.first))

    pub comparable : (a b : DoubleCollect c moves d) → IsFollowedBy a.view b.view ⊎ IsFollowedBy b.view a.view
    comparable a b = elim (either_later a.moment b.moment) as (λ _. IsFollowedBy a.view b.view ⊎ IsFollowedBy b.view a.view) [
      | inl on ↦ inl (within a b on)
      | inr back ↦ inr (within b a back)
    ]
