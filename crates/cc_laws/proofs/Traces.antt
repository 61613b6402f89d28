-- What was sent or delivered in a cluster was made by its sender along what it has released; and that only grows.
--     MadeBy c q o              node q made the output along its released events
--     Traces, run_traces        all that was sent was so made, and all that was delivered was so sent
--     run_grows                 what a node released stays the front of what it has released later
use Rattle.std.proofs.Common.{◌≡◌, ℕ, ◌≤◌, List, [], ◌∷◌, ◌++◌, take, drop, refl, sym, ap, subst, ◌∙◌, inl, inr, arith}
use Rattle.std.specs.Prelude.{map, ⊤, Option}
use Rattle.std.specs.Option.{option_map_or}
use Rattle.std.specs.Ordering.{nat_cmp}
use Rattle.std.specs.List.{Contains, AllByRecursion}
use Rattle.std.specs.FinMap as table
use Rattle.std.proofs.lemmas.List.{append_assoc}
use Rattle.std.proofs.lemmas.List.Elements.{Contains-append_left, Contains-append_right}
use Rattle.cc_messages.specs.declared.event.Event.{Event}
use Rattle.cc_messages.specs.declared.event.Event.TheVariants as event
use Rattle.cc_messages.specs.declared.output.Output.{Output}
use Rattle.cc_messages.specs.declared.output.Output.TheVariants as output
use Rattle.cc_links.specs.Links.{Link, heard_from, add_all}
use Rattle.cc_node.specs.Node.{after, line, HasOutput, MayBeOut}
use Rattle.cc_node.specs.Openings.{Opening, ids_of, fresh}
use Rattle.cc_node.specs.Histories.{line-append}
use Rattle.cc_node.proofs.FreshLaws.{fresh_lawful}
use Rattle.cc_node.proofs.LawfulLaws.{add_all_heard}
use Rattle.cc_node.proofs.StandingLaws.{standing_made}
use Rattle.cc_laws.specs.Clusters.{Member, Cluster, Sent, node_at, with_member, with_sent, accepting, put_out, IsOwn, Move, Accept, Receive, Sync, Release}
use Rattle.cc_laws.specs.Clusters.{Resend, Crash, MovesBy}
use Rattle.cc_laws.specs.Runs.{Run, IsFreshCluster}
use Rattle.cc_laws.specs.Regular.{released_events}
use Rattle.cc_laws.proofs.Lists.{all_both, all_take, all_changed, all_there, all_at}
use Rattle.cc_laws.proofs.Members.{lawful_front, front_parts}
use Rattle.cc_laws.proofs.ClusterSteps.{Holds, IsAt, all_from, Grows, GrownAt, grows_same, member_grows, each_member}
use Rattle.cc_laws.proofs.ClusterMoves.{move_holds, crashed, put_there, accept_grows, sync_grows, release_grows, crash_grows, synced, releasing}

abbrev pub MadeBy : Cluster → ℕ → Output → Type 0
MadeBy c q o = (m : Member) × IsAt c q m × Contains (line (fresh m.opening) (released_events m)) o

-- an event of node q
abbrev pub CameFrom : Cluster → ℕ → Event → Type 0
CameFrom c q (event.Deliver from n k) = MadeBy c from (output.Send q n k)
CameFrom c q _ = ⊤

abbrev pub WasMade : Cluster → Sent → Type 0
WasMade c s = MadeBy c s.from s.output

pub record Traces (c : Cluster) : Type 0 where
  pub sent : AllByRecursion (WasMade c) c.sent
  pub came : (q : ℕ) (m : Member) → IsAt c q m → AllByRecursion (CameFrom c q) m.events

grown_on : (m n o : Member) → Grows m n → Grows n o → Grows m o
grown_on m n o h k = record {
  opening = k.opening ∙ h.opening;
  longer = (
    h.longer.0 ++ k.longer.0,
    k.longer.1 ∙ ap (λ (l : List Event). l ++ k.longer.0) h.longer.1 ∙ append_assoc (released_events m) h.longer.0 k.longer.0,
  );
}

-- a place in what was released is one in what is released later
pub place_later : (m n : Member) (grows : Grows m n) (before later : List Event) (e : Event) → released_events m ≡ before ++ e ∷ later
    → released_events n ≡ before ++ e ∷ (later ++ grows.longer.0)
place_later m n grows before later e parts =
    grows.longer.1 ∙ ap (λ (l : List Event). l ++ grows.longer.0) parts ∙ append_assoc before (e ∷ later) grows.longer.0

-- ---- a member that released more in the place of another

longer_line : (m n : Member) (o : Output) → Grows m n → Contains (line (fresh m.opening) (released_events m)) o
    → Contains (line (fresh n.opening) (released_events n)) o
longer_line m n o grows has =
    let start = fresh m.opening in
    let es = released_events m in
    let more = grows.longer.0 in
    let both : line start (released_events n) ≡ line start es ++ line (after start es) more = ap (line start) grows.longer.1 ∙ line-append start es more in
    subst (λ (a : Opening). Contains (line (fresh a) (released_events n)) o) (sym grows.opening)
    (subst (λ (l : List Output). Contains l o) (sym both) (Contains-append_left (line start es) (line (after start es) more) o has))

made_kept : (c : Cluster) (q : ℕ) (m n : Member) → IsAt c q m → Grows m n → (p : ℕ) (o : Output) → MadeBy c p o → MadeBy (with_member q n c) p o
made_kept c q m n at grows p o r =
    let g = member_grows c q m n at grows p r.0 r.1 in
    (g.0, g.1, longer_line r.0 g.0 o g.2 r.2)

came_kept : (c d : Cluster) → ((p : ℕ) (o : Output) → MadeBy c p o → MadeBy d p o) → (q : ℕ) (e : Event) → CameFrom c q e → CameFrom d q e
came_kept c d f q (event.Deliver from n k) h = f from (output.Send q n k) h
came_kept c d f q _ h = tt

member_traces : (c : Cluster) (q : ℕ) (m n : Member) → Traces c → IsAt c q m → Grows m n → AllByRecursion (CameFrom c q) n.events
    → Traces (with_member q n c)
member_traces c q m n h at grows came =
    let d = with_member q n c in
    let kept = made_kept c q m n at grows in
    record {
      sent = all_changed (WasMade c) (WasMade d) (λ s. kept s.from s.output) c.sent h.sent;
      came = each_member (λ p o. AllByRecursion (CameFrom d p) o.events) c q n
          (all_changed (CameFrom c q) (CameFrom d q) (came_kept c d kept q) n.events came)
          (λ p o is. all_changed (CameFrom c p) (CameFrom d p) (came_kept c d kept p) o.events (h.came p o is));
    }

sent_traces : (c : Cluster) (q : ℕ) (os : List Output) → Traces c → AllByRecursion (MadeBy c q) os → Traces (with_sent q os c)
sent_traces c q os h k = record {
  sent = all_both (WasMade c) c.sent (map (λ o. record { from = q; output = o }) os) h.sent (all_from (WasMade c) q os k);
  came = h.came;
}

-- ---- moves

-- a fresh node has nothing to put out again
none_stands : (o : Opening) (out : Output) → HasOutput (fresh o) out → ⊥
unfolding fresh
none_stands o (output.Send to wire m) h = let none = sym (table.get-empty nat_cmp h.0) ∙ h.2 in absurd cc
none_stands o (output.Ack to heard) h =
    let heard_of = λ (l : Option Link). option_map_or (λ (k : Link). k.heard) l 0 in
    let none : heard_from to (add_all 0 (ids_of o) table.empty) ≡ heard = ap heard_of h.1 ∙ h.2 in
    let zero_heard : heard_from to (add_all 0 (ids_of o) table.empty) ≡ 0 =
    add_all_heard 0 (ids_of o) table.empty to ∙ ap heard_of (table.get-empty nat_cmp to) in
    omega (arith, none, zero_heard, h.3)
none_stands o (output.Reply s r a) h = let none = sym (table.get-empty nat_cmp s) ∙ h.0 in absurd cc

only_made : (o : Opening) (es : List Event) (out : Output) → MayBeOut (fresh o) es out → Contains (line (fresh o) es) out
only_made o es out (inl stood) = absurd (none_stands o out stood)
only_made o es out (inr made) = made

own_came : (c : Cluster) (q : ℕ) (e : Event) → IsOwn e → CameFrom c q e
own_came c q (event.Deliver from n m) h = absurd h
own_came c q _ h = tt

module _ (c : Cluster) (q : ℕ) (m : Member) (h : Holds c) (at : IsAt c q m) where
  module _ (t : Traces c) where
    accept_traces : (e : Event) → CameFrom c q e → Traces (with_member q (accepting e m) c)
    accept_traces e came =
        member_traces c q m (accepting e m) t at (accept_grows q m e (h.sound q m at)) (all_both (CameFrom c q) m.events (e ∷ []) (t.came q m at) (came, tt))

    release_traces : (k : ℕ) → m.released ≤ k → Traces (with_sent q (put_out k m) (with_member q (releasing k m) c))
    release_traces k le =
        let n = releasing k m in
        let d = with_member q n c in
        let start = fresh m.opening in
        let both : line start (take k m.events) ≡ line start (released_events m) ++ put_out k m =
        ap (line start) (sym (front_parts m.released k m.events le)) ∙ line-append start (released_events m) (drop m.released (take k m.events)) in
        sent_traces d q (put_out k m) (member_traces c q m n t at (release_grows m k le) (t.came q m at))
        (all_there (MadeBy d q) (put_out k m) (λ o has. (
          n,
          put_there c q n,
          subst (λ (l : List Output). Contains l o) (sym both)
              (Contains-append_right (line start (released_events m)) (put_out k m) o has),
        )))

    resend_traces : (o : Output) → HasOutput (node_at m m.released) o → Traces (with_sent q (o ∷ []) c)
    resend_traces o has =
        let sound = h.sound q m at in
        let lawful = lawful_front (fresh m.opening) m.events m.released sound.lawful in
        let out = standing_made (fresh m.opening) (released_events m) o (fresh_lawful m.opening sound.opening) lawful has in
        sent_traces c q (o ∷ []) t ((m, at, only_made m.opening (released_events m) o out), tt)

    pub move_traces : (move : Move) (d : Cluster) → MovesBy c q m move d → Traces d
    move_traces (Accept e) d s = subst Traces (sym s.2) (accept_traces e (own_came c q e s.0))
    move_traces (Receive from n k) d s = subst Traces (sym s.2) (accept_traces (event.Deliver from n k) (all_at (WasMade c) c.sent _ t.sent s.0))
    move_traces (Sync k) d s = subst Traces (sym s.2) (member_traces c q m (synced k m) t at (sync_grows m k) (t.came q m at))
    move_traces (Release k) d s = subst Traces (sym s.2) (release_traces k s.0)
    move_traces (Resend o) d s = subst Traces (sym s.1) (resend_traces o s.0)
    move_traces (Crash k) d s =
        subst Traces (sym s.2) (member_traces c q m (crashed k m) t at (crash_grows m k s.0) (all_take (CameFrom c q) k m.events (t.came q m at)))

  module _ (p : ℕ) (o : Member) (is : IsAt c p o) where
    grown_as : (n : Member) (x y : Cluster) → Grows m n → x ≡ y → (GrownAt (with_member q n c) p o → GrownAt y p o) → GrownAt x p o
    grown_as n x y grows is_y on = subst (λ (z : Cluster). GrownAt z p o) (sym is_y) (on (member_grows c q m n at grows p o is))

    move_grows : (move : Move) (d : Cluster) → MovesBy c q m move d → GrownAt d p o
    move_grows (Accept e) d s = grown_as (accepting e m) d _ (accept_grows q m e (h.sound q m at)) s.2 (λ g. g)
    move_grows (Receive from n k) d s =
        let e = event.Deliver from n k in grown_as (accepting e m) d _ (accept_grows q m e (h.sound q m at)) s.2 (λ g. g)
    move_grows (Sync k) d s = grown_as (synced k m) d _ (sync_grows m k) s.2 (λ g. g)
    move_grows (Release k) d s = grown_as (releasing k m) d _ (release_grows m k s.0) s.2 (λ g. g)
    move_grows (Resend x) d s = subst (λ (y : Cluster). GrownAt y p o) (sym s.1) (o, is, grows_same o o refl refl)
    move_grows (Crash k) d s = grown_as (crashed k m) d _ (crash_grows m k s.0) s.2 (λ g. g)

pub run_traces : (c : Cluster) (moves : List (ℕ × Move)) (d : Cluster) → Holds c → Traces c → Run c moves d → Traces d
run_traces c [] d h t r = subst Traces (sym r) t
run_traces c (move ∷ moves) d h t r =
    run_traces r.0 moves d (move_holds c move.0 r.1.0 h r.1.1 move.1 r.0 r.1.2) (move_traces c move.0 r.1.0 h r.1.1 t move.1 r.0 r.1.2) r.2

pub fresh_traces : (c : Cluster) → IsFreshCluster c → Traces c
fresh_traces c h = record {
  sent = subst (AllByRecursion (WasMade c)) (sym h.sent) tt;
  came = λ q m at. subst (AllByRecursion (CameFrom c q)) (sym (h.members q m at).events) tt;
}

pub run_grows : (c : Cluster) (moves : List (ℕ × Move)) (d : Cluster) → Holds c → Run c moves d → (p : ℕ) (o : Member) → IsAt c p o
    → GrownAt d p o
run_grows c [] d h r p o is = subst (λ (x : Cluster). GrownAt x p o) (sym r) (o, is, grows_same o o refl refl)
run_grows c (move ∷ moves) d h r p o is =
    let first = move_grows c move.0 r.1.0 h r.1.1 p o is move.1 r.0 r.1.2 in
    let rest = run_grows r.0 moves d (move_holds c move.0 r.1.0 h r.1.1 move.1 r.0 r.1.2) r.2 p first.0 first.1 in
    (rest.0, rest.1, grown_on o first.0 rest.0 first.2 rest.2)

-- ---- what was sent stays so

move_sent : (c : Cluster) (q : ℕ) (m : Member) (move : Move) (d : Cluster) → MovesBy c q m move d → (s : Sent) → Contains c.sent s → Contains d.sent s
move_sent c q m (Release k) d is s has = subst (λ (x : Cluster). Contains x.sent s) (sym is.2) (Contains-append_left c.sent _ s has)
move_sent c q m (Resend o) d is s has = subst (λ (x : Cluster). Contains x.sent s) (sym is.1) (Contains-append_left c.sent _ s has)
move_sent c q m _ d is s has = subst (λ (x : Cluster). Contains x.sent s) (sym is.2) has

pub run_sent : (c : Cluster) (moves : List (ℕ × Move)) (d : Cluster) → Run c moves d → (s : Sent) → Contains c.sent s → Contains d.sent s
run_sent c [] d r s has = subst (λ (x : Cluster). Contains x.sent s) (sym r) has
run_sent c (move ∷ moves) d r s has = run_sent r.0 moves d r.2 s (move_sent c move.0 r.1.0 move.1 r.0 r.1.2 s has)
