-- Whatever happens in a cluster, each row in it is one that its node released.
--     run_holds, fresh_holds     each move keeps that, and it holds at first
use Rattle.std.proofs.Common.{◌≡◌, ℕ, ◌+◌, ◌≤◌, cond, List, [], ◌∷◌, ◌++◌, take, length, refl, sym, ap, subst, ◌∙◌, arith, length-append}
use Rattle.std.specs.Prelude.{Some, None}
use Rattle.std.specs.List.{AllByRecursion}
use Rattle.std.specs.FinMap as table
use Rattle.std.proofs.lemmas.Bool.{eq-eqb}
use Rattle.std.proofs.lemmas.List.{take-append-le, take-take, length-take-le}
use Rattle.cc_views.specs.NatSets.{get-insert_key}
use Rattle.cc_views.specs.declared.value.Value.{Value}
use Rattle.cc_messages.specs.declared.event.Event.{Event}
use Rattle.cc_messages.specs.declared.event.Event.TheVariants as event
use Rattle.cc_messages.specs.declared.output.Output.{Output}
use Rattle.cc_node.specs.Node.{HasOutput, IsLawful}
use Rattle.cc_node.specs.Openings.{fresh}
use Rattle.cc_node.specs.Histories.{IsLawful-append}
use Rattle.cc_node.specs.Refusals.{decides}
use Rattle.cc_laws.specs.Shown.{in_output}
use Rattle.cc_laws.specs.Clusters.{Member, Cluster, node_at, live_node, with_member, with_sent, accepting, put_out, IsOwn, Move, Accept, Receive, Sync, Release}
use Rattle.cc_laws.specs.Clusters.{Resend, Crash, MovesBy}
use Rattle.cc_laws.specs.Runs.{Run, IsFreshMember, IsFreshCluster}
use Rattle.cc_laws.proofs.Lists.{all_both, all_take, of_some, all_at}
use Rattle.cc_laws.proofs.ShownViews.{of_shown}
use Rattle.cc_laws.proofs.Rows.{AllRows, EventRows}
use Rattle.cc_laws.proofs.ResentViews.{has_shown}
use Rattle.cc_laws.proofs.Members.{IsSound, lawful_front, front_rows, rest_rows}
use Rattle.cc_laws.proofs.ClusterSteps.{Released, SentRows, Holds, member_holds, sent_holds, IsAt, Grows, grows_same, grows_by}

-- how a member grows as it accepts, has synced, releases and crashes
pub accept_grows : (q : ℕ) (m : Member) (e : Event) → IsSound q m → Grows m (accepting e m)
accept_grows q m e sound =
    grows_same m (accepting e m) refl (take-append-le m.released m.events (e ∷ []) (omega (arith, sound.released, sound.durable)))

abbrev pub synced : ℕ → Member → Member
synced k m = record m { durable = k }

pub sync_grows : (m : Member) (k : ℕ) → Grows m (synced k m)
sync_grows m k = grows_same m (synced k m) refl refl

abbrev pub releasing : ℕ → Member → Member
releasing k m = record m { released = k }

pub release_grows : (m : Member) (k : ℕ) → m.released ≤ k → Grows m (releasing k m)
release_grows m k le = grows_by m (releasing k m) k refl le refl

abbrev pub crashed : ℕ → Member → Member
crashed k m = record m { events = take k m.events; released = k; durable = k }

pub crash_grows : (m : Member) (k : ℕ) → m.released ≤ k → Grows m (crashed k m)
crash_grows m k le = grows_by m (crashed k m) k refl le (take-take k k m.events (omega arith))

pub put_there : (c : Cluster) (q : ℕ) (n : Member) → IsAt (with_member q n c) q n
put_there c q n = get-insert_key c.members q n q ∙ ap (λ t. cond t (Some n) (table.get c.members q)) (eq-eqb q q refl)

-- an event of the node's own brings no rows
own_rows : (P : ℕ → ℕ → Value → Type 0) (e : Event) → IsOwn e → EventRows P e
own_rows P (event.Deliver from n m) h = absurd h
own_rows P _ h = tt

module _ (c : Cluster) (q : ℕ) (m : Member) (h : Holds c) (at : IsAt c q m) where
  sound : IsSound q m
  sound = h.sound q m at

  brought : AllByRecursion (EventRows (Released c)) m.events
  brought = h.brought q m at

  accept_holds : (e : Event) → decides (live_node m).core e ≡ None → EventRows (Released c) e → Holds (with_member q (accepting e m) c)
  accept_holds e taken rows =
      let more : length (m.events ++ e ∷ []) ≡ length m.events + 1 = length-append m.events (e ∷ []) in
      member_holds c q m (accepting e m) h at (accept_grows q m e sound)
      (record {
        opening = sound.opening;
        me = sound.me;
        lawful = IsLawful-append (fresh m.opening) m.events (e ∷ []) sound.lawful (taken, tt);
        released = sound.released;
        durable = omega (arith, sound.durable, more);
      })
      (all_both (EventRows (Released c)) m.events (e ∷ []) brought (rows, tt))

  sync_holds : (k : ℕ) → m.durable ≤ k → k ≤ length m.events → Holds (with_member q (synced k m) c)
  sync_holds k le fits =
      member_holds c q m (synced k m) h at (sync_grows m k)
      (record { opening = sound.opening; me = sound.me; lawful = sound.lawful; released = omega (arith, sound.released, le); durable = fits })
      brought

  release_holds : (k : ℕ) → m.released ≤ k → k ≤ m.durable → Holds (with_sent q (put_out k m) (with_member q (releasing k m) c))
  release_holds k le fits =
      let n = releasing k m in
      let d = with_member q n c in
      let here : IsAt d q n = put_there c q n in
      let now : IsSound q n = record { opening = sound.opening; me = sound.me; lawful = sound.lawful; released = fits; durable = sound.durable } in
      let holds : Holds d = member_holds c q m n h at (release_grows m k le) now brought in
      sent_holds d q (put_out k m) holds (rest_rows (Released d) q n m.released k le now (holds.brought q n here) (λ j x is. (n, here, is)))

  -- what is put out again was shown by then
  resend_holds : (o : Output) → HasOutput (node_at m m.released) o → Holds (with_sent q (o ∷ []) c)
  resend_holds o has =
      let P = Released c in
      let n = node_at m m.released in
      let shows = (front_rows P q m m.released sound brought (λ j x is. (m, at, is))).0 in
      sent_holds c q (o ∷ []) h (of_some (AllRows P) (in_output o) (λ v is. of_shown (AllRows P) n v shows (has_shown n o v has is)), tt)

  crash_holds : (k : ℕ) → m.released ≤ k → k ≤ length m.events → Holds (with_member q (crashed k m) c)
  crash_holds k le fits =
      let long : length (take k m.events) ≡ k = length-take-le k m.events fits in
      member_holds c q m (crashed k m) h at (crash_grows m k le)
      (record {
        opening = sound.opening;
        me = sound.me;
        lawful = lawful_front (fresh m.opening) m.events k sound.lawful;
        released = omega arith;
        durable = omega (arith, long);
      })
      (all_take (EventRows (Released c)) k m.events brought)

  pub move_holds : (move : Move) (d : Cluster) → MovesBy c q m move d → Holds d
  move_holds (Accept e) d s = subst Holds (sym s.2) (accept_holds e s.1 (own_rows (Released c) e s.0))
  move_holds (Receive from n k) d s =
      subst Holds (sym s.2) (accept_holds (event.Deliver from n k) s.1 (all_at (SentRows (Released c)) c.sent _ h.sent s.0))
  move_holds (Sync k) d s = subst Holds (sym s.2) (sync_holds k s.0 s.1)
  move_holds (Release k) d s = subst Holds (sym s.2) (release_holds k s.0 s.1)
  move_holds (Resend o) d s = subst Holds (sym s.1) (resend_holds o s.0)
  move_holds (Crash k) d s = subst Holds (sym s.2) (crash_holds k s.0 s.1)

pub run_holds : (c : Cluster) (moves : List (ℕ × Move)) (d : Cluster) → Holds c → Run c moves d → Holds d
run_holds c [] d h r = subst Holds (sym r) h
run_holds c (move ∷ moves) d h r = run_holds r.0 moves d (move_holds c move.0 r.1.0 h r.1.1 move.1 r.0 r.1.2) r.2

fresh_sound : (q : ℕ) (m : Member) → IsFreshMember q m → IsSound q m
fresh_sound q m h = record {
  opening = h.opening;
  me = h.me;
  lawful = subst (IsLawful (fresh m.opening)) (sym h.events) tt;
  released = omega (arith, h.released, h.durable);
  durable = omega (arith, h.durable);
}

pub fresh_holds : (c : Cluster) → IsFreshCluster c → Holds c
fresh_holds c h = record {
  sound = λ q m at. fresh_sound q m (h.members q m at);
  brought = λ q m at. subst (AllByRecursion (EventRows (Released c))) (sym (h.members q m at).events) tt;
  sent = subst (AllByRecursion (SentRows (Released c))) (sym h.sent) tt;
}
