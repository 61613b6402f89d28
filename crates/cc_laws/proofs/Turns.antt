-- A member of a cluster that takes one event after the other, and puts out at once what each makes.
--     lived                 a member of which all is durable and was put out
--     Seat q put            clusters that differ in their member q and in what was sent
--     turn, turned          an event is taken, made durable and released
--     lost, forgotten       an event is taken, and a crash takes it back
use Rattle.std.proofs.Common.{◌≡◌, ℕ, ◌+◌, List, [], ◌∷◌, ◌++◌, map, take, drop, length, refl, sym, ap, ◌∙◌, arith, length-append}
use Rattle.std.specs.Prelude.{Some, None}
use Rattle.std.specs.FinMap as table
use Rattle.std.proofs.lemmas.List.{append-nil, take_at, take_all, drop_at}
use Rattle.cc_messages.specs.declared.event.Event.{Event}
use Rattle.cc_messages.specs.declared.output.Output.{Output}
use Rattle.cc_node.specs.Core.{outputs}
use Rattle.cc_node.specs.Node.{Node, step, after, line}
use Rattle.cc_node.specs.Openings.{Opening, fresh}
use Rattle.cc_node.specs.Refusals.{decides}
use Rattle.cc_laws.specs.Clusters.{Member, Cluster, Sent, Move, Sync, Release, Crash, MovesBy, with_member, with_sent, accepting, put_out}
use Rattle.cc_laws.specs.Runs.{Run}
use Rattle.cc_laws.proofs.Places.{after_push}
use Rattle.cc_laws.proofs.TwoNodes.{Takes}

abbrev pub lived : Opening → List Event → Member
lived o es = record { opening = o; events = es; released = length es; durable = length es }

abbrev pub sent_by : ℕ → List Output → List Sent
sent_by q os = map (λ o. record { from = q; output = o }) os

pub record Seat (q : ℕ) (put : Member → List Sent → Cluster) : Type 0 where
  pub there : (m : Member) (s : List Sent) → table.get (put m s).members q ≡ Some m
  pub again : (m n : Member) (s : List Sent) → with_member q n (put m s) ≡ put n s
  pub more : (m : Member) (s : List Sent) (os : List Output) → with_sent q os (put m s) ≡ put m (s ++ sent_by q os)

abbrev pub turn : ℕ → Move → ℕ → List (ℕ × Move)
turn q move count = (q, move) ∷ (q, Sync (count + 1)) ∷ (q, Release (count + 1)) ∷ []

abbrev pub lost : ℕ → Move → ℕ → List (ℕ × Move)
lost q move count = (q, move) ∷ (q, Crash count) ∷ []

module _ (q : ℕ) (put : Member → List Sent → Cluster) (seat : Seat q put) (o : Opening) (es : List Event) (e : Event) (move : Move) (s : List Sent)
    (n k : Node) (os : List Output) (at : after (fresh o) es ≡ n) (takes : Takes n e k os) where
  abbrev all : List Event
  all = es ++ e ∷ []

  abbrev now : ℕ
  now = length es + 1

  long : length all ≡ now
  long = length-append es (e ∷ [])

  pub reached : after (fresh o) all ≡ k
  reached = after_push (fresh o) es e ∙ ap (λ (x : Node). step x e) at ∙ takes.leads

  -- the member as it goes through the three moves
  abbrev taken : Member
  taken = accepting e (lived o es)

  abbrev synced : Member
  synced = record taken { durable = now }

  puts : put_out now synced ≡ os
  puts =
      ap (λ (l : List Event). line (after (fresh o) (take (length es) all)) (drop (length es) l)) (take_all now all (omega (arith, long)))
      ∙ ap (line (after (fresh o) (take (length es) all))) (drop_at es (e ∷ []) (length es) refl)
      ∙ ap (λ (l : List Event). line (after (fresh o) l) (e ∷ [])) (take_at es (e ∷ []) (length es) refl)
      ∙ append-nil (outputs (after (fresh o) es).core e) ∙ ap (λ (x : Node). outputs x.core e) at ∙ takes.puts

  released : record synced { released = now } ≡ lived o all
  released = λ i. record { opening = o; events = all; released = sym long i; durable = sym long i }

  done : with_sent q (put_out now synced) (with_member q (record synced { released = now }) (put synced s)) ≡ put (lived o all) (s ++ sent_by q os)
  done =
      ap (with_sent q (put_out now synced)) (seat.again synced (record synced { released = now }) s)
      ∙ seat.more (record synced { released = now }) s (put_out now synced)
      ∙ (λ i. put (released i) (s ++ sent_by q (puts i)))

  -- the move by which it takes the event, where it may
  abbrev Taking : Type 0
  Taking = (decides (after (fresh o) es).core e ≡ None) → put taken s ≡ with_member q taken (put (lived o es) s)
      → MovesBy (put (lived o es) s) q (lived o es) move (put taken s)

  takes_it : Taking → MovesBy (put (lived o es) s) q (lived o es) move (put taken s)
  takes_it may = may (ap (λ (x : Node). decides x.core e) at ∙ takes.taken) (sym (seat.again (lived o es) taken s))

  pub turned : Taking → Run (put (lived o es) s) (turn q move (length es)) (put (lived o all) (s ++ sent_by q os))
  turned may = (
    put taken s,
    (lived o es, seat.there (lived o es) s, takes_it may),
    (
      put synced s,
      (taken, seat.there taken s, (omega arith, omega (arith, long), sym (seat.again taken synced s))),
      (put (lived o all) (s ++ sent_by q os), (synced, seat.there synced s, (omega arith, omega arith, sym done)), refl),
    ),
  )

  -- what a crash leaves of it: what was put out
  abbrev left : Member
  left = record taken { events = take (length es) all; released = length es; durable = length es }

  as_before : left ≡ lived o es
  as_before = λ i. record { opening = o; events = take_at es (e ∷ []) (length es) refl i; released = length es; durable = length es }

  pub forgotten : Taking → Run (put (lived o es) s) (lost q move (length es)) (put (lived o es) s)
  forgotten may = (
    put taken s,
    (lived o es, seat.there (lived o es) s, takes_it may),
    (
      put (lived o es) s,
      (taken, seat.there taken s, (omega arith, omega (arith, long), sym (seat.again taken left s ∙ (λ i. put (as_before i) s)))),
      refl,
    ),
  )
