-- Rounds of which one node gives the last answer.
--     is_by hub e      the event is no answer to a round, or one of this node
use Rattle.std.proofs.Common.{◌≡◌, ℕ, Bool, true, nat_eq, List, [], ◌∷◌, ◌++◌, refl, sym, ap, subst, ◌∙◌, arith}
use Rattle.std.specs.Prelude.{Option, Some}
use Rattle.std.specs.Bool.{then_some}
use Rattle.std.specs.List.{Contains, list_all}
use Rattle.std.proofs.lemmas.Bool.{and_parts, eqb-true}
use Rattle.cc_messages.specs.declared.event.Event.{Event}
use Rattle.cc_messages.specs.declared.event.Event.TheVariants as event
use Rattle.cc_messages.specs.declared.message.Message.TheVariants as message
use Rattle.cc_node.specs.Core.{Core}
use Rattle.cc_node.specs.Node.{after}
use Rattle.cc_node.specs.Openings.{fresh}
use Rattle.cc_laws.specs.Clusters.{Member}
use Rattle.cc_laws.specs.Rounds.{answers, lacks_one, counts, ends_round, with_peer, peers_along}
use Rattle.cc_laws.specs.Regular.{released_events, RoundOf, Counted}

abbrev pub is_by : ℕ → Event → Bool
is_by hub (event.Deliver from n (message.QueryReply v tag q)) = nat_eq from hub
is_by hub (event.Deliver from n (message.StoreAck tag q)) = nat_eq from hub
is_by hub _ = true

all_mid : (p : Event → Bool) (xs ys : List Event) (e : Event) → list_all p (xs ++ e ∷ ys) ≡ true → p e ≡ true
all_mid p [] ys e h = (and_parts (p e) _ h).0
all_mid p (x ∷ xs) ys e h = all_mid p xs ys e (and_parts (p x) _ h).1

-- it is among those that were counted, if its answer is the last one
pub last_counted : (counted : Option ℕ) (q : ℕ) (peers : List ℕ) → Some q ≡ counted → Contains (with_peer counted peers) q
last_counted counted q peers is = subst (λ (o : Option ℕ). Contains (with_peer o peers) q) is (0, omega arith, refl)

answered : (hub from : ℕ) (b : Bool) (peers : List ℕ) → nat_eq from hub ≡ true → b ≡ true → Contains (with_peer (then_some b from) peers) hub
answered hub from b peers by is =
    last_counted (then_some b from) hub peers (ap (λ (q : ℕ). Some q) (sym (eqb-true from hub by)) ∙ ap (λ (c : Bool). then_some c from) (sym is))

ends_by : (hub : ℕ) (c : Core) (e : Event) (peers : List ℕ) → is_by hub e ≡ true → ends_round c e ≡ true → Contains (with_peer (counts c e) peers) hub
ends_by hub c (event.Deliver from n (message.QueryReply v tag q)) peers by ends =
    answered hub from (answers c.me c.ops (message.QueryReply v tag q)) peers by
    (and_parts (answers c.me c.ops (message.QueryReply v tag q)) (lacks_one c.ops.phase) ends).0
ends_by hub c (event.Deliver from n (message.StoreAck tag q)) peers by ends =
    answered hub from (answers c.me c.ops (message.StoreAck tag q)) peers by
    (and_parts (answers c.me c.ops (message.StoreAck tag q)) (lacks_one c.ops.phase) ends).0
ends_by hub c _ peers by ends = cc

pub hub_counted : (hub : ℕ) (m : Member) → list_all (is_by hub) (released_events m) ≡ true → (round : RoundOf m) → Counted m round hub
hub_counted hub m all round =
    let here = all_mid (is_by hub) round.before round.later round.last
    (subst (λ (es : List Event). list_all (is_by hub) es ≡ true) round.parts all) in
    ends_by hub (after (fresh m.opening) round.before).core round.last (peers_along (fresh m.opening) [] round.before) here round.ends
