-- What nodes know: who acknowledged a store has all of it by then, and who is asked later tells all that it has by then.
--     me_of, view_within, came_before, came_last     of one member
--     Posted, posted             a message was posted by an event of what a member released
--     Knows                      the released view of a node has a row of another that is numbered so or higher
--     posted_by                  a message that tells the id of who posts it was posted by the node of that id
--     store_known                who acknowledged a store knows what was stored
--     reply_known                who is asked by a query that began later tells what it knew
use Rattle.std.proofs.Common.{◌≡◌, ◌⊎◌, ℕ, ◌<◌, List, [], ◌∷◌, ◌++◌, refl, sym, ap, subst, ◌∙◌, inl, inr, arith}
use Rattle.std.specs.Prelude.{Some}
use Rattle.std.specs.List.{Contains}
use Rattle.std.proofs.lemmas.List.Elements.{Contains-append_left}
use Rattle.cc_views.specs.Rows.{ViewMap}
use Rattle.cc_views.specs.Merge.{IsAtMost}
use Rattle.cc_views.specs.MergeLaws.{at_most_trans}
use Rattle.cc_messages.specs.declared.event.Event.{Event}
use Rattle.cc_messages.specs.declared.event.Event.TheVariants as event
use Rattle.cc_messages.specs.declared.message.Message.{Message}
use Rattle.cc_messages.specs.declared.message.Message.TheVariants as message
use Rattle.cc_messages.specs.declared.output.Output.TheVariants as output
use Rattle.cc_node.specs.Core.{Core, next, post, outputs}
use Rattle.cc_node.specs.Node.{Node, after, line}
use Rattle.cc_node.specs.Openings.{fresh}
use Rattle.cc_node.proofs.CoreLaws.{view_grows, view_grows_along}
use Rattle.cc_laws.specs.Clusters.{Member, Cluster, node_at}
use Rattle.cc_laws.specs.Regular.{released_events, HasAtLeast}
use Rattle.cc_laws.proofs.Lists.{at_some, contains_at, contains_front, all_at}
use Rattle.cc_laws.proofs.Lines.{made_in}
use Rattle.cc_laws.proofs.Members.{IsSound, lawful_front}
use Rattle.cc_laws.proofs.ClusterSteps.{Holds, IsAt, one_at, Grows, GrownAt}
use Rattle.cc_laws.proofs.Places.{parts_more, after_parts, same_head, same_tail, at_once, front_low, Place}
use Rattle.cc_laws.proofs.Says.{tag_after, stored_of, PostSays, post_says, GoesTo, OutputSays, outputs_say}
use Rattle.cc_laws.proofs.PendingRounds.{Raised, core_push, least_more}
use Rattle.cc_laws.proofs.Traces.{MadeBy, CameFrom, Traces}
use Rattle.cc_laws.proofs.WritingAsks.{fresh_me}
use Rattle.cc_laws.proofs.OwnWrites.{me_along}

-- ---- one member

pub me_of : (q : ℕ) (m : Member) → IsSound q m → (es : List Event) → (after (fresh m.opening) es).core.me ≡ q
me_of q m sound es = me_along (fresh m.opening) es ∙ fresh_me m.opening ∙ sound.me

-- the view after an event is at most the one after all
pub view_within : (n : Node) (es : List Event) (p : Place es) → IsAtMost (next (after n p.before).core p.here).ops.view (after n es).core.ops.view
view_within n es p =
    let front = p.before ++ p.here ∷ [] in
    let all : after n es ≡ after (after n front) p.later = after_parts n es front p.later (parts_more es p.before p.later p.here p.parts) in
    subst (λ (c : Core). IsAtMost c.ops.view (after n es).core.ops.view) (core_push n p.before p.here)
    (subst (λ (m : Node). IsAtMost (after n front).core.ops.view m.core.ops.view) (sym all) (view_grows_along (after n front) p.later))

pub record Posted (m : Member) (to n : ℕ) (k : Message) : Type 0 where
  pub place : Place (released_events m)
  pub open place use *
  pub posts : post (after (fresh m.opening) before).core here ≡ Some k
  pub says : PostSays (after (fresh m.opening) before).core here k
  pub goes : GoesTo (next (after (fresh m.opening) before).core here) to n

pub posted : (m : Member) (to n : ℕ) (k : Message) → Contains (line (fresh m.opening) (released_events m)) (output.Send to n k) → Posted m to n k
posted m to n k has =
    let made = made_in (fresh m.opening) (released_events m) (output.Send to n k) has in
    let c = (after (fresh m.opening) made.before).core in
    let is : OutputSays c made.event (output.Send to n k) =
    all_at (OutputSays c made.event) (outputs c made.event) (output.Send to n k) (outputs_say c made.event) made.makes in
    record {
      place = record { before = made.before; here = made.event; later = made.later; parts = made.parts };
      posts = is.0;
      says = at_some (PostSays c made.event) (post c made.event) k is.0 (post_says c made.event);
      goes = is.1;
    }

-- what a member released before an event, and that event, are among its events
module _ (m : Member) (p : Place (released_events m)) (e : Event) where
  pub came_before : Contains p.before e → Contains m.events e
  came_before has =
      contains_front m.released m.events e (subst (λ l. Contains l e) (sym p.parts) (Contains-append_left p.before (p.here ∷ p.later) e has))

  pub came_last : p.here ≡ e → Contains m.events e
  came_last is =
      contains_front m.released m.events e (subst (Contains (released_events m)) is (contains_at (released_events m) p.before p.later p.here p.parts))

-- the tag after the event that raised it, and what its round stores
pub raised_at : (n : Node) (before : List Event) (e : Event) (tag : ℕ) → tag ≡ (next (after n before).core e).ops.tag
    → tag ≡ (after n (before ++ e ∷ [])).core.ops.tag
raised_at n before e tag is = is ∙ ap (λ (c : Core). c.ops.tag) (sym (core_push n before e))

stored_at : (n : Node) (before other : List Event) (e f : Event) (v : ViewMap) → before ≡ other → e ≡ f → v ≡ stored_of (next (after n before).core e).ops
    → v ≡ stored_of (after n (other ++ f ∷ [])).core.ops
stored_at n before other e f v same at is =
    is ∙ ap (λ (c : Core). stored_of c.ops) (sym (core_push n before e)) ∙ (λ i. stored_of (after n (same i ++ at i ∷ [])).core.ops)

-- which of two fronts of a list is the longer one
pub either_front : {X : Type 0} (xs more before later : List X) (x : X) → xs ++ more ≡ before ++ x ∷ later
    → ((rest : List X) × (before ≡ xs ++ rest)) ⊎ ((rest : List X) × (xs ≡ before ++ x ∷ rest))
either_front {X} [] more before later x e = inl (before, refl)
either_front {X} (y ∷ xs) more [] later x e = inr (xs, ap (λ h. h ∷ xs) (same_head y x (xs ++ more) later e))
either_front {X} (y ∷ xs) more (b ∷ before) later x e =
    let first = same_head y b (xs ++ more) (before ++ x ∷ later) e in
    elim (either_front xs more before later x (same_tail y b (xs ++ more) (before ++ x ∷ later) e))
    as (λ _. ((rest : List X) × (b ∷ before ≡ (y ∷ xs) ++ rest)) ⊎ ((rest : List X) × (y ∷ xs ≡ (b ∷ before) ++ x ∷ rest))) [
      | inl h ↦ inl (h.0, λ i. sym first i ∷ h.1 i)
      | inr h ↦ inr (h.0, λ i. first i ∷ h.1 i)
    ]

-- ---- a cluster

abbrev pub Knows : Cluster → ℕ → ℕ → ℕ → Type 0
Knows c r q k = (m : Member) × IsAt c r m × HasAtLeast (node_at m m.released).core.ops.view q k

module _ (c : Cluster) (h : Holds c) (t : Traces c) where
  -- what was delivered was sent
  pub came_at : (q : ℕ) (m : Member) → IsAt c q m → (f n : ℕ) (k : Message) → Contains m.events (event.Deliver f n k)
      → MadeBy c f (output.Send q n k)
  came_at q m at f n k has =
      all_at (CameFrom c q) m.events (event.Deliver f n k) (t.came q m at) has

  -- a message that tells the id of who posts it was posted by the node of that id
  pub posted_by : (q : ℕ) (m : Member) → IsAt c q m → (r : ℕ) (x : Member) → IsAt c r x → (f n : ℕ) (k : Message)
      → ((d : Core) (e : Event) → PostSays d e k → q ≡ d.me) → Contains x.events (event.Deliver f n k) → (f ≡ q) × Posted m r n k
  posted_by q m at r x there f n k tells has =
      let made = came_at r x there f n k has in
      let p = posted made.0 r n k made.2 in
      let is_q : q ≡ f = tells (after (fresh (made.0).opening) p.before).core p.here p.says ∙ me_of f made.0 (h.sound f made.0 made.1) p.before in
      (sym is_q, subst (λ (w : Member). Posted w r n k) (one_at c f q made.0 m (sym is_q) made.1 at) p)

  -- who acknowledged a store has at least the view that was stored
  pub store_known : (q : ℕ) (m : Member) → IsAt c q m → (tag : ℕ) (Q : Core → Type 0) → Raised (fresh m.opening) (released_events m) tag Q
      → (r n : ℕ) → Contains m.events (event.Deliver r n (message.StoreAck tag q))
      → (x : Member) × IsAt c r x × (d : Core) × Q d × IsAtMost (stored_of d.ops) (node_at x x.released).core.ops.view
  store_known q m at tag Q raised r n has =
      let ack_made = came_at q m at r n (message.StoreAck tag q) has in
      let x = ack_made.0 in
      let ack = posted x q n (message.StoreAck tag q) ack_made.2 in
      let v = ack.says.0 in
      let f = ack.says.1.0 in
      let a = ack.says.1.1 in
      let got = came_last x ack.place _ ack.says.1.2 in
      let store = (posted_by q m at r x ack_made.1 f a (message.Store v tag q) (λ d e says. says.0) got).1 in
      let start = fresh m.opening in
      let lawful = lawful_front start m.events m.released (h.sound q m at).lawful in
      let high : tag ≡ (after start (store.before ++ store.here ∷ [])).core.ops.tag = raised_at start store.before store.here tag store.says.2 in
      let one = at_once (λ n. n.core.ops.tag) tag_after start (released_events m) lawful store.place raised.place
      tag store.says.1 (omega (arith, high)) raised.under (omega (arith, raised.raised)) in
      let d = (after start (raised.before ++ raised.here ∷ [])).core in
      let there : v ≡ stored_of d.ops = stored_at start store.before raised.before store.here raised.here v one.0 one.1 store.says.3 in
      let ends = view_within (fresh x.opening) (released_events x) ack.place in (
        x,
        ack_made.1,
        d,
        raised.holds,
        subst (λ (w : ViewMap). IsAtMost w (node_at x x.released).core.ops.view) there
            (at_most_trans v _ (node_at x x.released).core.ops.view ack.says.2 ends),
      )

module _ (mid d : Cluster) (h : Holds mid) (t : Traces mid) (h' : Holds d) (t' : Traces d)
    (grown : (p : ℕ) (o : Member) → IsAt mid p o → GrownAt d p o) where
  -- who replied to a query of a tag that its node hadn't released by then tells what it knew
  pub reply_known : (p : ℕ) (m n : Member) → IsAt mid p m → IsAt d p n → (tag : ℕ)
      → (node_at m m.released).core.ops.tag < tag
      → (r i : ℕ) (v : ViewMap) → Contains n.events (event.Deliver r i (message.QueryReply v tag p)) → (q k : ℕ) → Knows mid r q k → HasAtLeast v q k
  reply_known p m n at at' tag under r i v has q k knows =
      let reply_made = came_at d h' t' p n at' r i (message.QueryReply v tag p) has in
      let x = reply_made.0 in
      let reply = posted x p i (message.QueryReply v tag p) reply_made.2 in
      let y = knows.0 in
      let grew = grown r y knows.1 in
      let is_x : grew.0 ≡ x = one_at d r r grew.0 x refl grew.1 reply_made.1 in
      let grows : Grows y x = subst (Grows y) is_x grew.2 in
      let start = fresh y.opening in
      let same : fresh x.opening ≡ start = ap fresh grows.opening in
      let told : HasAtLeast (next (after start reply.before).core reply.here).ops.view q k → HasAtLeast v q k = λ there.
      subst (λ (w : ViewMap). HasAtLeast w q k)
      (ap (λ (s : Node). (next (after s reply.before).core reply.here).ops.view) (sym same) ∙ sym reply.says.1) there in
      let order = either_front (released_events y) grows.longer.0 reply.before reply.later reply.here (sym grows.longer.1 ∙ reply.parts) in
      elim order as (λ _. HasAtLeast v q k) [
        | inl e ↦
            let at_reply : after start reply.before ≡ after (node_at y y.released) e.0 = after_parts start reply.before (released_events y) e.0 e.1 in
            let wider : IsAtMost (node_at y y.released).core.ops.view (after start reply.before).core.ops.view =
            subst (λ (s : Node). IsAtMost (node_at y y.released).core.ops.view s.core.ops.view) (sym at_reply) (view_grows_along (node_at y y.released) e.0) in
            told (least_more _ _ q k (at_most_trans (node_at y y.released).core.ops.view _ _ wider
            (view_grows (after start reply.before).core reply.here)) knows.2)
        | inr e ↦
            let f = reply.says.0.0 in
            let a = reply.says.0.1 in
            let got = came_last y (record { before = reply.before; here = reply.here; later = e.0; parts = e.1 }) _ reply.says.0.2 in
            let asked = (posted_by mid h t p m at r y knows.1 f a (message.Query tag p) (λ d e says. says.0) got).1 in
            let s = fresh m.opening in
            let front = asked.before ++ asked.here ∷ [] in
            let lawful = lawful_front s m.events m.released (h.sound p m at).lawful in
            let high : tag ≡ (after s front).core.ops.tag = raised_at s asked.before asked.here tag asked.says.2 in
            let all : released_events m ≡ front ++ asked.later = parts_more (released_events m) asked.before asked.later asked.here asked.parts in
            absurd (omega (arith, under, high, front_low (λ n. n.core.ops.tag) tag_after s (released_events m) front asked.later lawful all))
      ]
