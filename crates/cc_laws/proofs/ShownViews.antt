-- What holds of the node's view at each point of a history holds of every view that is stored back, kept or put out.
--     ShowsOnly Q n       Q holds of each view that the node shows
--     all_shown           so it does along a list, where it holds of the view at each point
--     fresh_shows         a fresh node shows nothing but an empty view
--     of_shown            what holds of all that is shown holds of each of them
use Rattle.std.proofs.Common.{ℕ, ◌+◌, suc, nat_eq, nat_lt, List, [], ◌∷◌, ◌++◌, sym, subst}
use Rattle.std.specs.Prelude.{Option, Some, None, IfSome}
use Rattle.std.specs.List.{AllByRecursion}
use Rattle.std.specs.Ordering.{nat_cmp, eq_by_cmp}
use Rattle.std.specs.Cmp.{nat_cmp_total}
use Rattle.std.specs.FinMap as table
use Rattle.cc_views.specs.NatSets.{get-insert_key}
use Rattle.cc_views.specs.Rows.{ViewMap}
use Rattle.cc_messages.specs.declared.event.Event.{Event}
use Rattle.cc_messages.specs.declared.event.Event.TheVariants as event
use Rattle.cc_messages.specs.declared.message.Message.{Message}
use Rattle.cc_links.specs.Links.{Link}
use Rattle.cc_ops.specs.declared.pending_operation.Reply.{Reply}
use Rattle.cc_ops.specs.Ops.{seen_in}
use Rattle.cc_outbox.specs.Outbox as outbox
use Rattle.cc_outbox.specs.Outbox.{Outbox, trim}
use Rattle.cc_node.specs.declared.made.LinkAck.{LinkAck}
use Rattle.cc_node.specs.Core.{Core, post, next, replies, outputs, ack, sends, send_post, send_ack, send_replies, lowest, live_links}
use Rattle.cc_node.specs.Node.{Node, step, keep, add, forget_asked, after, line}
use Rattle.cc_node.specs.Openings.{Opening, fresh}
use Rattle.cc_node.proofs.StandingLaws.{get-above}
use Rattle.cc_laws.specs.Shown.{in_message, in_answer, Shows, held, stored_back, posted, answered}
use Rattle.cc_laws.specs.Histories.{view_at}
use Rattle.cc_laws.proofs.Lists.{all_both, some_of, at_some}
use Rattle.cc_laws.proofs.ShownParts.{OfPhase, OfMessage, OfAnswer, OfOutput, OfReply, handled_phase, post_shows, replies_show}

module _ (Q : ViewMap → Type 0) where
  pub record KeepsOnly (o : Outbox) : Type 0 where
    pub posts : (k : ℕ) → IfSome (table.get o.posts k) (OfMessage Q)
    pub answers : (s : ℕ) → IfSome (table.get o.answers s) (OfAnswer Q)

  pub record ShowsOnly (n : Node) : Type 0 where
    pub view : Q n.core.ops.view
    pub phase : OfPhase Q n.core.ops.phase
    pub kept : KeepsOnly n.outbox

  -- ---- what is kept

  forgets : (e : Event) (o : Outbox) → KeepsOnly o → KeepsOnly (forget_asked e o)
  forgets (event.Ask s r command) o h = record {
    posts = h.posts;
    answers = λ q. subst (λ x. IfSome x (OfAnswer Q)) (sym (table.get-remove nat_cmp_total o.answers s q))
        (some_of (OfAnswer Q) (eq_by_cmp nat_cmp q s) None (table.get o.answers q) tt (h.answers q));
  }
  forgets _ o h = h

  adds : (m : Option Message) (o : Outbox) → KeepsOnly o → IfSome m (OfMessage Q) → KeepsOnly (add m o)
  adds None o h i = h
  adds (Some m) o h i = record {
    posts = λ q. subst (λ x. IfSome x (OfMessage Q)) (sym (get-insert_key o.posts (o.last + 1) m q))
        (some_of (OfMessage Q) (nat_eq q (o.last + 1)) (Some m) (table.get o.posts q) i (h.posts q));
    answers = h.answers;
  }

  keeps_one : (r : Reply) (o : Outbox) → KeepsOnly o → OfReply Q r → KeepsOnly (outbox.keep r.session r.answer o)
  keeps_one r o h i = record {
    posts = h.posts;
    answers = λ q. subst (λ x. IfSome x (OfAnswer Q)) (sym (get-insert_key o.answers r.session r.answer q))
        (some_of (OfAnswer Q) (nat_eq q r.session) (Some r.answer) (table.get o.answers q) i (h.answers q));
  }

  keeps : (rs : List Reply) (o : Outbox) → KeepsOnly o → AllByRecursion (OfReply Q) rs → KeepsOnly (keep rs o)
  keeps [] o h i = h
  keeps (r ∷ rs) o h i = keeps rs (outbox.keep r.session r.answer o) (keeps_one r o h i.0) i.1

  trims : (low : ℕ) (o : Outbox) → KeepsOnly o → KeepsOnly (trim low o)
  trims low o h = record {
    posts = λ q. subst (λ x. IfSome x (OfMessage Q)) (sym (get-above low o.posts q))
        (some_of (OfMessage Q) (nat_lt low q) (table.get o.posts q) None (h.posts q) tt);
    answers = h.answers;
  }

  -- ---- an event

  step_shows : (n : Node) (e : Event) → ShowsOnly n → Q (step n e).core.ops.view → ShowsOnly (step n e)
  unfolding step next
  step_shows n e h there = record {
    view = there;
    phase = handled_phase Q n.core e h.phase there;
    kept = trims (lowest (next n.core e)) _
        (keeps (replies n.core e) _ (adds (post n.core e) _ (forgets e n.outbox h.kept) (post_shows Q n.core e h.phase there))
        (replies_show Q n.core e h.view h.phase));
  }

  sends_show : (k : ℕ) (m : Message) (rows : List (ℕ × Link)) → OfMessage Q m → AllByRecursion (OfOutput Q) (sends k m rows)
  sends_show k m [] h = tt
  sends_show k m (row ∷ rows) h = (h, sends_show k m rows h)

  sent_post : (c : Core) (m : Option Message) → IfSome m (OfMessage Q) → AllByRecursion (OfOutput Q) (send_post c m)
  sent_post c None h = tt
  sent_post c (Some m) h = sends_show c.posts m (table.entries (live_links c)) h

  sent_ack : (a : Option LinkAck) → AllByRecursion (OfOutput Q) (send_ack a)
  sent_ack None = tt
  sent_ack (Some a) = (tt, tt)

  sent_replies : (rs : List Reply) → AllByRecursion (OfReply Q) rs → AllByRecursion (OfOutput Q) (send_replies rs)
  sent_replies [] h = tt
  sent_replies (r ∷ rs) h = (h.0, sent_replies rs h.1)

  outputs_show : (n : Node) (e : Event) → ShowsOnly n → Q (step n e).core.ops.view → AllByRecursion (OfOutput Q) (outputs n.core e)
  unfolding step next
  outputs_show n e h there =
      let c = n.core in
      all_both (OfOutput Q) (send_ack (ack e) ++ send_post (next c e) (post c e)) (send_replies (replies c e))
      (all_both (OfOutput Q) (send_ack (ack e)) (send_post (next c e) (post c e)) (sent_ack (ack e))
      (sent_post (next c e) (post c e) (post_shows Q c e h.phase there)))
      (sent_replies (replies c e) (replies_show Q c e h.view h.phase))

  pub all_shown : (n : Node) (es : List Event) → ShowsOnly n → ((k : ℕ) → Q (view_at n es k)) → ShowsOnly (after n es) × AllByRecursion (OfOutput Q) (line n es)
  all_shown n [] h points = (h, tt)
  all_shown n (e ∷ es) h points =
      let there : ShowsOnly (step n e) = step_shows n e h (points 1) in
      let rest = all_shown (step n e) es there (λ k. points (suc k)) in
      (rest.0, all_both (OfOutput Q) (outputs n.core e) (line (step n e) es) (outputs_show n e h (points 1)) rest.1)

  pub fresh_shows : (o : Opening) → Q table.empty → ShowsOnly (fresh o)
  unfolding fresh
  fresh_shows o h = record {
    view = h;
    phase = tt;
    kept = record {
      posts = λ k. subst (λ x. IfSome x (OfMessage Q)) (sym (table.get-empty nat_cmp k)) tt;
      answers = λ s. subst (λ x. IfSome x (OfAnswer Q)) (sym (table.get-empty nat_cmp s)) tt;
    };
  }

  pub of_shown : (n : Node) (v : ViewMap) → ShowsOnly n → Shows n v → Q v
  of_shown n v h (held is) = subst Q (sym is) h.view
  of_shown n v h (stored_back is) = at_some Q (seen_in n.core.ops.phase) v is h.phase
  of_shown n v h (posted k m at is) = at_some Q (in_message m) v is (at_some (OfMessage Q) (table.get n.outbox.posts k) m at (h.kept.posts k))
  of_shown n v h (answered s a at is) = at_some Q (in_answer a) v is (at_some (OfAnswer Q) (table.get n.outbox.answers s) a at (h.kept.answers s))
