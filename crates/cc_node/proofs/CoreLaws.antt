-- What one event does to the view and to the own value.
--     view_grows               the view only grows
--     own_number, own_value    the own number counts the writes that begin; the own value is as their commands made it
--     .._along                 the same along a list of events
use Rattle.std.proofs.Common.{◌≡◌, ℕ, ◌+◌, Bool, true, false, List, [], ◌∷◌, refl, sym, ap, subst, ◌∙◌, add-zero, add_assoc}
use Rattle.std.specs.Prelude.{if◌then◌else◌}
use Rattle.cc_views.specs.Rows.{ViewMap}
use Rattle.cc_views.specs.Merge.{IsAtMost}
use Rattle.cc_views.specs.MergeLaws.{at_most_same, at_most_merge, at_most_trans}
use Rattle.cc_messages.specs.declared.event.Event.{Event}
use Rattle.cc_messages.specs.declared.event.Event.TheVariants as event
use Rattle.cc_messages.specs.declared.message.Message.{Message}
use Rattle.cc_messages.specs.declared.message.Message.TheVariants as message
use Rattle.cc_ops.specs.declared.pending_operation.Asked.{Asked}
use Rattle.cc_ops.specs.Commands.{is_writing}
use Rattle.cc_ops.specs.Ops.{Ops, Phase, Storing, Querying, StoringBack, is_idle, begin_round, after_ask, after_reply, after_last, after_ack, after_message}
use Rattle.cc_ops.specs.OwnLaws.{message_number, message_mine, ask_number, ask_mine}
use Rattle.cc_ops.specs.Rounds.{first_round, line_behind}
use Rattle.cc_ops.specs.WaitingAsks.{writes_by, written_by}
use Rattle.cc_ops.specs.WaitingAskLaws.{writes_both, written_both}
use Rattle.cc_node.specs.Core.{Core, quorum, asked_of, asks_anew, begun, next}
use Rattle.cc_node.specs.Node.{Node, step, after}
use Rattle.cc_node.specs.Writes.{begun_along}
use Rattle.cc_node.proofs.ToldLaws.{anew_view, anew_number, anew_mine}

-- one of two states, of which each has at least the view
either_grows : (b : Bool) (v : ViewMap) (s t : Ops) → IsAtMost v s.view → IsAtMost v t.view → IsAtMost v (if b then s else t).view
either_grows true v s t h k = h
either_grows false v s t h k = k

reply_grows : (quorum : ℕ) (v : ViewMap) (phase : Phase) (s : Ops) → IsAtMost s.view (after_reply quorum v phase s).view
reply_grows quorum v (Querying p) s = either_grows _ s.view _ _ (at_most_merge s.view v) (at_most_merge s.view v)
reply_grows quorum v _ s = at_most_same s.view

round_grows : (me quorum : ℕ) (asks : List Asked) (s : Ops) → IsAtMost s.view (begin_round me quorum asks s).view
round_grows me quorum [] s = at_most_same s.view
round_grows me quorum (a ∷ others) s = either_grows (is_writing a.command) s.view _ _ (at_most_merge s.view _) (at_most_same s.view)

last_grows : (me quorum : ℕ) (s : Ops) → IsAtMost s.view (after_last me quorum s).view
last_grows me quorum s = round_grows me quorum (first_round s.share s.line) (record s { line = line_behind s.share s.line })

ack_grows : (me quorum : ℕ) (phase : Phase) (s : Ops) → IsAtMost s.view (after_ack me quorum phase s).view
ack_grows me quorum (Storing p) s = either_grows _ s.view _ _ (last_grows me quorum s) (at_most_same s.view)
ack_grows me quorum (StoringBack p seen) s = either_grows _ s.view _ _ (last_grows me quorum s) (at_most_same s.view)
ack_grows me quorum _ s = at_most_same s.view

message_grows : (me quorum : ℕ) (m : Message) (s : Ops) → IsAtMost s.view (after_message me quorum m s).view
message_grows me quorum (message.EnterEcho c v j q) s = at_most_merge s.view v
message_grows me quorum (message.QueryReply v tag q) s = either_grows _ s.view _ _ (reply_grows quorum v s.phase s) (at_most_same s.view)
message_grows me quorum (message.Store v tag q) s = at_most_merge s.view v
message_grows me quorum (message.StoreAck tag q) s = either_grows _ s.view _ _ (ack_grows me quorum s.phase s) (at_most_same s.view)
message_grows me quorum (message.Snapshot c v) s = at_most_merge s.view v
message_grows me quorum _ s = at_most_same s.view

ask_grows : (me quorum : ℕ) (a : Asked) (s : Ops) → IsAtMost s.view (after_ask me quorum a s).view
ask_grows me quorum a s = either_grows (is_idle s.phase) s.view _ _ (round_grows me quorum (a ∷ []) s) (at_most_same s.view)

pub view_grows : (c : Core) (e : Event) → IsAtMost c.ops.view (next c e).ops.view
unfolding next
view_grows c (event.Deliver from n m) =
    let after = after_message c.me (quorum c) m c.ops in
    subst (IsAtMost c.ops.view) (sym (anew_view (asks_anew c from n m) _ after)) (message_grows c.me (quorum c) m c.ops)
view_grows c (event.Ask s r command) = ask_grows c.me _ _ c.ops
view_grows c _ = at_most_same c.ops.view

pub own_number : (c : Core) (e : Event) → (next c e).ops.number ≡ c.ops.number + writes_by (begun c e)
unfolding next
own_number c (event.Deliver from n m) = anew_number (asks_anew c from n m) _ (after_message c.me (quorum c) m c.ops) ∙ message_number c.me (quorum c) m c.ops
own_number c (event.Ask s r k) = ask_number c.me (quorum c) (asked_of s r k) c.ops
own_number c _ = sym (add-zero c.ops.number)

pub own_value : (c : Core) (e : Event) → (next c e).ops.mine ≡ written_by (begun c e) c.ops.mine
unfolding next
own_value c (event.Deliver from n m) = anew_mine (asks_anew c from n m) _ (after_message c.me (quorum c) m c.ops) ∙ message_mine c.me (quorum c) m c.ops
own_value c (event.Ask s r k) = ask_mine c.me (quorum c) (asked_of s r k) c.ops
own_value c _ = refl

-- ---- along a list of events

pub view_grows_along : (n : Node) (es : List Event) → IsAtMost n.core.ops.view (after n es).core.ops.view
unfolding step
view_grows_along n [] = at_most_same n.core.ops.view
view_grows_along n (e ∷ es) =
    at_most_trans n.core.ops.view (next n.core e).ops.view (after (step n e) es).core.ops.view (view_grows n.core e) (view_grows_along (step n e) es)

pub own_number_along : (n : Node) (es : List Event) → (after n es).core.ops.number ≡ n.core.ops.number + writes_by (begun_along n es)
unfolding step
own_number_along n [] = sym (add-zero n.core.ops.number)
own_number_along n (e ∷ es) =
    let later = writes_by (begun_along (step n e) es) in
    own_number_along (step n e) es ∙ ap (λ k. k + later) (own_number n.core e)
    ∙ add_assoc n.core.ops.number (writes_by (begun n.core e)) later
    ∙ sym (ap (λ k. n.core.ops.number + k) (writes_both (begun n.core e) (begun_along (step n e) es)))

pub own_value_along : (n : Node) (es : List Event) → (after n es).core.ops.mine ≡ written_by (begun_along n es) n.core.ops.mine
unfolding step
own_value_along n [] = refl
own_value_along n (e ∷ es) =
    own_value_along (step n e) es ∙ ap (λ v. written_by (begun_along (step n e) es) v) (own_value n.core e)
    ∙ sym (written_both (begun n.core e) (begun_along (step n e) es) n.core.ops.mine)
