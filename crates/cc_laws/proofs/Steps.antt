-- What one event makes of the view: it is as before, or has one more own row, or is merged with what the event brings.
--     with_row me s asks   the view with the own row of the last write that begins with these asks, if one does
--     ViewStep, view_step
use Rattle.std.proofs.Common.{◌≡◌, ◌⊎◌, inl, inr, ℕ, ◌+◌, nat_lt, Bool, List, [], ◌∷◌, refl, sym, ap, subst, arith, ◌++◌}
use Rattle.std.specs.Prelude.{Option, Some, if◌then◌else◌}
use Rattle.std.proofs.lemmas.Bool.{lt-ltb}
use Rattle.cc_views.specs.Rows.{ViewMap, single}
use Rattle.cc_views.specs.Merge.{merge}
use Rattle.cc_messages.specs.declared.event.Event.{Event}
use Rattle.cc_messages.specs.declared.event.Event.TheVariants as event
use Rattle.cc_messages.specs.declared.message.Message.{Message}
use Rattle.cc_messages.specs.declared.message.Message.TheVariants as message
use Rattle.cc_ops.specs.declared.pending_operation.Asked.{Asked}
use Rattle.cc_ops.specs.Ops.{Ops, Phase, Storing, Querying, StoringBack, is_idle, is_last, is_own, counted, begin_round, with_begun, after_reply, after_last}
use Rattle.cc_ops.specs.Ops.{after_ack, after_message, begun_in, begun_by}
use Rattle.cc_ops.specs.OwnLaws.{IsRound, first_is_round, none_reads}
use Rattle.cc_ops.specs.Rounds.{first_round, line_behind}
use Rattle.cc_ops.specs.WaitingAsks.{writes_by, written_by}
use Rattle.cc_churn.specs.Churn as churn
use Rattle.cc_node.specs.Core.{Core, quorum, asked_of, churn_told, asks_anew, begun, next}
use Rattle.cc_node.proofs.ToldLaws.{anew_view}
use Rattle.cc_laws.specs.Shown.{in_message, in_event}
use Rattle.cc_laws.proofs.Lists.{either}
use Rattle.cc_laws.proofs.RoundResults.{of_round, of_reply, of_begun}

-- the own row once asks have begun, under the number of the last write among them
abbrev pub row_of : ℕ → Ops → List Asked → ViewMap
row_of me s asks = single (record { node = me; number = s.number + writes_by asks; value = written_by asks s.mine })

abbrev pub with_row : ℕ → Ops → List Asked → ViewMap
with_row me s asks = if nat_lt 0 (writes_by asks) then merge s.view (row_of me s asks) else s.view

abbrev HasRow : ℕ → Ops → Ops → List Asked → Type 0
HasRow me s t asks = t.view ≡ with_row me s asks

round_view : (me quorum : ℕ) (asks : List Asked) (s : Ops) → IsRound asks → HasRow me s (begin_round me quorum asks s) asks
round_view me quorum [] s alike = refl
round_view me quorum (a ∷ others) s alike =
    let asks = a ∷ others in
    let row = λ (b : Bool). if b then merge s.view (row_of me s asks) else s.view in
    of_round (λ t. HasRow me s t asks) me quorum a others s
    (λ writes.
    let count : writes_by asks ≡ 1 + writes_by others = ap (λ (b : Bool). (if b then 1 else 0) + writes_by others) writes in
    sym (ap row (lt-ltb 0 (writes_by asks) (omega (arith, count)))))
    (λ reads. sym (ap row (ap (nat_lt 0) (none_reads a others reads (alike reads)))))

last_view : (me quorum : ℕ) (s : Ops) → HasRow me s (after_last me quorum s) (first_round s.share s.line)
last_view me quorum s =
    round_view me quorum (first_round s.share s.line) (record s { line = line_behind s.share s.line }) (first_is_round s.share s.line)

ack_view : (me quorum : ℕ) (phase : Phase) (s : Ops) → HasRow me s (after_ack me quorum phase s) (begun_in phase s)
ack_view me quorum (Storing p) s =
    of_begun (HasRow me s) (is_last p) (after_last me quorum s) (record s { phase = Storing (counted p) }) (first_round s.share s.line)
    (last_view me quorum s) refl
ack_view me quorum (StoringBack p seen) s =
    of_begun (HasRow me s) (is_last p) (after_last me quorum s) (record s { phase = StoringBack (counted p) seen }) (first_round s.share s.line)
    (last_view me quorum s) refl
ack_view me quorum _ s = refl

-- before s, and after
abbrev IsAsBefore : ViewMap → ViewMap → ViewMap → Type 0
IsAsBefore before v after = (after ≡ before) ⊎ (after ≡ merge before v)

reply_view : (quorum : ℕ) (v : ViewMap) (phase : Phase) (s : Ops) → IsAsBefore s.view v (after_reply quorum v phase s).view
reply_view quorum v (Querying p) s = of_reply (λ t. IsAsBefore s.view v t.view) quorum v p s (inr refl) (inr refl)
reply_view quorum v _ s = inl refl

-- what an event may bring, whether it lets asks begin, the view that this leaves, and the view after it
pub record Brings (brought : Option ViewMap) (asks : List Asked) (before after : ViewMap) : Type 0 where
  pub view : ViewMap
  pub is_brought : brought ≡ Some view
  pub none_begins : asks ≡ []
  pub merges : after ≡ merge before view

abbrev pub ViewStep : ℕ → Ops → Option ViewMap → List Asked → ViewMap → Type 0
ViewStep me s brought asks after = (after ≡ with_row me s asks) ⊎ Brings brought asks s.view after

brings : (s : Ops) (v after : ViewMap) → after ≡ merge s.view v → Brings (Some v) [] s.view after
brings s v after is = record { view = v; is_brought = refl; none_begins = refl; merges = is }

-- where nothing begins
as_before : (me : ℕ) (s : Ops) (v after : ViewMap) → IsAsBefore s.view v after → ViewStep me s (Some v) [] after
as_before me s v after (inl same) = inl same
as_before me s v after (inr more) = inr (brings s v after more)

message_step : (me quorum : ℕ) (m : Message) (s : Ops) → ViewStep me s (in_message m) (begun_by me m s) (after_message me quorum m s).view
message_step me quorum (message.EnterEcho c v j q) s = inr (brings s v _ refl)
message_step me quorum (message.QueryReply v tag q) s =
    as_before me s v _ (either (λ (t : Ops). IsAsBefore s.view v t.view) (is_own me tag q s) (after_reply quorum v s.phase s) s
    (reply_view quorum v s.phase s) (inl refl))
message_step me quorum (message.Store v tag q) s = inr (brings s v _ refl)
message_step me quorum (message.StoreAck tag q) s =
    inl (of_begun (HasRow me s) (is_own me tag q s) (after_ack me quorum s.phase s) s (begun_in s.phase s) (ack_view me quorum s.phase s) refl)
message_step me quorum (message.Snapshot c v) s = inr (brings s v _ refl)
message_step me quorum _ s = inl refl

pub view_step : (c : Core) (e : Event) → ViewStep c.me c.ops (in_event e) (begun c e) (next c e).ops.view
unfolding next
view_step c (event.Deliver from n m) =
    let t = after_message c.me (quorum c) m c.ops in
    subst (ViewStep c.me c.ops (in_message m) (begun_by c.me m c.ops))
    (sym (anew_view (asks_anew c from n m) (churn.quorum c.beta (churn_told c from n m)) t)) (message_step c.me (quorum c) m c.ops)
view_step c (event.Ask s r command) =
    let a = asked_of s r command in
    inl (of_begun (HasRow c.me c.ops) (is_idle c.ops.phase) (with_begun c.me (quorum c) a c.ops) (record c.ops { line = c.ops.line ++ a ∷ [] }) (a ∷ [])
    (round_view c.me (quorum c) (a ∷ []) c.ops (λ _. refl)) refl)
view_step c _ = inl refl

pub me_next : (c : Core) (e : Event) → (next c e).me ≡ c.me
unfolding next
me_next c event.Enter = refl
me_next c _ = refl
