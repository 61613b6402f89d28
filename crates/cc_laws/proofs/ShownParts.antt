-- What one event makes shows no view but the node's own after it, or one that it stored back before it.
--     OfPhase, OfMessage, OfAnswer, OfOutput, OfReply   Q holds of the view that is in one, if one is
--     handled_phase, post_shows, replies_show           so it does of the phase, the post and the answer of an event
use Rattle.std.proofs.Common.{ℕ, Bool, true, false, List, [], ◌∷◌, ◌+◌, sym, subst}
use Rattle.std.specs.Prelude.{Option, None, IfSome, if◌then◌else◌, map}
use Rattle.std.specs.List.{AllByRecursion}
use Rattle.cc_views.specs.Rows.{ViewMap}
use Rattle.cc_messages.specs.declared.answer.Answer.{Answer}
use Rattle.cc_messages.specs.declared.command.Command.{Command}
use Rattle.cc_messages.specs.declared.command.Command.TheVariants as command
use Rattle.cc_messages.specs.declared.event.Event.{Event}
use Rattle.cc_messages.specs.declared.event.Event.TheVariants as event
use Rattle.cc_messages.specs.declared.message.Message.{Message}
use Rattle.cc_messages.specs.declared.message.Message.TheVariants as message
use Rattle.cc_messages.specs.declared.output.Output.{Output}
use Rattle.cc_churn.specs.Churn as churn
use Rattle.cc_ops.specs.declared.pending_operation.Asked.{Asked}
use Rattle.cc_ops.specs.declared.pending_operation.Reply.{Reply}
use Rattle.cc_ops.specs.Commands.{is_writing, answer_of}
use Rattle.cc_ops.specs.Ops as ops
use Rattle.cc_ops.specs.Ops.{Ops, Phase, Storing, Querying, StoringBack, seen_in}
use Rattle.cc_ops.specs.OwnLaws.{seen_again}
use Rattle.cc_ops.specs.Rounds.{first_round, line_behind}
use Rattle.cc_ops.specs.WaitingAsks.{first_in}
use Rattle.cc_node.specs.Core.{Core, quorum, asked_of, churned, churn_told, tells, asks_anew, anew_if, join_told, question_if, post_of_snapshot, post_to}
use Rattle.cc_node.specs.Core.{begun, handled, post, replies}
use Rattle.cc_node.proofs.ToldLaws.{anew_view}
use Rattle.cc_node.specs.Node.{line}
use Rattle.cc_laws.specs.Shown.{in_message, in_answer, in_output}
use Rattle.cc_laws.proofs.Lists.{some_if, some_of, some_or, some_mapped, either}
use Rattle.cc_laws.proofs.RoundResults.{of_round, of_ack, of_reply}

module _ (Q : ViewMap → Type 0) where
  abbrev pub OfPhase : Phase → Type 0
  OfPhase phase = IfSome (seen_in phase) Q

  abbrev pub OfMessage : Message → Type 0
  OfMessage m = IfSome (in_message m) Q

  abbrev pub OfAnswer : Answer → Type 0
  OfAnswer a = IfSome (in_answer a) Q

  abbrev pub OfOutput : Output → Type 0
  OfOutput o = IfSome (in_output o) Q

  -- ---- the phase

  round_phase : (me quorum : ℕ) (asks : List Asked) (s : Ops) → OfPhase (ops.begin_round me quorum asks s).phase
  round_phase me quorum [] s = tt
  round_phase me quorum (a ∷ others) s = of_round (λ t. OfPhase t.phase) me quorum a others s (λ _. tt) (λ _. tt)

  last_phase : (me quorum : ℕ) (s : Ops) → OfPhase (ops.after_last me quorum s).phase
  last_phase me quorum s = round_phase me quorum (first_round s.share s.line) (record s { line = line_behind s.share s.line })

  reply_phase : (quorum : ℕ) (v : ViewMap) (phase : Phase) (s : Ops) → OfPhase s.phase → Q (ops.after_reply quorum v phase s).view
      → OfPhase (ops.after_reply quorum v phase s).phase
  reply_phase quorum v (Querying p) s h q = of_reply (λ t. Q t.view → OfPhase t.phase) quorum v p s (λ seen. seen) (λ _. tt) q
  reply_phase quorum v _ s h q = h

  ack_phase : (me quorum : ℕ) (phase : Phase) (s : Ops) → OfPhase s.phase → OfPhase phase → OfPhase (ops.after_ack me quorum phase s).phase
  ack_phase me quorum (Storing p) s h k = of_ack (λ t. OfPhase t.phase) me quorum p (Storing (ops.counted p)) s (last_phase me quorum s) tt
  ack_phase me quorum (StoringBack p seen) s h k = of_ack (λ t. OfPhase t.phase) me quorum p (StoringBack (ops.counted p) seen) s (last_phase me quorum s) k
  ack_phase me quorum _ s h k = h

  message_phase : (me quorum : ℕ) (m : Message) (s : Ops) → OfPhase s.phase → Q (ops.after_message me quorum m s).view
      → OfPhase (ops.after_message me quorum m s).phase
  message_phase me quorum (message.QueryReply v tag q) s h k =
      either (λ (t : Ops). Q t.view → OfPhase t.phase) (ops.is_own me tag q s) (ops.after_reply quorum v s.phase s) s
      (reply_phase quorum v s.phase s h) (λ _. h) k
  message_phase me quorum (message.StoreAck tag q) s h k =
      either (λ (t : Ops). Q t.view → OfPhase t.phase) (ops.is_own me tag q s) (ops.after_ack me quorum s.phase s) s
      (λ _. ack_phase me quorum s.phase s h h) (λ _. h) k
  message_phase me quorum _ s h k = h

  -- a phase that begins anew stores back what it did
  anew_phase : (b : Bool) (quorum : ℕ) (s : Ops) → OfPhase s.phase → OfPhase (anew_if b quorum s).phase
  anew_phase true quorum s h = subst (λ (o : Option ViewMap). IfSome o Q) (sym (seen_again quorum s.phase)) h
  anew_phase false quorum s h = h

  ask_phase : (me quorum : ℕ) (b : Bool) (a : Asked) (s : Ops) (line : List Asked) → OfPhase s.phase
      → OfPhase (if b then ops.with_begun me quorum a s else record s { line = line }).phase
  ask_phase me quorum true a s line h = round_phase me quorum (a ∷ []) s
  ask_phase me quorum false a s line h = h

  pub handled_phase : (c : Core) (e : Event) → OfPhase c.ops.phase → Q (handled c e).ops.view → OfPhase (handled c e).ops.phase
  handled_phase c (event.Deliver from n m) h k =
      let b = asks_anew c from n m in
      let need = churn.quorum c.beta (churn_told c from n m) in
      let t = ops.after_message c.me (quorum c) m c.ops in
      anew_phase b need t (message_phase c.me (quorum c) m c.ops h (subst Q (anew_view b need t) k))
  handled_phase c (event.Ask s r command) h k = ask_phase c.me (quorum c) (ops.is_idle c.ops.phase) (asked_of s r command) c.ops _ h
  handled_phase c _ h k = h

  -- ---- the post

  churn_post : (me : ℕ) (v : ViewMap) (m : Message) (s t : churn.Churn) → Q v → IfSome (churn.post_of me v m s t) OfMessage
  churn_post me v (message.Enter q) s t h = h
  churn_post me v (message.EnterEcho c w j q) s t h = some_if OfMessage _ (message.Join me) tt
  churn_post me v _ s t h = tt

  first_post : (me : ℕ) (a : Asked) (s : Ops) → Q s.view → OfMessage (ops.first_post me a s)
  first_post me a s h =
      elim (is_writing a.command) as (λ b. OfMessage (if b then message.Store s.view s.tag me else message.Query s.tag me)) [
        | true ↦ h
        | false ↦ tt
      ]

  ops_post : (me : ℕ) (joined : Bool) (m : Message) (s t : Ops) → Q t.view → IfSome (ops.post_of me joined m s t) OfMessage
  ops_post me joined (message.Query tag q) s t h = some_if OfMessage joined (message.QueryReply t.view tag q) h
  ops_post me joined (message.QueryReply w tag q) s t h = some_if OfMessage _ (message.Store t.view t.tag me) h
  ops_post me joined (message.Store w tag q) s t h = some_if OfMessage joined (message.StoreAck tag q) tt
  ops_post me joined (message.StoreAck tag q) s t h =
      some_mapped OfMessage (λ a. ops.first_post me a t) (first_in (ops.begun_by me (message.StoreAck tag q) s)) (λ a. first_post me a t h)
  ops_post me joined _ s t h = tt

  question_in : (me quorum tag : ℕ) (v : ViewMap) (phase : Phase) → Q v → OfPhase phase → IfSome (ops.question_in me v tag (ops.again quorum phase)) OfMessage
  question_in me quorum tag v (Storing p) h k = h
  question_in me quorum tag v (StoringBack p seen) h k = k
  question_in me quorum tag v _ h k = tt

  -- what a phase asks that begins anew
  question_shows : (b : Bool) (me quorum : ℕ) (s : Ops) → Q s.view → OfPhase s.phase → IfSome (question_if b me quorum s) OfMessage
  question_shows true me quorum s h k = question_in me quorum (s.tag + 1) s.view s.phase h k
  question_shows false me quorum s h k = tt

  snapshot_post : (c : Core) (from n : ℕ) (m : Message) → OfPhase c.ops.phase → Q (handled c (event.Deliver from n m)).ops.view
      → IfSome (post_of_snapshot c from n m) OfMessage
  snapshot_post c from n m h k =
      let b = asks_anew c from n m in
      let need = churn.quorum c.beta (churn_told c from n m) in
      let t = ops.after_message c.me (quorum c) m c.ops in
      let seen : Q t.view = subst Q (anew_view b need t) k in
      some_or OfMessage (join_told c from n m) (question_if b c.me need t)
      (some_of OfMessage (tells c from n m) (churn.join_told c.me c.gamma (churned c m)) None
      (some_if OfMessage (churn.joins_told c.gamma (churned c m)) (message.Join c.me) tt) tt)
      (question_shows b c.me need t seen (message_phase c.me (quorum c) m c.ops h seen))

  pub post_shows : (c : Core) (e : Event) → OfPhase c.ops.phase → Q (handled c e).ops.view → IfSome (post c e) OfMessage
  post_shows c (event.Deliver from n m) k h =
      let d = handled c (event.Deliver from n m) in
      some_or OfMessage (post_of_snapshot c from n m) (post_to m c d) (snapshot_post c from n m k h)
      (some_or OfMessage _ _ (churn_post d.me d.ops.view m c.churn d.churn h) (ops_post d.me _ m c.ops d.ops h))
  post_shows c (event.Ask s r command) k h =
      let d = handled c (event.Ask s r command) in
      some_mapped OfMessage (λ a. ops.first_post c.me a d.ops) (first_in (begun c (event.Ask s r command))) (λ a. first_post c.me a d.ops h)
  post_shows c event.Snapshot k h = h
  post_shows c _ k h = tt

  -- ---- the answer

  answer_shows : (k : Command) (v : ViewMap) → Q v → OfAnswer (answer_of k v)
  answer_shows command.Collect v h = h
  answer_shows _ v h = tt

  abbrev pub OfReply : Reply → Type 0
  OfReply r = OfAnswer r.answer

  all_told : (seen : ViewMap) (asks : List Asked) → Q seen → AllByRecursion OfReply (map (ops.told seen) asks)
  all_told seen [] h = tt
  all_told seen (a ∷ asks) h = (answer_shows a.command seen h, all_told seen asks h)

  replies_in : (v : ViewMap) (others : List Asked) (phase : Phase) → Q v → OfPhase phase → AllByRecursion OfReply (ops.replies_in v others phase)
  replies_in v others (Storing p) h k =
      either (AllByRecursion OfReply) (ops.is_last p) (map (ops.told v) (p.asked ∷ others)) [] (all_told v (p.asked ∷ others) h) tt
  replies_in v others (StoringBack p seen) h k =
      either (AllByRecursion OfReply) (ops.is_last p) (map (ops.told seen) (p.asked ∷ others)) [] (all_told seen (p.asked ∷ others) k) tt
  replies_in v others _ h k = tt

  replies_of : (me : ℕ) (m : Message) (s : Ops) → Q s.view → OfPhase s.phase → AllByRecursion OfReply (ops.replies_of me m s)
  replies_of me (message.StoreAck tag q) s h k =
      either (AllByRecursion OfReply) (ops.is_own me tag q s) (ops.replies_in s.view s.others s.phase) [] (replies_in s.view s.others s.phase h k) tt
  replies_of me _ s h k = tt

  pub replies_show : (c : Core) (e : Event) → Q c.ops.view → OfPhase c.ops.phase → AllByRecursion OfReply (replies c e)
  replies_show c (event.Deliver from n m) h k = replies_of c.me m c.ops h k
  replies_show c _ h k = tt
