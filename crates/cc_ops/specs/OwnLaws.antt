-- What a message and an ask make of the own value, its number and the asks that wait: what the asks that begin make of them.
--     .._number, .._mine       writes put the value under the next numbers; reads leave both
--     Parts, .._parts          nothing begins, or the first round of the line does, and what is left waits; one more waits behind
--     .._last                  the value once all that wait have begun
--     .._unanswered            which asks are pending or wait
--     AnswersRound, message_answers   the pending asks are all answered, in their order, or none is
--     EndsRound, message_ends  where any is answered, the first round of the line begins, and what is left waits
--     IsRound, first_is_round  of a round whose first ask reads none writes;  the first of a line is one
--     AsksAnewAlone            a phase that begins anew is the same round's, under the next tag;  asked_again, seen_again: of it
use Rattle.std.specs.Prelude.{◌≡◌, ℕ, zero, suc, ◌+◌, ◌⊎◌, Bool, true, false, if◌then◌else◌, List, [], ◌∷◌, ◌++◌, map, refl, ⊤}
use Rattle.std.proofs.Common.{sym, ap, subst, ◌∙◌, add-zero, arith, inl, inr}
use Rattle.std.proofs.lemmas.Bool.{cond_both}
use Rattle.std.proofs.lemmas.List.{append_assoc}
use Rattle.cc_views.specs.Rows.{ViewMap}
use Rattle.cc_views.specs.Merge.{merge}
use Rattle.cc_messages.specs.declared.message.Message.{Message}
use Rattle.cc_messages.specs.declared.message.Message.TheVariants as message
use Rattle.cc_ops.specs.declared.pending_operation.Asked.{Asked}
use Rattle.cc_ops.specs.declared.pending_operation.Reply.{Reply}
use Rattle.cc_ops.specs.Commands.{is_writing, written}
use Rattle.cc_ops.specs.Rounds.{picked, first_round, line_behind}
use Rattle.cc_ops.specs.RoundLaws.{none_write, round_written}
use Rattle.cc_ops.specs.WaitingAsks.{writes_by, written_by}
pub use Rattle.cc_ops.specs.WaitingAskLaws.{reading_leaves}
use Rattle.cc_ops.specs.WaitingAskLaws.{written_last, written_both, no_writes}
use Rattle.cc_ops.specs.Ops.{Ops, Phase, Idle, Storing, Querying, StoringBack, is_idle, seen_in, round_of, counted, is_last, is_own, merged}
use Rattle.cc_ops.specs.Ops.{next_round, again, begin_round, with_own_row, with_written, after_ask, after_reply, after_last, after_ack}
use Rattle.cc_ops.specs.Ops.{after_message, begun_by_ask, begun_in, begun_by, told, replies_in, replies_of, asked_in, pending, unanswered}
use Rattle.cc_ops.specs.Ops.{mine_at_last, awaits_views, answers_in, need_in}

-- ---- a round begins

abbrev pub IsRound : List Asked → Type 0
IsRound [] = ⊤
IsRound (a ∷ others) = is_writing a.command ≡ false → writes_by others ≡ 0

pub first_is_round : (share : ℕ) (line : List Asked) → IsRound (first_round share line)
first_is_round zero line = tt
first_is_round (suc n) [] = tt
first_is_round (suc n) (a ∷ line) = λ reads. ap (λ (b : Bool). writes_by (picked b n line)) reads ∙ none_write n line

pub none_reads : (a : Asked) (others : List Asked) → is_writing a.command ≡ false → writes_by others ≡ 0 → writes_by (a ∷ others) ≡ 0
none_reads a others reads none =
    let count : writes_by (a ∷ others) ≡ 0 + writes_by others = ap (λ (b : Bool). (if b then 1 else 0) + writes_by others) reads in
    omega (arith, count, none)

pub round_number : (me quorum : ℕ) (asks : List Asked) (s : Ops) → IsRound asks → (begin_round me quorum asks s).number ≡ s.number + writes_by asks
round_number me quorum [] s alike = sym (add-zero s.number)
round_number me quorum (a ∷ others) s alike =
    elim (is_writing a.command)
    as (λ b. is_writing a.command ≡ b
    → (if b then next_round (Storing (round_of quorum a)) (with_own_row me (with_written (a ∷ others) s)) else
    next_round (Querying (round_of quorum a)) s).number ≡ s.number + writes_by (a ∷ others)) [
      | true ↦ λ _. refl
      | false ↦ λ reads. let none = none_reads a others reads (alike reads) in omega (arith, none)
    ] refl

pub round_mine : (me quorum : ℕ) (asks : List Asked) (s : Ops) → IsRound asks → (begin_round me quorum asks s).mine ≡ written_by asks s.mine
round_mine me quorum [] s alike = refl
round_mine me quorum (a ∷ others) s alike =
    elim (is_writing a.command)
    as (λ b. is_writing a.command ≡ b
    → (if b then next_round (Storing (round_of quorum a)) (with_own_row me (with_written (a ∷ others) s)) else
    next_round (Querying (round_of quorum a)) s).mine ≡ written_by (a ∷ others) s.mine) [
      | true ↦ λ _. refl
      | false ↦ λ reads. sym (no_writes (a ∷ others) s.mine (none_reads a others reads (alike reads)))
    ] refl

pub round_line : (me quorum : ℕ) (asks : List Asked) (s : Ops) → (begin_round me quorum asks s).line ≡ s.line
round_line me quorum [] s = refl
round_line me quorum (a ∷ others) s =
    cond_both (is_writing a.command) (next_round (Storing (round_of quorum a)) (with_own_row me (with_written (a ∷ others) s)))
    (next_round (Querying (round_of quorum a)) s)
    (λ (t : Ops). t.line ≡ s.line) (λ _. refl) (λ _. refl)

-- what begins is what is pending then
pub round_pending : (me quorum : ℕ) (asks : List Asked) (s : Ops) → pending (begin_round me quorum asks s) ≡ asks
round_pending me quorum [] s = refl
round_pending me quorum (a ∷ others) s =
    cond_both (is_writing a.command) (next_round (Storing (round_of quorum a)) (with_own_row me (with_written (a ∷ others) s)))
    (next_round (Querying (round_of quorum a)) s)
    (λ (t : Ops). asked_in t.phase ++ others ≡ a ∷ others) (λ _. refl) (λ _. refl)

pub round_unanswered : (me quorum : ℕ) (asks : List Asked) (s : Ops) → unanswered (begin_round me quorum asks s) ≡ asks ++ s.line
round_unanswered me quorum asks s = λ i. round_pending me quorum asks s i ++ round_line me quorum asks s i

round_last : (me quorum : ℕ) (asks : List Asked) (s : Ops) → IsRound asks → mine_at_last (begin_round me quorum asks s) ≡ written_by s.line
    (written_by asks s.mine)
round_last me quorum asks s alike = λ i. written_by (round_line me quorum asks s i) (round_mine me quorum asks s alike i)

-- ---- the last acknowledgement

abbrev line_left : Ops → Ops
line_left s = record s { line = line_behind s.share s.line }

pub last_number : (me quorum : ℕ) (s : Ops) → (after_last me quorum s).number ≡ s.number + writes_by (first_round s.share s.line)
last_number me quorum s = round_number me quorum (first_round s.share s.line) (line_left s) (first_is_round s.share s.line)

last_mine : (me quorum : ℕ) (s : Ops) → (after_last me quorum s).mine ≡ written_by (first_round s.share s.line) s.mine
last_mine me quorum s = round_mine me quorum (first_round s.share s.line) (line_left s) (first_is_round s.share s.line)

last_line : (me quorum : ℕ) (s : Ops) → (after_last me quorum s).line ≡ line_behind s.share s.line
last_line me quorum s = round_line me quorum (first_round s.share s.line) (line_left s)

last_last : (me quorum : ℕ) (s : Ops) → mine_at_last (after_last me quorum s) ≡ mine_at_last s
last_last me quorum s =
    round_last me quorum (first_round s.share s.line) (line_left s) (first_is_round s.share s.line)
    ∙ sym (written_both (first_round s.share s.line) (line_behind s.share s.line) s.mine)
    ∙ round_written s.share s.line s.mine

-- the pending asks are answered, and those behind them are left
pub last_unanswered : (me quorum : ℕ) (s : Ops) → unanswered (after_last me quorum s) ≡ first_round s.share s.line ++ line_behind s.share s.line
last_unanswered me quorum s = round_unanswered me quorum (first_round s.share s.line) (line_left s)

-- what holds of an acknowledgement, by whether it is the last one
either_ack : (P : Ops → List Asked → Type 0) (b : Bool) (last more : Ops) (asks : List Asked) → P last asks → P more []
    → P (if b then last else more) (if b then asks else [])
either_ack P true last more asks h k = h
either_ack P false last more asks h k = k

each_ack : (P : Ops → List Asked → Type 0) (me quorum : ℕ) (phase : Phase) (s : Ops) → P s [] → P (after_last me quorum s) (first_round s.share s.line)
    → ((p : Phase) → P (record s { phase = p }) []) → P (after_ack me quorum phase s) (begun_in phase s)
each_ack P me quorum Idle s same last more = same
each_ack P me quorum (Storing p) s same last more =
    either_ack P (is_last p) (after_last me quorum s) (record s { phase = Storing (counted p) }) (first_round s.share s.line) last (more (Storing (counted p)))
each_ack P me quorum (Querying p) s same last more = same
each_ack P me quorum (StoringBack p seen) s same last more =
    either_ack P (is_last p) (after_last me quorum s) (record s { phase = StoringBack (counted p) seen }) (first_round s.share s.line) last
    (more (StoringBack (counted p) seen))

-- ---- a message

either_reply : (P : Ops → Type 0) (quorum : ℕ) (v : ViewMap) (phase : Phase) (s : Ops) → P s
    → ((p : Phase) (tag : ℕ) → P (record (merged v s) { phase = p; tag = tag })) → P (after_reply quorum v phase s)
either_reply P quorum v Idle s same more = same
either_reply P quorum v (Storing p) s same more = same
either_reply P quorum v (Querying p) s same more =
    cond_both (is_last p) (next_round (StoringBack (round_of quorum p.asked) (merge s.view v)) (merged v s))
    (record (merged v s) { phase = Querying (counted p) }) P
    (λ _. more (StoringBack (round_of quorum p.asked) (merge s.view v)) (s.tag + 1)) (λ _. more (Querying (counted p)) s.tag)
either_reply P quorum v (StoringBack p seen) s same more = same

either_own : (P : Ops → List Asked → Type 0) (b : Bool) (t s : Ops) (o : List Asked) → P t o → P s [] → P (if b then t else s) (if b then o else [])
either_own P true t s o h k = h
either_own P false t s o h k = k

-- what holds of each message: it holds of states that differ in the view, the phase and the tag alone, and of the last
-- acknowledgement
each_message : (P : Ops → List Asked → Type 0) (me quorum : ℕ) (m : Message) (s : Ops)
    → ((v : ViewMap) (p : Phase) (tag : ℕ) → P (record s { view = v; phase = p; tag = tag }) []) → P (after_last me quorum s) (first_round s.share s.line)
    → P (after_message me quorum m s) (begun_by me m s)
each_message P me quorum (message.EnterEcho c v j q) s more last = more (merge s.view v) s.phase s.tag
each_message P me quorum (message.QueryReply v tag q) s more last =
    cond_both (is_own me tag q s) (after_reply quorum v s.phase s) s (λ t. P t [])
    (λ _. either_reply (λ t. P t []) quorum v s.phase s (more s.view s.phase s.tag) (λ p t. more (merge s.view v) p t)) (λ _. more s.view s.phase s.tag)
each_message P me quorum (message.Store v tag q) s more last = more (merge s.view v) s.phase s.tag
each_message P me quorum (message.StoreAck tag q) s more last =
    either_own P (is_own me tag q s) (after_ack me quorum s.phase s) s (begun_in s.phase s)
    (each_ack P me quorum s.phase s (more s.view s.phase s.tag) last (λ p. more s.view p s.tag)) (more s.view s.phase s.tag)
each_message P me quorum (message.Snapshot c v) s more last = more (merge s.view v) s.phase s.tag
each_message P me quorum _ s more last = more s.view s.phase s.tag

pub message_number : (me quorum : ℕ) (m : Message) (s : Ops) → (after_message me quorum m s).number ≡ s.number + writes_by (begun_by me m s)
message_number me quorum m s =
    each_message (λ t o. t.number ≡ s.number + writes_by o) me quorum m s (λ v p tag. sym (add-zero s.number)) (last_number me quorum s)

pub message_mine : (me quorum : ℕ) (m : Message) (s : Ops) → (after_message me quorum m s).mine ≡ written_by (begun_by me m s) s.mine
message_mine me quorum m s = each_message (λ t o. t.mine ≡ written_by o s.mine) me quorum m s (λ v p tag. refl) (last_mine me quorum s)

-- nothing begins and all wait on, or the first round begins and what is left waits
abbrev pub Parts : Ops → List Asked → List Asked → Type 0
Parts s begun line = ((begun ≡ []) × (line ≡ s.line)) ⊎ ((begun ≡ first_round s.share s.line) × (line ≡ line_behind s.share s.line))

pub message_parts : (me quorum : ℕ) (m : Message) (s : Ops) → Parts s (begun_by me m s) (after_message me quorum m s).line
message_parts me quorum m s = each_message (λ t o. Parts s o t.line) me quorum m s (λ v p tag. inl (refl, refl)) (inr (refl, last_line me quorum s))

pub message_last : (me quorum : ℕ) (m : Message) (s : Ops) → mine_at_last (after_message me quorum m s) ≡ mine_at_last s
message_last me quorum m s = each_message (λ t o. mine_at_last t ≡ mine_at_last s) me quorum m s (λ v p tag. refl) (last_last me quorum s)

pub message_share : (me quorum : ℕ) (m : Message) (s : Ops) → (after_message me quorum m s).share ≡ s.share
message_share me quorum m s = each_message (λ t o. t.share ≡ s.share) me quorum m s (λ v p tag. refl)
    (round_share me quorum (first_round s.share s.line) (line_left s))
  where
    round_share : (me quorum : ℕ) (asks : List Asked) (t : Ops) → (begin_round me quorum asks t).share ≡ t.share
    round_share me quorum [] t = refl
    round_share me quorum (a ∷ others) t =
        cond_both (is_writing a.command) (next_round (Storing (round_of quorum a)) (with_own_row me (with_written (a ∷ others) t)))
        (next_round (Querying (round_of quorum a)) t)
        (λ (u : Ops). u.share ≡ t.share) (λ _. refl) (λ _. refl)

-- ---- an ask

either_idle : (P : Ops → List Asked → Type 0) (b : Bool) (t u : Ops) (a : Asked) → (b ≡ true → P t (a ∷ [])) → P u []
    → P (if b then t else u) (if b then a ∷ [] else [])
either_idle P true t u a h k = h refl
either_idle P false t u a h k = k

alone : (a : Asked) → IsRound (a ∷ [])
alone a = λ reads. refl

pub ask_number : (me quorum : ℕ) (a : Asked) (s : Ops) → (after_ask me quorum a s).number ≡ s.number + writes_by (begun_by_ask a s)
ask_number me quorum a s =
    either_idle (λ t o. t.number ≡ s.number + writes_by o) (is_idle s.phase) (begin_round me quorum (a ∷ []) s) (record s { line = s.line ++ a ∷ [] }) a
    (λ _. round_number me quorum (a ∷ []) s (alone a)) (sym (add-zero s.number))

pub ask_mine : (me quorum : ℕ) (a : Asked) (s : Ops) → (after_ask me quorum a s).mine ≡ written_by (begun_by_ask a s) s.mine
ask_mine me quorum a s =
    either_idle (λ t o. t.mine ≡ written_by o s.mine) (is_idle s.phase) (begin_round me quorum (a ∷ []) s) (record s { line = s.line ++ a ∷ [] }) a
    (λ _. round_mine me quorum (a ∷ []) s (alone a)) refl

pub ask_line : (me quorum : ℕ) (a : Asked) (s : Ops) → (is_idle s.phase ≡ true → s.line ≡ [])
    → s.line ++ a ∷ [] ≡ begun_by_ask a s ++ (after_ask me quorum a s).line
ask_line me quorum a s none =
    either_idle (λ t o. s.line ++ a ∷ [] ≡ o ++ t.line) (is_idle s.phase) (begin_round me quorum (a ∷ []) s) (record s { line = s.line ++ a ∷ [] }) a
    (λ idle. ap (λ (l : List Asked). l ++ a ∷ []) (none idle) ∙ ap (λ (l : List Asked). a ∷ l) (sym (round_line me quorum (a ∷ []) s ∙ none idle))) refl

pub ask_last : (me quorum : ℕ) (a : Asked) (s : Ops) → (is_idle s.phase ≡ true → s.line ≡ [])
    → mine_at_last (after_ask me quorum a s) ≡ written a.command (mine_at_last s)
ask_last me quorum a s none =
    either_idle (λ t o. mine_at_last t ≡ written a.command (mine_at_last s)) (is_idle s.phase) (begin_round me quorum (a ∷ []) s)
    (record s { line = s.line ++ a ∷ [] }) a
    (λ idle. round_last me quorum (a ∷ []) s (alone a) ∙ ap (λ (l : List Asked). written_by l (written a.command s.mine)) (none idle)
    ∙ ap (λ (l : List Asked). written a.command (written_by l s.mine)) (sym (none idle)))
    (written_last s.line a s.mine)

none_pending : (phase : Phase) → is_idle phase ≡ true → asked_in phase ≡ []
none_pending Idle e = refl
none_pending (Storing p) e = cc
none_pending (Querying p) e = cc
none_pending (StoringBack p seen) e = cc

-- one more ask isn't answered yet, the last of them
pub ask_unanswered : (me quorum : ℕ) (a : Asked) (s : Ops) → (is_idle s.phase ≡ true → (s.line ≡ []) × (s.others ≡ []))
    → unanswered (after_ask me quorum a s) ≡ unanswered s ++ a ∷ []
ask_unanswered me quorum a s none =
    either_idle (λ t o. unanswered t ≡ unanswered s ++ a ∷ []) (is_idle s.phase) (begin_round me quorum (a ∷ []) s) (record s { line = s.line ++ a ∷ [] }) a
    (λ idle. round_unanswered me quorum (a ∷ []) s ∙ ap (λ (l : List Asked). a ∷ l) (none idle).0
    ∙ sym (λ i. ((none_pending s.phase idle i ++ (none idle).1 i) ++ (none idle).0 i) ++ a ∷ []))
    (sym (append_assoc (pending s) s.line (a ∷ [])))

-- ---- answers

-- one reply for each of these asks, in their order
abbrev pub AreAnswered : List Asked → List Reply → Type 0
AreAnswered [] [] = ⊤
AreAnswered [] (r ∷ rs) = ⊥
AreAnswered (a ∷ asks) [] = ⊥
AreAnswered (a ∷ asks) (r ∷ rs) = (a.session ≡ r.session) × (a.request ≡ r.request) × AreAnswered asks rs

-- none is answered, or the pending ones all are, and the first round of the line begins
abbrev pub AnswersRound : Ops → Ops → List Reply → Type 0
AnswersRound s t rs =
    ((rs ≡ []) × (unanswered t ≡ unanswered s)) ⊎ (AreAnswered (pending s) rs × (unanswered t ≡ first_round s.share s.line ++ line_behind s.share s.line))

all_told : (seen : ViewMap) (asks : List Asked) → AreAnswered asks (map (told seen) asks)
all_told seen [] = tt
all_told seen (a ∷ asks) = (refl, refl, all_told seen asks)

reply_unanswered : (quorum : ℕ) (v : ViewMap) (phase : Phase) (s : Ops) → s.phase ≡ phase → unanswered (after_reply quorum v phase s) ≡ unanswered s
reply_unanswered quorum v Idle s e = refl
reply_unanswered quorum v (Storing p) s e = refl
reply_unanswered quorum v (Querying p) s e =
    cond_both (is_last p) (next_round (StoringBack (round_of quorum p.asked) (merge s.view v)) (merged v s))
    (record (merged v s) { phase = Querying (counted p) })
    (λ (t : Ops). unanswered t ≡ unanswered s) (λ _. same) (λ _. same)
  where
    same : (p.asked ∷ [] ++ s.others) ++ s.line ≡ unanswered s
    same = ap (λ (q : Phase). (asked_in q ++ s.others) ++ s.line) (sym e)
reply_unanswered quorum v (StoringBack p seen) s e = refl

-- with the last acknowledgement, or with another one
either_told : (me quorum : ℕ) (b : Bool) (seen : ViewMap) (asks : List Asked) (phase : Phase) (s : Ops) → pending s ≡ asks
    → unanswered (record s { phase = phase }) ≡ unanswered s
    → AnswersRound s (if b then after_last me quorum s else record s { phase = phase }) (if b then map (told seen) asks else [])
either_told me quorum true seen asks phase s are same =
    inr (subst (λ (l : List Asked). AreAnswered l (map (told seen) asks)) (sym are) (all_told seen asks), last_unanswered me quorum s)
either_told me quorum false seen asks phase s are same = inl (refl, same)

ack_answers : (me quorum : ℕ) (phase : Phase) (s : Ops) → s.phase ≡ phase → AnswersRound s (after_ack me quorum phase s) (replies_in s.view s.others phase)
ack_answers me quorum Idle s e = inl (refl, refl)
ack_answers me quorum (Storing p) s e =
    let are : pending s ≡ p.asked ∷ s.others = ap (λ (q : Phase). asked_in q ++ s.others) e in
    either_told me quorum (is_last p) s.view (p.asked ∷ s.others) (Storing (counted p)) s are (ap (λ (l : List Asked). l ++ s.line) (sym are))
ack_answers me quorum (Querying p) s e = inl (refl, refl)
ack_answers me quorum (StoringBack p seen) s e =
    let are : pending s ≡ p.asked ∷ s.others = ap (λ (q : Phase). asked_in q ++ s.others) e in
    either_told me quorum (is_last p) seen (p.asked ∷ s.others) (StoringBack (counted p) seen) s are (ap (λ (l : List Asked). l ++ s.line) (sym are))

pub message_answers : (me quorum : ℕ) (m : Message) (s : Ops) → AnswersRound s (after_message me quorum m s) (replies_of me m s)
message_answers me quorum (message.QueryReply v tag q) s =
    inl (
      refl,
      cond_both (is_own me tag q s) (after_reply quorum v s.phase s) s (λ (t : Ops). unanswered t ≡ unanswered s)
          (λ _. reply_unanswered quorum v s.phase s refl) (λ _. refl),
    )
message_answers me quorum (message.StoreAck tag q) s =
    elim (is_own me tag q s)
    as (λ b. AnswersRound s (if b then after_ack me quorum s.phase s else s) (if b then replies_in s.view s.others s.phase else [])) [
      | true ↦ ack_answers me quorum s.phase s refl
      | false ↦ inl (refl, refl)
    ]
message_answers me quorum _ s = inl (refl, refl)

-- where clients are told, the first round of the line begins, and what is left waits; else all wait on
abbrev pub EndsRound : Ops → List Reply → List Asked → List Asked → Type 0
EndsRound s rs begun line = ((rs ≡ []) × (line ≡ s.line)) ⊎ ((rs ≡ [] → ⊥) × (begun ≡ first_round s.share s.line) × (line ≡ line_behind s.share s.line))

either_ends : (me quorum : ℕ) (b : Bool) (r : Reply) (rs : List Reply) (phase : Phase) (s : Ops)
    → EndsRound s (if b then r ∷ rs else []) (if b then first_round s.share s.line else [])
    (if b then after_last me quorum s else record s { phase = phase }).line
either_ends me quorum true r rs phase s = inr (λ e. cc, refl, last_line me quorum s)
either_ends me quorum false r rs phase s = inl (refl, refl)

ack_ends : (me quorum : ℕ) (phase : Phase) (s : Ops) → EndsRound s (replies_in s.view s.others phase) (begun_in phase s) (after_ack me quorum phase s).line
ack_ends me quorum Idle s = inl (refl, refl)
ack_ends me quorum (Storing p) s = either_ends me quorum (is_last p) (told s.view p.asked) (map (told s.view) s.others) (Storing (counted p)) s
ack_ends me quorum (Querying p) s = inl (refl, refl)
ack_ends me quorum (StoringBack p seen) s = either_ends me quorum (is_last p) (told seen p.asked) (map (told seen) s.others) (StoringBack (counted p) seen) s

pub message_ends : (me quorum : ℕ) (m : Message) (s : Ops) → EndsRound s (replies_of me m s) (begun_by me m s) (after_message me quorum m s).line
message_ends me quorum (message.QueryReply v tag q) s =
    inl (
      refl,
      cond_both (is_own me tag q s) (after_reply quorum v s.phase s) s (λ (t : Ops). t.line ≡ s.line)
          (λ _. either_reply (λ (t : Ops). t.line ≡ s.line) quorum v s.phase s refl (λ p tag. refl)) (λ _. refl),
    )
message_ends me quorum (message.StoreAck tag q) s =
    elim (is_own me tag q s)
    as (λ b. EndsRound s (if b then replies_in s.view s.others s.phase else []) (if b then begun_in s.phase s else [])
    (if b then after_ack me quorum s.phase s else s).line) [
      | true ↦ ack_ends me quorum s.phase s
      | false ↦ inl (refl, refl)
    ]
message_ends me quorum _ s = inl (refl, refl)

-- ---- a phase that begins anew

-- It is the same round's, and asks the same: of what an `Ops` has, the need and the count change, and the tag, which rises by one.
pub record AsksAnewAlone (quorum : ℕ) (before after : Ops) : Type 0 where
  pub view : after.view ≡ before.view
  pub number : after.number ≡ before.number
  pub mine : after.mine ≡ before.mine
  pub tag : after.tag ≡ before.tag + 1
  pub share : after.share ≡ before.share
  pub others : after.others ≡ before.others
  pub line : after.line ≡ before.line
  pub asked : asked_in after.phase ≡ asked_in before.phase
  pub seen : seen_in after.phase ≡ seen_in before.phase
  pub idle : is_idle after.phase ≡ is_idle before.phase
  pub awaited : awaits_views after.phase ≡ awaits_views before.phase
  -- none of its answers has come, and it needs as many as an operation that begins now
  pub none : answers_in after.phase ≡ 0
  pub need : is_idle before.phase ≡ false → need_in after.phase ≡ quorum

pub asked_again : (quorum : ℕ) (phase : Phase) → asked_in (again quorum phase) ≡ asked_in phase
asked_again quorum Idle = refl
asked_again quorum _ = refl

pub seen_again : (quorum : ℕ) (phase : Phase) → seen_in (again quorum phase) ≡ seen_in phase
seen_again quorum Idle = refl
seen_again quorum (StoringBack p seen) = refl
seen_again quorum _ = refl
