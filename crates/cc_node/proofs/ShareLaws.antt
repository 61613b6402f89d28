-- How many asks begin with an event and are answered, and that each that waits comes on.
--     begun_few, replies_few     no more than the share
--     share_told, told_along     which no event but a Share changes
--     next_share, share_again    what a Share makes of the core, and that a second one is refused
--     one_by_one                 where the share is 1 all asks begin in the order in which they were accepted
--     comes_on, stays_there      with each round that is answered an ask that waits begins, or fewer stand before it
use Rattle.std.proofs.Common.{◌≡◌, ℕ, ◌+◌, ◌<◌, ◌≤◌, Bool, List, [], ◌∷◌, ◌++◌, length, length-append, refl, sym, ap, subst, ◌∙◌, add-zero, inl, inr, arith}
use Rattle.std.specs.Prelude.{Option, Some, None}
use Rattle.std.specs.Bool.{then_some}
use Rattle.std.proofs.lemmas.Bool.{cond_both}
use Rattle.std.proofs.lemmas.List.{append_assoc, append-nil}
use Rattle.cc_messages.specs.declared.event.Event.{Event}
use Rattle.cc_messages.specs.declared.event.Event.TheVariants as event
use Rattle.cc_messages.specs.declared.refusal.Refusal.{Refusal}
use Rattle.cc_messages.specs.declared.refusal.Refusal.TheVariants as refusal
use Rattle.cc_messages.specs.Refusals.{first_of}
use Rattle.cc_ops.specs.declared.pending_operation.Asked.{Asked}
use Rattle.cc_ops.specs.declared.pending_operation.Reply.{Reply}
use Rattle.cc_ops.specs.Commands.{is_writing}
use Rattle.cc_ops.specs.Ops as ops
use Rattle.cc_ops.specs.Ops.{Ops, Phase, Idle, Storing, Querying}
use Rattle.cc_ops.specs.OwnLaws.{Parts, AreAnswered, AnswersRound, EndsRound, round_line, message_parts, message_share, message_answers, message_ends, ask_line}
use Rattle.cc_ops.specs.Rounds.{first_round, line_behind, IsAt, ComesOn}
use Rattle.cc_ops.specs.RoundLaws.{one_round, first_few, round_fair, at_more}
use Rattle.cc_node.specs.Core.{Core, quorum, asked_of, asks_anew, anew_if, begun, replies, next}
use Rattle.cc_node.specs.Node.{Node, step, after, IsLawful}
use Rattle.cc_node.specs.Refusals.{decides, decides_within, same_share, busy_beyond, spent}
use Rattle.cc_node.specs.Rounds.{share_after, share_along, IsShareAlong}
use Rattle.cc_node.specs.Writes.{asked_by, asked_along, begun_along}
use Rattle.cc_node.specs.Lawful.{IsLawfulCore, IsLawfulNode}
use Rattle.cc_node.proofs.PartDecisions.{of_entered, of_share}
use Rattle.cc_node.proofs.KnownLaws.{none_waits, same_number}
use Rattle.cc_node.proofs.LawfulLaws.{step_lawful}
use Rattle.cc_node.proofs.ToldLaws.{anew_line}

-- ---- how many

parted_begun : (s : Ops) (begun line : List Asked) → Parts s begun line → length begun ≤ s.share
parted_begun s begun line (inl h) = omega (arith, ap length h.0)
parted_begun s begun line (inr h) = omega (arith, ap length h.0, first_few s.share s.line)

pub begun_few : (c : Core) (e : Event) → 1 ≤ c.ops.share → length (begun c e) ≤ c.ops.share
begun_few c (event.Deliver from n m) some =
    parted_begun c.ops (ops.begun_by c.me m c.ops) (ops.after_message c.me (quorum c) m c.ops).line (message_parts c.me (quorum c) m c.ops)
begun_few c (event.Ask s r k) some =
    cond_both (ops.is_idle c.ops.phase) (asked_of s r k ∷ []) [] (λ (l : List Asked). length l ≤ c.ops.share) (λ _. omega (arith, some)) (λ _. omega arith)
begun_few c _ some = omega arith

answered_count : (asks : List Asked) (rs : List Reply) → AreAnswered asks rs → length rs ≡ length asks
answered_count [] [] h = refl
answered_count [] (r ∷ rs) h = absurd h
answered_count (a ∷ asks) [] h = absurd h
answered_count (a ∷ asks) (r ∷ rs) h = let rest = answered_count asks rs h.2 in omega (arith, rest)

one_first : (phase : Phase) → length (ops.asked_in phase) ≤ 1
one_first Idle = omega arith
one_first _ = omega arith

round_few : (s t : Ops) (rs : List Reply) → AnswersRound s t rs → length s.others < s.share → length rs ≤ s.share
round_few s t rs (inl h) few = omega (arith, ap length h.0)
round_few s t rs (inr h) few =
    omega (arith, answered_count (ops.pending s) rs h.0, length-append (ops.asked_in s.phase) s.others, one_first s.phase, few)

pub replies_few : (c : Core) (e : Event) → length c.ops.others < c.ops.share → length (replies c e) ≤ c.ops.share
replies_few c (event.Deliver from n m) few =
    round_few c.ops (ops.after_message c.me (quorum c) m c.ops) (ops.replies_of c.me m c.ops) (message_answers c.me (quorum c) m c.ops) few
replies_few c _ few = omega arith

-- ---- what changes the share

anew_share : (b : Bool) (q : ℕ) (s : Ops) → (anew_if b q s).share ≡ s.share
anew_share b q s = cond_both b (ops.anew q s) s (λ (t : Ops). t.share ≡ s.share) (λ _. refl) (λ _. refl)

begun_share : (me quorum : ℕ) (a : Asked) (s : Ops) → (ops.with_begun me quorum a s).share ≡ s.share
begun_share me quorum a s =
    cond_both (is_writing a.command) (ops.next_round (Storing (ops.round_of quorum a)) (ops.with_own_row me (ops.with_written (a ∷ []) s)))
    (ops.next_round (Querying (ops.round_of quorum a)) s) (λ (t : Ops). t.share ≡ s.share) (λ _. refl) (λ _. refl)

pub share_told : (c : Core) (e : Event) → (next c e).ops.share ≡ share_after c.ops.share e
unfolding next
share_told c (event.Deliver from n m) =
    anew_share (asks_anew c from n m) _ (ops.after_message c.me (quorum c) m c.ops) ∙ message_share c.me (quorum c) m c.ops
share_told c (event.Ask s r k) =
    let a = asked_of s r k in
    cond_both (ops.is_idle c.ops.phase) (ops.with_begun c.me (quorum c) a c.ops) (record c.ops { line = c.ops.line ++ a ∷ [] })
    (λ (t : Ops). t.share ≡ c.ops.share) (λ _. begun_share c.me (quorum c) a c.ops) (λ _. refl)
share_told c _ = refl

pub told_along : (n : Node) (es : List Event) → (after n es).core.ops.share ≡ share_along n.core.ops.share es
unfolding step
told_along n [] = refl
told_along n (e ∷ es) = told_along (step n e) es ∙ ap (λ (share : ℕ). share_along share es) (share_told n.core e)

pub next_share : (c : Core) (share : ℕ) → next c (event.Share share) ≡ record c { ops = ops.with_share share c.ops }
unfolding next
next_share c share = λ i. record c { ops = ops.with_share share c.ops; posts = add-zero c.posts i }

pub share_last : (c : Core) (first second : ℕ) → next (next c (event.Share first)) (event.Share second) ≡ next c (event.Share second)
unfolding next
share_last c first second = λ i. record c { ops = ops.with_share second c.ops; posts = add-zero (c.posts + 0) i }

-- where the first reasons don't hold, the others decide
first_behind : (xs ys zs : List (Option Refusal)) → first_of (xs ++ ys) ≡ None → first_of (xs ++ zs) ≡ first_of zs
first_behind [] ys zs h = refl
first_behind (None ∷ xs) ys zs h = first_behind xs ys zs h
first_behind (Some r ∷ xs) ys zs h = cc

pub share_again : (c : Core) (share : ℕ) → decides c (event.Share share) ≡ None
    → decides (next c (event.Share share)) (event.Share share) ≡ Some refusal.NothingToAck
unfolding next decides decides_within
share_again c share none =
    let d = next c (event.Share share) in
    let e = event.Share share in
    let rest = busy_beyond share d ∷ spent d e ∷ [] in
    first_behind (of_entered c) (of_share share c ++ spent c e ∷ []) (same_share share d ∷ rest) none
    ∙ ap (λ (b : Bool). first_of (then_some b refusal.NothingToAck ∷ rest)) (same_number share)

-- ---- at a share of 1

parted_line : (s : Ops) (begun line : List Asked) → s.share ≡ 1 → Parts s begun line → s.line ≡ begun ++ line
parted_line s begun line one (inl h) = sym (λ i. h.0 i ++ h.1 i)
parted_line s begun line one (inr h) =
    sym ((λ i. h.0 i ++ h.1 i) ∙ ap (λ (n : ℕ). first_round n s.line ++ line_behind n s.line) one ∙ one_round s.line)

one_in_line : (c : Core) (e : Event) → c.ops.share ≡ 1 → IsLawfulCore c → c.ops.line ++ asked_by e ≡ begun c e ++ (next c e).ops.line
unfolding next
one_in_line c (event.Deliver from n m) one h =
    let t = ops.after_message c.me (quorum c) m c.ops in
    append-nil c.ops.line ∙ parted_line c.ops (ops.begun_by c.me m c.ops) t.line one (message_parts c.me (quorum c) m c.ops)
    ∙ ap (λ (l : List Asked). ops.begun_by c.me m c.ops ++ l) (sym (anew_line (asks_anew c from n m) _ t))
one_in_line c (event.Ask s r k) one h = ask_line c.me (quorum c) (asked_of s r k) c.ops (λ idle. none_waits c.ops.phase c.ops.line idle h.line.behind)
one_in_line c _ one h = append-nil c.ops.line

pub one_by_one : (n : Node) (es : List Event) → IsShareAlong 1 n es → IsLawfulNode n → IsLawful n es
    → n.core.ops.line ++ asked_along es ≡ begun_along n es ++ (after n es).core.ops.line
unfolding step
one_by_one n [] one h d = append-nil n.core.ops.line
one_by_one n (e ∷ es) one h d =
    let b = begun n.core e in
    let line = (next n.core e).ops.line in
    sym (append_assoc n.core.ops.line (asked_by e) (asked_along es))
    ∙ ap (λ (l : List Asked). l ++ asked_along es) (one_in_line n.core e one.0 h.core)
    ∙ append_assoc b line (asked_along es)
    ∙ ap (λ (l : List Asked). b ++ l) (one_by_one (step n e) es one.1 (step_lawful n e d.0 h) d.1)
    ∙ sym (append_assoc b (begun_along (step n e) es) (after (step n e) es).core.ops.line)

-- ---- an ask that waits comes on

ended_on : (s : Ops) (rs : List Reply) (begun line : List Asked) (n : ℕ) (a : Asked) → 1 ≤ s.share → IsAt n a s.line → (rs ≡ [] → ⊥)
    → EndsRound s rs begun line → ComesOn n a begun line
ended_on s rs begun line n a some there told (inl h) = absurd (told h.0)
ended_on s rs begun line n a some there told (inr h) =
    subst (λ (l : List Asked). ComesOn n a begun l) (sym h.2)
    (subst (λ (l : List Asked). ComesOn n a l (line_behind s.share s.line)) (sym h.1) (round_fair s.share s.line n a some there))

pub comes_on : (c : Core) (e : Event) (n : ℕ) (a : Asked) → 1 ≤ c.ops.share → IsAt n a c.ops.line → (replies c e ≡ [] → ⊥)
    → ComesOn n a (begun c e) (next c e).ops.line
unfolding next
comes_on c (event.Deliver from k m) n a some there told =
    let t = ops.after_message c.me (quorum c) m c.ops in
    subst (λ (l : List Asked). ComesOn n a (ops.begun_by c.me m c.ops) l) (sym (anew_line (asks_anew c from k m) _ t))
    (ended_on c.ops (ops.replies_of c.me m c.ops) (ops.begun_by c.me m c.ops) t.line n a some there told (message_ends c.me (quorum c) m c.ops))
comes_on c _ n a some there told = absurd (told refl)

waits_on : (s : Ops) (rs : List Reply) (begun line : List Asked) (n : ℕ) (a : Asked) → IsAt n a s.line → rs ≡ [] → EndsRound s rs begun line → IsAt n a line
waits_on s rs begun line n a there none (inl h) = subst (IsAt n a) (sym h.1) there
waits_on s rs begun line n a there none (inr h) = absurd (h.0 none)

pub stays_there : (c : Core) (e : Event) (n : ℕ) (a : Asked) → IsAt n a c.ops.line → replies c e ≡ [] → IsAt n a (next c e).ops.line
unfolding next
stays_there c (event.Deliver from k m) n a there none =
    let t = ops.after_message c.me (quorum c) m c.ops in
    subst (IsAt n a) (sym (anew_line (asks_anew c from k m) _ t))
    (waits_on c.ops (ops.replies_of c.me m c.ops) (ops.begun_by c.me m c.ops) t.line n a there none (message_ends c.me (quorum c) m c.ops))
stays_there c (event.Ask s r k) n a there none =
    let x = asked_of s r k in
    cond_both (ops.is_idle c.ops.phase) (ops.with_begun c.me (quorum c) x c.ops) (record c.ops { line = c.ops.line ++ x ∷ [] }) (λ (t : Ops). IsAt n a t.line)
    (λ _. subst (IsAt n a) (sym (round_line c.me (quorum c) (x ∷ []) c.ops)) there) (λ _. at_more c.ops.line (x ∷ []) n a there)
stays_there c _ n a there none = there
