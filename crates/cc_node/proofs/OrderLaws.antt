-- Asks begin in the order in which they were accepted; and what is taken where none may wait is taken where some may.
--     begin_in_order             of each kind what waited and what was accepted is what began and what waits still
--     busy_same, idle_within     busy is who has an operation pending
--     taken_within, taken_along  what isn't refused where no ask may wait isn't refused;  the same along a list
--     none_waiting, .._along     and none waits then;  none_behind: nor where none did
use Rattle.std.proofs.Common.{◌≡◌, ℕ, zero, suc, inl, inr, Bool, true, false, not, ◌&&◌, ◌||◌, nat_le, List, [], ◌∷◌, ◌++◌, length, refl, sym, ap, ◌∙◌, arith}
use Rattle.std.specs.Prelude.{Option, Some, None, if◌then◌else◌}
use Rattle.std.specs.Bool.{then_some}
use Rattle.std.proofs.lemmas.Bool.{le-leb, not-false}
use Rattle.std.proofs.lemmas.List.{append_assoc, append-nil}
use Rattle.cc_messages.specs.declared.command.Command.{Command}
use Rattle.cc_messages.specs.declared.event.Event.{Event}
use Rattle.cc_messages.specs.declared.event.Event.TheVariants as event
use Rattle.cc_messages.specs.declared.refusal.Refusal.{Refusal}
use Rattle.cc_messages.specs.declared.refusal.Refusal.TheVariants as refusal
use Rattle.cc_messages.specs.Refusals.{first_of}
use Rattle.cc_ops.specs.declared.pending_operation.Asked.{Asked}
use Rattle.cc_ops.specs.Ops as ops
use Rattle.cc_ops.specs.OwnLaws.{Parts, round_line, message_parts, ask_line}
use Rattle.cc_ops.specs.Ops.{Ops}
use Rattle.cc_ops.specs.Rounds.{of_kind, line_behind}
use Rattle.cc_ops.specs.RoundLaws.{kind_both, round_kinds}
use Rattle.cc_ops.specs.WaitingAsks.{line_limit, has_session}
use Rattle.cc_node.specs.Core.{Core, quorum, asked_of, asks_anew, begun, next}
use Rattle.cc_node.specs.Refusals.{decides, decides_within, busy, set_full, outbox_full, spent}
use Rattle.cc_node.proofs.PartDecisions.{of_member, of_request}
use Rattle.cc_node.specs.Node.{Node, step, after, IsLawful, IsLawfulWithin}
use Rattle.cc_node.specs.Writes.{asked_by, asked_along, begun_along}
use Rattle.cc_node.specs.Lawful.{IsLawfulCore, IsLawfulNode}
use Rattle.cc_node.proofs.KnownLaws.{none_waits}
use Rattle.cc_node.proofs.LawfulLaws.{step_lawful}
use Rattle.cc_node.proofs.RefusalLaws.{fails, free_within}
use Rattle.cc_node.proofs.ToldLaws.{anew_line}

-- ---- the order of asks

parted_kinds : (k : Bool) (s : Ops) (begun line : List Asked) → Parts s begun line → of_kind k s.line ≡ of_kind k (begun ++ line)
parted_kinds k s begun line (inl h) = sym (λ i. of_kind k (h.0 i ++ h.1 i))
parted_kinds k s begun line (inr h) = sym (round_kinds k s.share s.line) ∙ sym (λ i. of_kind k (h.0 i ++ h.1 i))

one_in_order : (k : Bool) (c : Core) (e : Event) → IsLawfulCore c → of_kind k (c.ops.line ++ asked_by e) ≡ of_kind k (begun c e ++ (next c e).ops.line)
unfolding next
one_in_order k c (event.Deliver from n m) h =
    let t = ops.after_message c.me (quorum c) m c.ops in
    ap (of_kind k) (append-nil c.ops.line) ∙ parted_kinds k c.ops (ops.begun_by c.me m c.ops) t.line (message_parts c.me (quorum c) m c.ops)
    ∙ ap (λ (l : List Asked). of_kind k (ops.begun_by c.me m c.ops ++ l)) (sym (anew_line (asks_anew c from n m) _ t))
one_in_order k c (event.Ask s r command) h =
    ap (of_kind k) (ask_line c.me (quorum c) (asked_of s r command) c.ops (λ idle. none_waits c.ops.phase c.ops.line idle h.line.behind))
one_in_order k c _ h = ap (of_kind k) (append-nil c.ops.line)

pub begin_in_order : (k : Bool) (n : Node) (es : List Event) → IsLawfulNode n → IsLawful n es
    → of_kind k (n.core.ops.line ++ asked_along es) ≡ of_kind k (begun_along n es ++ (after n es).core.ops.line)
unfolding step
begin_in_order k n [] h d = ap (of_kind k) (append-nil n.core.ops.line)
begin_in_order k n (e ∷ es) h d =
    let b = begun n.core e in
    let line = (next n.core e).ops.line in
    let rest = asked_along es in
    let later = begun_along (step n e) es in
    let left = (after (step n e) es).core.ops.line in
    ap (of_kind k) (sym (append_assoc n.core.ops.line (asked_by e) rest))
    ∙ kind_both k (n.core.ops.line ++ asked_by e) rest
    ∙ ap (λ (l : List Asked). l ++ of_kind k rest) (one_in_order k n.core e h.core)
    ∙ sym (kind_both k (b ++ line) rest) ∙ ap (of_kind k) (append_assoc b line rest) ∙ kind_both k b (line ++ rest)
    ∙ ap (λ (l : List Asked). of_kind k b ++ l) (begin_in_order k (step n e) es (step_lawful n e d.0 h) d.1)
    ∙ sym (kind_both k b (later ++ left)) ∙ ap (of_kind k) (sym (append_assoc b later left))

-- ---- where no ask may wait

-- busy is who has an operation pending
pub busy_same : (c : Core) (s : ℕ) → busy 0 c s ≡ then_some (not (ops.is_idle c.ops.phase)) refusal.Busy
busy_same c s =
    let idle = ops.is_idle c.ops.phase in
    let there = has_session s (ops.unanswered c.ops) in
    ap (λ (b : Bool). then_some (not idle && (b || there)) refusal.Busy) (le-leb 0 (length c.ops.line) (omega arith)) ∙ both idle there
  where
    both : (b there : Bool) → then_some (not b && (true || there)) refusal.Busy ≡ then_some (not b) refusal.Busy
    both true there = refl
    both false there = refl

pub idle_within : (c : Core) (s : ℕ) → busy 0 c s ≡ None → ops.is_idle c.ops.phase ≡ true
idle_within c s h = not-false _ (fails refusal.Busy _ (sym (busy_same c s) ∙ h))

-- who isn't busy then isn't where more may wait
free_more : (c : Core) (s : ℕ) → busy 0 c s ≡ None → busy line_limit c s ≡ None
free_more c s h =
    let waits = nat_le line_limit (length c.ops.line) || has_session s (ops.unanswered c.ops) in
    ap (λ b. then_some (not b && waits) refusal.Busy) (idle_within c s h)

-- a reason in the middle of a list may be another that doesn't hold
other_passes : (xs : List (Option Refusal)) (o p : Option Refusal) (rs : List (Option Refusal)) → (o ≡ None → p ≡ None)
    → first_of (xs ++ o ∷ rs) ≡ None → first_of (xs ++ p ∷ rs) ≡ None
other_passes [] None p rs f h = ap (λ (q : Option Refusal). first_of (q ∷ rs)) (f refl) ∙ h
other_passes [] (Some r) p rs f h = cc
other_passes (None ∷ xs) o p rs f h = other_passes xs o p rs f h
other_passes (Some r ∷ xs) o p rs f h = cc

pub taken_within : (c : Core) (e : Event) → decides_within 0 c e ≡ None → decides c e ≡ None
unfolding decides decides_within
taken_within c (event.Ask s r k) d =
    let e = event.Ask s r k in
    other_passes (of_member c ++ of_request c s r) (busy 0 c s) (busy line_limit c s) (set_full c k ∷ outbox_full c e ∷ spent c e ∷ []) (free_more c s) d
taken_within c _ d = d

pub taken_along : (n : Node) (es : List Event) → IsLawfulWithin 0 n es → IsLawful n es
taken_along n [] d = tt
taken_along n (e ∷ es) d = (taken_within n.core e d.0, taken_along (step n e) es d.1)

pub none_behind : (share : ℕ) → line_behind share [] ≡ []
none_behind zero = refl
none_behind (suc n) = refl

parted_none : (s : Ops) (begun line : List Asked) → Parts s begun line → s.line ≡ [] → line ≡ []
parted_none s begun line (inl h) none = h.1 ∙ none
parted_none s begun line (inr h) none = h.1 ∙ ap (line_behind s.share) none ∙ none_behind s.share

none_asked : (c : Core) (s r : ℕ) (k : Command) → c.ops.line ≡ [] → ops.is_idle c.ops.phase ≡ true
    → (ops.after_ask c.me (quorum c) (asked_of s r k) c.ops).line ≡ []
none_asked c s r k none idle =
    let a = asked_of s r k in
    ap (λ b. (if b then ops.with_begun c.me (quorum c) a c.ops else record c.ops { line = c.ops.line ++ a ∷ [] }).line) idle
    ∙ round_line c.me (quorum c) (a ∷ []) c.ops ∙ none

pub none_waiting : (c : Core) (e : Event) → c.ops.line ≡ [] → decides_within 0 c e ≡ None → (next c e).ops.line ≡ []
unfolding next
none_waiting c (event.Deliver from n m) none d =
    anew_line (asks_anew c from n m) _ (ops.after_message c.me (quorum c) m c.ops)
    ∙ parted_none c.ops (ops.begun_by c.me m c.ops) _ (message_parts c.me (quorum c) m c.ops) none
none_waiting c (event.Ask s r k) none d = none_asked c s r k none (idle_within c s (free_within 0 c s r k d))
none_waiting c _ none d = none

-- where none may wait, none does
pub none_waiting_along : (n : Node) (es : List Event) → n.core.ops.line ≡ [] → IsLawfulWithin 0 n es → (after n es).core.ops.line ≡ []
unfolding step
none_waiting_along n [] none d = none
none_waiting_along n (e ∷ es) none d = none_waiting_along (step n e) es (none_waiting n.core e none d.0) d.1
