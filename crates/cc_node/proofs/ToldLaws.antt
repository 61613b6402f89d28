-- What a snapshot makes of the parts beside a union and a merge: it counts as an echo, and a phase begins anew.
--     told_churn, left_told                  what coming and going keeps;  who left
--     one_echo, echoes_told, told_more, ..   how many echoes there are then
--     anew_.., anew_ops                      a phase that begins anew leaves all but the tag, the need and the count
--     snapshot_tag, .._number, .._echoes     a snapshot raises none of them by itself
--     tells_snapshot, anew_snapshot          only a snapshot counts as an echo, or lets a phase begin anew
--     not_told, not_anew                     so nothing else does
use Rattle.std.proofs.Common.{◌≡◌, ℕ, ◌+◌, ◌<◌, ◌≤◌, Bool, true, false, ◌&&◌, List, ◌++◌, refl, ap, sym, subst, arith}
use Rattle.std.specs.Prelude.{IsTrue, ◌==◌}
use Rattle.std.specs.FinMap as table
use Rattle.std.proofs.lemmas.Bool.{cond_both}
use Rattle.cc_views.specs.Limits.{known_limit}
use Rattle.cc_views.specs.NatSets as set
use Rattle.cc_views.specs.NatSets.{IsWithin}
use Rattle.cc_changes.specs.ChangeSets.{present, add_join}
use Rattle.cc_changes.specs.Need.{IsShare, needed}
use Rattle.cc_changes.specs.declared.fraction.Fraction.{Fraction}
use Rattle.cc_messages.specs.Messages.{is_snapshot}
use Rattle.cc_messages.specs.declared.message.Message.{Message}
use Rattle.cc_messages.specs.declared.message.Message.TheVariants as message
use Rattle.cc_churn.specs.Churn as churn
use Rattle.cc_churn.specs.Churn.{Churn}
use Rattle.cc_ops.specs.Ops as ops
use Rattle.cc_ops.specs.Ops.{Ops, Phase, Idle, StoringBack, unanswered, mine_at_last}
use Rattle.cc_ops.specs.OwnLaws.{asked_again}
use Rattle.cc_ops.specs.Stages.{stage_of, WaitsBehind}
use Rattle.cc_ops.specs.WaitingAsks.{AreApart}
use Rattle.cc_ops.specs.declared.pending_operation.Asked.{Asked}
use Rattle.cc_links.specs.Links.{Links}
use Rattle.cc_sessions.specs.Sessions.{Requests}
use Rattle.cc_node.specs.Core.{Core, told_if, anew_if, tells, asks_anew}
use Rattle.cc_node.specs.Lawful.{IsKnown, IsPhaseOf, IsBeside}
use Rattle.cc_node.proofs.KnownLaws.{KeepsChurn, echoed_churn, left_echoed, KeepsOps, goes_on}

-- ---- one that counts as an echo

pub told_churn : (ls : Links) (b : Bool) (me : ℕ) (gamma : Fraction) (s : Churn) → IsShare gamma → table.len ls ≤ known_limit → IsKnown ls me
    → KeepsChurn ls s → KeepsChurn ls (told_if b me gamma s)
told_churn ls b me gamma s share few own h =
    cond_both b (churn.told me gamma s) s (KeepsChurn ls) (λ _. echoed_churn ls me gamma share few own true s h) (λ _. h)

pub left_told : (b : Bool) (me : ℕ) (gamma : Fraction) (s : Churn) → IsWithin s.changes.left (told_if b me gamma s).changes.left
left_told b me gamma s x here =
    cond_both b (churn.told me gamma s) s (λ u. IsTrue (set.contains u.changes.left x)) (λ _. left_echoed me gamma true s x here) (λ _. here)

-- one more echo is one more, whatever it says of the need and of who has joined
pub one_echo : (me : ℕ) (gamma : Fraction) (j : Bool) (s : Churn) → (churn.echoed me gamma j s).echoes ≡ s.echoes + 1
one_echo me gamma j s =
    let needing = record s { need = needed gamma (set.len (present s.changes)) } in
    let n = cond_both (j && (s.need == 0)) needing s (λ u. u.echoes ≡ s.echoes) (λ _. refl) (λ _. refl) in
    let w = churn.with_echo (churn.with_need gamma j s) in
    cond_both (churn.is_answered w) (record w { changes = add_join w.changes me }) w (λ u. u.echoes ≡ s.echoes + 1)
    (λ _. ap (λ k. k + 1) n) (λ _. ap (λ k. k + 1) n)

-- one more at most, and no fewer
pub echoes_told : (b : Bool) (me : ℕ) (gamma : Fraction) (s : Churn) (n : ℕ) → (b ≡ true → s.echoes ≡ n) → s.echoes ≤ n + 1
    → (told_if b me gamma s).echoes ≤ n + 1
echoes_told b me gamma s n same up =
    cond_both b (churn.told me gamma s) s (λ u. u.echoes ≤ n + 1) (λ e. omega (arith, one_echo me gamma true s, same e)) (λ _. up)

pub told_more : (b : Bool) (me : ℕ) (gamma : Fraction) (s : Churn) → s.echoes ≤ (told_if b me gamma s).echoes
told_more b me gamma s = cond_both b (churn.told me gamma s) s (λ u. s.echoes ≤ u.echoes) (λ _. omega (arith, one_echo me gamma true s)) (λ _. omega arith)

pub told_one : (b : Bool) (me : ℕ) (gamma : Fraction) (s : Churn) → b ≡ true → (told_if b me gamma s).echoes ≡ s.echoes + 1
told_one true me gamma s e = one_echo me gamma true s
told_one false me gamma s e = cc

-- ---- a phase that begins anew

pub anew_view : (b : Bool) (q : ℕ) (s : Ops) → (anew_if b q s).view ≡ s.view
anew_view b q s = cond_both b (ops.anew q s) s (λ (t : Ops). t.view ≡ s.view) (λ _. refl) (λ _. refl)

pub anew_number : (b : Bool) (q : ℕ) (s : Ops) → (anew_if b q s).number ≡ s.number
anew_number b q s = cond_both b (ops.anew q s) s (λ (t : Ops). t.number ≡ s.number) (λ _. refl) (λ _. refl)

pub anew_mine : (b : Bool) (q : ℕ) (s : Ops) → (anew_if b q s).mine ≡ s.mine
anew_mine b q s = cond_both b (ops.anew q s) s (λ (t : Ops). t.mine ≡ s.mine) (λ _. refl) (λ _. refl)

pub anew_line : (b : Bool) (q : ℕ) (s : Ops) → (anew_if b q s).line ≡ s.line
anew_line b q s = cond_both b (ops.anew q s) s (λ (t : Ops). t.line ≡ s.line) (λ _. refl) (λ _. refl)

pub anew_last : (b : Bool) (q : ℕ) (s : Ops) → mine_at_last (anew_if b q s) ≡ mine_at_last s
anew_last b q s = cond_both b (ops.anew q s) s (λ (t : Ops). mine_at_last t ≡ mine_at_last s) (λ _. refl) (λ _. refl)

pub anew_unanswered : (b : Bool) (q : ℕ) (s : Ops) → unanswered (anew_if b q s) ≡ unanswered s
anew_unanswered b q s =
    cond_both b (ops.anew q s) s (λ (t : Ops). unanswered t ≡ unanswered s)
    (λ _. ap (λ (l : List Asked). (l ++ s.others) ++ s.line) (asked_again q s.phase)) (λ _. refl)

pub anew_tag : (b : Bool) (q : ℕ) (s : Ops) (n : ℕ) → (b ≡ true → s.tag ≡ n) → s.tag ≤ n + 1 → (anew_if b q s).tag ≤ n + 1
anew_tag b q s n same up = cond_both b (ops.anew q s) s (λ t. t.tag ≤ n + 1) (λ e. omega (arith, same e)) (λ _. up)

pub anew_more : (b : Bool) (q : ℕ) (s : Ops) → s.tag ≤ (anew_if b q s).tag
anew_more b q s = cond_both b (ops.anew q s) s (λ t. s.tag ≤ t.tag) (λ _. omega arith) (λ _. omega arith)

pub anew_one : (b : Bool) (q : ℕ) (s : Ops) → b ≡ true → (anew_if b q s).tag ≡ s.tag + 1
anew_one true q s e = refl
anew_one false q s e = cc

phase_anew : (ls : Links) (ss : Requests) (q : ℕ) (p : Phase) → 0 < q → q ≤ known_limit → IsPhaseOf ls ss p → IsPhaseOf ls ss (ops.again q p)
phase_anew ls ss q Idle some few h = tt
phase_anew ls ss q (StoringBack p seen) some few h = (record { session = h.0.session; need = few; count = some }, h.1, h.2)
phase_anew ls ss q _ some few h = (record { session = h.0.session; need = few; count = some }, h.1)

behind_anew : (q : ℕ) (p : Phase) (line : List Asked) → WaitsBehind (stage_of p) line → WaitsBehind (stage_of (ops.again q p)) line
behind_anew q Idle line h = h
behind_anew q _ line h = tt

beside_anew : (q : ℕ) (p : Phase) (others : List Asked) → IsBeside p others → IsBeside (ops.again q p) others
beside_anew q Idle others h = h
beside_anew q _ others h = h

pub anew_ops : (ls : Links) (ss : Requests) (b : Bool) (q : ℕ) (s : Ops) → 0 < q → q ≤ known_limit → KeepsOps ls ss s → KeepsOps ls ss (anew_if b q s)
anew_ops ls ss b q s some few h =
    cond_both b (ops.anew q s) s (KeepsOps ls ss)
    (λ _. record {
      view = h.view;
      phase = phase_anew ls ss q s.phase some few h.phase;
      line = record {
        behind = behind_anew q s.phase s.line h.line.behind;
        few = h.line.few;
        apart = subst AreApart (sym (ap (λ (l : List Asked). (l ++ s.others) ++ s.line) (asked_again q s.phase))) h.line.apart;
        last = h.line.last;
        round = goes_on h.line.round (beside_anew q s.phase s.others h.line.round.alike);
      };
    })
    (λ _. h)

-- ---- a snapshot raises no counter by itself

pub snapshot_tag : (me quorum : ℕ) (m : Message) (s : Ops) → is_snapshot m ≡ true → (ops.after_message me quorum m s).tag ≡ s.tag
snapshot_tag me quorum (message.Snapshot c v) s e = refl
snapshot_tag me quorum _ s e = cc

pub snapshot_number : (me quorum : ℕ) (m : Message) (s : Ops) → is_snapshot m ≡ true → (ops.after_message me quorum m s).number ≡ s.number
snapshot_number me quorum (message.Snapshot c v) s e = refl
snapshot_number me quorum _ s e = cc

pub snapshot_echoes : (me : ℕ) (gamma : Fraction) (m : Message) (s : Churn) → is_snapshot m ≡ true → (churn.after_message me gamma m s).echoes ≡ s.echoes
snapshot_echoes me gamma (message.Snapshot c v) s e = refl
snapshot_echoes me gamma _ s e = cc

-- only a snapshot tells, and lets a phase begin anew
pub tells_snapshot : (c : Core) (from n : ℕ) (m : Message) → tells c from n m ≡ true → is_snapshot m ≡ true
tells_snapshot c from n (message.Snapshot d v) e = refl
tells_snapshot c from n _ e = cc

pub anew_snapshot : (c : Core) (from n : ℕ) (m : Message) → asks_anew c from n m ≡ true → is_snapshot m ≡ true
anew_snapshot c from n (message.Snapshot d v) e = refl
anew_snapshot c from n _ e = cc

pub not_told : (c : Core) (from n : ℕ) (m : Message) → is_snapshot m ≡ false → tells c from n m ≡ false
not_told c from n (message.Snapshot d v) e = cc
not_told c from n _ e = refl

pub not_anew : (c : Core) (from n : ℕ) (m : Message) → is_snapshot m ≡ false → asks_anew c from n m ≡ false
not_anew c from n (message.Snapshot d v) e = cc
not_anew c from n _ e = refl
