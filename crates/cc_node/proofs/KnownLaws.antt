-- Whoever a message names has a link, so whoever a node comes to know has one, and no quorum is more than can be known.
--     AllListed, told_known, ..          each id of a list has a link;  so those of a message have
--     KeepsChurn, message_churn          what coming and going keeps;  echoed_churn: one more echo
--     left_stays, left_echoed            who left has left for good
--     all_last                           each ask that isn't answered is its session's last request
--     none_waits, none_left              where nothing is pending none waits, and none is left
--     KeepsRound, message_round          what a view, a phase and its round keep
--     KeepsOps, message_ops, ask_ops     so do the operations, with the asks that wait
use Rattle.std.proofs.Common.{◌≡◌, ℕ, zero, suc, ◌+◌, ◌<◌, ◌≤◌, Bool, true, false, not, ◌&&◌, ◌||◌, nat_eq, nat_le, List, [], ◌∷◌, ◌++◌, length}
use Rattle.std.proofs.Common.{length-append, refl, sym, ap, subst, ◌∙◌, inl, inr, arith}
use Rattle.std.specs.Prelude.{Option, Some, IsTrue, ◌==◌}
use Rattle.std.specs.List.{list_any, AllByRecursion}
use Rattle.std.specs.Ordering.{nat_cmp}
use Rattle.std.specs.FinMap as table
use Rattle.std.specs.FinMap.{FinMap}
use Rattle.std.proofs.lemmas.Bool.{cond_both, eq-eqb, ne_eqb, eqb-false, leb-false, or_cases, or_parts, or_left, or_right}
use Rattle.std.proofs.lemmas.List.{append_assoc}
use Rattle.std.proofs.lemmas.List.Folds.{list_any-append}
use Rattle.cc_views.specs.Limits.{known_limit}
use Rattle.cc_views.specs.NatSets as set
use Rattle.cc_views.specs.NatSets.{NatSet, IsWithin, contains-keys, contains-union, contains-insert, len_within}
use Rattle.cc_views.specs.Rows.{Pair, ViewMap, single}
use Rattle.cc_views.specs.Merge.{merge}
use Rattle.cc_views.specs.MergeLaws.{merge_within}
use Rattle.cc_views.specs.MapLaws.{within_insert, insert_within, empty_within}
use Rattle.cc_changes.specs.ChangeSets.{ChangeSets, present, members, add_enter, add_join, add_leave, union}
use Rattle.cc_changes.specs.ChangeLaws.{IsAmong, enter_among, join_among, leave_among, union_among, present_within, members_within, need_within}
use Rattle.cc_changes.specs.Need.{IsShare, needed}
use Rattle.cc_changes.specs.declared.fraction.Fraction.{Fraction}
use Rattle.cc_messages.specs.declared.message.Message.{Message}
use Rattle.cc_messages.specs.declared.message.Message.TheVariants as message
use Rattle.cc_churn.specs.Churn as churn
use Rattle.cc_churn.specs.Churn.{Churn}
use Rattle.cc_ops.specs.Commands.{is_writing}
use Rattle.cc_ops.specs.Ops as ops
use Rattle.cc_ops.specs.Ops.{Ops, Phase, Idle, Storing, Querying, StoringBack}
use Rattle.cc_ops.specs.OwnLaws.{AnswersRound, Parts, round_line, round_unanswered, message_parts, message_answers}
use Rattle.cc_ops.specs.Rounds.{picked, spared, first_round, line_behind}
use Rattle.cc_ops.specs.RoundLaws.{has_both, round_apart, behind_few, each_first, each_behind, picked_alike, picked_few}
use Rattle.cc_ops.specs.Stages.{stage_of, WaitsBehind}
use Rattle.cc_ops.specs.WaitingAsks.{line_limit, has_session, AreApart}
use Rattle.cc_ops.specs.WaitingAskLaws.{apart_last}
use Rattle.cc_ops.specs.declared.pending_operation.Asked.{Asked}
use Rattle.cc_ops.specs.declared.pending_operation.Pending.{Pending}
use Rattle.cc_ops.specs.declared.pending_operation.Reply.{Reply}
use Rattle.cc_links.specs.Links.{Links}
use Rattle.cc_sessions.specs.Sessions.{Requests}
use Rattle.cc_node.specs.Core.{ids_of}
use Rattle.cc_messages.specs.Shares.{share_limit}
use Rattle.cc_node.proofs.Lists.{both_all, inserted_here, inserted_beside}
use Rattle.cc_node.specs.Lawful.{IsKnown, IsPendingIn, IsPhaseOf, IsLastOf, IsLineOf, IsRoundOf, IsBeside}

pub same_number : (n : ℕ) → nat_eq n n ≡ true
same_number n = eq-eqb n n refl

-- ---- the ids of a message

abbrev pub AllListed : Links → List ℕ → Type 0
AllListed ls qs = (q : ℕ) → list_any (nat_eq q) qs ≡ true → IsKnown ls q

first_listed : (ls : Links) (xs ys : List ℕ) → AllListed ls (xs ++ ys) → AllListed ls xs
first_listed ls xs ys h q k = h q (list_any-append (nat_eq q) xs ys ∙ or_left _ _ k)

second_listed : (ls : Links) (xs ys : List ℕ) → AllListed ls (xs ++ ys) → AllListed ls ys
second_listed ls xs ys h q k = h q (list_any-append (nat_eq q) xs ys ∙ or_right _ _ k)

head_listed : (ls : Links) (x : ℕ) (xs : List ℕ) → AllListed ls (x ∷ xs) → IsKnown ls x
head_listed ls x xs h = h x (or_left _ _ (same_number x))

pub tail_listed : (ls : Links) (x : ℕ) (xs : List ℕ) → AllListed ls (x ∷ xs) → AllListed ls xs
tail_listed ls x xs h q k = h q (or_right _ _ k)

keys_listed : {X : Type 0} (ls : Links) (m : FinMap nat_cmp X) → AllListed ls (table.keys m) → IsWithin m ls
keys_listed ls m h q k = h q (sym (contains-keys m q) ∙ k)

-- the changes and the view that a message tells
told_known : (ls : Links) (c : ChangeSets) (v : ViewMap) → AllListed ls (ids_of (message.Snapshot c v)) → IsAmong c ls × IsWithin v ls
told_known ls c v h =
    let e = set.items c.entered in
    let k = set.items c.joined in
    let l = set.items c.left in
    let three = first_listed ls (e ++ k ++ l) (table.keys v) h in
    let two = first_listed ls (e ++ k) l three in (
      record {
        entered = keys_listed ls c.entered (first_listed ls e k two);
        joined = keys_listed ls c.joined (second_listed ls e k two);
        left = keys_listed ls c.left (second_listed ls (e ++ k) l three);
      },
      keys_listed ls v (second_listed ls (e ++ k ++ l) (table.keys v) h),
    )

echo_known : (ls : Links) (c : ChangeSets) (v : ViewMap) (j : Bool) (q : ℕ) → AllListed ls (ids_of (message.EnterEcho c v j q))
    → IsAmong c ls × IsWithin v ls
echo_known ls c v j q h = told_known ls c v (tail_listed ls q (ids_of (message.Snapshot c v)) h)

-- and the view behind its sender
view_known : (ls : Links) (v : ViewMap) (q : ℕ) → AllListed ls (q ∷ table.keys v) → IsWithin v ls
view_known ls v q h = keys_listed ls v (tail_listed ls q (table.keys v) h)

-- ---- changes

union_within : {X : Type 0} (s t : NatSet) (m : FinMap nat_cmp X) → IsWithin s m → IsWithin t m → IsWithin (set.union s t) m
union_within s t m h k q j =
    elim (or_cases (set.contains s q) (set.contains t q) (sym (contains-union s t q) ∙ j))
    as (λ _. IsTrue (table.contains_key m q)) [ inl e ↦ h q e | inr e ↦ k q e ]

first_in_union : (s t : NatSet) → IsWithin s (set.union s t)
first_in_union s t q h = contains-union s t q ∙ or_left _ _ h

second_in_union : (s t : NatSet) → IsWithin t (set.union s t)
second_in_union s t q h = contains-union s t q ∙ or_right _ _ h

pub among_more : (ls ms : Links) (c : ChangeSets) → IsWithin ls ms → IsAmong c ls → IsAmong c ms
among_more ls ms c more h = record { entered = λ q k. more q (h.entered q k); joined = λ q k. more q (h.joined q k); left = λ q k. more q (h.left q k) }

-- whoever changes name has a link, and who joined has entered
pub record KeepsChanges (ls : Links) (c : ChangeSets) : Type 0 where
  pub known : IsAmong c ls
  pub joined : IsWithin c.joined c.entered

pub enter_changes : (ls : Links) (c : ChangeSets) (q : ℕ) → IsKnown ls q → KeepsChanges ls c → KeepsChanges ls (add_enter c q)
enter_changes ls c q k h = record { known = enter_among ls c h.known q k; joined = λ x j. within_insert c.entered q tt x (h.joined x j) }

join_changes : (ls : Links) (c : ChangeSets) (q : ℕ) → IsKnown ls q → KeepsChanges ls c → KeepsChanges ls (add_join c q)
join_changes ls c q k h = record {
  known = join_among ls c h.known q k;
  joined = insert_within c.joined (set.insert c.entered q) q tt (λ x j. within_insert c.entered q tt x (h.joined x j))
      (contains-insert c.entered q q ∙ or_left _ _ (same_number q));
}

pub leave_changes : (ls : Links) (c : ChangeSets) (q : ℕ) → IsKnown ls q → KeepsChanges ls c → KeepsChanges ls (add_leave c q)
leave_changes ls c q k h = record { known = leave_among ls c h.known q k; joined = h.joined }

union_changes : (ls : Links) (c d : ChangeSets) → IsAmong d ls → KeepsChanges ls c → KeepsChanges ls (union c d)
union_changes ls c d k h = record {
  known = union_among ls c h.known d k;
  joined = union_within c.joined d.joined (set.union c.entered (set.union d.entered d.joined))
      (λ q j. first_in_union c.entered (set.union d.entered d.joined) q (h.joined q j))
      (λ q j. second_in_union c.entered (set.union d.entered d.joined) q (second_in_union d.entered d.joined q j));
}

pub record KeepsChurn (ls : Links) (s : Churn) : Type 0 where
  pub changes : KeepsChanges ls s.changes
  pub need : s.need ≤ known_limit

present_fits : (ls : Links) (c : ChangeSets) → IsAmong c ls → table.len ls ≤ known_limit → set.len (present c) ≤ known_limit
present_fits ls c h k = let a = len_within (present c) ls (present_within ls c h) in omega arith

pub members_fit : (ls : Links) (c : ChangeSets) → IsAmong c ls → table.len ls ≤ known_limit → set.len (members c) ≤ known_limit
members_fit ls c h k = let a = len_within (members c) ls (members_within ls c h) in omega arith

module _ (ls : Links) (me : ℕ) (gamma : Fraction) (share : IsShare gamma) (few : table.len ls ≤ known_limit) (own : IsKnown ls me) where
  need_churn : (j : Bool) (s : Churn) → KeepsChurn ls s → KeepsChurn ls (churn.with_need gamma j s)
  need_churn j s h =
      let most = need_within gamma (set.len (present s.changes)) known_limit share (present_fits ls s.changes h.changes.known few) (omega arith) in
      cond_both (j && (s.need == 0)) (record s { need = needed gamma (set.len (present s.changes)) }) s (KeepsChurn ls)
      (λ _. record { changes = h.changes; need = most }) (λ _. h)

  joined_churn : (s : Churn) → KeepsChurn ls s → KeepsChurn ls (churn.joined_if_answered me s)
  joined_churn s h =
      cond_both (churn.is_answered s) (record s { changes = add_join s.changes me }) s (KeepsChurn ls)
      (λ _. record { changes = join_changes ls s.changes me own h.changes; need = h.need }) (λ _. h)

  -- one more echo
  pub echoed_churn : (j : Bool) (s : Churn) → KeepsChurn ls s → KeepsChurn ls (churn.echoed me gamma j s)
  echoed_churn j s h =
      let n = need_churn j s h in
      joined_churn (churn.with_echo (churn.with_need gamma j s)) (record { changes = n.changes; need = n.need })

  pub message_churn : (m : Message) (s : Churn) → AllListed ls (ids_of m) → KeepsChurn ls s → KeepsChurn ls (churn.after_message me gamma m s)
  message_churn (message.Enter q) s k h = record { changes = enter_changes ls s.changes q (head_listed ls q [] k) h.changes; need = h.need }
  message_churn (message.EnterEcho c v j q) s k h =
      let t = churn.united c s in
      let u : KeepsChurn ls t = record { changes = union_changes ls s.changes c (echo_known ls c v j q k).0 h.changes; need = h.need } in
      cond_both (churn.counts_for me q t) (churn.echoed me gamma j t) t (KeepsChurn ls) (λ _. echoed_churn j t u) (λ _. u)
  message_churn (message.Join q) s k h = record { changes = join_changes ls s.changes q (head_listed ls q [] k) h.changes; need = h.need }
  message_churn (message.JoinEcho q) s k h = record { changes = join_changes ls s.changes q (head_listed ls q [] k) h.changes; need = h.need }
  message_churn (message.Leave q) s k h = record { changes = leave_changes ls s.changes q (head_listed ls q [] k) h.changes; need = h.need }
  message_churn (message.LeaveEcho q) s k h = record { changes = leave_changes ls s.changes q (head_listed ls q [] k) h.changes; need = h.need }
  message_churn (message.Snapshot c v) s k h = record { changes = union_changes ls s.changes c (told_known ls c v k).0 h.changes; need = h.need }
  message_churn _ s k h = h

-- who left has left for good
pub left_echoed : (me : ℕ) (gamma : Fraction) (j : Bool) (s : Churn) → IsWithin s.changes.left (churn.echoed me gamma j s).changes.left
left_echoed me gamma j s x here =
    let P : Churn → Type 0 = λ u. IsTrue (set.contains u.changes.left x) in
    let needing = record s { need = needed gamma (set.len (present s.changes)) } in
    let n : P (churn.with_need gamma j s) = cond_both (j && (s.need == 0)) needing s P (λ _. here) (λ _. here) in
    let w = churn.with_echo (churn.with_need gamma j s) in
    cond_both (churn.is_answered w) (record w { changes = add_join w.changes me }) w P (λ _. n) (λ _. n)

pub left_stays : (me : ℕ) (gamma : Fraction) (m : Message) (s : Churn) → IsWithin s.changes.left (churn.after_message me gamma m s).changes.left
left_stays me gamma (message.EnterEcho c v j q) s x h =
    let t = churn.united c s in
    let here = first_in_union s.changes.left c.left x h in
    cond_both (churn.counts_for me q t) (churn.echoed me gamma j t) t (λ u. IsTrue (set.contains u.changes.left x))
    (λ _. left_echoed me gamma j t x here) (λ _. here)
left_stays me gamma (message.Leave q) s x h = within_insert s.changes.left q tt x h
left_stays me gamma (message.LeaveEcho q) s x h = within_insert s.changes.left q tt x h
left_stays me gamma (message.Snapshot c v) s x h = first_in_union s.changes.left c.left x h
left_stays me gamma _ s x h = h

-- ---- views and phases

phase_more : (ls ms : Links) (ss : Requests) (p : Phase) → IsWithin ls ms → IsPhaseOf ls ss p → IsPhaseOf ms ss p
phase_more ls ms ss Idle more h = tt
phase_more ls ms ss (StoringBack p seen) more h = (h.0, h.1, λ q k. more q (h.2 q k))
phase_more ls ms ss _ more h = h

-- ---- asks that wait

pub same_tests : (x y : ℕ) → nat_eq x y ≡ false → nat_eq y x ≡ false
same_tests x y e = let apart : x ≡ y → ⊥ = eqb-false x y e in ne_eqb y x (λ t. apart (sym t))

first_last : (ls : Links) (ss : Requests) (phase : Phase) → IsPhaseOf ls ss phase → AllByRecursion (IsLastOf ss) (ops.asked_in phase)
first_last ls ss Idle h = tt
first_last ls ss _ h = (h.0.session, tt)

-- each ask that isn't answered is its session's last request
pub all_last : (ls : Links) (ss : Requests) (s : Ops) → IsPhaseOf ls ss s.phase → IsLineOf ss s → AllByRecursion (IsLastOf ss) (ops.unanswered s)
all_last ls ss s phase line =
    both_all (IsLastOf ss) (ops.pending s) s.line
    (both_all (IsLastOf ss) (ops.asked_in s.phase) s.others (first_last ls ss s.phase phase) line.round.last) line.last

-- nothing waits where nothing is pending; anything may where something is
pub none_waits : (phase : Phase) (line : List Asked) → ops.is_idle phase ≡ true → WaitsBehind (stage_of phase) line → line ≡ []
none_waits Idle line idle h = h
none_waits _ line idle h = cc

none_beside : (phase : Phase) (others : List Asked) → ops.is_idle phase ≡ true → IsBeside phase others → others ≡ []
none_beside Idle others idle h = h
none_beside _ others idle h = cc

-- where nothing is pending none waits, and none is beside it
pub none_left : {ss : Requests} (s : Ops) → IsLineOf ss s → ops.is_idle s.phase ≡ true → (s.line ≡ []) × (s.others ≡ [])
none_left s h idle = (none_waits s.phase s.line idle h.behind, none_beside s.phase s.others idle h.round.alike)

may_wait : (phase : Phase) (line : List Asked) → ops.is_idle phase ≡ false → WaitsBehind (stage_of phase) line
may_wait Idle line busy = cc
may_wait _ line busy = tt

-- asks wait behind what is pending
abbrev IsBehind : Ops → Type 0
IsBehind s = WaitsBehind (stage_of s.phase) s.line

round_behind : (me quorum : ℕ) (a : Asked) (others : List Asked) (s : Ops) → IsBehind (ops.begin_round me quorum (a ∷ others) s)
round_behind me quorum a others s =
    cond_both (is_writing a.command) (ops.next_round (Storing (ops.round_of quorum a)) (ops.with_own_row me (ops.with_written (a ∷ others) s)))
    (ops.next_round (Querying (ops.round_of quorum a)) s) IsBehind (λ _. tt) (λ _. tt)

last_behind : (me quorum : ℕ) (s : Ops) → 1 ≤ s.share → IsBehind (ops.after_last me quorum s)
last_behind me quorum s some = of_line s.share s.line some
  where
    of_line : (share : ℕ) (line : List Asked) → 1 ≤ share
        → IsBehind (ops.begin_round me quorum (first_round share line) (record s { line = line_behind share line }))
    of_line zero line some = absurd (omega (arith, some))
    of_line (suc n) [] some = refl
    of_line (suc n) (a ∷ line) some =
        round_behind me quorum a (picked (is_writing a.command) n line) (record s { line = spared (is_writing a.command) n line })

ack_behind : (me quorum : ℕ) (phase : Phase) (s : Ops) → 1 ≤ s.share → IsBehind s → IsBehind (ops.after_ack me quorum phase s)
ack_behind me quorum (Storing p) s some h =
    cond_both (ops.is_last p) (ops.after_last me quorum s) (record s { phase = Storing (ops.counted p) }) IsBehind (λ _. last_behind me quorum s some) (λ _. tt)
ack_behind me quorum (StoringBack p seen) s some h =
    cond_both (ops.is_last p) (ops.after_last me quorum s) (record s { phase = StoringBack (ops.counted p) seen }) IsBehind
    (λ _. last_behind me quorum s some) (λ _. tt)
ack_behind me quorum _ s some h = h

reply_behind : (quorum : ℕ) (v : ViewMap) (phase : Phase) (s : Ops) → IsBehind s → IsBehind (ops.after_reply quorum v phase s)
reply_behind quorum v (Querying p) s h =
    cond_both (ops.is_last p) (ops.next_round (StoringBack (ops.round_of quorum p.asked) (merge s.view v)) (ops.merged v s))
    (record (ops.merged v s) { phase = Querying (ops.counted p) }) IsBehind (λ _. tt) (λ _. tt)
reply_behind quorum v _ s h = h

message_behind : (me quorum : ℕ) (m : Message) (s : Ops) → 1 ≤ s.share → IsBehind s → IsBehind (ops.after_message me quorum m s)
message_behind me quorum (message.QueryReply v tag q) s some h =
    cond_both (ops.is_own me tag q s) (ops.after_reply quorum v s.phase s) s IsBehind (λ _. reply_behind quorum v s.phase s h) (λ _. h)
message_behind me quorum (message.StoreAck tag q) s some h =
    cond_both (ops.is_own me tag q s) (ops.after_ack me quorum s.phase s) s IsBehind (λ _. ack_behind me quorum s.phase s some h) (λ _. h)
message_behind me quorum _ s some h = h

-- of the asks that wait the first round begins, or none
parted_few : (s : Ops) (begun line : List Asked) → Parts s begun line → length line ≤ length s.line
parted_few s begun line (inl h) = omega (arith, ap length h.1)
parted_few s begun line (inr h) = omega (arith, ap length h.1, behind_few s.share s.line)

parted_each : (P : Asked → Type 0) (s : Ops) (begun line : List Asked) → Parts s begun line → AllByRecursion P s.line → AllByRecursion P line
parted_each P s begun line (inl h) each = subst (AllByRecursion P) (sym h.1) each
parted_each P s begun line (inr h) each = subst (AllByRecursion P) (sym h.1) (each_behind P s.share s.line each)

apart_behind : (xs ys : List Asked) → AreApart (xs ++ ys) → AreApart ys
apart_behind [] ys h = h
apart_behind (x ∷ xs) ys h = apart_behind xs ys h.1

left_apart : (s t : Ops) (rs : List Reply) → AnswersRound s t rs → AreApart (ops.unanswered s) → AreApart (ops.unanswered t)
left_apart s t rs (inl h) apart = subst AreApart (sym h.1) apart
left_apart s t rs (inr h) apart = subst AreApart (sym h.1) (round_apart s.share s.line (apart_behind (ops.pending s) s.line apart))

message_line_of : (ss : Requests) (me quorum : ℕ) (m : Message) (s : Ops) → IsLineOf ss s
    → (let t = ops.after_message me quorum m s in IsRoundOf ss t.share t.phase t.others → IsLineOf ss t)
message_line_of ss me quorum m s h round =
    let t = ops.after_message me quorum m s in
    let parts = message_parts me quorum m s in
    record {
      behind = message_behind me quorum m s h.round.some h.behind;
      few = omega (arith, parted_few s (ops.begun_by me m s) t.line parts, h.few);
      apart = left_apart s t (ops.replies_of me m s) (message_answers me quorum m s) h.apart;
      last = parted_each (IsLastOf ss) s (ops.begun_by me m s) t.line parts h.last;
      round = round;
    }

-- what a view and a phase keep
pub record KeepsRound (ls : Links) (ss : Requests) (s : Ops) : Type 0 where
  pub view : IsWithin s.view ls
  pub phase : IsPhaseOf ls ss s.phase
  pub round : IsRoundOf ss s.share s.phase s.others

pub record KeepsOps (ls : Links) (ss : Requests) (s : Ops) : Type 0 where
  pub view : IsWithin s.view ls
  pub phase : IsPhaseOf ls ss s.phase
  pub line : IsLineOf ss s

pub ops_more : (ls ms : Links) (ss : Requests) (s : Ops) → IsWithin ls ms → KeepsOps ls ss s → KeepsOps ms ss s
ops_more ls ms ss s more h = record { view = λ q k. more q (h.view q k); phase = phase_more ls ms ss s.phase more h.phase; line = h.line }

counted_more : (ss : Requests) (p : Pending) → ops.is_last p ≡ false → IsPendingIn ss p → IsPendingIn ss (ops.counted p)
counted_more ss p last h = record {
  session = h.session;
  need = h.need;
  count = let apart : p.count + 1 ≡ p.need → ⊥ = eqb-false (p.count + 1) p.need last in omega (arith, h.count, apart);
}

-- a round goes on in another phase of its kind
pub goes_on : {ss : Requests} {share : ℕ} {phase next : Phase} {others : List Asked} → IsRoundOf ss share phase others → IsBeside next others
    → IsRoundOf ss share next others
goes_on h alike = record { some = h.some; most = h.most; few = h.few; alike = alike; last = h.last }

module _ (ls : Links) (ss : Requests) (me quorum : ℕ) (some : 0 < quorum) (few : quorum ≤ known_limit) (own : IsKnown ls me) where
  reply_round : (v : ViewMap) (phase : Phase) (s : Ops) → IsWithin v ls → KeepsRound ls ss s → IsPhaseOf ls ss phase → IsBeside phase s.others
      → KeepsRound ls ss (ops.after_reply quorum v phase s)
  reply_round v (Querying p) s k h i j =
      let all : IsWithin (merge s.view v) ls = merge_within s.view v ls h.view k in
      cond_both (ops.is_last p)
      (ops.next_round (StoringBack (ops.round_of quorum p.asked) (merge s.view v)) (ops.merged v s))
      (record (ops.merged v s) { phase = Querying (ops.counted p) })
      (KeepsRound ls ss)
      (λ _. record { view = all; phase = (record { session = i.0.session; need = few; count = some }, i.1, all); round = goes_on h.round j })
      (λ last. record { view = all; phase = (counted_more ss p last i.0, i.1); round = goes_on h.round j })
  reply_round v _ s k h i j = h

  round_keeps : (a : Asked) (others : List Asked) (s : Ops) → IsWithin s.view ls → AllByRecursion (IsLastOf ss) (a ∷ others)
      → AllByRecursion (λ b. is_writing b.command ≡ is_writing a.command) others → length others < s.share → s.share ≤ share_limit
      → KeepsRound ls ss (ops.begin_round me quorum (a ∷ others) s)
  round_keeps a others s view last alike less most =
      let pending : IsPendingIn ss (ops.round_of quorum a) = record { session = last.0; need = few; count = some } in
      let w = ops.with_own_row me (ops.with_written (a ∷ others) s) in
      let row = single (record { node = me; number = w.number; value = w.mine }) in
      let AreOf : Bool → Type 0 = λ kind. AllByRecursion (λ (b : Asked). is_writing b.command ≡ kind) others in
      cond_both (is_writing a.command) (ops.next_round (Storing (ops.round_of quorum a)) w) (ops.next_round (Querying (ops.round_of quorum a)) s)
      (λ (t : Ops). KeepsRound ls ss (record t { others = others }))
      (λ writes. record {
        view = merge_within s.view row ls view (insert_within table.empty ls me (w.number, w.mine) (empty_within Pair ls) own);
        phase = (pending, writes);
        round = record { some = omega (arith, less); most = most; few = less; alike = subst AreOf writes alike; last = last.1 };
      })
      (λ reads. record {
        view = view;
        phase = (pending, reads);
        round = record { some = omega (arith, less); most = most; few = less; alike = subst AreOf reads alike; last = last.1 };
      })

  last_round : (s : Ops) → KeepsRound ls ss s → AllByRecursion (IsLastOf ss) s.line → KeepsRound ls ss (ops.after_last me quorum s)
  last_round s h last = of_line s.share s.line refl last h.round.some h.round.most
    where
      of_line : (share : ℕ) (line : List Asked) → s.share ≡ share → AllByRecursion (IsLastOf ss) line → 1 ≤ share → share ≤ share_limit
          → KeepsRound ls ss (ops.begin_round me quorum (first_round share line) (record s { line = line_behind share line }))
      of_line zero line is last one most = absurd (omega (arith, one))
      of_line (suc n) [] is last one most = record {
        view = h.view;
        phase = tt;
        round = record { some = omega (arith, is); most = omega (arith, is, most); few = omega (arith, is); alike = refl; last = tt };
      }
      of_line (suc n) (a ∷ line) is last one most =
          let kind = is_writing a.command in
          round_keeps a (picked kind n line) (record s { line = spared kind n line }) h.view (each_first (IsLastOf ss) (suc n) (a ∷ line) last)
          (picked_alike kind n line) (omega (arith, picked_few kind n line, is)) (omega (arith, is, most))

  ack_round : (phase : Phase) (s : Ops) → KeepsRound ls ss s → AllByRecursion (IsLastOf ss) s.line → IsPhaseOf ls ss phase → IsBeside phase s.others
      → KeepsRound ls ss (ops.after_ack me quorum phase s)
  ack_round (Storing p) s h last i j =
      cond_both (ops.is_last p) (ops.after_last me quorum s) (record s { phase = Storing (ops.counted p) }) (KeepsRound ls ss)
      (λ _. last_round s h last) (λ more. record { view = h.view; phase = (counted_more ss p more i.0, i.1); round = goes_on h.round j })
  ack_round (StoringBack p seen) s h last i j =
      cond_both (ops.is_last p) (ops.after_last me quorum s) (record s { phase = StoringBack (ops.counted p) seen }) (KeepsRound ls ss)
      (λ _. last_round s h last) (λ more. record { view = h.view; phase = (counted_more ss p more i.0, i.1, i.2); round = goes_on h.round j })
  ack_round _ s h last i j = h

  message_round : (m : Message) (s : Ops) → AllListed ls (ids_of m) → AllByRecursion (IsLastOf ss) s.line → KeepsRound ls ss s
      → KeepsRound ls ss (ops.after_message me quorum m s)
  message_round (message.EnterEcho c v j q) s k last h =
      record { view = merge_within s.view v ls h.view (echo_known ls c v j q k).1; phase = h.phase; round = h.round }
  message_round (message.QueryReply v tag q) s k last h =
      cond_both (ops.is_own me tag q s) (ops.after_reply quorum v s.phase s) s (KeepsRound ls ss)
      (λ _. reply_round v s.phase s (view_known ls v q k) h h.phase h.round.alike) (λ _. h)
  message_round (message.Store v tag q) s k last h =
      record { view = merge_within s.view v ls h.view (view_known ls v q k); phase = h.phase; round = h.round }
  message_round (message.StoreAck tag q) s k last h =
      cond_both (ops.is_own me tag q s) (ops.after_ack me quorum s.phase s) s (KeepsRound ls ss)
      (λ _. ack_round s.phase s h last h.phase h.round.alike) (λ _. h)
  message_round (message.Snapshot c v) s k last h =
      record { view = merge_within s.view v ls h.view (told_known ls c v k).1; phase = h.phase; round = h.round }
  message_round _ s k last h = h

  pub message_ops : (m : Message) (s : Ops) → AllListed ls (ids_of m) → KeepsOps ls ss s → KeepsOps ls ss (ops.after_message me quorum m s)
  message_ops m s k h =
      let round = message_round m s k h.line.last (record { view = h.view; phase = h.phase; round = h.line.round }) in
      record { view = round.view; phase = round.phase; line = message_line_of ss me quorum m s h.line round.round }

-- ---- an ask

begun_last : (ss : Requests) (a : Asked) → IsLastOf (table.insert ss a.session a.request) a
begun_last ss a = inserted_here ss a.session a.request a.session (same_number a.session)

other_last : (ss : Requests) (s r x : ℕ) (o : Option ℕ) → nat_eq s x ≡ false → table.get ss x ≡ o → table.get (table.insert ss s r) x ≡ o
other_last ss s r x o apart e = inserted_beside ss s r x (same_tests s x apart) ∙ e

others_last : (ss : Requests) (s r : ℕ) (line : List Asked) → has_session s line ≡ false → AllByRecursion (IsLastOf ss) line
    → AllByRecursion (IsLastOf (table.insert ss s r)) line
others_last ss s r [] apart h = tt
others_last ss s r (a ∷ line) apart h =
    let parts = or_parts _ _ apart in (other_last ss s r a.session (Some a.request) parts.0 h.0, others_last ss s r line parts.1 h.1)

other_pending : (ss : Requests) (s r : ℕ) (p : Pending) → nat_eq s p.asked.session ≡ false → IsPendingIn ss p → IsPendingIn (table.insert ss s r) p
other_pending ss s r p apart h = record { session = other_last ss s r p.asked.session (Some p.asked.request) apart h.session; need = h.need; count = h.count }

other_phase : (ls : Links) (ss : Requests) (s r : ℕ) (phase : Phase) → has_session s (ops.asked_in phase) ≡ false → IsPhaseOf ls ss phase
    → IsPhaseOf ls (table.insert ss s r) phase
other_phase ls ss s r Idle apart h = tt
other_phase ls ss s r (Storing p) apart h = (other_pending ss s r p (or_parts _ _ apart).0 h.0, h.1)
other_phase ls ss s r (Querying p) apart h = (other_pending ss s r p (or_parts _ _ apart).0 h.0, h.1)
other_phase ls ss s r (StoringBack p seen) apart h = (other_pending ss s r p (or_parts _ _ apart).0 h.0, h.1, h.2)

-- who has no ask that isn't answered has none in any part of them
record NoneOf (s : ℕ) (o : Ops) : Type 0 where
  first : has_session s (ops.asked_in o.phase) ≡ false
  others : has_session s o.others ≡ false
  line : has_session s o.line ≡ false

none_of : (s : ℕ) (o : Ops) → has_session s (ops.unanswered o) ≡ false → NoneOf s o
none_of s o h =
    let both = or_parts _ _ (sym (has_both s (ops.pending o) o.line) ∙ h) in
    let pending = or_parts _ _ (sym (has_both s (ops.asked_in o.phase) o.others) ∙ both.0) in
    record { first = pending.0; others = pending.1; line = both.1 }

-- where an operation is pending, fewer wait than may, and none of the session
pub record MayWait (s : ℕ) (o : Ops) : Type 0 where
  pub few : length o.line < line_limit
  pub apart : has_session s (ops.unanswered o) ≡ false

busy_parts : (idle full there : Bool) → idle ≡ false → (not idle && (full || there)) ≡ false → (full ≡ false) × (there ≡ false)
busy_parts true full there e h = cc
busy_parts false full there e h = or_parts full there h

pub waits_then : (s : ℕ) (o : Ops) → (not (ops.is_idle o.phase) && (nat_le line_limit (length o.line) || has_session s (ops.unanswered o))) ≡ false
    → ops.is_idle o.phase ≡ false → MayWait s o
waits_then s o h pends =
    let both = busy_parts (ops.is_idle o.phase) (nat_le line_limit (length o.line)) (has_session s (ops.unanswered o)) pends h in
    record { few = leb-false line_limit (length o.line) both.0; apart = both.1 }

begins_ops : (ls : Links) (ss : Requests) (me quorum : ℕ) (a : Asked) (s : Ops) → 0 < quorum → quorum ≤ known_limit → IsKnown ls me → s.line ≡ []
    → KeepsOps ls ss s → KeepsOps ls (table.insert ss a.session a.request) (ops.with_begun me quorum a s)
begins_ops ls ss me quorum a s some few own none h =
    let now = table.insert ss a.session a.request in
    let t = ops.with_begun me quorum a s in
    let round = round_keeps ls now me quorum some few own a [] s h.view (begun_last ss a, tt) tt (omega (arith, h.line.round.some)) h.line.round.most in
    let empty : t.line ≡ [] = round_line me quorum (a ∷ []) s ∙ none in
    let alone : ops.unanswered t ≡ a ∷ [] = round_unanswered me quorum (a ∷ []) s ∙ ap (λ (l : List Asked). a ∷ l) none in
    record {
      view = round.view;
      phase = round.phase;
      line = record {
        behind = round_behind me quorum a [] s;
        few = omega (arith, ap length empty);
        apart = subst AreApart (sym alone) (refl, tt);
        last = subst (AllByRecursion (IsLastOf now)) (sym empty) tt;
        round = round.round;
      };
    }

waits_ops : (ls : Links) (ss : Requests) (a : Asked) (s : Ops) → ops.is_idle s.phase ≡ false → MayWait a.session s
    → KeepsOps ls ss s → KeepsOps ls (table.insert ss a.session a.request) (record s { line = s.line ++ a ∷ [] })
waits_ops ls ss a s pends may h =
    let now = table.insert ss a.session a.request in
    let none = none_of a.session s may.apart in
    record {
      view = h.view;
      phase = other_phase ls ss a.session a.request s.phase none.first h.phase;
      line = record {
        behind = may_wait s.phase (s.line ++ a ∷ []) pends;
        few = omega (arith, length-append s.line (a ∷ []), may.few);
        apart = subst AreApart (append_assoc (ops.pending s) s.line (a ∷ [])) (apart_last (ops.unanswered s) a h.line.apart may.apart);
        last = both_all (IsLastOf now) s.line (a ∷ []) (others_last ss a.session a.request s.line none.line h.line.last) (begun_last ss a, tt);
        round = record {
          some = h.line.round.some;
          most = h.line.round.most;
          few = h.line.round.few;
          alike = h.line.round.alike;
          last = others_last ss a.session a.request s.others none.others h.line.round.last;
        };
      };
    }

pub ask_ops : (ls : Links) (ss : Requests) (me quorum : ℕ) (a : Asked) (s : Ops) → 0 < quorum → quorum ≤ known_limit → IsKnown ls me
    → (not (ops.is_idle s.phase) && (nat_le line_limit (length s.line) || has_session a.session (ops.unanswered s))) ≡ false
    → KeepsOps ls ss s → KeepsOps ls (table.insert ss a.session a.request) (ops.after_ask me quorum a s)
ask_ops ls ss me quorum a s some few own free h =
    cond_both (ops.is_idle s.phase) (ops.with_begun me quorum a s) (record s { line = s.line ++ a ∷ [] }) (KeepsOps ls (table.insert ss a.session a.request))
    (λ idle. begins_ops ls ss me quorum a s some few own (none_waits s.phase s.line idle h.line.behind) h)
    (λ pends. waits_ops ls ss a s pends (waits_then a.session s free pends) h)
