-- What a node keeps after an event: the posts above lowest, and answers of sessions of which each ask is answered.
--     step_posts                     the posts after a step, and how many were made
--     round_answers, last_answers    the answers after a round is answered, and after one more ask
use Rattle.std.proofs.Common.{◌≡◌, ℕ, ◌+◌, ◌-◌, ◌≤◌, false, ◌&&◌, nat_eq, List, [], ◌∷◌, ◌++◌, refl, sym, ap, subst, ◌∙◌, inl, inr, arith, add-zero}
use Rattle.std.specs.Prelude.{Option, Some, None, IsTrue, is_some, ◌==◌}
use Rattle.std.specs.List.{AllByRecursion}
use Rattle.std.specs.Option.{option_len}
use Rattle.std.specs.Ordering.{nat_cmp}
use Rattle.std.specs.Cmp.{nat_cmp_total}
use Rattle.std.specs.FinMap as table
use Rattle.std.specs.FinMap.{FinMap}
use Rattle.std.proofs.lemmas.Bool.{cond_both, and_parts, eqb-true, or_cases, or_parts, not-true}
use Rattle.cc_views.specs.NatSets.{contains-remove, contains-insert_key}
use Rattle.cc_views.specs.MapLaws.{within_insert}
use Rattle.cc_messages.specs.declared.answer.Answer.{Answer}
use Rattle.cc_messages.specs.declared.event.Event.{Event}
use Rattle.cc_messages.specs.declared.event.Event.TheVariants as event
use Rattle.cc_messages.specs.declared.message.Message.{Message}
use Rattle.cc_ops.specs.Ops.{Ops, pending, unanswered}
use Rattle.cc_ops.specs.OwnLaws.{AnswersRound, AreAnswered}
use Rattle.cc_ops.specs.RoundLaws.{round_has}
use Rattle.cc_ops.specs.WaitingAsks.{has_session, AreApart}
use Rattle.cc_ops.specs.WaitingAskLaws.{none_last}
use Rattle.cc_ops.specs.declared.pending_operation.Asked.{Asked}
use Rattle.cc_ops.specs.declared.pending_operation.Reply.{Reply}
use Rattle.cc_sessions.specs.Sessions.{Requests}
use Rattle.cc_outbox.specs.Outbox as kept
use Rattle.cc_outbox.specs.Outbox.{Outbox, post_limit, trim}
use Rattle.cc_outbox.specs.OutboxLaws.{KeepsPosts, keeps_add, keeps_trim, room_for_post}
use Rattle.cc_node.specs.Node.{add, keep, forget_asked}
use Rattle.cc_node.specs.Lawful.{IsLastOf, KeepsAnswers}
use Rattle.cc_node.proofs.Lists.{front_all}

-- ---- posts

-- what an outbox keeps, its last post being this one
pub record KeepsTo (low posts : ℕ) (o : Outbox) : Type 0 where
  pub last : o.last ≡ posts
  pub kept : KeepsPosts low posts o.posts

added : (low posts : ℕ) (p : Option Message) (o : Outbox) → KeepsTo low posts o → low ≤ posts → (is_some p && ((posts - low) == post_limit)) ≡ false
    → KeepsTo low (posts + option_len p) (add p o)
added low posts None o h start full = subst (λ n. KeepsTo low n o) (sym (add-zero posts)) h
added low posts (Some m) o h start full = record {
  last = ap (λ n. n + 1) h.last;
  kept = subst (λ n. KeepsPosts low (n + 1) (add (Some m) o).posts) h.last
      (keeps_add low m o (subst (λ n. KeepsPosts low n o.posts) (sym h.last) h.kept) (omega (arith, h.last)) (room_for_post low posts o.posts h.kept full));
}

trimmed : (low high posts : ℕ) (o : Outbox) → KeepsTo low posts o → low ≤ high → KeepsTo high posts (trim high o)
trimmed low high posts o h up = record {
  last = h.last;
  kept = subst (λ n. KeepsPosts high n (trim high o).posts) h.last (keeps_trim low high o (subst (λ n. KeepsPosts low n o.posts) (sym h.last) h.kept) up);
}

-- the answer of a session is no post
pub posts_forget : (e : Event) (o : Outbox) → (forget_asked e o).posts ≡ o.posts
posts_forget event.Enter o = refl
posts_forget _ o = refl

forgotten : (low posts : ℕ) (e : Event) (o : Outbox) → KeepsTo low posts o → KeepsTo low posts (forget_asked e o)
forgotten low posts (event.Ask s r command) o h = record { last = h.last; kept = h.kept }
forgotten low posts _ o h = h

answered : (low posts : ℕ) (rs : List Reply) (o : Outbox) → KeepsTo low posts o → KeepsTo low posts (keep rs o)
answered low posts [] o h = h
answered low posts (r ∷ rs) o h = answered low posts rs (kept.keep r.session r.answer o) (record { last = h.last; kept = h.kept })

pub step_posts : (low high posts : ℕ) (e : Event) (p : Option Message) (rs : List Reply) (o : Outbox) → KeepsTo low posts o → low ≤ high → low ≤ posts
    → (is_some p && ((posts - low) == post_limit)) ≡ false
    → KeepsTo high (posts + option_len p) (trim high (keep rs (add p (forget_asked e o))))
step_posts low high posts e p rs o h up start full =
    let there = added low posts p (forget_asked e o) (forgotten low posts e o h) start full in
    trimmed low high (posts + option_len p) (keep rs (add p (forget_asked e o))) (answered low (posts + option_len p) rs (add p (forget_asked e o)) there) up

-- ---- answers

len_grows : (m : FinMap nat_cmp Answer) (k : ℕ) (v : Answer) → table.len m ≤ table.len (table.insert m k v)
len_grows m k v =
    let n = table.len m in
    subst (λ l. n ≤ l) (sym (table.len-insert nat_cmp_total m k v))
    (cond_both (table.contains_key m k) n (n + 1) (λ l. n ≤ l) (λ _. omega arith) (λ _. omega arith))

-- keeping answers drops none
pub keep_grows : (rs : List Reply) (o : Outbox) → table.len o.answers ≤ table.len (keep rs o).answers
keep_grows [] o = omega arith
keep_grows (r ∷ rs) o = omega (arith, len_grows o.answers r.session r.answer, keep_grows rs (kept.keep r.session r.answer o))

-- a post changes no answer
same_answers : (rs : List Reply) (o u : Outbox) → o.answers ≡ u.answers → (keep rs o).answers ≡ (keep rs u).answers
same_answers [] o u e = e
same_answers (r ∷ rs) o u e =
    same_answers rs (kept.keep r.session r.answer o) (kept.keep r.session r.answer u)
    (ap (λ (t : FinMap nat_cmp Answer). table.insert t r.session r.answer) e)

pub answers_add : (p : Option Message) (rs : List Reply) (o : Outbox) → (keep rs (add p o)).answers ≡ (keep rs o).answers
answers_add None rs o = refl
answers_add (Some m) rs o = same_answers rs (kept.add m o) o refl

pub posted : (ss : Requests) (asks : List Asked) (p : Option Message) (rs : List Reply) (o : Outbox)
    → KeepsAnswers ss asks (keep rs o).answers → KeepsAnswers ss asks (keep rs (add p o)).answers
posted ss asks p rs o h = subst (KeepsAnswers ss asks) (sym (answers_add p rs o)) h

-- the first of the asks that aren't answered is, and its session has no other
first_kept : (ss : Requests) (a : Asked) (asks : List Asked) (answer : Answer) (kept : FinMap nat_cmp Answer) → IsLastOf ss a
    → has_session a.session asks ≡ false → KeepsAnswers ss (a ∷ asks) kept → KeepsAnswers ss asks (table.insert kept a.session answer)
first_kept ss a asks answer kept last alone h x j =
    elim (or_cases (nat_eq x a.session) (table.contains_key kept x) (sym (contains-insert_key kept a.session answer x) ∙ j))
    as (λ _. IsTrue (table.contains_key ss x) × (has_session x asks ≡ false)) [
      | inl e ↦
          let same : a.session ≡ x = sym (eqb-true x a.session e) in
          (subst (λ k. IsTrue (table.contains_key ss k)) same (ap is_some last), subst (λ k. has_session k asks ≡ false) same alone)
      | inr e ↦ ((h x e).0, (or_parts _ _ (h x e).1).1)
    ]

-- so it is with each reply that answers one of those in front
all_kept : (ss : Requests) (asks line : List Asked) (rs : List Reply) (o : Outbox) → AreAnswered asks rs → AreApart (asks ++ line)
    → AllByRecursion (IsLastOf ss) asks → KeepsAnswers ss (asks ++ line) o.answers → KeepsAnswers ss line (keep rs o).answers
all_kept ss [] line [] o e apart last h = h
all_kept ss [] line (r ∷ rs) o e apart last h = absurd e
all_kept ss (a ∷ asks) line [] o e apart last h = absurd e
all_kept ss (a ∷ asks) line (r ∷ rs) o e apart last h =
    let kept_now : KeepsAnswers ss (asks ++ line) (table.insert o.answers r.session r.answer) =
    subst (λ (s : ℕ). KeepsAnswers ss (asks ++ line) (table.insert o.answers s r.answer)) e.0
    (first_kept ss a (asks ++ line) r.answer o.answers last.0 apart.0 h) in
    all_kept ss asks line rs (kept.keep r.session r.answer o) e.2 apart.1 last.1 kept_now

pub round_answers : (ss : Requests) (s t : Ops) (rs : List Reply) (o : Outbox) → AnswersRound s t rs → AreApart (unanswered s)
    → AllByRecursion (IsLastOf ss) (unanswered s) → KeepsAnswers ss (unanswered s) o.answers → KeepsAnswers ss (unanswered t) (keep rs o).answers
round_answers ss s t rs o (inl h) apart last k =
    subst (λ (l : List Reply). KeepsAnswers ss (unanswered t) (keep l o).answers) (sym h.0)
    (subst (λ (l : List Asked). KeepsAnswers ss l o.answers) (sym h.1) k)
round_answers ss s t rs o (inr h) apart last k =
    let left = all_kept ss (pending s) s.line rs o h.0 apart (front_all (IsLastOf ss) (pending s) s.line last) k in
    subst (λ (l : List Asked). KeepsAnswers ss l (keep rs o).answers) (sym h.1) (λ x j. ((left x j).0, round_has x s.share s.line ∙ (left x j).1))

-- one more ask isn't answered yet, and its session's answer is forgotten
pub last_answers : (ss : Requests) (asks : List Asked) (a : Asked) (kept : FinMap nat_cmp Answer) → KeepsAnswers ss asks kept
    → KeepsAnswers (table.insert ss a.session a.request) (asks ++ a ∷ []) (table.remove kept a.session)
last_answers ss asks a kept h x j =
    let both = and_parts _ _ (sym (contains-remove kept a.session x) ∙ j) in
    (within_insert ss a.session a.request x (h x both.0).0, none_last x asks a (h x both.0).1 (not-true _ both.1))
