-- What a node may put out again stood at the start, or was made since.
--     step_send, step_ack, step_reply, standing_made
--     posts_keep, last_forget     an answer is no post, and to forget one makes none
--     get-above                   the posts above a number
use Rattle.std.proofs.Common.{◌≡◌, ℕ, ◌+◌, ◌-◌, ◌<◌, ◌≤◌, ◌⊎◌, Bool, true, false, cond, not, nat_eq, nat_lt, List, [], ◌∷◌, ◌++◌, refl, sym, ap}
use Rattle.std.proofs.Common.{subst, ◌∙◌, inl, inr, arith}
use Rattle.std.specs.Prelude.{Option, Some, None, is_some}
use Rattle.std.specs.Option.{option_len}
use Rattle.std.specs.List.{Contains, AllByRecursion}
use Rattle.std.specs.Ordering.{nat_cmp}
use Rattle.std.specs.Cmp.{nat_cmp_total, unsigned_tied}
use Rattle.std.specs.FinMap as table
use Rattle.std.specs.FinMap.{FinMap, find, nat_cmp-IsAntisymmetric}
use Rattle.std.proofs.lemmas.Bool.{cond-true, cond-false}
use Rattle.std.proofs.lemmas.Bool.Decides.{eqb_tells}
use Rattle.std.proofs.lemmas.Option.{same_Some}
use Rattle.std.proofs.lemmas.List.Elements.{recursion_from_All, All-contains_itself, Contains-append_left, Contains-append_right}
use Rattle.cc_views.specs.NatSets as set
use Rattle.cc_views.specs.MapLaws.{each_entry}
use Rattle.cc_messages.specs.declared.answer.Answer.{Answer}
use Rattle.cc_messages.specs.declared.event.Event.{Event}
use Rattle.cc_messages.specs.declared.event.Event.TheVariants as event
use Rattle.cc_messages.specs.declared.message.Message.{Message}
use Rattle.cc_messages.specs.declared.output.Output.{Output}
use Rattle.cc_messages.specs.declared.output.Output.TheVariants as output
use Rattle.cc_ops.specs.Ops as ops
use Rattle.cc_ops.specs.Ops.{Ops}
use Rattle.cc_ops.specs.OwnLaws.{AnswersRound, AreAnswered, message_answers}
use Rattle.cc_ops.specs.declared.pending_operation.Asked.{Asked}
use Rattle.cc_ops.specs.declared.pending_operation.Reply.{Reply}
use Rattle.cc_links.specs.Links.{Link, Links, with_row, add_all, hear, heard_from}
use Rattle.cc_links.specs.LinkLaws.{LinkGoesOn, get-live}
use Rattle.cc_sessions.specs.Sessions.{Requests}
use Rattle.cc_outbox.specs.Outbox as kept
use Rattle.cc_outbox.specs.Outbox.{Outbox, forget}
use Rattle.cc_node.specs.Core as core
use Rattle.cc_node.specs.Core.{Core, quorum, ids_of, next, post, replies, outputs, sends, send_post, send_ack, send_replies, lowest, live_links}
use Rattle.cc_node.specs.Refusals.{decides}
use Rattle.cc_node.specs.Node.{Node, step, after, line, keep, add, forget_asked, HasOutput, MayBeOut, IsLawful}
use Rattle.cc_node.specs.Lawful.{IsLastOf, IsLawfulCore, IsLawfulNode}
use Rattle.cc_node.proofs.KnownLaws.{all_last}
use Rattle.cc_node.proofs.KeptLaws.{posts_forget, answers_add}
use Rattle.cc_node.proofs.Lists.{all_unmapped, if_at, inserted_here, inserted_beside}
use Rattle.cc_node.proofs.LawfulLaws.{heard_at, same_heard, links_go_on, left_grows, add_all_heard, hears_on, step_lawful}

contains_head : {X : Type 0} (x : X) (xs : List X) → Contains (x ∷ xs) x
contains_head x xs = (0, omega arith, refl)

-- ---- posts

sends_contain : (n : ℕ) (m : Message) (rows : List (ℕ × Link)) (q : ℕ) (l : Link) → find nat_cmp q rows ≡ Some l
    → Contains (sends n m rows) (output.Send q (n - l.start) m)
sends_contain n m rows q l e =
    let Q : ℕ → Link → Type 0 = λ p k. Contains (sends n m rows) (output.Send p (n - k.start) m) in
    let each = all_unmapped (Contains (sends n m rows)) _ rows (recursion_from_All _ (sends n m rows) (All-contains_itself (sends n m rows))) in
    if_at (Q q) (find nat_cmp q rows) l e (each_entry Q rows each q)

only_some : {X : Type 0} (b : Bool) (o : Option X) (x : X) → cond b o None ≡ Some x → o ≡ Some x
only_some true o x e = e
only_some false o x e = cc

pub posts_keep : (rs : List Reply) (o : Outbox) → (keep rs o).posts ≡ o.posts
posts_keep [] o = refl
posts_keep (r ∷ rs) o = posts_keep rs (kept.keep r.session r.answer o)

pub last_forget : (e : Event) (o : Outbox) → (forget_asked e o).last ≡ o.last
last_forget event.Enter o = refl
last_forget _ o = refl

kept_or_new : (p : Option Message) (o : Outbox) (number : ℕ) (m : Message) → table.get (add p o).posts number ≡ Some m
    → (table.get o.posts number ≡ Some m) ⊎ ((number ≡ o.last + 1) × (p ≡ Some m))
kept_or_new None o number m e = inl e
kept_or_new (Some x) o number m e =
    elim (eqb_tells number (o.last + 1)) as (λ _. (table.get o.posts number ≡ Some m) ⊎ ((number ≡ o.last + 1) × (Some x ≡ Some m))) [
      | inl t ↦ inr (t.1, sym (inserted_here o.posts (o.last + 1) x number t.0) ∙ e)
      | inr t ↦ inl (sym (inserted_beside o.posts (o.last + 1) x number t.0) ∙ e)
    ]

-- what is kept above a number
pub get-above : (low : ℕ) (posts : FinMap nat_cmp Message) (q : ℕ)
    → table.get (table.retain_keys posts (λ k. nat_lt low k)) q ≡ cond (nat_lt low q) (table.get posts q) None
get-above low posts q =
    table.get-retain_keys posts (λ k. nat_lt low k) q (λ x tied. ap (nat_lt low) (sym (nat_cmp-IsAntisymmetric q x tied)))

-- a live link that starts below an old post was live already, and no more was acknowledged on it
record WasLive (b : Bool) (o : Option Link) (m : Link) : Type 0 where
  link : Link
  live : cond (not b) o None ≡ Some link
  start : link.start ≡ m.start
  acked : link.acked ≤ m.acked

went_on : (posts number : ℕ) (o o' : Option Link) (m : Link) → LinkGoesOn posts o o' → number ≤ posts → o' ≡ Some m → m.start < number
    → WasLive false o m
went_on posts number o None m goes old e above = cc
went_on posts number None (Some k) m goes old e above =
    let same : k.start ≡ m.start = ap (λ (l : Link). l.start) (same_Some k m e) in absurd (omega (arith, goes))
went_on posts number (Some l) (Some k) m goes old e above =
    let same : k.start ≡ m.start = ap (λ (l : Link). l.start) (same_Some k m e) in
    let acks : k.acked ≡ m.acked = ap (λ (l : Link). l.acked) (same_Some k m e) in
    record { link = l; live = refl; start = omega (arith, goes.0); acked = omega (arith, goes.1) }

was_live : (posts number : ℕ) (b b' : Bool) (o o' : Option Link) (m : Link) → (b ≡ true → b' ≡ true) → LinkGoesOn posts o o' → number ≤ posts
    → cond (not b') o' None ≡ Some m → m.start < number → WasLive b o m
was_live posts number b true o o' m grows goes old e above = cc
was_live posts number true false o o' m grows goes old e above = let no : false ≡ true = grows refl in cc
was_live posts number false false o o' m grows goes old e above = went_on posts number o o' m goes old e above

step_send : (n : Node) (e : Event) (to wire : ℕ) (m : Message) → decides n.core e ≡ None → IsLawfulNode n → HasOutput (step n e) (output.Send to wire m)
    → HasOutput n (output.Send to wire m) ⊎ Contains (outputs n.core e) (output.Send to wire m)
unfolding step next
step_send n e to wire m d h s =
    let c = n.core in
    let number = s.0 in
    let l = s.1 in
    let live : cond (not (set.contains (next c e).churn.changes.left to)) (table.get (next c e).links to) None ≡ Some l =
    sym (get-live (next c e).churn.changes.left (next c e).links to) ∙ s.3 in
    let added = add (post c e) (forget_asked e n.outbox) in
    let all = (keep (replies c e) added).posts in
    let kept : table.get added.posts number ≡ Some m =
    ap (λ p. table.get p number) (sym (posts_keep (replies c e) added))
    ∙ only_some (nat_lt (lowest (next c e)) number) (table.get all number) m (sym (get-above (lowest (next c e)) all number) ∙ s.2) in
    elim (kept_or_new (post c e) (forget_asked e n.outbox) number m kept)
    as (λ _. HasOutput n (output.Send to wire m) ⊎ Contains (outputs n.core e) (output.Send to wire m)) [
      | inl old ↦
          let was : table.get n.outbox.posts number ≡ Some m = ap (λ p. table.get p number) (sym (posts_forget e n.outbox)) ∙ old in
          let early : number ≤ c.posts = (h.posts.within number (ap is_some was)).1 in
          let w = was_live c.posts number (set.contains c.churn.changes.left to) (set.contains (next c e).churn.changes.left to)
          (table.get c.links to) (table.get (next c e).links to) l (left_grows c e to) (links_go_on c e d to) early live s.4.above in
          inl (
            number,
            w.link,
            was,
            get-live c.churn.changes.left c.links to ∙ w.live,
            record {
              above = omega (arith, w.start, s.4.above);
              unacked = omega (arith, w.acked, s.4.unacked);
              is_number = s.4.is_number ∙ ap (λ k. number - k) (sym w.start);
            },
          )
      | inr new ↦
          let to_all = sends (next c e).posts m (table.entries (live_links (next c e))) in
          let sent = sends_contain (next c e).posts m (table.entries (live_links (next c e))) to l (sym (table.get-entries (live_links (next c e)) to) ∙ s.3) in
          let made : number ≡ c.posts + 1 = new.0 ∙ ap (λ k. k + 1) (last_forget e n.outbox ∙ h.last) in
          let count : (next c e).posts ≡ number = ap (λ p. c.posts + option_len p) new.1 ∙ sym made in
          let is = ap (λ k. output.Send to k m) (ap (λ k. k - l.start) count ∙ sym s.4.is_number) in
          let here : Contains (send_post (next c e) (post c e)) (output.Send to wire m) =
          subst (λ p. Contains (send_post (next c e) p) (output.Send to wire m)) (sym new.1) (subst (Contains to_all) is sent) in
          inr (Contains-append_left (send_ack (core.ack e) ++ send_post (next c e) (post c e)) (send_replies (replies c e)) _
          (Contains-append_right (send_ack (core.ack e)) (send_post (next c e) (post c e)) _ here))
    ]

-- ---- acknowledgements

of_heard : (o : Option Link) (heard : ℕ) → heard_at o ≡ heard → 0 < heard → (l : Link) × (o ≡ Some l) × (l.heard ≡ heard) × (0 < heard)
of_heard None heard e h = absurd (omega (arith, e))
of_heard (Some l) heard e h = (l, refl, e, h)

row_heard : (q peer : ℕ) (change : Link → Link) (o : Option Link) (ls : Links) → nat_eq q peer ≡ false
    → heard_from q (with_row peer change o ls) ≡ heard_from q ls
row_heard q peer change None ls apart = refl
row_heard q peer change (Some l) ls apart = ap heard_at (inserted_beside ls peer (change l) q apart)

acked_heard : (q peer : ℕ) (count : Link → ℕ) (o : Option Link) (ls : Links) → table.get ls peer ≡ o
    → heard_from q (with_row peer (λ l. record l { acked = count l }) o ls) ≡ heard_from q ls
acked_heard q peer count None ls e = refl
acked_heard q peer count (Some l) ls e = same_heard ls peer q (record l { acked = count l }) (ap heard_at e)

-- what is acknowledged still was acknowledged before
acked_before : (n d : Node) (to heard : ℕ) → heard_from to d.core.links ≡ heard_from to n.core.links → HasOutput d (output.Ack to heard)
    → HasOutput n (output.Ack to heard)
acked_before n d to heard same s = of_heard (table.get n.core.links to) heard (sym same ∙ ap heard_at s.1 ∙ s.2) s.3

-- what a node hears on one link it acknowledges there, and of the others it acknowledged before what it does still
heard_ack : (n d : Node) (e : Event) (from k : ℕ) (ids : List ℕ) (later : List Output) (to heard : ℕ)
    → d.core.links ≡ hear from k (add_all n.core.posts (from ∷ ids) n.core.links) → outputs n.core e ≡ output.Ack from k ∷ later
    → HasOutput d (output.Ack to heard) → HasOutput n (output.Ack to heard) ⊎ Contains (outputs n.core e) (output.Ack to heard)
heard_ack n d e from k ids later to heard linked puts s =
    let ls = add_all n.core.posts (from ∷ ids) n.core.links in
    let last = ap heard_at s.1 ∙ s.2 in
    elim (eqb_tells to from) as (λ _. HasOutput n (output.Ack to heard) ⊎ Contains (outputs n.core e) (output.Ack to heard)) [
      | inl t ↦
          let number : k ≡ heard = sym (hears_on n.core.posts from k ids n.core.links) ∙ ap (heard_from from) (sym linked)
          ∙ ap (λ q. heard_from q d.core.links) (sym t.1) ∙ last in
          let is : output.Ack from k ≡ output.Ack to heard = λ i. output.Ack (sym t.1 i) (number i) in
          inr (subst (λ (os : List Output). Contains os (output.Ack to heard)) (sym puts)
          (subst (Contains (output.Ack from k ∷ later)) is (contains_head (output.Ack from k) later)))
      | inr t ↦
          let same = ap (heard_from to) linked ∙ row_heard to from (λ l. record l { heard = k }) (table.get ls from) ls t.0
          ∙ add_all_heard n.core.posts (from ∷ ids) n.core.links to in
          inl (acked_before n d to heard same s)
    ]

step_ack : (n : Node) (e : Event) (to heard : ℕ) → HasOutput (step n e) (output.Ack to heard)
    → HasOutput n (output.Ack to heard) ⊎ Contains (outputs n.core e) (output.Ack to heard)
unfolding step next
step_ack n (event.Deliver from k m) to heard s =
    heard_ack n (step n (event.Deliver from k m)) (event.Deliver from k m) from k (ids_of m) _ to heard refl refl s
step_ack n (event.Skip from posts) to heard s =
    heard_ack n (step n (event.Skip from posts)) (event.Skip from posts) from posts.last [] _ to heard refl refl s
step_ack n (event.Acked peer k) to heard s =
    inl (acked_before n (step n (event.Acked peer k)) to heard (acked_heard to peer (λ _. k) (table.get n.core.links peer) n.core.links refl) s)
step_ack n (event.Retire q) to heard s =
    inl (acked_before n (step n (event.Retire q)) to heard (add_all_heard n.core.posts (q ∷ []) n.core.links to) s)
step_ack n (event.Lapse q) to heard s =
    let same = acked_heard to q (λ l. n.core.posts - l.start) (table.get n.core.links q) n.core.links refl in
    inl (acked_before n (step n (event.Lapse q)) to heard same s)
step_ack n _ to heard s = inl s

-- ---- answers

abbrev IsLast : Requests → Reply → Type 0
IsLast ss r = table.get ss r.session ≡ Some r.request

told_last : (ss : Requests) (asks line : List Asked) (rs : List Reply) → AreAnswered asks rs → AllByRecursion (IsLastOf ss) (asks ++ line)
    → AllByRecursion (IsLast ss) rs
told_last ss asks line [] e h = tt
told_last ss [] line (r ∷ rs) e h = absurd e
told_last ss (a ∷ asks) line (r ∷ rs) e h =
    let last : table.get ss a.session ≡ Some a.request = h.0 in
    (ap (table.get ss) (sym e.0) ∙ last ∙ ap (λ (q : ℕ). Some q) e.1, told_last ss asks line rs e.2 h.1)

round_last : (ss : Requests) (s t : Ops) (rs : List Reply) → AnswersRound s t rs → AllByRecursion (IsLastOf ss) (ops.unanswered s)
    → AllByRecursion (IsLast ss) rs
round_last ss s t rs (inl h) last = subst (AllByRecursion (IsLast ss)) (sym h.0) tt
round_last ss s t rs (inr h) last = told_last ss (ops.pending s) s.line rs h.0 last

replies_last : (c : Core) (m : Message) → IsLawfulCore c → AllByRecursion (IsLast c.sessions) (ops.replies_of c.me m c.ops)
replies_last c m h =
    round_last c.sessions c.ops (ops.after_message c.me (quorum c) m c.ops) (ops.replies_of c.me m c.ops) (message_answers c.me (quorum c) m c.ops)
    (all_last c.links c.sessions c.ops h.phase h.line)

-- an answer that is kept was kept before, or is told now
abbrev KeptOrTold : Outbox → List Reply → ℕ → ℕ → Answer → Type 0
KeptOrTold o rs x q a = (table.get o.answers x ≡ Some a) ⊎ Contains (send_replies rs) (output.Reply x q a)

kept_or_told : (ss : Requests) (rs : List Reply) (o : Outbox) (x q : ℕ) (a : Answer) → AllByRecursion (IsLast ss) rs
    → table.get (keep rs o).answers x ≡ Some a → table.get ss x ≡ Some q → KeptOrTold o rs x q a
kept_or_told ss [] o x q a h e f = inl e
kept_or_told ss (r ∷ rs) o x q a h e f =
    elim (kept_or_told ss rs (kept.keep r.session r.answer o) x q a h.1 e f) as (λ _. KeptOrTold o (r ∷ rs) x q a) [
      | inl here ↦ elim (eqb_tells x r.session) as (λ _. KeptOrTold o (r ∷ rs) x q a) [
        | inl t ↦
            let answer : r.answer ≡ a = same_Some r.answer a (sym (inserted_here o.answers r.session r.answer x t.0) ∙ here) in
            let request : r.request ≡ q = same_Some r.request q (sym h.0 ∙ ap (table.get ss) (sym t.1) ∙ f) in
            let is : output.Reply r.session r.request r.answer ≡ output.Reply x q a = λ i. output.Reply (sym t.1 i) (request i) (answer i) in
            inr (subst (Contains (send_replies (r ∷ rs))) is (contains_head (output.Reply r.session r.request r.answer) (send_replies rs)))
        | inr t ↦ inl (sym (inserted_beside o.answers r.session r.answer x t.0) ∙ here)
      ]
      | inr there ↦ inr (Contains-append_right (output.Reply r.session r.request r.answer ∷ []) (send_replies rs) _ there)
    ]

get-remove_key : {X : Type 0} (m : FinMap nat_cmp X) (k q : ℕ) → table.get (table.remove m k) q ≡ cond (nat_eq q k) None (table.get m q)
get-remove_key m k q = table.get-remove nat_cmp_total m k q ∙ ap (λ b. cond b None (table.get m q)) (unsigned_tied q k)

step_reply : (n : Node) (e : Event) (x q : ℕ) (a : Answer) → IsLawfulNode n → HasOutput (step n e) (output.Reply x q a)
    → HasOutput n (output.Reply x q a) ⊎ Contains (outputs n.core e) (output.Reply x q a)
unfolding step next
step_reply n (event.Deliver from k m) x q a h s =
    let c = n.core in
    let e = event.Deliver from k m in
    elim (kept_or_told c.sessions (replies c e) n.outbox x q a (replies_last c m h.core)
    (ap (λ o. table.get o x) (sym (answers_add (post c e) (replies c e) n.outbox)) ∙ s.0) s.1)
    as (λ _. HasOutput n (output.Reply x q a) ⊎ Contains (outputs n.core e) (output.Reply x q a)) [
      | inl old ↦ inl (old, s.1)
      | inr new ↦ inr (Contains-append_right (send_ack (core.ack e) ++ send_post (next c e) (post c e)) (send_replies (replies c e)) _ new)
    ]
step_reply n (event.Ask y r k) x q a h s =
    let c = n.core in
    let e = event.Ask y r k in
    let kept : table.get (table.remove n.outbox.answers y) x ≡ Some a = ap (λ m. table.get m x) (sym (answers_add (post c e) [] (forget y n.outbox))) ∙ s.0 in
    elim (eqb_tells x y) as (λ _. HasOutput n (output.Reply x q a) ⊎ Contains (outputs n.core (event.Ask y r k)) (output.Reply x q a)) [
      | inl t ↦
          let gone : None ≡ Some a = sym (cond-true _ None (table.get n.outbox.answers x) t.0) ∙ sym (get-remove_key n.outbox.answers y x) ∙ kept in cc
      | inr t ↦ inl (
        sym (cond-false _ None (table.get n.outbox.answers x) t.0) ∙ sym (get-remove_key n.outbox.answers y x) ∙ kept,
        sym (inserted_beside c.sessions y r x t.0) ∙ s.1,
      )
    ]
step_reply n _ x q a h s = inl s

-- ---- along a list

step_stands : (n : Node) (e : Event) (o : Output) → decides n.core e ≡ None → IsLawfulNode n → HasOutput (step n e) o
    → HasOutput n o ⊎ Contains (outputs n.core e) o
step_stands n e (output.Send to wire m) d h s = step_send n e to wire m d h s
step_stands n e (output.Ack to heard) d h s = step_ack n e to heard s
step_stands n e (output.Reply x q a) d h s = step_reply n e x q a h s

pub standing_made : (n : Node) (es : List Event) (o : Output) → IsLawfulNode n → IsLawful n es → HasOutput (after n es) o → MayBeOut n es o
standing_made n [] o h d s = inl s
standing_made n (e ∷ es) o h d s =
    elim (standing_made (step n e) es o (step_lawful n e d.0 h) d.1 s) as (λ _. MayBeOut n (e ∷ es) o) [
      | inl stands ↦ elim (step_stands n e o d.0 h stands) as (λ _. MayBeOut n (e ∷ es) o) [
        | inl old ↦ inl old
        | inr made ↦ inr (Contains-append_left (outputs n.core e) (line (step n e) es) o made)
      ]
      | inr later ↦ inr (Contains-append_right (outputs n.core e) (line (step n e) es) o later)
    ]
