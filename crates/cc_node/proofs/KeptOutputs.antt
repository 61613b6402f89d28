-- What a node keeps of the post and the answer of an event that it took in.
--     post_kept       the post is kept, where a live link is there to be sent it
--     answers_kept    each answer is kept
use Rattle.std.proofs.Common.{◌≡◌, ℕ, ◌+◌, ◌≤◌, Bool, true, false, cond, not, nat_eq, List, [], ◌∷◌, ◌++◌, refl, sym, ap, subst, ◌∙◌, inl, inr, arith}
use Rattle.std.specs.Prelude.{Option, Some, None, IfSome}
use Rattle.std.specs.Option.{option_len}
use Rattle.std.specs.List.{AllByRecursion}
use Rattle.std.specs.FinMap as table
use Rattle.std.proofs.lemmas.Bool.{eq-eqb, lt-ltb, or_parts}
use Rattle.cc_views.specs.NatSets as set
use Rattle.cc_views.specs.MapLaws.{all_insert, all_entries}
use Rattle.cc_messages.specs.declared.event.Event.{Event}
use Rattle.cc_messages.specs.declared.event.Event.TheVariants as event
use Rattle.cc_messages.specs.declared.message.Message.{Message}
use Rattle.cc_ops.specs.declared.pending_operation.Asked.{Asked}
use Rattle.cc_ops.specs.declared.pending_operation.Reply.{Reply}
use Rattle.cc_ops.specs.Ops as ops
use Rattle.cc_ops.specs.Ops.{Ops}
use Rattle.cc_ops.specs.OwnLaws.{AnswersRound, AreAnswered, message_answers}
use Rattle.cc_ops.specs.RoundLaws.{has_both}
use Rattle.cc_ops.specs.WaitingAsks.{has_session, AreApart}
use Rattle.cc_links.specs.Links.{Link, Links, with_row, add_all, reach, ReachesWithin, LinksWithin}
use Rattle.cc_links.specs.LinkLaws.{get-live, lowest_below, reaches_within, add_all_links}
use Rattle.cc_outbox.specs.Outbox as kept
use Rattle.cc_outbox.specs.Outbox.{Outbox}
use Rattle.cc_node.specs.Core.{Core, quorum, ids_of, next, post, replies, sends, send_post, lowest, live_links}
use Rattle.cc_node.specs.Node.{Node, step, keep, add, forget_asked}
use Rattle.cc_node.specs.Lawful.{IsLawfulNode}
use Rattle.cc_node.proofs.KnownLaws.{same_number}
use Rattle.cc_node.proofs.Lists.{inserted_here, inserted_beside}
use Rattle.cc_node.proofs.StandingLaws.{posts_keep, last_forget, get-above}

-- ---- no link is acknowledged beyond the posts before

reaches_row : (posts peer : ℕ) (change : Link → Link) (o : Option Link) (ls : Links) → ReachesWithin posts ls → IfSome o (λ l. reach (change l) ≤ posts)
    → ReachesWithin posts (with_row peer change o ls)
reaches_row posts peer change None ls h k = h
reaches_row posts peer change (Some l) ls h k = all_insert (λ _ m. reach m ≤ posts) ls peer (change l) h k

-- but by an acknowledgement or a lapse, which makes no post; nor does a retiring
reaches_before : (c : Core) (e : Event) (m : Message) → post c e ≡ Some m → LinksWithin c.posts c.links → ReachesWithin c.posts (next c e).links
unfolding next
reaches_before c (event.Deliver from n k) m made h =
    let ls = add_all c.posts (from ∷ ids_of k) c.links in
    let known = reaches_within c.posts ls (add_all_links c.posts (from ∷ ids_of k) c.links h) in
    reaches_row c.posts from (λ l. record l { heard = n }) (table.get ls from) ls known (known from)
reaches_before c (event.Acked peer n) m made h = cc
reaches_before c (event.Retire q) m made h = cc
reaches_before c (event.Lapse q) m made h = cc
reaches_before c (event.Skip from posts) m made h = cc
reaches_before c (event.Share share) m made h = cc
reaches_before c _ m made h = reaches_within c.posts c.links h

only_live : (b : Bool) (posts : ℕ) (o : Option Link) → IfSome o (λ l. reach l ≤ posts) → IfSome (cond b o None) (λ l. reach l ≤ posts)
only_live true posts o h = h
only_live false posts o h = tt

-- ---- the post

no_link : (c : Core) (m : Message) (kept : Option Message) → table.entries (live_links c) ≡ [] → send_post c kept ≡ send_post c (Some m)
no_link c m None none = sym (ap (sends c.posts m) none)
no_link c m (Some k) none = ap (sends c.posts k) none ∙ sym (ap (sends c.posts m) none)

-- where there is a live link, what was acknowledged on each of them is at most what was on that one
either_sent : (c : Core) (m : Message) (low posts : ℕ) (kept : Option Message) (rows : List (ℕ × Link)) → table.entries (live_links c) ≡ rows
    → AllByRecursion (λ (row : ℕ × Link). low ≤ reach row.1) rows → AllByRecursion (λ (row : ℕ × Link). reach row.1 ≤ posts) rows
    → (low ≤ posts → kept ≡ Some m) → send_post c kept ≡ send_post c (Some m)
either_sent c m low posts kept [] are h k is = no_link c m kept are
either_sent c m low posts kept (row ∷ rows) are h k is = ap (send_post c) (is (omega (arith, h.0, k.0)))

post_there : (n : Node) (e : Event) (m : Message) → post n.core e ≡ Some m → IsLawfulNode n → lowest (next n.core e) ≤ n.core.posts
    → table.get (step n e).outbox.posts (next n.core e).posts ≡ Some m
unfolding step next
post_there n e m made h low =
    let c = n.core in
    let o = forget_asked e n.outbox in
    let number = (next c e).posts in
    let more : number ≡ c.posts + 1 = ap (λ p. c.posts + option_len p) made in
    let is : number ≡ o.last + 1 = more ∙ ap (λ (k : ℕ). k + 1) (sym (last_forget e n.outbox ∙ h.last)) in
    let kept = (keep (replies c e) (add (post c e) o)).posts in
    get-above (lowest (next c e)) kept number
    ∙ ap (λ b. cond b (table.get kept number) None) (lt-ltb (lowest (next c e)) number (omega (arith, low, more)))
    ∙ ap (λ p. table.get p number) (posts_keep (replies c e) (add (post c e) o))
    ∙ ap (λ p. table.get (add p o).posts number) made
    ∙ inserted_here o.posts (o.last + 1) m number (eq-eqb number (o.last + 1) is)

-- the post that a node has kept under the last number goes to the links that it was made for
pub post_kept : (n : Node) (e : Event) (m : Message) → post n.core e ≡ Some m → IsLawfulNode n
    → send_post (next n.core e) (table.get (step n e).outbox.posts (next n.core e).posts) ≡ send_post (next n.core e) (Some m)
post_kept n e m made h =
    let c = next n.core e in
    let left = c.churn.changes.left in
    let rows = table.entries (live_links c) in
    let sorted = table.entries_sorted (live_links c) in
    let same = table.get-entries (live_links c) in
    either_sent c m (lowest c) n.core.posts (table.get (step n e).outbox.posts c.posts) rows refl
    (all_entries (λ q l. lowest c ≤ reach l) rows sorted
    (λ q. subst (λ o. IfSome o (λ l. lowest c ≤ reach l)) (same q) (lowest_below left c.posts c.links q)))
    (all_entries (λ q l. reach l ≤ n.core.posts) rows sorted
    (λ q. subst (λ o. IfSome o (λ l. reach l ≤ n.core.posts)) (sym (get-live left c.links q) ∙ same q)
    (only_live (not (set.contains left q)) n.core.posts (table.get c.links q) (reaches_before n.core e m made h.core.links q))))
    (post_there n e m made h)

-- ---- the answer

-- an answer that others are kept after stays, where none of these is of its session
stays_kept : (x : ℕ) (asks : List Asked) (rs : List Reply) (o : Outbox) → AreAnswered asks rs → has_session x asks ≡ false
    → table.get (keep rs o).answers x ≡ table.get o.answers x
stays_kept x [] [] o e none = refl
stays_kept x [] (r ∷ rs) o e none = absurd e
stays_kept x (a ∷ asks) [] o e none = absurd e
stays_kept x (a ∷ asks) (r ∷ rs) o e none =
    let parts = or_parts _ _ none in
    stays_kept x asks rs (kept.keep r.session r.answer o) e.2 parts.1 ∙ inserted_beside o.answers r.session r.answer x (ap (nat_eq x) (sym e.0) ∙ parts.0)

each_kept : (asks line : List Asked) (rs : List Reply) (o : Outbox) → AreAnswered asks rs → AreApart (asks ++ line)
    → AllByRecursion (λ r. table.get (keep rs o).answers r.session ≡ Some r.answer) rs
each_kept asks line [] o e apart = tt
each_kept [] line (r ∷ rs) o e apart = absurd e
each_kept (a ∷ asks) line (r ∷ rs) o e apart =
    let o_now = kept.keep r.session r.answer o in
    let none = (or_parts _ _ (sym (has_both a.session asks line) ∙ apart.0)).0 in
    let none_behind : has_session r.session asks ≡ false = subst (λ (s : ℕ). has_session s asks ≡ false) e.0 none in (
      stays_kept r.session asks rs o_now e.2 none_behind ∙ inserted_here o.answers r.session r.answer r.session (same_number r.session),
      each_kept asks line rs o_now e.2 apart.1,
    )

round_kept : (s t : Ops) (rs : List Reply) (o : Outbox) → AnswersRound s t rs → AreApart (ops.unanswered s)
    → AllByRecursion (λ r. table.get (keep rs o).answers r.session ≡ Some r.answer) rs
round_kept s t rs o (inl h) apart = subst (λ (l : List Reply). AllByRecursion (λ r. table.get (keep l o).answers r.session ≡ Some r.answer) l) (sym h.0) tt
round_kept s t rs o (inr h) apart = each_kept (ops.pending s) s.line rs o h.0 apart

pub answers_kept : (n : Node) (e : Event) → IsLawfulNode n
    → AllByRecursion (λ r. table.get (step n e).outbox.answers r.session ≡ Some r.answer) (replies n.core e)
unfolding step
answers_kept n (event.Deliver from k m) h =
    let c = n.core in
    round_kept c.ops (ops.after_message c.me (quorum c) m c.ops) (ops.replies_of c.me m c.ops)
    (add (post c (event.Deliver from k m)) n.outbox) (message_answers c.me (quorum c) m c.ops) h.core.line.apart
answers_kept n _ h = tt
