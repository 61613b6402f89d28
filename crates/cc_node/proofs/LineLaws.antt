-- No output is made twice: on each link numbers rise, and in each session requests do.
--     IsPast                what was put out before, so far as the state tells: all that is made from now on follows it
--     outputs_follow        the outputs of an event follow what is past
--     outputs_past          they are past after it;  past_stays: and what is past stays past
--     outputs_rise          they follow one another
--     outputs_follow_each_other, no_output_twice     so do all outputs along a list
--     standing_followed     and they follow all that stood before it
use Rattle.std.proofs.Common.{◌≡◌, ◌≢◌, ℕ, ◌+◌, ◌-◌, ◌<◌, ◌≤◌, Bool, true, false, cond, not, nat_eq, List, [], ◌∷◌, ◌++◌, refl, sym, ap, subst, ◌∙◌}
use Rattle.std.proofs.Common.{inl, inr, arith}
use Rattle.std.specs.Prelude.{Option, Some, None, IfSome, T, is_some, ⊤, ◌==◌, nat_lt}
use Rattle.std.specs.Option.{option_len, unwrap_or}
use Rattle.std.specs.List.{All, AllByRecursion, AllPairs}
use Rattle.std.specs.Ordering.{nat_cmp, is_lt}
use Rattle.std.specs.FinMap as table
use Rattle.std.specs.FinMap.{is_sorted}
use Rattle.std.specs.FinMap.Entries.{below_all}
use Rattle.std.proofs.lemmas.Bool.{both_ways, true_from_ne_false, and_cases, eq-eqb, eqb-false, ltb-false, leb-false, or_parts, or_left, or_right}
use Rattle.std.proofs.lemmas.Option.{same_Some, IfSome_then}
use Rattle.std.proofs.lemmas.Bool.Decides.{eqb_tells, nat_tests}
use Rattle.std.proofs.lemmas.List.Elements.{All-from_recursion}
use Rattle.std.proofs.lemmas.List.Kept.{AllPairs-cons}
use Rattle.cc_views.specs.NatSets as set
use Rattle.cc_views.specs.NatSets.{NatSet, lt_both}
use Rattle.cc_views.specs.MapLaws.{all_entries}
use Rattle.cc_messages.specs.declared.command.Command.{Command}
use Rattle.cc_messages.specs.declared.event.Event.{Event}
use Rattle.cc_messages.specs.declared.event.Event.TheVariants as event
use Rattle.cc_messages.specs.declared.message.Message.{Message}
use Rattle.cc_messages.specs.declared.output.Output.{Output}
use Rattle.cc_messages.specs.declared.output.Output.TheVariants as output
use Rattle.cc_ops.specs.Ops as ops
use Rattle.cc_ops.specs.Ops.{Ops, unanswered}
use Rattle.cc_ops.specs.OwnLaws.{AnswersRound, AreAnswered, message_answers, ask_unanswered}
use Rattle.cc_ops.specs.RoundLaws.{has_both, round_has}
use Rattle.cc_ops.specs.WaitingAsks.{has_session, AreApart}
use Rattle.cc_ops.specs.WaitingAskLaws.{none_last}
use Rattle.cc_ops.specs.declared.pending_operation.Asked.{Asked}
use Rattle.cc_ops.specs.declared.pending_operation.Reply.{Reply}
use Rattle.cc_links.specs.Links.{Link, Links, heard_from, live, IsLinkWithin}
use Rattle.cc_links.specs.LinkLaws.{LinkGoesOn, get-live}
use Rattle.cc_sessions.specs.Sessions.{Requests, last_request, is_repeat, is_stale}
use Rattle.cc_node.specs.declared.made.LinkAck.{LinkAck}
use Rattle.cc_node.specs.Core as core
use Rattle.cc_node.specs.Core.{Core, quorum, asked_of, asks_anew, next, post, replies, outputs, sends, send_post, send_ack, send_replies, live_links}
use Rattle.cc_node.specs.Refusals.{decides}
use Rattle.cc_node.specs.Node.{Node, step, line, HasOutput, IsLawful}
use Rattle.cc_node.specs.Lines.{Follows}
use Rattle.cc_node.specs.Lawful.{IsLastOf, IsLawfulCore, IsLawfulNode}
use Rattle.cc_node.proofs.KnownLaws.{all_last, none_left}
use Rattle.cc_node.proofs.LawfulLaws.{heard_at, links_go_on, hears_now, hears_skip, request_now, step_lawful}
use Rattle.cc_node.proofs.Lists.{both_all, all_map, all_mapped, if_at, inserted_beside}
use Rattle.cc_node.proofs.RefusalLaws.{takes_delivery, takes_skip, takes_ask}
use Rattle.cc_node.proofs.ToldLaws.{anew_unanswered}

-- ---- lists

abbrev EachRises : List Output → Type 0
EachRises [] = ⊤
EachRises (x ∷ xs) = AllByRecursion (Follows x) xs × EachRises xs

abbrev AllFollow : List Output → List Output → Type 0
AllFollow xs ys = AllByRecursion (λ x. AllByRecursion (Follows x) ys) xs

rises_both : (xs ys : List Output) → EachRises xs → EachRises ys → AllFollow xs ys → EachRises (xs ++ ys)
rises_both [] ys h k f = k
rises_both (x ∷ xs) ys h k f = (both_all (Follows x) xs ys h.0 f.0, rises_both xs ys h.1 k f.1)

pairs_rise : (xs : List Output) → EachRises xs → AllPairs Follows xs
pairs_rise [] h = λ i j d below inside. absurd (omega arith)
pairs_rise (x ∷ xs) h = AllPairs-cons Follows x xs (All-from_recursion (Follows x) xs h.0) (pairs_rise xs h.1)

no_less : (n : ℕ) → n < n → ⊥
no_less n h = omega arith

follows_apart : (x y : Output) → Follows x y → x ≢ y
follows_apart (output.Send p n m) y h e = no_less n (subst (Follows (output.Send p n m)) (sym e) h refl)
follows_apart (output.Ack p n) y h e = no_less n (subst (Follows (output.Ack p n)) (sym e) h refl)
follows_apart (output.Reply s r a) y h e = no_less r (subst (Follows (output.Reply s r a)) (sym e) h refl)

-- ---- what is past

record IsSent (ls : Links) (posts to number : ℕ) : Type 0 where
  link : Link
  there : table.get ls to ≡ Some link
  posted : number ≤ posts - link.start

-- asks are those that aren't answered yet
record IsAnswered (ss : Requests) (asks : List Asked) (s request : ℕ) : Type 0 where
  begun : request ≤ last_request ss s
  ended : has_session s asks ≡ true → request < last_request ss s

abbrev IsPast : Core → Output → Type 0
IsPast c (output.Send to number m) = IsSent c.links c.posts to number
IsPast c (output.Ack to number) = number ≤ heard_from to c.links
IsPast c (output.Reply s request a) = IsAnswered c.sessions (unanswered c.ops) s request

-- ---- sends

-- a link is there still, and starts where it did
record GoesOn (from : ℕ) (o : Option Link) : Type 0 where
  link : Link
  there : o ≡ Some link
  start : link.start ≡ from

goes_on : (posts : ℕ) (o o' : Option Link) (l : Link) → LinkGoesOn posts o o' → o ≡ Some l → GoesOn l.start o'
goes_on posts None o' l goes e = cc
goes_on posts (Some m) None l goes e = absurd goes
goes_on posts (Some m) (Some k) l goes e = record { link = k; there = refl; start = goes.0 ∙ ap (λ (x : Link). x.start) (same_Some m l e) }

either_live : (b : Bool) (o : Option Link) → IfSome (cond b o None) (λ l. o ≡ Some l)
either_live true None = tt
either_live true (Some l) = refl
either_live false o = tt

live_there : (left : NatSet) (ls : Links) (q : ℕ) → IfSome (table.get (live left ls) q) (λ l. table.get ls q ≡ Some l)
live_there left ls q =
    subst (λ o. IfSome o (λ l. table.get ls q ≡ Some l)) (sym (get-live left ls q)) (either_live (not (set.contains left q)) (table.get ls q))

-- what holds for the post on each link holds of all that is sent
each_post : (P : Output → Type 0) (c : Core) (p : Option Message)
    → ((m : Message) → p ≡ Some m → (q : ℕ) (l : Link) → table.get c.links q ≡ Some l → P (output.Send q (c.posts - l.start) m))
    → AllByRecursion P (send_post c p)
each_post P c None h = tt
each_post P c (Some m) h =
    let rows = table.entries (live_links c) in
    let Q : ℕ → Link → Type 0 = λ q l. P (output.Send q (c.posts - l.start) m) in
    all_mapped P _ rows (all_entries Q rows (table.entries_sorted (live_links c)) (λ q. subst (λ o. IfSome o (Q q)) (table.get-entries (live_links c) q)
    (IfSome_then (table.get (live_links c) q) {P = λ l. table.get c.links q ≡ Some l} (live_there c.churn.changes.left c.links q) (h m refl q))))

numbered_above : (number posts after start : ℕ) → number ≤ posts - start → start ≤ posts → after ≡ posts + 1 → number < after - start
numbered_above number posts after start h k e = omega arith

sends_follow : (c : Core) (e : Event) (x : Output) → decides c e ≡ None → IsLawfulCore c → IsPast c x
    → AllByRecursion (Follows x) (send_post (next c e) (post c e))
unfolding next
sends_follow c e (output.Send to number k) d h past =
    each_post (Follows (output.Send to number k)) (next c e) (post c e) (λ m made q l there same.
    let on = goes_on c.posts (table.get c.links to) (table.get (next c e).links to) past.link (links_go_on c e d to) past.there in
    let link : on.link ≡ l = same_Some on.link l (sym on.there ∙ ap (table.get (next c e).links) same ∙ there) in
    let start : past.link.start ≡ l.start = sym on.start ∙ ap (λ (x : Link). x.start) link in
    let within : IsLinkWithin c.posts past.link = if_at (IsLinkWithin c.posts) (table.get c.links to) past.link past.there (h.links to) in
    let count : (next c e).posts ≡ c.posts + 1 = ap (λ p. c.posts + option_len p) made in
    subst (λ s. number < (next c e).posts - s) start (numbered_above number c.posts (next c e).posts past.link.start past.posted within.0 count))
sends_follow c e x d h past = each_post (Follows x) (next c e) (post c e) (λ m made q l there. tt)

later_past : (number posts after start : ℕ) → number ≤ posts - start → posts ≤ after → number ≤ after - start
later_past number posts after start h k = omega arith

sent_stays : (c : Core) (e : Event) (to number : ℕ) → decides c e ≡ None → IsSent c.links c.posts to number
    → IsSent (next c e).links (next c e).posts to number
unfolding next
sent_stays c e to number d past =
    let on = goes_on c.posts (table.get c.links to) (table.get (next c e).links to) past.link (links_go_on c e d to) past.there in
    record {
      link = on.link;
      there = on.there;
      posted = subst (λ s. number ≤ (next c e).posts - s) (sym on.start) (later_past number c.posts (next c e).posts past.link.start past.posted (omega arith));
    }

before : (x y : ℕ) → T (is_lt (nat_cmp x y)) → x < y
before x y h = grind (arith, nat_tests)

-- peers rise, so no two sends of one post are on one link
below : (x : ℕ) (rows : List (ℕ × Link)) → T (below_all nat_cmp x rows) → AllByRecursion (λ row. x < row.0) rows
below x [] h = tt
below x (row ∷ rows) h = let both = lt_both _ _ h in (before x row.0 both.0, below x rows both.1)

sends_rise : (n : ℕ) (m : Message) (rows : List (ℕ × Link)) → T (is_sorted nat_cmp rows) → EachRises (sends n m rows)
sends_rise n m [] h = tt
sends_rise n m (row ∷ rows) h =
    let both = lt_both _ _ h in
    let x = output.Send row.0 (n - row.1.start) m in
    let later = all_map (λ r. row.0 < r.0) (λ r. Follows x (output.Send r.0 (n - r.1.start) m)) (λ r lt same. absurd (omega (arith, lt, same))) rows
    (below row.0 rows both.0) in
    (all_mapped (Follows x) _ rows later, sends_rise n m rows both.1)

post_rises : (c : Core) (p : Option Message) → EachRises (send_post c p)
post_rises c None = tt
post_rises c (Some m) = sends_rise c.posts m (table.entries (live_links c)) (table.entries_sorted (live_links c))

-- ---- acknowledgements

heard_goes : (posts : ℕ) (o o' : Option Link) → LinkGoesOn posts o o' → heard_at o ≤ heard_at o'
heard_goes posts None o' goes = omega arith
heard_goes posts (Some l) None goes = absurd goes
heard_goes posts (Some l) (Some k) goes = goes.2

ack_follows : (c : Core) (e : Event) (x : Output) → decides c e ≡ None → IsPast c x → AllByRecursion (Follows x) (send_ack (core.ack e))
ack_follows c (event.Deliver from n m) (output.Ack to number) d past =
    let above : heard_from from c.links < n = leb-false _ _ (takes_delivery c from n m d).new in
    (λ same. let old : number ≤ heard_from from c.links = subst (λ (q : ℕ). number ≤ heard_from q c.links) same past in omega arith, tt)
ack_follows c (event.Deliver from n m) x d past = (tt, tt)
ack_follows c (event.Skip from posts) (output.Ack to number) d past =
    let above : heard_from from c.links < posts.last = leb-false _ _ (takes_skip c from posts d).new in
    (λ same. let old : number ≤ heard_from from c.links = subst (λ (q : ℕ). number ≤ heard_from q c.links) same past in omega arith, tt)
ack_follows c (event.Skip from posts) x d past = (tt, tt)
ack_follows c _ x d past = tt

ack_past : (c : Core) (e : Event) → AllByRecursion (IsPast (next c e)) (send_ack (core.ack e))
unfolding next
ack_past c (event.Deliver from n m) =
    (subst (λ k. k ≤ heard_from from (next c (event.Deliver from n m)).links) (hears_now c from n m) (omega arith), tt)
ack_past c (event.Skip from posts) =
    (subst (λ k. k ≤ heard_from from (next c (event.Skip from posts)).links) (hears_skip c from posts) (omega arith), tt)
ack_past c _ = tt

-- ---- replies

-- a reply answers one of the asks that weren't answered, which is its session's last request and its only one
record Ends (ss : Requests) (before after : List Asked) (r : Reply) : Type 0 where
  last : table.get ss r.session ≡ Some r.request
  pending : has_session r.session before ≡ true
  done : has_session r.session after ≡ false

told_ends : (ss : Requests) (asks line before after : List Asked) (rs : List Reply) → AreAnswered asks rs → AreApart (asks ++ line)
    → AllByRecursion (IsLastOf ss) (asks ++ line) → ((x : ℕ) → has_session x asks ≡ true → has_session x before ≡ true)
    → ((x : ℕ) → has_session x line ≡ false → has_session x after ≡ false) → AllByRecursion (Ends ss before after) rs
told_ends ss asks line before after [] e apart last there gone = tt
told_ends ss [] line before after (r ∷ rs) e apart last there gone = absurd e
told_ends ss (a ∷ asks) line before after (r ∷ rs) e apart last there gone =
    let is_last : table.get ss a.session ≡ Some a.request = last.0 in
    let none = (or_parts _ _ (sym (has_both a.session asks line) ∙ apart.0)).1 in (
      record {
        last = ap (table.get ss) (sym e.0) ∙ is_last ∙ ap (λ (q : ℕ). Some q) e.1;
        pending = there r.session (or_left _ _ (eq-eqb r.session a.session (sym e.0)));
        done = gone r.session (subst (λ (s : ℕ). has_session s line ≡ false) e.0 none);
      },
      told_ends ss asks line before after rs e.2 apart.1 last.1 (λ x h. there x (or_right _ _ h)) gone,
    )

round_ends : (ss : Requests) (s t : Ops) (rs : List Reply) → AnswersRound s t rs → AreApart (unanswered s) → AllByRecursion (IsLastOf ss) (unanswered s)
    → AllByRecursion (Ends ss (unanswered s) (unanswered t)) rs
round_ends ss s t rs (inl h) apart last = subst (AllByRecursion (Ends ss (unanswered s) (unanswered t))) (sym h.0) tt
round_ends ss s t rs (inr h) apart last =
    told_ends ss (ops.pending s) s.line (unanswered s) (unanswered t) rs h.0 apart last
    (λ x there. has_both x (ops.pending s) s.line ∙ or_left _ _ there)
    (λ x none. ap (has_session x) h.1 ∙ round_has x s.share s.line ∙ none)

abbrev EndsBy : Core → Message → Reply → Type 0
EndsBy c m = Ends c.sessions (unanswered c.ops) (unanswered (ops.after_message c.me (quorum c) m c.ops))

-- of what answers an ask each reply is that ends one
each_answer : (P : Output → Type 0) (c : Core) (m : Message) → IsLawfulCore c
    → ((r : Reply) → EndsBy c m r → P (output.Reply r.session r.request r.answer)) → AllByRecursion P (send_replies (ops.replies_of c.me m c.ops))
each_answer P c m h f =
    let rs = ops.replies_of c.me m c.ops in
    let ends = round_ends c.sessions c.ops (ops.after_message c.me (quorum c) m c.ops) rs (message_answers c.me (quorum c) m c.ops) h.line.apart
    (all_last c.links c.sessions c.ops h.phase h.line) in
    all_mapped P _ rs (all_map (EndsBy c m) (λ r. P (output.Reply r.session r.request r.answer)) f rs ends)

-- no two of one event are of one session
later_apart : (r : Reply) (asks : List Asked) (rs : List Reply) → has_session r.session asks ≡ false → AreAnswered asks rs
    → AllByRecursion (Follows (output.Reply r.session r.request r.answer)) (send_replies rs)
later_apart r asks [] none e = tt
later_apart r [] (k ∷ rs) none e = absurd e
later_apart r (a ∷ asks) (k ∷ rs) none e =
    let parts = or_parts _ _ none in (
      λ same. absurd (both_ways (nat_eq r.session a.session) parts.0 (eq-eqb r.session a.session (same ∙ sym e.0))),
      later_apart r asks rs parts.1 e.2,
    )

told_apart : (asks line : List Asked) (rs : List Reply) → AreAnswered asks rs → AreApart (asks ++ line) → EachRises (send_replies rs)
told_apart asks line [] e apart = tt
told_apart [] line (r ∷ rs) e apart = absurd e
told_apart (a ∷ asks) line (r ∷ rs) e apart =
    let none = (or_parts _ _ (sym (has_both a.session asks line) ∙ apart.0)).0 in (
      later_apart r asks rs (subst (λ (s : ℕ). has_session s asks ≡ false) e.0 none) e.2,
      told_apart asks line rs e.2 apart.1,
    )

replies_apart : (s t : Ops) (rs : List Reply) → AnswersRound s t rs → AreApart (unanswered s) → EachRises (send_replies rs)
replies_apart s t rs (inl h) apart = subst (λ (l : List Reply). EachRises (send_replies l)) (sym h.0) tt
replies_apart s t rs (inr h) apart = told_apart (ops.pending s) s.line rs h.0 apart

last_is : (ss : Requests) (s r : ℕ) → table.get ss s ≡ Some r → last_request ss s ≡ r
last_is ss s r e = ap (λ o. unwrap_or o 0) e

request_below : (ss : Requests) (before after : List Asked) (s request : ℕ) (r : Reply) → IsAnswered ss before s request → Ends ss before after r
    → s ≡ r.session → request < r.request
request_below ss before after s request r past ends same =
    let less : request < last_request ss s = past.ended (ap (λ (k : ℕ). has_session k before) same ∙ ends.pending) in
    let last : last_request ss s ≡ r.request = ap (last_request ss) same ∙ last_is ss r.session r.request ends.last in
    subst (λ n. request < n) last less

reply_follows : (c : Core) (e : Event) (x : Output) → IsLawfulCore c → IsPast c x → AllByRecursion (Follows x) (send_replies (replies c e))
reply_follows c (event.Deliver from n m) (output.Reply s request a) h past =
    let after = unanswered (ops.after_message c.me (quorum c) m c.ops) in
    each_answer (Follows (output.Reply s request a)) c m h (λ r ends same. request_below c.sessions (unanswered c.ops) after s request r past ends same)
reply_follows c (event.Deliver from n m) x h past = each_answer (Follows x) c m h (λ r ends. tt)
reply_follows c _ x h past = tt

reply_past : (c : Core) (e : Event) → IsLawfulCore c → AllByRecursion (IsPast (next c e)) (send_replies (replies c e))
unfolding next
reply_past c (event.Deliver from n m) h =
    let after = ops.after_message c.me (quorum c) m c.ops in
    each_answer (IsPast (next c (event.Deliver from n m))) c m h
    (λ r ends. subst (λ asks. IsAnswered c.sessions asks r.session r.request) (sym (anew_unanswered (asks_anew c from n m) _ after)) (record {
      begun = subst (λ k. r.request ≤ k) (sym (last_is c.sessions r.session r.request ends.last)) (omega arith);
      ended = λ t. absurd (both_ways (has_session r.session (unanswered after)) ends.done t);
    }))
reply_past c _ h = tt

still_there : (x : ℕ) (s t : Ops) (rs : List Reply) → AnswersRound s t rs → has_session x (unanswered t) ≡ true → has_session x (unanswered s) ≡ true
still_there x s t rs (inl h) there = ap (has_session x) (sym h.1) ∙ there
still_there x s t rs (inr h) there =
    has_both x (ops.pending s) s.line ∙ or_right _ _ (sym (round_has x s.share s.line) ∙ ap (has_session x) (sym h.1) ∙ there)

-- a message brings no ask
message_there : (me quorum : ℕ) (m : Message) (s : Ops) (x : ℕ) → has_session x (unanswered (ops.after_message me quorum m s)) ≡ true
    → has_session x (unanswered s) ≡ true
message_there me quorum m s x h = still_there x s (ops.after_message me quorum m s) (ops.replies_of me m s) (message_answers me quorum m s) h

-- one more ask is of its own session
there_before : (s : ℕ) (asks : List Asked) (a : Asked) → nat_eq s a.session ≡ false → has_session s (asks ++ a ∷ []) ≡ true → has_session s asks ≡ true
there_before s asks a apart h =
    true_from_ne_false (has_session s asks) (λ none. both_ways (has_session s (asks ++ a ∷ [])) (none_last s asks a none apart) h)

last_none : (o : Option ℕ) → is_some o ≡ false → unwrap_or o 0 ≡ 0
last_none None e = refl
last_none (Some r) e = cc

-- a request that is taken is above its session's last one
request_rises : (ss : Requests) (s r : ℕ) → is_repeat ss s r ≡ false → is_stale ss s r ≡ false → last_request ss s < r
request_rises ss s r fresh new =
    let parts = or_parts (nat_lt r (last_request ss s)) (r == 0) new in
    let up : last_request ss s ≤ r = ltb-false r (last_request ss s) parts.0 in
    elim (and_cases (table.contains_key ss s) (r == last_request ss s) fresh) as (λ _. last_request ss s < r) [
      | inl e ↦
          let none : last_request ss s ≡ 0 = last_none (table.get ss s) e in
          let some : r ≡ 0 → ⊥ = eqb-false r 0 parts.1 in
          omega (arith, some)
      | inr e ↦ let apart : r ≡ last_request ss s → ⊥ = eqb-false r (last_request ss s) e in omega (arith, apart)
    ]

answered_asked : (c : Core) (y r : ℕ) (k : Command) (s request : ℕ) → decides c (event.Ask y r k) ≡ None → IsLawfulCore c
    → IsAnswered c.sessions (unanswered c.ops) s request
    → IsAnswered (next c (event.Ask y r k)).sessions (unanswered (next c (event.Ask y r k)).ops) s request
unfolding next
answered_asked c y r k s request d h past =
    let e = event.Ask y r k in
    let a = asked_of y r k in
    let takes = takes_ask c y r k d in
    let above : last_request c.sessions y < r = request_rises c.sessions y r takes.repeat takes.new in
    let old : request ≤ last_request c.sessions s = past.begun in
    let more : unanswered (next c e).ops ≡ unanswered c.ops ++ a ∷ [] = ask_unanswered c.me (quorum c) a c.ops (none_left c.ops h.line) in
    elim (eqb_tells s y) as (λ _. IsAnswered (next c e).sessions (unanswered (next c e).ops) s request) [
      | inl t ↦
          let now : last_request (next c e).sessions s ≡ r = ap (last_request (next c e).sessions) t.1 ∙ request_now c.sessions y r in
          let was : last_request c.sessions s ≡ last_request c.sessions y = ap (last_request c.sessions) t.1 in
          record { begun = omega arith; ended = λ _. omega arith }
      | inr t ↦
          let same : last_request (next c e).sessions s ≡ last_request c.sessions s =
          ap (λ o. unwrap_or o 0) (inserted_beside c.sessions y r s t.0) in
          record {
            begun = omega arith;
            ended = λ now. omega (arith, past.ended (there_before s (unanswered c.ops) a t.0 (sym (ap (has_session s) more) ∙ now)), same);
          }
    ]

answered_stays : (c : Core) (e : Event) (s request : ℕ) → decides c e ≡ None → IsLawfulCore c → IsAnswered c.sessions (unanswered c.ops) s request
    → IsAnswered (next c e).sessions (unanswered (next c e).ops) s request
unfolding next
answered_stays c (event.Deliver from n m) s request d h past = record {
  begun = past.begun;
  ended = λ t. past.ended (message_there c.me (quorum c) m c.ops s
      (ap (has_session s) (sym (anew_unanswered (asks_anew c from n m) _ (ops.after_message c.me (quorum c) m c.ops))) ∙ t));
}
answered_stays c (event.Ask y r k) s request d h past = answered_asked c y r k s request d h past
answered_stays c _ s request d h past = past

-- ---- all outputs of an event

outputs_follow : (c : Core) (e : Event) (x : Output) → decides c e ≡ None → IsLawfulCore c → IsPast c x → AllByRecursion (Follows x) (outputs c e)
outputs_follow c e x d h past =
    both_all (Follows x) (send_ack (core.ack e) ++ send_post (next c e) (post c e)) (send_replies (replies c e))
    (both_all (Follows x) (send_ack (core.ack e)) (send_post (next c e) (post c e)) (ack_follows c e x d past) (sends_follow c e x d h past))
    (reply_follows c e x h past)

outputs_past : (c : Core) (e : Event) → IsLawfulCore c → AllByRecursion (IsPast (next c e)) (outputs c e)
outputs_past c e h =
    both_all (IsPast (next c e)) (send_ack (core.ack e) ++ send_post (next c e) (post c e)) (send_replies (replies c e))
    (both_all (IsPast (next c e)) (send_ack (core.ack e)) (send_post (next c e) (post c e)) (ack_past c e)
    (each_post (IsPast (next c e)) (next c e) (post c e) (λ m made q l there. record { link = l; there = there; posted = omega arith })))
    (reply_past c e h)

past_stays : (c : Core) (e : Event) (x : Output) → decides c e ≡ None → IsLawfulCore c → IsPast c x → IsPast (next c e) x
past_stays c e (output.Send to number m) d h past = sent_stays c e to number d past
past_stays c e (output.Ack to number) d h past =
    let up = heard_goes c.posts (table.get c.links to) (table.get (next c e).links to) (links_go_on c e d to) in omega (arith, past, up)
past_stays c e (output.Reply s request a) d h past = answered_stays c e s request d h past

ack_then : (c : Core) (k : Option LinkAck) (p : Option Message) → AllFollow (send_ack k) (send_post c p)
ack_then c None p = tt
ack_then c (Some k) p = (each_post (Follows (output.Ack k.to k.number)) c p (λ m made q l there. tt), tt)

ack_rises : (k : Option LinkAck) → EachRises (send_ack k)
ack_rises None = tt
ack_rises (Some k) = (tt, tt)

replies_rise : (c : Core) (e : Event) → IsLawfulCore c → EachRises (send_replies (replies c e))
replies_rise c (event.Deliver from n m) h =
    replies_apart c.ops (ops.after_message c.me (quorum c) m c.ops) (ops.replies_of c.me m c.ops) (message_answers c.me (quorum c) m c.ops) h.line.apart
replies_rise c _ h = tt

then_each : (x : Output) (rs : List Reply) → ((r : Reply) → Follows x (output.Reply r.session r.request r.answer))
    → AllByRecursion (Follows x) (send_replies rs)
then_each x [] f = tt
then_each x (r ∷ rs) f = (f r, then_each x rs f)

acks_replies : (k : Option LinkAck) (rs : List Reply) → AllFollow (send_ack k) (send_replies rs)
acks_replies None rs = tt
acks_replies (Some k) rs = (then_each (output.Ack k.to k.number) rs (λ r. tt), tt)

then_replies : (c : Core) (k : Option LinkAck) (p : Option Message) (rs : List Reply) → AllFollow (send_ack k ++ send_post c p) (send_replies rs)
then_replies c k p rs =
    both_all (λ x. AllByRecursion (Follows x) (send_replies rs)) (send_ack k) (send_post c p) (acks_replies k rs)
    (each_post (λ x. AllByRecursion (Follows x) (send_replies rs)) c p (λ m made q l there. then_each (output.Send q (c.posts - l.start) m) rs (λ r. tt)))

outputs_rise : (c : Core) (e : Event) → IsLawfulCore c → EachRises (outputs c e)
outputs_rise c e h =
    let a = send_ack (core.ack e) in
    let p = send_post (next c e) (post c e) in
    let both = rises_both a p (ack_rises (core.ack e)) (post_rises (next c e) (post c e)) (ack_then (next c e) (core.ack e) (post c e)) in
    rises_both (a ++ p) (send_replies (replies c e)) both (replies_rise c e h) (then_replies (next c e) (core.ack e) (post c e) (replies c e))

-- ---- along a list

line_follows : (n : Node) (es : List Event) (x : Output) → IsLawfulNode n → IsLawful n es → IsPast n.core x → AllByRecursion (Follows x) (line n es)
unfolding step
line_follows n [] x h d past = tt
line_follows n (e ∷ es) x h d past =
    both_all (Follows x) (outputs n.core e) (line (step n e) es) (outputs_follow n.core e x d.0 h.core past)
    (line_follows (step n e) es x (step_lawful n e d.0 h) d.1 (past_stays n.core e x d.0 h.core past))

line_rises : (n : Node) (es : List Event) → IsLawfulNode n → IsLawful n es → EachRises (line n es)
unfolding step
line_rises n [] h d = tt
line_rises n (e ∷ es) h d =
    let next_lawful = step_lawful n e d.0 h in
    rises_both (outputs n.core e) (line (step n e) es) (outputs_rise n.core e h.core) (line_rises (step n e) es next_lawful d.1)
    (all_map (IsPast (next n.core e)) (λ x. AllByRecursion (Follows x) (line (step n e) es)) (λ x past. line_follows (step n e) es x next_lawful d.1 past)
    (outputs n.core e) (outputs_past n.core e h.core))

-- what stands was put out before
standing_past : (n : Node) (o : Output) → IsLawfulNode n → HasOutput n o → IsPast n.core o
standing_past n (output.Send to wire m) h s =
    let c = n.core in
    let old : s.0 ≤ c.posts = (h.posts.within s.0 (ap is_some s.2)).1 in
    record {
      link = s.1;
      there = if_at (λ l. table.get c.links to ≡ Some l) (table.get (live_links c) to) s.1 s.3 (live_there c.churn.changes.left c.links to);
      posted = omega (arith, old, s.4.is_number);
    }
standing_past n (output.Ack to heard) h s =
    let now : heard_from to n.core.links ≡ heard = ap heard_at s.1 ∙ s.2 in omega (arith, now)
standing_past n (output.Reply x r a) h s = record {
  begun = omega (arith, last_is n.core.sessions x r s.1);
  ended = λ t. absurd (both_ways (has_session x (unanswered n.core.ops)) (h.answers x (ap is_some s.0)).1 t);
}

pub outputs_follow_each_other : (n : Node) (es : List Event) → IsLawfulNode n → IsLawful n es → AllPairs Follows (line n es)
outputs_follow_each_other n es h d = pairs_rise (line n es) (line_rises n es h d)

pub no_output_twice : (n : Node) (es : List Event) → IsLawfulNode n → IsLawful n es → AllPairs (λ x y. x ≢ y) (line n es)
no_output_twice n es h d i j o before inside = follows_apart _ _ (outputs_follow_each_other n es h d i j o before inside)

pub standing_followed : (n : Node) (es : List Event) (o : Output) → IsLawfulNode n → IsLawful n es → HasOutput n o → All (Follows o) (line n es)
standing_followed n es o h d s = All-from_recursion (Follows o) (line n es) (line_follows n es o h d (standing_past n o h s))
