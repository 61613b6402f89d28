-- An event that isn't refused leaves a lawful node lawful.
--     core_with, linked_core        a core with other parts; with other changes and links alone
--     next_core, step_lawful        the core after an event, and the node
--     others_fit                    another share that is taken has room for the pending round
--     same_heard, hears_now         what was heard on the links;  request_now: and asked in the sessions
--     lowest_next                   lowest doesn't fall
--     links_go_on, left_grows       no link is lost or falls back, and who left has left for good
use Rattle.std.proofs.Common.{◌≡◌, ℕ, ◌+◌, ◌<◌, ◌≤◌, true, false, ◌&&◌, nat_lt, List, [], ◌∷◌, ◌++◌, length, refl, sym, ap, subst, ◌∙◌, inl, inr, arith}
use Rattle.std.specs.Prelude.{Option, Some, None, IfSome, IsTrue, is_some, ◌==◌}
use Rattle.std.specs.Option.{option_len, option_map_or, unwrap_or}
use Rattle.std.specs.FinMap as table
use Rattle.std.proofs.lemmas.Bool.{cond_both, or_parts, or_left, eqb-false, ltb-false, leb-false}
use Rattle.std.proofs.lemmas.Bool.Decides.{eqb_tells}
use Rattle.cc_views.specs.NatSets as set
use Rattle.cc_views.specs.NatSets.{IsWithin}
use Rattle.cc_views.specs.MapLaws.{all_insert, within_insert}
use Rattle.cc_views.specs.Rows.{ViewMap}
use Rattle.cc_views.specs.Merge.{merge}
use Rattle.cc_views.specs.Limits.{counter_limit, known_limit, session_limit, set_limit}
use Rattle.cc_views.specs.declared.value.Value.{Value}
use Rattle.cc_changes.specs.declared.fraction.Fraction.{Fraction}
use Rattle.cc_changes.specs.ChangeSets.{ChangeSets, add_enter, add_leave}
use Rattle.cc_changes.specs.ChangeLaws.{need_within, need_positive}
use Rattle.cc_messages.specs.declared.command.Command.{Command}
use Rattle.cc_messages.specs.declared.event.Event.{Event}
use Rattle.cc_messages.specs.declared.event.Event.TheVariants as event
use Rattle.cc_messages.specs.declared.message.Message.{Message}
use Rattle.cc_messages.specs.declared.message.Message.TheVariants as message
use Rattle.cc_churn.specs.Churn as churn
use Rattle.cc_churn.specs.Churn.{Churn}
use Rattle.cc_ops.specs.Commands.{is_writing}
use Rattle.cc_ops.specs.Ops as ops
use Rattle.cc_ops.specs.Ops.{Ops, Phase, Storing, Querying, StoringBack, unanswered, mine_at_last}
use Rattle.cc_ops.specs.OwnLaws.{message_last, message_answers, ask_last, ask_unanswered}
use Rattle.cc_ops.specs.Rounds.{first_round, line_behind}
use Rattle.cc_ops.specs.WaitingAskLaws.{written_fits}
use Rattle.cc_ops.specs.declared.pending_operation.Asked.{Asked}
use Rattle.cc_messages.specs.Ranges.{Range}
use Rattle.cc_messages.specs.Shares.{IsAskShare}
use Rattle.cc_messages.specs.ShareLaws.{is_share}
use Rattle.cc_links.specs.Links.{Link, Links, new_link, with_row, add, add_absent, add_all, hear, ack, lapse, heard_from, LinksWithin}
use Rattle.cc_links.specs.LinkLaws.{LinksGoOn, go_same, go_then, add_all_goes, hear_goes, ack_goes, lapse_goes, go_within, lowest_within}
use Rattle.cc_links.specs.LinkLaws.{lowest_grows, links_more_posts, add_all_links, hear_links, ack_links, lapse_links, contains-add_all, hear_len}
use Rattle.cc_links.specs.LinkLaws.{ack_len, lapse_len}
use Rattle.cc_sessions.specs.Sessions.{Requests, last_request, begin_fits}
use Rattle.cc_outbox.specs.Outbox.{forget}
use Rattle.cc_node.specs.Core.{Core, quorum, ids_of, asked_of, churned, tells, churn_told, asks_anew, ops_anew, next, post, replies, lowest}
use Rattle.cc_node.specs.Refusals.{decides}
use Rattle.cc_node.specs.Node.{Node, step}
use Rattle.cc_ops.specs.Stages.{HasRoom}
use Rattle.cc_node.specs.Lawful.{IsBeside, IsRoundOf, IsLineOf, CountsWithin, SessionsWithin, KeepsAnswers, IsLawfulCore, IsLawfulNode}
use Rattle.cc_node.proofs.KnownLaws.{same_number, AllListed, tail_listed, among_more, KeepsChanges, enter_changes}
use Rattle.cc_node.proofs.KnownLaws.{leave_changes, KeepsChurn, members_fit, message_churn, left_stays, KeepsOps, ops_more, message_ops, ask_ops}
use Rattle.cc_node.proofs.KnownLaws.{all_last, none_waits, none_left}
use Rattle.cc_node.proofs.KeptLaws.{step_posts, posted, round_answers, last_answers}
use Rattle.cc_node.proofs.Lists.{inserted_here, inserted_beside}
use Rattle.cc_node.proofs.RefusalLaws.{Fits, takes_delivery, takes_ack, takes_ask, takes_retire, takes_lapse, takes_skip, takes_share, takes_any, stays_within}
use Rattle.cc_node.proofs.RefusalLaws.{passes_within, none_overruns}
use Rattle.cc_node.proofs.ToldLaws.{told_churn, left_told, one_echo, echoes_told, anew_last, anew_unanswered, anew_tag, anew_ops, snapshot_tag}
use Rattle.cc_node.proofs.ToldLaws.{snapshot_echoes, tells_snapshot, anew_snapshot}

-- ---- counters rise by one at most

one_post : (p : Option Message) → option_len p ≤ 1
one_post None = omega arith
one_post (Some m) = omega arith

round_tag : (me quorum : ℕ) (asks : List Asked) (s : Ops) → (ops.begin_round me quorum asks s).tag ≤ s.tag + 1
round_tag me quorum [] s = omega arith
round_tag me quorum (a ∷ others) s =
    cond_both (is_writing a.command) (ops.next_round (Storing (ops.round_of quorum a)) (ops.with_own_row me (ops.with_written (a ∷ others) s)))
    (ops.next_round (Querying (ops.round_of quorum a)) s) (λ t. t.tag ≤ s.tag + 1) (λ _. omega arith) (λ _. omega arith)

last_tag : (me quorum : ℕ) (s : Ops) → (ops.after_last me quorum s).tag ≤ s.tag + 1
last_tag me quorum s = round_tag me quorum (first_round s.share s.line) (record s { line = line_behind s.share s.line })

ack_tag : (me quorum : ℕ) (phase : Phase) (s : Ops) → (ops.after_ack me quorum phase s).tag ≤ s.tag + 1
ack_tag me quorum (Storing p) s =
    cond_both (ops.is_last p) (ops.after_last me quorum s) (record s { phase = Storing (ops.counted p) }) (λ t. t.tag ≤ s.tag + 1)
    (λ _. last_tag me quorum s) (λ _. omega arith)
ack_tag me quorum (StoringBack p seen) s =
    cond_both (ops.is_last p) (ops.after_last me quorum s) (record s { phase = StoringBack (ops.counted p) seen }) (λ t. t.tag ≤ s.tag + 1)
    (λ _. last_tag me quorum s) (λ _. omega arith)
ack_tag me quorum _ s = omega arith

reply_tag : (quorum : ℕ) (v : ViewMap) (phase : Phase) (s : Ops) → (ops.after_reply quorum v phase s).tag ≤ s.tag + 1
reply_tag quorum v (Querying p) s =
    cond_both (ops.is_last p)
    (ops.next_round (StoringBack (ops.round_of quorum p.asked) (merge s.view v)) (ops.merged v s))
    (record (ops.merged v s) { phase = Querying (ops.counted p) }) (λ t. t.tag ≤ s.tag + 1) (λ _. omega arith) (λ _. omega arith)
reply_tag quorum v _ s = omega arith

message_tag : (me quorum : ℕ) (m : Message) (s : Ops) → (ops.after_message me quorum m s).tag ≤ s.tag + 1
message_tag me quorum (message.QueryReply v tag q) s =
    cond_both (ops.is_own me tag q s) (ops.after_reply quorum v s.phase s) s (λ t. t.tag ≤ s.tag + 1) (λ _. reply_tag quorum v s.phase s) (λ _. omega arith)
message_tag me quorum (message.StoreAck tag q) s =
    cond_both (ops.is_own me tag q s) (ops.after_ack me quorum s.phase s) s (λ t. t.tag ≤ s.tag + 1) (λ _. ack_tag me quorum s.phase s) (λ _. omega arith)
message_tag me quorum _ s = omega arith

tag_next : (c : Core) (e : Event) → (next c e).ops.tag ≤ c.ops.tag + 1
unfolding next
tag_next c (event.Deliver from n m) =
    anew_tag (asks_anew c from n m) _ (ops.after_message c.me (quorum c) m c.ops) c.ops.tag
    (λ e. snapshot_tag c.me (quorum c) m c.ops (anew_snapshot c from n m e)) (message_tag c.me (quorum c) m c.ops)
tag_next c (event.Ask s r k) =
    let a = asked_of s r k in
    cond_both (ops.is_idle c.ops.phase) (ops.with_begun c.me (quorum c) a c.ops) (record c.ops { line = c.ops.line ++ a ∷ [] }) (λ t. t.tag ≤ c.ops.tag + 1)
    (λ _. round_tag c.me (quorum c) (a ∷ []) c.ops) (λ _. omega arith)
tag_next c _ = omega arith

message_echoes : (me : ℕ) (gamma : Fraction) (m : Message) (s : Churn) → (churn.after_message me gamma m s).echoes ≤ s.echoes + 1
message_echoes me gamma (message.EnterEcho c v j q) s =
    let t = churn.united c s in
    cond_both (churn.counts_for me q t) (churn.echoed me gamma j t) t (λ u. u.echoes ≤ s.echoes + 1)
    (λ _. omega (arith, one_echo me gamma j t)) (λ _. omega arith)
message_echoes me gamma _ s = omega arith

echoes_next : (c : Core) (e : Event) → (next c e).churn.echoes ≤ c.churn.echoes + 1
unfolding next
echoes_next c (event.Deliver from n m) =
    echoes_told (tells c from n m) c.me c.gamma (churned c m) c.churn.echoes
    (λ e. snapshot_echoes c.me c.gamma m c.churn (tells_snapshot c from n m e)) (message_echoes c.me c.gamma m c.churn)
echoes_next c _ = omega arith

posts_next : (c : Core) (e : Event) → (next c e).posts ≤ c.posts + 1
unfolding next
posts_next c e = let one = one_post (post c e) in omega arith

counts_next : (c : Core) (e : Event) → Fits c e → CountsWithin c → CountsWithin (next c e)
counts_next c e fits h =
    let none = none_overruns c (next c e) e fits.counts in
    record {
      number = passes_within c.ops.number (next c e).ops.number none.number h.number;
      tag = stays_within counter_limit c.ops.tag (next c e).ops.tag none.tag h.tag (tag_next c e);
      posts = stays_within counter_limit c.posts (next c e).posts none.posts h.posts (posts_next c e);
      echoes = stays_within counter_limit c.churn.echoes (next c e).churn.echoes none.echoes h.echoes (echoes_next c e);
    }

-- ---- a delivery

-- what was heard on a link
abbrev pub heard_at : Option Link → ℕ
heard_at o = option_map_or (λ l. l.heard) o 0

-- another link, on which the same was heard
pub same_heard : (ls : Links) (peer q : ℕ) (l : Link) → heard_from peer ls ≡ l.heard → heard_from q (table.insert ls peer l) ≡ heard_from q ls
same_heard ls peer q l e = elim (eqb_tells q peer) as (λ _. heard_from q (table.insert ls peer l) ≡ heard_from q ls) [
  | inl t ↦ ap heard_at (inserted_here ls peer l q t.0) ∙ sym e ∙ ap (λ p. heard_from p ls) (sym t.1)
  | inr t ↦ ap heard_at (inserted_beside ls peer l q t.0)
]

add_heard : (posts peer q : ℕ) (o : Option Link) (ls : Links) → table.get ls peer ≡ o → heard_from q (add_absent posts peer o ls) ≡ heard_from q ls
add_heard posts peer q (Some l) ls e = refl
add_heard posts peer q None ls e = same_heard ls peer q (new_link posts) (ap heard_at e)

pub add_all_heard : (posts : ℕ) (peers : List ℕ) (ls : Links) (q : ℕ) → heard_from q (add_all posts peers ls) ≡ heard_from q ls
add_all_heard posts [] ls q = refl
add_all_heard posts (p ∷ ps) ls q = add_heard posts p q (table.get (add_all posts ps ls) p) (add_all posts ps ls) refl ∙ add_all_heard posts ps ls q

heard_now_of : (from n : ℕ) (ls : Links) (o : Option Link) → table.get ls from ≡ o → is_some o ≡ true → heard_from from (hear from n ls) ≡ n
heard_now_of from n ls None e h = cc
heard_now_of from n ls (Some l) e h =
    ap (λ o. heard_at (table.get (with_row from (λ l. record l { heard = n }) o ls) from)) e
    ∙ ap heard_at (inserted_here ls from (record l { heard = n }) from (same_number from))

pub hears_on : (posts from n : ℕ) (ids : List ℕ) (links : Links) → heard_from from (hear from n (add_all posts (from ∷ ids) links)) ≡ n
hears_on posts from n ids links =
    let ls = add_all posts (from ∷ ids) links in
    let there : is_some (table.get ls from) ≡ true = contains-add_all posts (from ∷ ids) links from ∙ or_left _ _ (or_left _ _ (same_number from)) in
    heard_now_of from n ls (table.get ls from) refl there

pub hears_now : (c : Core) (from n : ℕ) (m : Message) → heard_from from (hear from n (add_all c.posts (from ∷ ids_of m) c.links)) ≡ n
hears_now c from n m = hears_on c.posts from n (ids_of m) c.links

pub hears_skip : (c : Core) (from : ℕ) (posts : Range) → heard_from from (hear from posts.last (add c.posts from c.links)) ≡ posts.last
hears_skip c from posts = hears_on c.posts from posts.last [] c.links

-- what is heard now stays within the limit
heard_fits : (c : Core) (from n : ℕ) (m : Message) → decides c (event.Deliver from n m) ≡ None → n ≤ counter_limit
unfolding next
heard_fits c from n m d =
    let takes = takes_delivery c from n m d in
    let e = event.Deliver from n m in
    let ls = add_all c.posts (from ∷ ids_of m) c.links in
    let now : heard_from from (hear from n ls) ≡ n = hears_now c from n m in
    let none = none_overruns c (next c e) e takes.fits.counts in
    ltb-false counter_limit n (subst (λ k. nat_lt counter_limit k ≡ false) now none.row)

skip_fits : (c : Core) (from : ℕ) (posts : Range) → decides c (event.Skip from posts) ≡ None → posts.last ≤ counter_limit
unfolding next
skip_fits c from posts d =
    let e = event.Skip from posts in
    let none = none_overruns c (next c e) e (takes_skip c from posts d).fits.counts in
    ltb-false counter_limit posts.last (subst (λ k. nat_lt counter_limit k ≡ false) (hears_skip c from posts) none.row)

pub quorum_fits : (c : Core) → IsLawfulCore c → quorum c ≤ known_limit
quorum_fits c h = need_within c.beta _ known_limit h.beta (members_fit c.links c.churn.changes h.changes h.link_count) (omega arith)

abbrev linked : Core → ℕ → Message → Links
linked c from m = add_all c.posts (from ∷ ids_of m) c.links

module _ (c : Core) (from n : ℕ) (m : Message) (d : decides c (event.Deliver from n m) ≡ None) where
  heard_on : LinksGoOn c.posts (linked c from m) (hear from n (linked c from m))
  heard_on =
      let above : heard_from from c.links < n = leb-false _ _ (takes_delivery c from n m d).new in
      hear_goes c.posts from n (linked c from m) (omega (arith, above, add_all_heard c.posts (from ∷ ids_of m) c.links from))

  linked_goes : LinksGoOn c.posts c.links (hear from n (linked c from m))
  linked_goes = go_then c.posts c.links (linked c from m) (hear from n (linked c from m)) (add_all_goes c.posts (from ∷ ids_of m) c.links) heard_on

  all_linked : AllListed (hear from n (linked c from m)) (from ∷ ids_of m)
  all_linked q h =
      go_within c.posts (linked c from m) (hear from n (linked c from m)) heard_on q
      (contains-add_all c.posts (from ∷ ids_of m) c.links q ∙ or_left _ _ h)

-- with a link to who skips, on which its last number is heard
skip_goes : (c : Core) (from : ℕ) (posts : Range) → decides c (event.Skip from posts) ≡ None
    → LinksGoOn c.posts c.links (hear from posts.last (add c.posts from c.links))
skip_goes c from posts d =
    let above : heard_from from c.links < posts.last = leb-false _ _ (takes_skip c from posts d).new in
    let added = add_all c.posts (from ∷ []) c.links in
    go_then c.posts c.links added (hear from posts.last added) (add_all_goes c.posts (from ∷ []) c.links)
    (hear_goes c.posts from posts.last added (omega (arith, above, add_all_heard c.posts (from ∷ []) c.links from)))

-- ---- the core after each event

-- with these parts, and so many posts more
core_with : (c : Core) (s : Churn) (o : Ops) (k : ℕ) (ls : Links) (ss : Requests) → IsLawfulCore c → IsWithin c.links ls → KeepsChurn ls s
    → KeepsOps ls ss o → table.len ls ≤ known_limit → LinksWithin c.posts ls → SessionsWithin ss → table.len ss ≤ session_limit → HasRoom o.line o.mine
    → (let d = record c { churn = s; ops = o; posts = c.posts + k; links = ls; sessions = ss } in CountsWithin d → IsLawfulCore d)
core_with c s o k ls ss h more churn_keeps ops_keeps few within sessions_within sessions_few room counts = record {
  beta = h.beta;
  gamma = h.gamma;
  me = more c.me h.me;
  changes = churn_keeps.changes.known;
  view = ops_keeps.view;
  link_count = few;
  joined = churn_keeps.changes.joined;
  links = links_more_posts c.posts (c.posts + k) ls (omega arith) within;
  phase = ops_keeps.phase;
  line = ops_keeps.line;
  sessions = sessions_within;
  session_count = sessions_few;
  counts = counts;
  need = churn_keeps.need;
  set = room;
}

changes_more : (c : Core) (ls : Links) → IsWithin c.links ls → IsLawfulCore c → KeepsChanges ls c.churn.changes
changes_more c ls more h = record { known = among_more c.links ls c.churn.changes more h.changes; joined = h.joined }

ops_of : (c : Core) → IsLawfulCore c → KeepsOps c.links c.sessions c.ops
ops_of c h = record { view = h.view; phase = h.phase; line = h.line }

-- other changes and other links
linked_core : (c : Core) (known : ChangeSets) (k : ℕ) (ls : Links) → IsLawfulCore c → IsWithin c.links ls → KeepsChanges ls known
    → table.len ls ≤ known_limit → LinksWithin c.posts ls
    → (let d = record c { churn = record c.churn { changes = known }; posts = c.posts + k; links = ls } in CountsWithin d → IsLawfulCore d)
linked_core c known k ls h more changes few within counts =
    core_with c (record c.churn { changes = known }) c.ops k ls c.sessions h more (record { changes = changes; need = h.need })
    (ops_more c.links ls c.sessions c.ops more (ops_of c h)) few within h.sessions h.session_count h.set counts

deliver_core : (c : Core) (from n : ℕ) (m : Message) → decides c (event.Deliver from n m) ≡ None → IsLawfulCore c
    → IsLawfulCore (next c (event.Deliver from n m))
unfolding next
deliver_core c from n m d h =
    let e = event.Deliver from n m in
    let takes = takes_delivery c from n m d in
    let ls = hear from n (linked c from m) in
    let more : IsWithin c.links ls = go_within c.posts c.links ls (linked_goes c from n m d) in
    let named = tail_listed ls from (ids_of m) (all_linked c from n m d) in
    let most : table.len (linked c from m) ≤ known_limit = ltb-false _ _ takes.nodes in
    let few : table.len ls ≤ known_limit = omega (arith, hear_len from n (linked c from m), most) in
    let own : IsTrue (table.contains_key ls c.me) = more c.me h.me in
    let k : KeepsChurn ls (churn_told c from n m) = told_churn ls (tells c from n m) c.me c.gamma (churned c m) h.gamma few own
    (message_churn ls c.me c.gamma h.gamma few own m c.churn named (record { changes = changes_more c ls more h; need = h.need })) in
    let after = ops.after_message c.me (quorum c) m c.ops in
    let again = churn.quorum c.beta (churn_told c from n m) in
    let o : KeepsOps ls c.sessions (ops_anew c from n m) = anew_ops ls c.sessions (asks_anew c from n m) again after (need_positive c.beta _)
    (need_within c.beta _ known_limit h.beta (members_fit ls (churn_told c from n m).changes k.changes.known few) (omega arith))
    (message_ops ls c.sessions c.me (quorum c) (need_positive c.beta _) (quorum_fits c h) own m c.ops named
    (ops_more c.links ls c.sessions c.ops more (ops_of c h))) in
    let room = subst (λ (v : Value). set.len v.set ≤ set_limit)
    (sym (anew_last (asks_anew c from n m) again after ∙ message_last c.me (quorum c) m c.ops)) h.set in
    core_with c (churn_told c from n m) (ops_anew c from n m) (option_len (post c e)) ls c.sessions h more k o few
    (hear_links c.posts from n (linked c from m) (heard_fits c from n m d) (add_all_links c.posts (from ∷ ids_of m) c.links h.links))
    h.sessions h.session_count room (counts_next c e takes.fits h.counts)

-- ---- an ask

pub last_within : (o : Option ℕ) → IfSome o (λ last. (0 < last) × (last ≤ counter_limit)) → unwrap_or o 0 ≤ counter_limit
last_within None h = omega arith
last_within (Some l) h = h.1

pub request_now : (ss : Requests) (s r : ℕ) → unwrap_or (table.get (table.insert ss s r) s) 0 ≡ r
request_now ss s r = ap (λ o. unwrap_or o 0) (inserted_here ss s r s (same_number s))

request_fits : (c : Core) (s r : ℕ) (k : Command) → decides c (event.Ask s r k) ≡ None → IsLawfulCore c → (0 < r) × (r ≤ counter_limit)
unfolding next
request_fits c s r k d h =
    let takes = takes_ask c s r k d in
    let e = event.Ask s r k in
    let none = none_overruns c (next c e) e takes.fits.counts in
    let zero : r ≡ 0 → ⊥ = eqb-false r 0 (or_parts (nat_lt r (last_request c.sessions s)) (r == 0) takes.new).1 in (
      omega (arith, zero),
      stays_within counter_limit (last_request c.sessions s) r
          (subst (λ n. ((last_request c.sessions s == counter_limit) && nat_lt (last_request c.sessions s) n) ≡ false) (request_now c.sessions s r) none.row)
          (last_within (table.get c.sessions s) (h.sessions s)) (ltb-false _ _ takes.next),
    )

ask_core : (c : Core) (s r : ℕ) (k : Command) → decides c (event.Ask s r k) ≡ None → IsLawfulCore c → IsLawfulCore (next c (event.Ask s r k))
unfolding next
ask_core c s r k d h =
    let takes = takes_ask c s r k d in
    let e = event.Ask s r k in
    let a = asked_of s r k in
    let o : KeepsOps c.links (table.insert c.sessions s r) (ops.after_ask c.me (quorum c) a c.ops) =
    ask_ops c.links c.sessions c.me (quorum c) a c.ops (need_positive c.beta _) (quorum_fits c h) h.me takes.free (ops_of c h) in
    let room = subst (λ (v : Value). set.len v.set ≤ set_limit)
    (sym (ask_last c.me (quorum c) a c.ops (λ idle. none_waits c.ops.phase c.ops.line idle h.line.behind)))
    (written_fits k (mine_at_last c.ops) takes.room h.set) in
    core_with c c.churn (ops.after_ask c.me (quorum c) a c.ops) (option_len (post c e)) c.links (table.insert c.sessions s r) h (λ q there. there)
    (record { changes = changes_more c c.links (λ q there. there) h; need = h.need }) o h.link_count h.links
    (all_insert (λ _ last. (0 < last) × (last ≤ counter_limit)) c.sessions s r h.sessions (request_fits c s r k d h))
    (begin_fits c.sessions s r takes.sessions h.session_count) room (counts_next c e takes.fits h.counts)

-- ---- another share

share_fits : (c : Core) (share : ℕ) → decides c (event.Share share) ≡ None → IsAskShare share
unfolding next
share_fits c share d = let e = event.Share share in is_share share (none_overruns c (next c e) e (takes_share c share d).fits.counts).row

-- a round of no more asks than the share has fewer beside its first one
beside_few : (phase : ops.Phase) (others : List Asked) (share : ℕ) → IsBeside phase others → 1 ≤ share
    → length (ops.asked_in phase ++ others) ≤ share → length others < share
beside_few ops.Idle others share alike some few = omega (arith, ap length alike, some)
beside_few (ops.Storing p) others share alike some few = omega (arith, few)
beside_few (ops.Querying p) others share alike some few = omega (arith, few)
beside_few (ops.StoringBack p seen) others share alike some few = omega (arith, few)

pub others_fit : (c : Core) (share : ℕ) → decides c (event.Share share) ≡ None → IsLawfulCore c → length c.ops.others < share
others_fit c share d h =
    beside_few c.ops.phase c.ops.others share h.line.round.alike (share_fits c share d).some (ltb-false _ _ (takes_share c share d).free)

share_core : (c : Core) (share : ℕ) → decides c (event.Share share) ≡ None → IsLawfulCore c → IsLawfulCore (next c (event.Share share))
unfolding next
share_core c share d h =
    let takes = takes_share c share d in
    let is = share_fits c share d in
    let round : IsRoundOf c.sessions share c.ops.phase c.ops.others = record {
      some = is.some;
      most = is.most;
      few = others_fit c share d h;
      alike = h.line.round.alike;
      last = h.line.round.last;
    } in
    let line : IsLineOf c.sessions (ops.with_share share c.ops) = record {
      behind = h.line.behind;
      few = h.line.few;
      apart = h.line.apart;
      last = h.line.last;
      round = round;
    } in
    core_with c c.churn (ops.with_share share c.ops) 0 c.links c.sessions h (λ q there. there)
    (record { changes = changes_more c c.links (λ q there. there) h; need = h.need }) (record { view = h.view; phase = h.phase; line = line })
    h.link_count h.links h.sessions h.session_count h.set (counts_next c (event.Share share) takes.fits h.counts)

pub next_core : (c : Core) (e : Event) → decides c e ≡ None → IsLawfulCore c → IsLawfulCore (next c e)
unfolding next
next_core c event.Enter d h =
    linked_core c (add_enter c.churn.changes c.me) 1 c.links h (λ q k. k)
    (enter_changes c.links c.churn.changes c.me h.me (changes_more c c.links (λ q k. k) h)) h.link_count h.links
    (counts_next c event.Enter (takes_any c event.Enter d) h.counts)
next_core c event.Leave d h =
    linked_core c (add_leave c.churn.changes c.me) 1 c.links h (λ q k. k)
    (leave_changes c.links c.churn.changes c.me h.me (changes_more c c.links (λ q k. k) h)) h.link_count h.links
    (counts_next c event.Leave (takes_any c event.Leave d) h.counts)
next_core c (event.Deliver from n m) d h = deliver_core c from n m d h
next_core c (event.Acked peer n) d h =
    let takes = takes_ack c peer n d in
    let ls = ack peer n c.links in
    let more = go_within c.posts c.links ls (ack_goes c.posts peer n c.links takes.awaited) in
    let few : table.len ls ≤ known_limit = omega (arith, ack_len peer n c.links, h.link_count) in
    linked_core c c.churn.changes 0 ls h more (changes_more c ls more h) few (ack_links c.posts peer n c.links takes.awaited h.links)
    (counts_next c (event.Acked peer n) takes.fits h.counts)
next_core c (event.Ask s r k) d h = ask_core c s r k d h
next_core c (event.Retire q) d h =
    let takes = takes_retire c q d in
    let ls = add_all c.posts (q ∷ []) c.links in
    let more = go_within c.posts c.links ls (add_all_goes c.posts (q ∷ []) c.links) in
    let there : IsTrue (table.contains_key ls q) = contains-add_all c.posts (q ∷ []) c.links q ∙ or_left _ _ (or_left _ _ (same_number q)) in
    linked_core c (add_leave c.churn.changes q) 0 ls h more (leave_changes ls c.churn.changes q there (changes_more c ls more h)) (ltb-false _ _ takes.nodes)
    (add_all_links c.posts (q ∷ []) c.links h.links) (counts_next c (event.Retire q) takes.fits h.counts)
next_core c (event.Lapse q) d h =
    let takes = takes_lapse c q d in
    let ls = lapse c.posts q c.links in
    let more = go_within c.posts c.links ls (lapse_goes c.posts q c.links (or_parts _ _ takes.awaited).1) in
    let few : table.len ls ≤ known_limit = omega (arith, lapse_len c.posts q c.links, h.link_count) in
    linked_core c c.churn.changes 0 ls h more (changes_more c ls more h) few (lapse_links c.posts q c.links h.links)
    (counts_next c (event.Lapse q) takes.fits h.counts)
next_core c event.Snapshot d h =
    linked_core c c.churn.changes 1 c.links h (λ q k. k) (changes_more c c.links (λ q k. k) h) h.link_count h.links
    (counts_next c event.Snapshot (takes_any c event.Snapshot d) h.counts)
next_core c (event.Skip from posts) d h =
    let takes = takes_skip c from posts d in
    let added = add_all c.posts (from ∷ []) c.links in
    let ls = hear from posts.last added in
    let more = go_within c.posts c.links ls (skip_goes c from posts d) in
    let most : table.len added ≤ known_limit = ltb-false _ _ takes.nodes in
    let few : table.len ls ≤ known_limit = omega (arith, hear_len from posts.last added, most) in
    linked_core c c.churn.changes 0 ls h more (changes_more c ls more h) few
    (hear_links c.posts from posts.last added (skip_fits c from posts d) (add_all_links c.posts (from ∷ []) c.links h.links))
    (counts_next c (event.Skip from posts) takes.fits h.counts)
next_core c (event.Share share) d h = share_core c share d h

-- ---- the node

pub links_go_on : (c : Core) (e : Event) → decides c e ≡ None → LinksGoOn c.posts c.links (next c e).links
unfolding next
links_go_on c (event.Deliver from n m) d = linked_goes c from n m d
links_go_on c (event.Acked peer n) d = ack_goes c.posts peer n c.links (takes_ack c peer n d).awaited
links_go_on c (event.Retire q) d = add_all_goes c.posts (q ∷ []) c.links
links_go_on c (event.Lapse q) d = lapse_goes c.posts q c.links (or_parts _ _ (takes_lapse c q d).awaited).1
links_go_on c (event.Skip from posts) d = skip_goes c from posts d
links_go_on c _ d = go_same c.posts c.links

pub left_grows : (c : Core) (e : Event) → IsWithin c.churn.changes.left (next c e).churn.changes.left
unfolding next
left_grows c event.Leave q h = within_insert c.churn.changes.left c.me tt q h
left_grows c (event.Deliver from n m) q h = left_told (tells c from n m) c.me c.gamma (churned c m) q (left_stays c.me c.gamma m c.churn q h)
left_grows c (event.Retire p) q h = within_insert c.churn.changes.left p tt q h
left_grows c _ q h = h

pub lowest_next : (c : Core) (e : Event) → decides c e ≡ None → LinksWithin c.posts c.links → lowest c ≤ lowest (next c e)
unfolding next
lowest_next c e d h =
    lowest_grows c.churn.changes.left (next c e).churn.changes.left c.posts (c.posts + option_len (post c e)) c.links (next c e).links
    (left_grows c e) (links_go_on c e d) h (omega arith)

step_answers : (n : Node) (e : Event) → IsLawfulNode n → KeepsAnswers (next n.core e).sessions (unanswered (next n.core e).ops) (step n e).outbox.answers
unfolding step next
step_answers n (event.Deliver from k m) h =
    let c = n.core in
    let e = event.Deliver from k m in
    let after = ops.after_message c.me (quorum c) m c.ops in
    subst (λ (l : List Asked). KeepsAnswers c.sessions l (step n e).outbox.answers) (sym (anew_unanswered (asks_anew c from k m) _ after))
    (posted c.sessions (unanswered after) (post c e) (ops.replies_of c.me m c.ops) n.outbox
    (round_answers c.sessions c.ops after (ops.replies_of c.me m c.ops) n.outbox (message_answers c.me (quorum c) m c.ops) h.core.line.apart
    (all_last c.links c.sessions c.ops h.core.phase h.core.line) h.answers))
step_answers n (event.Ask s r k) h =
    let c = n.core in
    let e = event.Ask s r k in
    let a = asked_of s r k in
    let asks = table.insert c.sessions s r in
    posted asks (unanswered (ops.after_ask c.me (quorum c) a c.ops)) (post c e) [] (forget s n.outbox)
    (subst (λ (l : List Asked). KeepsAnswers asks l (table.remove n.outbox.answers s))
    (sym (ask_unanswered c.me (quorum c) a c.ops (none_left c.ops h.core.line)))
    (last_answers c.sessions (unanswered c.ops) a n.outbox.answers h.answers))
step_answers n _ h = h.answers

pub step_lawful : (n : Node) (e : Event) → decides n.core e ≡ None → IsLawfulNode n → IsLawfulNode (step n e)
unfolding step next
step_lawful n e d h =
    let c = n.core in
    let kept = step_posts (lowest c) (lowest (next c e)) c.posts e (post c e) (replies c e) n.outbox (record { last = h.last; kept = h.posts })
    (lowest_next c e d h.core.links) (lowest_within c.churn.changes.left c.posts c.links h.core.links) (takes_any c e d).posts in
    record { core = next_core c e d h.core; last = kept.last; posts = kept.kept; answers = step_answers n e h }
