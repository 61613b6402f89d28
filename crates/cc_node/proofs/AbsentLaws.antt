-- The laws of what an absent member misses.
--     lapse_taken, lapse_next  a lapse is the acknowledgement of all that was sent
--     anew_alone               a phase that begins anew is no new operation
--     not_churned, not_asked   what isn't a snapshot changes no more than its part says
--     next_overruns            the next number of a link overruns where the last stands at its limit
use Rattle.std.proofs.Common.{◌≡◌, ℕ, ◌+◌, ◌-◌, Bool, true, false, not, ◌≤◌, nat_lt, sym, ap, ◌∙◌}
use Rattle.std.specs.Prelude.{Some, None}
use Rattle.std.specs.Option.{option_map_or}
use Rattle.std.specs.Bool.{then_some}
use Rattle.std.specs.FinMap as table
use Rattle.std.proofs.lemmas.Bool.{or_parts}
use Rattle.cc_views.specs.Limits.{counter_limit, overruns}
use Rattle.cc_views.specs.Rows.{ViewMap}
use Rattle.cc_changes.specs.ChangeSets.{ChangeSets}
use Rattle.cc_messages.specs.declared.event.Event.TheVariants as event
use Rattle.cc_messages.specs.Messages.{is_snapshot}
use Rattle.cc_messages.specs.declared.message.Message.{Message}
use Rattle.cc_messages.specs.declared.message.Message.TheVariants as message
use Rattle.cc_messages.specs.declared.refusal.Refusal.TheVariants as refusal
use Rattle.cc_churn.specs.Churn as churn
use Rattle.cc_links.specs.Links.{Link, Links, heard_from, awaits_any, awaits_ack}
use Rattle.cc_links.specs.LinkLaws.{lapse_is_ack, lapse_is_news}
use Rattle.cc_ops.specs.Ops as ops
use Rattle.cc_node.specs.Core.{Core, quorum, churned, told_if, churn_told, asks_anew, anew_if, ops_anew, next}
use Rattle.cc_node.specs.Refusals.{decides, row_overruns}
use Rattle.cc_node.proofs.PartDecisions.{ack_refused, last_one}
use Rattle.cc_node.proofs.LawfulLaws.{hears_now}
use Rattle.cc_node.proofs.RefusalLaws.{takes_lapse}
use Rattle.cc_node.proofs.ToldLaws.{not_told, not_anew}

-- what is awaited on the link is news
pub lapse_taken : (c : Core) (q : ℕ) (l : Link) → table.get c.links q ≡ Some l → decides c (event.Lapse q) ≡ None
    → decides c (event.Acked q (c.posts - l.start)) ≡ None
lapse_taken c q l e d =
    let awaited = (or_parts _ _ (takes_lapse c q d).awaited).1 in
    let news : not (option_map_or (awaits_ack c.posts (c.posts - l.start)) (table.get c.links q) false) ≡ false =
    ap (λ o. not (option_map_or (awaits_ack c.posts (c.posts - l.start)) o false)) e ∙ ap not (sym (lapse_is_news c.posts l))
    ∙ sym (ap (λ o. not (option_map_or (awaits_any c.posts) o false)) e) ∙ awaited in
    sym (ack_refused c q (c.posts - l.start)) ∙ ap (λ b. then_some b refusal.NothingToAck) news

pub lapse_next : (c : Core) (q : ℕ) (l : Link) → table.get c.links q ≡ Some l → next c (event.Lapse q) ≡ next c (event.Acked q (c.posts - l.start))
unfolding next
lapse_next c q l e = ap (λ (ls : Links). record c { links = ls; posts = c.posts + 0 }) (lapse_is_ack c.posts q c.links l e)

pub anew_alone : (c : Core) (from n : ℕ) (d : ChangeSets) (v : ViewMap) → asks_anew c from n (message.Snapshot d v) ≡ true
    → (let after = next c (event.Deliver from n (message.Snapshot d v)) in after.ops ≡ ops.anew (quorum after) (ops.merged v c.ops))
unfolding next
anew_alone c from n d v asks =
    ap (λ b. anew_if b (churn.quorum c.beta (churn_told c from n (message.Snapshot d v))) (ops.merged v c.ops)) asks

pub not_churned : (c : Core) (from n : ℕ) (m : Message) → is_snapshot m ≡ false → churn_told c from n m ≡ churned c m
not_churned c from n m e = ap (λ b. told_if b c.me c.gamma (churned c m)) (not_told c from n m e)

pub not_asked : (c : Core) (from n : ℕ) (m : Message) → is_snapshot m ≡ false → ops_anew c from n m ≡ ops.after_message c.me (quorum c) m c.ops
not_asked c from n m e =
    ap (λ b. anew_if b (churn.quorum c.beta (churn_told c from n m)) (ops.after_message c.me (quorum c) m c.ops)) (not_anew c from n m e)

pub next_overruns : (c : Core) (from n : ℕ) (m : Message) → n ≡ heard_from from c.links + 1 → heard_from from c.links ≤ counter_limit
    → (let d = next c (event.Deliver from n m) in
    row_overruns c d (event.Deliver from n m) ≡ overruns (heard_from from c.links) (heard_from from d.links))
unfolding next
next_overruns c from n m e few =
    let last = heard_from from c.links in
    ap (nat_lt counter_limit) (hears_now c from n m) ∙ sym (last_one last n e few) ∙ sym (ap (overruns last) (hears_now c from n m))
