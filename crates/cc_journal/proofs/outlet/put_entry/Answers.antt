use Rattle.std.proofs.Common.{◌≡◌, ◌++◌, List, refl, ◌∙◌, ap, subst}
use Rattle.std.specs.Prelude.{map}
use Rattle.cc_messages.specs.declared.output.Output.{Output}
use Rattle.cc_node.specs.declared.made.Made.{Made}
use Rattle.cc_node.specs.Core as core
use Rattle.cc_node.specs.Core.{next, send_ack, send_post, send_replies}
use Rattle.cc_node.proofs.KeptOutputs.{answers_kept}
use Rattle.cc_journal.specs.Outlet.{Puts, request_of, new_post, kept_replies}
use Rattle.cc_journal.proofs.EventOutputs.{post_put, replies_put}
use Rattle.cc_journal.proofs.Puts.{puts_both}
use Rattle.cc_journal.proofs.outlet.put_entry.Goals as goal

pub returns-clause-puts : goal.returns-clause-puts
returns-clause-puts g c =
    let s = g.S.Site in
    let n = c.args.node.now in
    let e = c.args.entry.event in
    let made_is = c.requires.1 in
    let stepped = c.settle.ensures in
    let posts = c.posts-posts.ensures ∙ ap (λ k. k.posts) c.core.ensures.core in
    let answered = c.deref.ensures.0 ∙ c.answered_by-answered.ensures ∙ ap (λ (m : Made). map request_of m.answers) made_is in
    let box = c.outbox.ensures ∙ ap (λ k. k.outbox) stepped in
    let ack : send_ack c.args.entry.made.ack ≡ send_ack (core.ack e) = ap (λ (m : Made). send_ack m.ack) made_is in
    let post : send_post c.settle.new.self.core (new_post c.posts-posts.result c.settle.new.self) ≡ send_post (next n.core e) (core.post n.core e) =
    (λ i. send_post (stepped i).core (new_post (posts i) (stepped i))) ∙ post_put n e _ refl c.core.ensures.lawful in
    let replies : send_replies (kept_replies c.deref.result.now c.outbox.result.now) ≡ send_replies (core.replies n.core e) =
    (λ i. send_replies (kept_replies (answered i) (box i))) ∙ ap send_replies (replies_put n e _ (answers_kept n e c.core.ensures.lawful)) in
    subst (λ (l : List Output). Puts s l c.args.site.now c.put_replies.new.site) (λ i. ack i ++ post i ++ replies i)
    (puts_both s _ _ _ _ _ (puts_both s _ _ _ _ _ c.put_ack.ensures c.put_post.ensures) c.put_replies.ensures)
