use Rattle.std.proofs.Common.{◌≡◌, ℕ, ◌+◌, ◌-◌, ◌≤◌, ◌∷◌, drop, length, refl, ap, subst, arith}
use Rattle.std.specs.FinMap as table
use Rattle.cc_messages.specs.declared.message.Message.{Message}
use Rattle.cc_site.specs.declared.site.Site.{Ghosts}
use Rattle.cc_outbox.specs.Outbox.{Outbox}
use Rattle.cc_node.specs.Node.{Node}
use Rattle.cc_journal.specs.Outlet.{Puts}
use Rattle.cc_flush.specs.Resends.{resend_post, resends}
use Rattle.cc_flush.proofs.Resends.{next_post, HasPutPieces, pieces_none, pieces_more, pieces_all}
use Rattle.cc_flush.proofs.resend.put_kept_posts.Goals as goal

posts_all : {D : Type 0} (s : Ghosts D) (old now : D) (n : Node) (box : Outbox) (kept i count : ℕ) → box ≡ n.outbox → kept ≡ table.len box.posts → kept ≤ i
    → HasPutPieces s (resend_post n.core) (table.entries n.outbox.posts) old now i count → Puts s (resends n) old now × (count ≡ length (resends n))
posts_all s old now n box kept i count same is past put =
    pieces_all s (resend_post n.core) (table.entries n.outbox.posts) old now i count (resends n) put
    (omega (arith, table.len-entries n.outbox.posts, ap (λ (b : Outbox). table.len b.posts) same, is, past)) refl

pub loop-number-init : goal.loop-number-init
loop-number-init g c =
    let core = c.args.node.now.core in
    let posts = table.entries c.args.node.now.outbox.posts in
    let site = c.args.site.now in
    let dropped = c.last-last.result - c.post_count.result in
    let start : 0 ≡ dropped - dropped = omega arith in
    record {
      put = subst (λ n. HasPutPieces g.S.Site (resend_post core) posts site site n 0) start
          (pieces_none g.S.Site (resend_post core) posts site (g.met.S.Site.only_now site));
      few = omega arith;
      from = omega arith;
    }

pub loop-number-preserved : goal.loop-number-preserved
loop-number-preserved g c =
    let s = g.S.Site in
    let core = c.args.node.now.core in
    let posts = table.entries c.args.node.now.outbox.posts in
    let box = c.outbox-outbox.result.now in
    let at = c.loop-number in
    let inv = at.invariant in
    let done = c.put_kept_post-count in
    let i = at.number - (c.last-last.result - c.post_count.result) in
    let message = c.unwrap-post.result.now in
    let post : ℕ × Message = (at.number + 1, message) in
    let kept = next_post box.last c.post_count.result box.posts c.post_count.ensures.last c.post_count.ensures.count i (at.number + 1) message
    (omega (arith, c.last-last.ensures, inv.from)) (omega (arith, c.loop-number-test.true, inv.from)) (rw c.unwrap-post.ensures at c.post.ensures) in
    let next = subst (λ p. drop i (table.entries p) ≡ post ∷ drop (i + 1) (table.entries p)) (ap (λ b. b.posts) c.outbox-outbox.ensures) kept in
    let put = subst (λ k. Puts s (resend_post k post) at.site done.new.site) c.core.ensures.core done.ensures.puts in
    let count = subst (λ k. done.result ≡ length (resend_post k post)) c.core.ensures.core done.ensures.count in
    let after : i + 1 ≡ at.number + 1 - (c.last-last.result - c.post_count.result) = omega (arith, inv.from) in
    record {
      put = subst (λ n. HasPutPieces s (resend_post core) posts c.args.site.now done.new.site n (at.count + done.result)) after
          (pieces_more s (resend_post core) posts c.args.site.now at.site done.new.site i at.count done.result post inv.put next put count);
      few = omega (arith, inv.few, inv.from, done.ensures.few);
      from = omega (arith, inv.from);
    }

pub returns-clause-count : goal.returns-clause-count
returns-clause-count g c =
    let at = c.loop-number in
    let kept = c.post_count.ensures in
    (posts_all g.S.Site c.args.site.now at.site c.args.node.now c.outbox-outbox.result.now c.post_count.result
    (at.number - (c.last-last.result - c.post_count.result)) at.count c.outbox-outbox.ensures kept.count
    (omega (arith, c.loop-number-test.false, c.last-last.ensures, kept.count, kept.last.count, at.invariant.from)) at.invariant.put).1

pub returns-clause-puts : goal.returns-clause-puts
returns-clause-puts g c =
    let at = c.loop-number in
    let kept = c.post_count.ensures in
    (posts_all g.S.Site c.args.site.now at.site c.args.node.now c.outbox-outbox.result.now c.post_count.result
    (at.number - (c.last-last.result - c.post_count.result)) at.count c.outbox-outbox.ensures kept.count
    (omega (arith, c.loop-number-test.false, c.last-last.ensures, kept.count, kept.last.count, at.invariant.from)) at.invariant.put).0
