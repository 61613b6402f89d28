-- What is put for an event that a node has taken in is what the event puts out.
--     next_replies             the replies to some requests, one by one
--     post_put, replies_put    the post, and the answers, as they are kept
use Rattle.std.proofs.Common.{◌≡◌, ℕ, ◌+◌, ◌<◌, Bool, List, [], ◌∷◌, ◌++◌, length, get_or, drop, drop-cons, add-one, map, refl, sym, ◌∙◌, ap, arith}
use Rattle.std.specs.List.{AllByRecursion}
use Rattle.std.specs.Prelude.{Option, Some, None, if◌then◌else◌}
use Rattle.std.specs.Option.{option_len}
use Rattle.std.specs.FinMap as table
use Rattle.std.proofs.lemmas.Bool.{le-ltb, lt-ltb}
use Rattle.std.proofs.lemmas.List.{map-append}
use Rattle.cc_messages.specs.declared.answer.Answer.{Answer}
use Rattle.cc_messages.specs.declared.event.Event.{Event}
use Rattle.cc_messages.specs.declared.message.Message.{Message}
use Rattle.cc_ops.specs.declared.pending_operation.Reply.{Reply}
use Rattle.cc_messages.specs.declared.output.Output.{Output}
use Rattle.cc_messages.specs.declared.output.Output.TheVariants as output
use Rattle.cc_outbox.specs.Outbox.{Outbox}
use Rattle.cc_node.specs.Core.{next, post, send_post, send_replies}
use Rattle.cc_node.specs.Node.{Node, step}
use Rattle.cc_node.specs.Lawful.{IsLawfulNode}
use Rattle.cc_node.proofs.KeptOutputs.{post_kept}
use Rattle.cc_journal.specs.declared.outlet.Answered.{Answered}
use Rattle.cc_journal.specs.Outlet.{request_of, new_post, kept_reply, kept_replies}

-- ---- replies, one by one

pub next_replies : (xs : List Answered) (i : ℕ) (d : Answered) (o : Outbox) → i < length xs → send_replies (kept_replies (drop i xs) o)
    ≡ send_replies (kept_reply (get_or xs i d) (table.get o.answers (get_or xs i d).session)) ++ send_replies (kept_replies (drop (i + 1) xs) o)
next_replies xs i d o lt =
    let x = get_or xs i d in
    ap (λ (l : List Answered). send_replies (kept_replies l o)) (drop-cons xs i d lt ∙ ap (λ (n : ℕ). x ∷ drop n xs) (sym (add-one i)))
    ∙ map-append (λ (r : Reply). output.Reply r.session r.request r.answer) (kept_reply x (table.get o.answers x.session)) (kept_replies (drop (i + 1) xs) o)

module _ (n : Node) (e : Event) where
  post_if : Bool → List Output
  post_if b = send_post (next n.core e) (if b then table.get (step n e).outbox.posts (next n.core e).posts else None)

  pub post_put : (p : Option Message) → post n.core e ≡ p → IsLawfulNode n
      → send_post (step n e).core (new_post n.core.posts (step n e)) ≡ send_post (next n.core e) p
  unfolding step next post_if
  post_put None made h = ap post_if (le-ltb n.core.posts (next n.core e).posts (omega (arith, ap option_len made)))
  post_put (Some m) made h = ap post_if (lt-ltb n.core.posts (next n.core e).posts (omega (arith, ap option_len made))) ∙ post_kept n e m made h

  pub replies_put : (rs : List Reply) → AllByRecursion (λ r. table.get (step n e).outbox.answers r.session ≡ Some r.answer) rs
      → kept_replies (map request_of rs) (step n e).outbox ≡ rs
  replies_put [] h = refl
  replies_put (r ∷ rs) h =
      ap (λ (a : Option Answer). kept_reply (request_of r) a ++ kept_replies (map request_of rs) (step n e).outbox) h.0
      ∙ ap (λ (l : List Reply). r ∷ l) (replies_put rs h.1)
