-- What is put to an outlet.
--     IsPutting           the sides are as they were, and the outlet has got the first of these outputs
--     Puts                a run of calls that puts these outputs, and does nothing else
--     on_link             the last post on a link, unless its peer has left
--     request_of          which request of its session a reply answers
--     new_post            the last post of a node, where more than so many were made
--     kept_reply, kept_replies   the answer that is kept for a request's session;  those of many requests
use Rattle.std.specs.Prelude.{◌≡◌, ◌↔◌, ℕ, ◌-◌, List, [], ◌∷◌, ◌++◌, Option, Some, None, nat_lt, if◌then◌else◌}
use Rattle.std.specs.FinMap as table
use Rattle.cc_views.specs.NatSets as set
use Rattle.cc_links.specs.declared.link_row.LinkRow.{LinkRow}
use Rattle.cc_messages.specs.declared.answer.Answer.{Answer}
use Rattle.cc_messages.specs.declared.output.Output.TheVariants as output
use Rattle.cc_node.specs.Core.{Core}
use Rattle.cc_messages.specs.declared.message.Message.{Message}
use Rattle.cc_messages.specs.declared.output.Output.{Output}
use Rattle.cc_ops.specs.declared.pending_operation.Reply.{Reply}
use Rattle.cc_outbox.specs.Outbox.{Outbox}
use Rattle.cc_node.specs.Node.{Node}
use Rattle.cc_site.specs.declared.site.Side.{Side}
use Rattle.cc_site.specs.declared.site.Site.{Ghosts}
use Rattle.cc_site.specs.Sides.{SideState, MayLeave}
use Rattle.cc_site.specs.Moments.{Contents}
use Rattle.cc_site.specs.Runs.{EachMoment}
use Rattle.cc_journal.specs.declared.outlet.Answered.{Answered}
use Rattle.cc_journal.specs.GoodSides.{MayBeLeft, EachLeaves}

pub record IsPutting (state : Side → SideState) (sent more : List Output) (left : Contents) (told : List Output) : Type 0 where
  pub each : (side : Side) → MayLeave (state side) (left side)
  pub put : List Output
  pub rest : List Output
  pub parts : more ≡ put ++ rest
  pub outlet : told ≡ sent ++ put

pub record Puts {D : Type 0} (s : Ghosts D) (outputs : List Output) (old new : D) : Type 0 where
  pub same_honest : s.honest old ↔ s.honest new
  pub same_state : s.honest old → s.state new ≡ s.state old
  pub told : s.tells new → s.tells old × (s.sent new ≡ s.sent old ++ outputs)
  pub moments : s.honest old → s.tells new → EachMoment s old new (IsPutting (s.state old) (s.sent old) outputs)
  -- at each moment a crash leaves what it might have left before, also where the outlet doesn't tell
  pub contents : s.honest old → EachLeaves s (MayBeLeft (s.state old)) old new
  pub same_failures : s.failures new ≡ s.failures old

abbrev pub on_link : Core → Message → LinkRow → List Output
on_link c m row = if set.contains c.churn.changes.left row.peer then [] else output.Send row.peer (c.posts - row.start) m ∷ []

abbrev pub request_of : Reply → Answered
request_of reply = record { session = reply.session; request = reply.request }

abbrev pub new_post : ℕ → Node → Option Message
new_post before n = if nat_lt before n.core.posts then table.get n.outbox.posts n.core.posts else None

abbrev pub kept_reply : Answered → Option Answer → List Reply
kept_reply answered None = []
kept_reply answered (Some answer) = record { session = answered.session; request = answered.request; answer = answer } ∷ []

abbrev pub kept_replies : List Answered → Outbox → List Reply
kept_replies [] o = []
kept_replies (answered ∷ more) o = kept_reply answered (table.get o.answers answered.session) ++ kept_replies more o
