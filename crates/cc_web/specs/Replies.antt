-- What a request is answered with.
--     reply_of, own_reply      by what became of its ask;  of one under a session of the node's own
--     last_reply_of     to who asks for the last request of a session
--     head_of, HasBody  the head and the body of a reply
use Rattle.std.specs.Prelude.{◌≡◌, ⊤, ℕ, Bool, false, List, [], Option, Some, None, if◌then◌else◌}
use Rattle.cc_views.specs.Rows.{rows_of}
use Rattle.cc_messages.specs.declared.refusal.Refusal.TheVariants as refusal
use Rattle.cc_web.specs.Problems.{problem_json}
use Rattle.cc_web.specs.Changes.{change_event, no_event}
use Rattle.cc_web.specs.Responses.{answer_json, last_request_json, json_head, events_head, problem_head, overview_head, preflight_head}
use Rattle.cc_web.specs.declared.problem.Problem.TheVariants as problem
use Rattle.cc_web.specs.declared.response.WebHead.{WebHead}
use Rattle.cc_web.specs.declared.asked.Asked.{Asked}
use Rattle.cc_web.specs.declared.asked.Asked.TheVariants as asked
use Rattle.cc_web.specs.declared.reply.Reply.{Reply}
use Rattle.cc_web.specs.declared.reply.Reply.TheVariants as reply
use Rattle.cc_web.specs.Rounds.{is_behind}

abbrev pub reply_of : Bool → Asked → Reply
reply_of is_write (asked.Answered answer) = reply.Answer answer None
reply_of is_write (asked.Refused why) = reply.Problem (problem.Refused why)
reply_of is_write asked.Late = reply.Problem (problem.Late is_write)

-- of sessions that somebody else uses none is free either
abbrev pub own_reply : Bool → Option Asked → Reply
own_reply is_write (Some became) = if is_behind became then reply.Problem problem.NoSession else reply_of is_write became
own_reply is_write None = reply.Problem problem.NoSession

-- an ask under number 0 is refused with the last request
abbrev pub last_reply_of : ℕ → Asked → Reply
last_reply_of session (asked.Refused (refusal.Stale last)) = reply.LastRequest session last
last_reply_of session became = reply_of false became

abbrev pub head_of : Reply → WebHead
head_of (reply.Overview is_html) = overview_head is_html
head_of (reply.Preflight place) = preflight_head place
head_of (reply.Answer answer collects) = json_head
head_of (reply.Changed view) = events_head
head_of reply.Unchanged = events_head
head_of (reply.LastRequest session last) = json_head
head_of (reply.Problem why) = problem_head why

-- what stands in an overview is told by no definition
abbrev pub HasBody : Reply → List ℕ → Type 0
HasBody (reply.Overview is_html) body = ⊤
HasBody (reply.Preflight place) body = body ≡ []
HasBody (reply.Answer answer collects) body = body ≡ answer_json answer collects
HasBody (reply.Changed view) body = body ≡ change_event (rows_of view)
HasBody reply.Unchanged body = body ≡ no_event
HasBody (reply.LastRequest session last) body = body ≡ last_request_json session last
HasBody (reply.Problem why) body = body ≡ problem_json why
