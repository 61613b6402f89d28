-- What the service does with a request, and which response it is sent.
--     order_in       the order that a request is, or its first fault
--     Handles        the steps that it takes, and the reply
--     Sends          the response that gives a reply
--     Answers        the whole
use Rattle.std.specs.Prelude.{◌≡◌, ◌⊎◌, ℕ, List, [], Option, Result, Ok, Err}
use Rattle.http.specs.declared.request.Request.{Request}
use Rattle.http_server.specs.Response.{IsResponse}
use Rattle.http_server.specs.declared.response.Response.{Response}
use Rattle.cc_web.specs.Orders.{order_of}
use Rattle.cc_web.specs.Statuses.{code_of}
use Rattle.cc_web.specs.declared.fault.WebFault.{WebFault}
use Rattle.cc_web.specs.declared.order.WebOrder.{WebOrder}
use Rattle.cc_web.specs.declared.problem.Problem.TheVariants as problem
use Rattle.cc_web.specs.declared.request.WebRequest.{WebRequest}
use Rattle.cc_web.specs.declared.request.WebSettings.{WebSettings}
use Rattle.cc_web.specs.declared.reply.Reply.{Reply}
use Rattle.cc_web.specs.declared.reply.Reply.TheVariants as replies
use Rattle.cc_web.specs.Conducts.{Conducts}
use Rattle.cc_web.specs.Replies.{head_of, HasBody}
use Rattle.cc_web.specs.Requests.{Reads, origin_of}
use Rattle.cc_web.specs.HttpResponses.{sent_fields}
use Rattle.cc_web.specs.Steps.{Step, Leads}

abbrev pub order_in : WebSettings → Result WebRequest WebFault → Result WebOrder WebFault
order_in settings (Ok request) = order_of settings request
order_in settings (Err why) = Err why

-- what is no order asks nothing of the node
abbrev pub Handles : Result WebOrder WebFault → List Step → Reply → Type 0
Handles (Ok order) steps r = Conducts order steps r
Handles (Err why) steps r = (steps ≡ []) × (r ≡ replies.Problem (problem.Fault why))

pub record Gives (origin : Option (List ℕ)) (r : Reply) (response : Response) : Type 0 where
  pub body : List ℕ
  pub has_body : HasBody r body
  pub sent : IsResponse (code_of (head_of r).status) (sent_fields (head_of r) origin) body response

-- the reply, or, where memory ran out, that something is wrong
abbrev pub Sends : Option (List ℕ) → Reply → Response → Type 0
Sends origin r response = Gives origin r response ⊎ IsResponse 500 [] [] response

pub record Answers {S : Type 0} (does : S → Step → S → Type 0) (settings : WebSettings) (old : S)
    (request : Request (List ℕ)) (response : Response) (new : S) : Type 0 where
  pub read : Result WebRequest WebFault
  pub reads : Reads request read
  pub steps : List Step
  pub leads : Leads does old steps new
  pub reply : Reply
  pub handles : Handles (order_in settings read) steps reply
  pub sends : Sends (origin_of settings request) reply response
