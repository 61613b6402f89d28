-- Which response an answer is.
--     answer_json, last_request_json       the body that gives an answer;  that tells the last request of a session
--     json_head, events_head, problem_head, overview_head, preflight_head       the heads
--     form_value, field_name, field_value      how the fields of a head are written
use Rattle.std.specs.Prelude.{ℕ, Bool, true, false, List, [], ◌∷◌, Option, Some, None, codes}
use Rattle.std.specs.Fmt.{decimal}
use Rattle.std.specs.List.{concat}
use Rattle.cc_views.specs.NatSets.{items}
use Rattle.cc_views.specs.Rows.{rows_of}
use Rattle.cc_views.specs.declared.row.Row.{Row}
use Rattle.cc_messages.specs.declared.answer.Answer.{Answer}
use Rattle.cc_messages.specs.declared.answer.Answer.TheVariants as answers
use Rattle.cc_web.specs.Json.{flag_json, numbers_json, rows_json}
use Rattle.cc_web.specs.Places.{methods_of}
use Rattle.cc_web.specs.Problems.{status_of}
use Rattle.cc_web.specs.declared.fault.WebFault.TheVariants as fault
use Rattle.cc_web.specs.declared.place.Place.{Place}
use Rattle.cc_web.specs.declared.problem.Problem.{Problem}
use Rattle.cc_web.specs.declared.problem.Problem.TheVariants as problem
use Rattle.cc_web.specs.declared.response.Form.{Form}
use Rattle.cc_web.specs.declared.response.Form.TheVariants as form
use Rattle.cc_web.specs.declared.response.WebField.{WebField}
use Rattle.cc_web.specs.declared.response.WebField.TheVariants as header
use Rattle.cc_web.specs.declared.response.WebHead.{WebHead}
use Rattle.cc_web.specs.declared.status.Status.{Status}
use Rattle.cc_web.specs.declared.status.Status.TheVariants as status

-- how many collects a snapshot took
abbrev pub collects_json : Option ℕ → List ℕ
collects_json None = []
collects_json (Some collects) = concat (codes ",\"collects\":" ∷ decimal collects ∷ [])

abbrev pub view_json : List Row → Option ℕ → List ℕ
view_json rows collects = concat (codes "{\"rows\":" ∷ rows_json rows ∷ collects_json collects ∷ codes "}" ∷ [])

abbrev pub set_json : List ℕ → List ℕ
set_json numbers = concat (codes "{\"set\":" ∷ numbers_json numbers ∷ codes "}" ∷ [])

abbrev pub answer_json : Answer → Option ℕ → List ℕ
answer_json answers.Stored collects = codes "{\"answer\":\"Stored\"}"
answer_json (answers.Seen view) collects = view_json (rows_of view) collects
answer_json (answers.Max max) collects = concat (codes "{\"max\":\"" ∷ decimal max ∷ codes "\"}" ∷ [])
answer_json (answers.Flag flag) collects = concat (codes "{\"flag\":" ∷ flag_json flag ∷ codes "}" ∷ [])
answer_json (answers.Set numbers) collects = set_json (items numbers)

abbrev pub last_request_json : ℕ → ℕ → List ℕ
last_request_json session last = concat
    (codes "{\"session\":\"" ∷ decimal session ∷ codes "\",\"last_request\":\"" ∷ decimal last ∷ codes "\"}" ∷ [])

abbrev pub form_value : Form → Option (List ℕ)
form_value form.Json = Some (codes "application/json")
form_value form.Problem = Some (codes "application/problem+json")
form_value form.Html = Some (codes "text/html; charset=utf-8")
form_value form.Events = Some (codes "text/event-stream")
form_value form.Nothing = None

abbrev pub field_name : WebField → List ℕ
field_name (header.Allow place) = codes "allow"
field_name header.RetryAfter = codes "retry-after"
field_name header.Policy = codes "content-security-policy"
field_name (header.AllowMethods place) = codes "access-control-allow-methods"

abbrev pub field_value : WebField → List ℕ
field_value (header.Allow place) = methods_of place
field_value header.RetryAfter = codes "1"
field_value header.Policy = codes "default-src 'none'; style-src 'unsafe-inline'; frame-ancestors 'none'"
field_value (header.AllowMethods place) = methods_of place

abbrev pub json_head : WebHead
json_head = record { status = status.Ok; form = form.Json; field = None }

abbrev pub events_head : WebHead
events_head = record { status = status.Ok; form = form.Events; field = None }

-- what passes is worth another try
abbrev pub retry_field : Status → Option WebField
retry_field status.Unavailable = Some header.RetryAfter
retry_field _ = None

abbrev pub problem_field : Problem → Option WebField
problem_field (problem.Fault (fault.Method place)) = Some (header.Allow place)
problem_field p = retry_field (status_of p)

abbrev pub problem_head : Problem → WebHead
problem_head p = record { status = status_of p; form = form.Problem; field = problem_field p }

abbrev pub overview_head : Bool → WebHead
overview_head true = record { status = status.Ok; form = form.Html; field = Some header.Policy }
overview_head false = json_head

abbrev pub preflight_head : Place → WebHead
preflight_head place = record { status = status.NoContent; form = form.Nothing; field = Some (header.AllowMethods place) }
