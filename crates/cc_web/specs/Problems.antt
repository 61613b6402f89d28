-- Why a request has no answer, as problem details (RFC 9457).
--     status_of, detail_of     the status of a problem;  what it says to people
--     problem_json             its details
use Rattle.std.specs.Prelude.{ℕ, true, false, List, [], ◌∷◌, codes}
use Rattle.std.specs.Fmt.{decimal}
use Rattle.std.specs.List.{concat}
use Rattle.cc_messages.specs.Refusals.{number_of, name_of}
use Rattle.cc_messages.specs.declared.refusal.Refusal.{Refusal}
use Rattle.cc_messages.specs.declared.refusal.Refusal.TheVariants as refusal
use Rattle.cc_web.specs.Statuses.{code_of, title_of}
use Rattle.cc_web.specs.declared.fault.WebFault.{WebFault}
use Rattle.cc_web.specs.declared.fault.WebFault.TheVariants as fault
use Rattle.cc_web.specs.declared.problem.Problem.{Problem}
use Rattle.cc_web.specs.declared.problem.Problem.TheVariants as problem
use Rattle.cc_web.specs.declared.status.Status.{Status}
use Rattle.cc_web.specs.declared.status.Status.TheVariants as status

abbrev pub fault_status : WebFault → Status
fault_status fault.Twice = status.BadRequest
fault_status fault.NoPlace = status.NotFound
fault_status (fault.Method place) = status.NotAllowed
fault_status fault.Query = status.BadRequest
fault_status fault.Origin = status.Forbidden
fault_status fault.Key = status.BadRequest
fault_status fault.OwnSession = status.BadRequest
fault_status fault.ContentType = status.Unsupported
fault_status fault.TooLong = status.TooLarge
fault_status fault.Body = status.BadRequest

-- a refusal that may pass, one that stands against what is asked, and one of a node that can do no more
abbrev pub refused_status : Refusal → Status
refused_status refusal.Left = status.Gone
refused_status refusal.NotEntered = status.Unavailable
refused_status refusal.NotJoined = status.Unavailable
refused_status refusal.TooManySessions = status.Conflict
refused_status refusal.Repeat = status.Conflict
refused_status (refusal.Stale last) = status.Conflict
refused_status (refusal.Skip last) = status.Conflict
refused_status refusal.Busy = status.Unavailable
refused_status refusal.SetFull = status.Conflict
refused_status refusal.OutboxFull = status.Unavailable
refused_status refusal.NoMemory = status.Unavailable
refused_status refusal.QueueFull = status.Unavailable
refused_status _ = status.Fault

abbrev pub status_of : Problem → Status
status_of (problem.Fault why) = fault_status why
status_of (problem.Refused why) = refused_status why
status_of (problem.Late is_write) = status.Late
status_of problem.NoSession = status.Unavailable
status_of problem.NoSnapshot = status.Unavailable

abbrev pub fault_detail : WebFault → List ℕ
fault_detail fault.Twice = codes "a header field stands twice that may stand once"
fault_detail fault.NoPlace = codes "there is nothing at this path: GET /v1/ tells what there is"
fault_detail (fault.Method place) = codes "there is no such method at this path"
fault_detail fault.Query = codes "the query is no timeout such as timeout=5s or timeout=500ms, of a minute at most"
fault_detail fault.Origin = codes "a page of another origin may not write"
fault_detail fault.Key = codes "Idempotency-Key is no SESSION/REQUEST of two numbers from 1 on, or is not for this path"
fault_detail fault.OwnSession = codes "this session is one of the node's own"
fault_detail fault.ContentType = codes "the body is taken as it stands: as text/plain or application/octet-stream"
fault_detail fault.TooLong = codes "the body is longer than what is taken here"
fault_detail fault.Body = codes "the body is not what is written here: a text of 1 to 64 bytes, or a number"

abbrev pub refused_detail : Refusal → List ℕ
refused_detail refusal.Left = codes "the node has left the cluster for good"
refused_detail refusal.NotEntered = codes "the node has not joined the cluster yet"
refused_detail refusal.NotJoined = codes "the node has not joined the cluster yet"
refused_detail refusal.TooManySessions = codes "the node has all the sessions that it keeps, and this is another"
refused_detail refusal.Repeat = codes "this request of the session was asked before"
refused_detail (refusal.Stale last) = codes "the session is past this request"
refused_detail (refusal.Skip last) = codes "an earlier request of the session is missing"
refused_detail refusal.SetFull = codes "the node's own set is full"
refused_detail refusal.Busy = codes "the node is too busy: nothing was done"
refused_detail refusal.OutboxFull = codes "the node is too busy: nothing was done"
refused_detail refusal.NoMemory = codes "the node is too busy: nothing was done"
refused_detail refusal.QueueFull = codes "the node is too busy: nothing was done"
refused_detail _ = codes "the node can not do this any more"

abbrev pub detail_of : Problem → List ℕ
detail_of (problem.Fault why) = fault_detail why
detail_of (problem.Refused why) = refused_detail why
detail_of (problem.Late true) = codes "no answer in time: the write may still be done"
detail_of (problem.Late false) = codes "no answer in time: nothing was read"
detail_of problem.NoSession = codes "no session of the node's own is free: it has too many requests, or hasn't joined yet"
detail_of problem.NoSnapshot = codes "no two collects in a row showed the same view in time"

-- where a refusal tells the last request of its session
unfoldable pub last_json : Refusal → List ℕ
last_json (refusal.Stale last) = concat (codes ",\"last_request\":\"" ∷ decimal last ∷ codes "\"" ∷ [])
last_json (refusal.Skip last) = concat (codes ",\"last_request\":\"" ∷ decimal last ∷ codes "\"" ∷ [])
last_json _ = []

unfoldable pub refused_json : Refusal → List ℕ
refused_json why = concat
    (codes ",\"refusal\":\"" ∷ name_of why ∷ codes "\",\"number\":" ∷ decimal (number_of why) ∷ last_json why ∷ [])

abbrev pub reason_json : Problem → List ℕ
reason_json (problem.Refused why) = refused_json why
reason_json _ = []

-- `about:blank`: its title is that of its status
abbrev pub problem_json : Problem → List ℕ
problem_json p = concat
    (codes "{\"type\":\"about:blank\",\"title\":\"" ∷ title_of (status_of p) ∷ codes "\",\"status\":" ∷ decimal (code_of (status_of p))
    ∷ codes ",\"detail\":\"" ∷ detail_of p ∷ codes "\"" ∷ reason_json p ∷ codes "}" ∷ [])
