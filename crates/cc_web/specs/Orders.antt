-- Which order a request is: the first fault that it has, in the order of these checks, else what it asks for.
use Rattle.std.specs.Prelude.{ℕ, ◌==◌, Bool, true, false, ◌&&◌, not, List, length, take, Option, Some, None, Result, Ok, Err, codes, if◌then◌else◌}
use Rattle.std.specs.Option.{option_copied, option_and_then, ok_or}
use Rattle.cc_web.specs.Bodies.{is_plain, written_in}
use Rattle.cc_web.specs.Calls.{call_of, is_write, is_one_ask}
use Rattle.cc_web.specs.Keys.{key_in}
use Rattle.cc_web.specs.Origins.{is_allowed, is_foreign}
use Rattle.cc_web.specs.Places.{place_at}
use Rattle.cc_web.specs.Timeouts.{timeout_in}
use Rattle.cc_web.specs.Words.{is_text, number_in}
use Rattle.cc_web.specs.declared.call.Call.{Call}
use Rattle.cc_web.specs.declared.call.Call.TheVariants as call
use Rattle.cc_web.specs.declared.fault.WebFault.{WebFault}
use Rattle.cc_web.specs.declared.fault.WebFault.TheVariants as fault
use Rattle.cc_web.specs.declared.order.Task.{Task}
use Rattle.cc_web.specs.declared.order.Task.TheVariants as task
use Rattle.cc_web.specs.declared.order.WebOrder.{WebOrder}
use Rattle.cc_web.specs.declared.request.WebRequest.{WebRequest}
use Rattle.cc_web.specs.declared.request.WebSettings.{WebSettings}

-- browsers begin with it, and other clients don't
unfoldable pub is_html : Option (List ℕ) → Bool
is_html None = false
is_html (Some accept) = is_text (codes "text/html") (take 9 accept)

-- how many stores the last event of a stream had; another word is as good as none
abbrev pub known_in : Option (List ℕ) → Option ℕ
known_in field = option_and_then (number_in 64) field

-- what needs no body takes none
abbrev pub read_of : Call → Bool → Option ℕ → Task
read_of call.Overview is_html known = task.Overview is_html
read_of (call.LastRequest session) is_html known = task.LastRequest session
read_of call.Snapshot is_html known = task.Snapshot
read_of call.Changes is_html known = task.Changes known
read_of (call.Read command) is_html known = task.Ask command
read_of (call.Preflight place) is_html known = task.Preflight place
read_of (call.Write what) is_html known = task.Overview is_html

infixl 10 ◌>>=◌
abbrev pub ◌>>=◌ : {A B : Type 0} → Result A WebFault → (A → Result B WebFault) → Result B WebFault
(Ok a) >>= rest = rest a
(Err why) >>= rest = Err why

-- a check that fails where the test holds
abbrev pub fails_if : Bool → WebFault → Result (Unit {0}) WebFault
fails_if true why = Err why
fails_if false why = Ok tt

unfoldable pub task_of : Call → List ℕ → Bool → Option ℕ → Result Task WebFault
task_of (call.Write what) body is_html known = written_in what body >>= (λ c. Ok (task.Ask c))
task_of c body is_html known = if length body == 0 then Ok (read_of c is_html known) else Err fault.TooLong

abbrev pub order_of : WebSettings → WebRequest → Result WebOrder WebFault
order_of settings request = do
  let origin = option_copied request.origin
  let from_allowed = is_allowed (option_copied settings.allowed_origin) origin
  let body = request.body.now
  place ← ok_or (place_at request.path.now) fault.NoPlace
  c ← ok_or (call_of place request.method.now from_allowed) (fault.Method place)
  timeout ← timeout_in (option_copied request.query)
  _ ← fails_if (is_write c && not from_allowed && is_foreign origin (option_copied request.sec_fetch_site)) fault.Origin
  key ← key_in (option_copied request.idempotency_key) settings.own_sessions (is_one_ask c)
  _ ← fails_if (not (length body == 0) && not (is_plain (option_copied request.content_type))) fault.ContentType
  what ← task_of c body (is_html (option_copied request.accept)) (known_in (option_copied request.last_event_id))
  Ok (record { task = what; key = key; timeout_ms = timeout })
