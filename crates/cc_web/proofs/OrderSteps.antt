-- The checks that an order has passed.
--     okay                                   what a check leaves that passed
--     ok_is, first_step, some_of, passed     what is known behind one
--     Steps, steps                           behind all of them
use Rattle.std.proofs.Common.{◌≡◌, ℕ, ◌&&◌, ◌==◌, not, Bool, true, false, length, Option, Some, None, Result, Ok, Err, refl, ap, subst}
use Rattle.std.specs.Option.{option_copied, ok_or}
use Rattle.cc_web.specs.Bodies.{is_plain}
use Rattle.cc_web.specs.Calls.{call_of, is_write, is_one_ask}
use Rattle.cc_web.specs.Keys.{key_in}
use Rattle.cc_web.specs.Orders.{◌>>=◌, fails_if, is_html, known_in, task_of, order_of}
use Rattle.cc_web.specs.Origins.{is_allowed, is_foreign}
use Rattle.cc_web.specs.Places.{place_at}
use Rattle.cc_web.specs.Timeouts.{timeout_in}
use Rattle.cc_web.specs.declared.call.Call.{Call}
use Rattle.cc_web.specs.declared.fault.WebFault.{WebFault}
use Rattle.cc_web.specs.declared.fault.WebFault.TheVariants as fault
use Rattle.cc_web.specs.declared.key.AskKey.{AskKey}
use Rattle.cc_web.specs.declared.order.Task.{Task}
use Rattle.cc_web.specs.declared.order.WebOrder.{WebOrder}
use Rattle.cc_web.specs.declared.place.Place.{Place}
use Rattle.cc_web.specs.declared.request.WebRequest.{WebRequest}
use Rattle.cc_web.specs.declared.request.WebSettings.{WebSettings}

abbrev pub okay : {A : Type 0} → A → Result A WebFault
okay a = Ok a

pub ok_is : {A : Type 0} (a b : A) → okay a ≡ okay b → a ≡ b
ok_is a b e = cc

pub first_step : {A B : Type 0} (r : Result A WebFault) (rest : A → Result B WebFault) (b : B) → (r >>= rest) ≡ Ok b
    → (a : A) × (r ≡ Ok a) × (rest a ≡ Ok b)
first_step (Ok a) rest b e = (a, refl, e)
first_step (Err why) rest b e = absurd (cc)

pub some_of : {A : Type 0} (o : Option A) (why : WebFault) (a : A) → ok_or o why ≡ Ok a → o ≡ Some a
some_of (Some x) why a e = ap Some (ok_is x a e)
some_of None why a e = absurd (cc)

pub passed : (b : Bool) (why : WebFault) (u : Unit {0}) → fails_if b why ≡ Ok u → b ≡ false
passed true why u e = absurd (cc)
passed false why u e = refl

abbrev pub from_allowed : WebSettings → WebRequest → Bool
from_allowed s q = is_allowed (option_copied s.allowed_origin) (option_copied q.origin)

abbrev pub foreign : WebRequest → Bool
foreign q = is_foreign (option_copied q.origin) (option_copied q.sec_fetch_site)

abbrev pub html_in : WebRequest → Bool
html_in q = is_html (option_copied q.accept)

abbrev pub known_to : WebRequest → Option ℕ
known_to q = known_in (option_copied q.last_event_id)

abbrev pub task_in : WebRequest → Call → Result Task WebFault
task_in q c = task_of c q.body.now (html_in q) (known_to q)

abbrev ordered : ℕ → Option AskKey → Task → Result WebOrder WebFault
ordered t k w = let o : WebOrder = record { task = w; key = k; timeout_ms = t } in okay o

abbrev behind_key : WebRequest → Call → ℕ → Option AskKey → Result WebOrder WebFault
behind_key q c t k = fails_if (not (length q.body.now == 0) && not (is_plain (option_copied q.content_type))) fault.ContentType
    >>= (λ (_ : Unit {0}). task_in q c >>= (λ (w : Task). ordered t k w))

abbrev behind_origin : WebSettings → WebRequest → Call → ℕ → Result WebOrder WebFault
behind_origin s q c t = key_in (option_copied q.idempotency_key) s.own_sessions (is_one_ask c) >>= (λ (k : Option AskKey). behind_key q c t k)

abbrev behind_timeout : WebSettings → WebRequest → Call → ℕ → Result WebOrder WebFault
behind_timeout s q c t = fails_if (is_write c && not (from_allowed s q) && foreign q) fault.Origin >>= (λ (_ : Unit {0}). behind_origin s q c t)

abbrev behind_call : WebSettings → WebRequest → Call → Result WebOrder WebFault
behind_call s q c = timeout_in (option_copied q.query) >>= (λ (t : ℕ). behind_timeout s q c t)

abbrev behind_place : WebSettings → WebRequest → Place → Result WebOrder WebFault
behind_place s q p = ok_or (call_of p q.method.now (from_allowed s q)) (fault.Method p) >>= (λ (c : Call). behind_call s q c)

at_order : (P : WebOrder → Type 0) (made order : WebOrder) → made ≡ order → P made → P order
at_order P made order is holds = subst P is holds

pub record Steps (s : WebSettings) (q : WebRequest) (order : WebOrder) : Type 0 where
  pub place : Place
  pub call : Call
  pub is_call : call_of place q.method.now (from_allowed s q) ≡ Some call
  pub timeout : timeout_in (option_copied q.query) ≡ Ok order.timeout_ms
  pub origin : (is_write call && not (from_allowed s q) && foreign q) ≡ false
  pub key : key_in (option_copied q.idempotency_key) s.own_sessions (is_one_ask call) ≡ Ok order.key
  pub task : task_in q call ≡ Ok order.task

pub steps : (s : WebSettings) (q : WebRequest) (order : WebOrder) → order_of s q ≡ Ok order → Steps s q order
steps s q order e =
    let p = first_step (ok_or (place_at q.path.now) fault.NoPlace) (λ (p : Place). behind_place s q p) order e in
    let c = first_step (ok_or (call_of p.0 q.method.now (from_allowed s q)) (fault.Method p.0)) (λ (c : Call). behind_call s q c) order p.2 in
    let t = first_step (timeout_in (option_copied q.query)) (λ (t : ℕ). behind_timeout s q c.0 t) order c.2 in
    let o = first_step (fails_if (is_write c.0 && not (from_allowed s q) && foreign q) fault.Origin) (λ (_ : Unit {0}). behind_origin s q c.0 t.0) order t.2 in
    let k = first_step (key_in (option_copied q.idempotency_key) s.own_sessions (is_one_ask c.0)) (λ (k : Option AskKey). behind_key q c.0 t.0 k) order o.2 in
    let y = first_step (fails_if (not (length q.body.now == 0) && not (is_plain (option_copied q.content_type))) fault.ContentType)
    (λ (_ : Unit {0}). task_in q c.0 >>= (λ (w : Task). ordered t.0 k.0 w)) order k.2 in
    let w = first_step (task_in q c.0) (λ (w : Task). ordered t.0 k.0 w) order y.2 in
    let made : WebOrder = record { task = w.0; key = k.0; timeout_ms = t.0 } in
    let is : made ≡ order = ok_is made order w.2 in
    record {
      place = p.0;
      call = c.0;
      is_call = some_of (call_of p.0 q.method.now (from_allowed s q)) (fault.Method p.0) c.0 c.1;
      timeout = at_order (λ (x : WebOrder). timeout_in (option_copied q.query) ≡ Ok x.timeout_ms) made order is t.1;
      origin = passed (is_write c.0 && not (from_allowed s q) && foreign q) fault.Origin o.0 o.1;
      key = at_order (λ (x : WebOrder). key_in (option_copied q.idempotency_key) s.own_sessions (is_one_ask c.0) ≡ Ok x.key) made order is k.1;
      task = at_order (λ (x : WebOrder). task_in q c.0 ≡ Ok x.task) made order is w.1;
    }
