-- What holds of every order, whatever was sent.
--     changes                            it changes what the node stores
--     SafeMethodsChangeNothing           only PUT and POST do
--     OtherPagesChangeNothing            nor does a page of another origin, but the allowed one
--     KeysAreTheClients                  a key is none of the node's own, and goes with one ask
--     TimesAreBounded                    an order has some time, of a minute at most
use Rattle.std.specs.Prelude.{◌≡◌, ◌⊎◌, ◌≤◌, Bool, true, false, Some, Ok, codes}
use Rattle.std.specs.Option.{option_copied}
use Rattle.cc_messages.specs.declared.command.Command.{Command}
use Rattle.cc_messages.specs.declared.command.Command.TheVariants as command
use Rattle.cc_web.specs.Keys.{is_own}
use Rattle.cc_web.specs.Orders.{order_of}
use Rattle.cc_web.specs.Origins.{is_allowed, is_foreign}
use Rattle.cc_web.specs.Timeouts.{most_timeout}
use Rattle.cc_web.specs.declared.key.AskKey.{AskKey}
use Rattle.cc_web.specs.declared.order.Task.{Task}
use Rattle.cc_web.specs.declared.order.Task.TheVariants as task
use Rattle.cc_web.specs.declared.order.WebOrder.{WebOrder}
use Rattle.cc_web.specs.declared.request.WebRequest.{WebRequest}
use Rattle.cc_web.specs.declared.request.WebSettings.{WebSettings}

abbrev pub stores : Command → Bool
stores (command.Store text) = true
stores (command.WriteMax n) = true
stores command.SetFlag = true
stores (command.AddMember n) = true
stores _ = false

abbrev pub changes : Task → Bool
changes (task.Ask c) = stores c
changes _ = false

abbrev pub is_ask : Task → Bool
is_ask (task.Ask c) = true
is_ask _ = false

abbrev pub SafeMethodsChangeNothing : Type 0
SafeMethodsChangeNothing = (settings : WebSettings) (request : WebRequest) (order : WebOrder) → order_of settings request ≡ Ok order
    → changes order.task ≡ true → (request.method.now ≡ codes "PUT") ⊎ (request.method.now ≡ codes "POST")

abbrev pub OtherPagesChangeNothing : Type 0
OtherPagesChangeNothing = (settings : WebSettings) (request : WebRequest) (order : WebOrder) → order_of settings request ≡ Ok order
    → changes order.task ≡ true → (is_allowed (option_copied settings.allowed_origin) (option_copied request.origin) ≡ true)
    ⊎ (is_foreign (option_copied request.origin) (option_copied request.sec_fetch_site) ≡ false)

pub record IsClients (settings : WebSettings) (key : AskKey) (what : Task) : Type 0 where
  pub session : 1 ≤ key.session
  pub request : 1 ≤ key.request
  pub other : is_own key.session settings.own_sessions ≡ false
  pub one : is_ask what ≡ true

abbrev pub KeysAreTheClients : Type 0
KeysAreTheClients = (settings : WebSettings) (request : WebRequest) (order : WebOrder) (key : AskKey) → order_of settings request ≡ Ok order
    → order.key ≡ Some key → IsClients settings key order.task

abbrev pub TimesAreBounded : Type 0
TimesAreBounded = (settings : WebSettings) (request : WebRequest) (order : WebOrder) → order_of settings request ≡ Ok order
    → (1 ≤ order.timeout_ms) × (order.timeout_ms ≤ most_timeout)
