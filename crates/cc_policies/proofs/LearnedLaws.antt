-- What a client learns by asking under number 0.
--     zero_told     the session's last request, where the node serves requests of the session
use Rattle.std.proofs.Common.{◌≡◌, ℕ, ◌<◌, ◌≤◌, ◌==◌, ◌&&◌, ◌||◌, Bool, true, false, Option, Some, None, refl, arith}
use Rattle.std.specs.Prelude.{IfSome, is_some, unwrap_or, nat_lt}
use Rattle.std.specs.FinMap as table
use Rattle.std.proofs.lemmas.Bool.Decides.{nat_tests}
use Rattle.cc_messages.specs.declared.command.Command.{Command}
use Rattle.cc_messages.specs.declared.event.Event.TheVariants as event
use Rattle.cc_messages.specs.declared.refusal.Refusal.TheVariants as refusal
use Rattle.cc_views.specs.Limits.{counter_limit}
use Rattle.cc_sessions.specs.Sessions.{last_request, is_repeat, is_stale}
use Rattle.cc_node.specs.Core.{Core}
use Rattle.cc_node.specs.Lawful.{IsLawfulCore}
use Rattle.cc_node.specs.Refusals as reason
use Rattle.cc_node.specs.Refusals.{decides, decides_within}

or_true : (b : Bool) → (b || true) ≡ true
or_true true = refl
or_true false = refl

no_repeat : (o : Option ℕ) → IfSome o (λ last. (0 < last) × (last ≤ counter_limit)) → (is_some o && (0 == unwrap_or o 0)) ≡ false
no_repeat None h = refl
no_repeat (Some last) h = grind (arith, nat_tests, h.0)

pub zero_told : (c : Core) (s : ℕ) (k : Command) → IsLawfulCore c → reason.left c ≡ None → reason.not_entered c ≡ None → reason.not_joined c ≡ None
    → reason.too_many_sessions c s ≡ None
    → decides c (event.Ask s 0 k) ≡ Some (refusal.Stale (last_request c.sessions s))
unfolding decides decides_within
zero_told c s k is stays entered joined room =
    let fresh : is_repeat c.sessions s 0 ≡ false = no_repeat (table.get c.sessions s) (is.sessions s) in
    let old : is_stale c.sessions s 0 ≡ true = or_true (nat_lt 0 (last_request c.sessions s)) in
    rw (stays, entered, joined, room, fresh, old) refl
