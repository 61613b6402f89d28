-- Why a core refuses an event.
--     own_reason              never for want of memory, nor for a full queue
--     refuses_own             what an intake says where its core refuses
--     decides_after           an intake's core decides as the core after its entries
--     may_accept              where it doesn't refuse an event, and the life has room
--     refuses_made            what an intake says where its core refuses, or finds no memory
use Rattle.std.proofs.Common.{◌≡◌, inl, inr, refl, sym, Bool, true, false, List, [], ◌∷◌, ℕ, ◌<◌, length, ap, subst, arith}
use Rattle.std.specs.Prelude.{◌⊎◌, Option, Some, None, IfSome, ⊤}
use Rattle.std.specs.Bool.{then_some}
use Rattle.std.specs.List.{AllByRecursion}
use Rattle.cc_messages.specs.declared.event.Event.{Event}
use Rattle.cc_messages.specs.declared.event.Event.TheVariants as event
use Rattle.cc_messages.specs.declared.refusal.Refusal.{Refusal}
use Rattle.cc_messages.specs.declared.refusal.Refusal.TheVariants as refusal
use Rattle.cc_messages.specs.Refusals.{first_of}
use Rattle.cc_node.specs.Core.{Core}
use Rattle.cc_node.specs.Node.{Node}
use Rattle.cc_ops.specs.WaitingAsks.{line_limit}
use Rattle.cc_node.specs.Refusals.{reasons, decides, decides_within}
use Rattle.cc_journal.specs.declared.entry.Entry.{Entry}
use Rattle.cc_intake.specs.Intakes.{Accepting}
use Rattle.cc_intake.specs.Histories.{life_limit, core_after}
use Rattle.cc_intake.specs.Refusals.{MayAccept, Refuses}

-- a core's reason
abbrev IsOwn : Refusal → Type 0
IsOwn refusal.NoMemory = ⊥
IsOwn refusal.QueueFull = ⊥
IsOwn r = ⊤

own : (b : Bool) (r : Refusal) → IsOwn r → IfSome (then_some b r) IsOwn
own true r is = is
own false r is = tt

first_own : (rs : List (Option Refusal)) → AllByRecursion (λ r. IfSome r IsOwn) rs → IfSome (first_of rs) IsOwn
first_own [] all = tt
first_own (None ∷ rs) all = first_own rs all.1
first_own (Some r ∷ rs) all = all.0

own_reasons : (c : Core) (e : Event) → AllByRecursion (λ r. IfSome r IsOwn) (reasons line_limit c e)
own_reasons c event.Enter = (own _ _ tt, (own _ _ tt, (own _ _ tt, (own _ _ tt, tt))))
own_reasons c event.Leave = (own _ _ tt, (own _ _ tt, (own _ _ tt, (own _ _ tt, tt))))
own_reasons c (event.Deliver from n m) = (own _ _ tt, (own _ _ tt, (own _ _ tt, (own _ _ tt, (own _ _ tt, (own _ _ tt, (own _ _ tt, tt)))))))
own_reasons c (event.Acked peer n) = (own _ _ tt, (own _ _ tt, tt))
own_reasons c (event.Ask s r command) = (
  own _ _ tt,
  (own _ _ tt, (own _ _ tt, (own _ _ tt, (own _ _ tt, (own _ _ tt, (own _ _ tt, (own _ _ tt, (own _ _ tt, (own _ _ tt, (own _ _ tt, tt)))))))))),
)
own_reasons c (event.Retire q) = (own _ _ tt, (own _ _ tt, (own _ _ tt, (own _ _ tt, (own _ _ tt, tt)))))
own_reasons c (event.Lapse q) = (own _ _ tt, (own _ _ tt, (own _ _ tt, (own _ _ tt, (own _ _ tt, tt)))))
own_reasons c event.Snapshot = (own _ _ tt, (own _ _ tt, (own _ _ tt, (own _ _ tt, (own _ _ tt, tt)))))
own_reasons c (event.Skip from posts) = (own _ _ tt, (own _ _ tt, (own _ _ tt, (own _ _ tt, (own _ _ tt, (own _ _ tt, tt))))))
own_reasons c (event.Share share) = (own _ _ tt, (own _ _ tt, (own _ _ tt, (own _ _ tt, (own _ _ tt, tt)))))

own_reason : (c : Core) (e : Event) → IfSome (decides c e) IsOwn
unfolding decides decides_within
own_reason c e = first_own (reasons line_limit c e) (own_reasons c e)

is_own : (c : Core) (e : Event) (r : Refusal) → decides c e ≡ Some r → IsOwn r
is_own c e r is = subst (λ d. IfSome d IsOwn) is (own_reason c e)

pub refuses_own : (opening : Node) (taken : ℕ → List Entry → Type 0) (i j : Accepting) (e : Event) (r : Refusal)
    → decides (core_after opening i.entries) e ≡ Some r → j ≡ i → Refuses opening taken i e r j
refuses_own opening taken i j e refusal.Spent is same = (inl is, same)
refuses_own opening taken i j e refusal.NoMemory is same = absurd (is_own (core_after opening i.entries) e refusal.NoMemory is)
refuses_own opening taken i j e refusal.QueueFull is same = absurd (is_own (core_after opening i.entries) e refusal.QueueFull is)
refuses_own opening taken i j e r is same = (is, same)

-- an intake's core decides as the core after its entries
pub decides_after : (opening : Node) (i j : Accepting) (core : Core) (e : Event) (d : Option Refusal)
    → j ≡ i → core ≡ core_after opening j.entries → decides core e ≡ d → decides (core_after opening i.entries) e ≡ d
decides_after opening i j core e d same is decided = subst (λ (k : Accepting). decides (core_after opening k.entries) e ≡ d) same
    (subst (λ (k : Core). decides k e ≡ d) is decided)

-- where an intake's core doesn't refuse an event, and the life has room
pub may_accept : (opening : Node) (i j : Accepting) (core : Core) (accepted : ℕ) (e : Event)
    → j ≡ i → core ≡ core_after opening j.entries → accepted ≡ length j.entries → decides core e ≡ None → accepted < life_limit → MayAccept opening i e
may_accept opening i j core accepted e same is count free room =
    let n = ap (λ (k : Accepting). length k.entries) same in
    (decides_after opening i j core e None same is free, omega (arith, n, count, room))

pub refuses_made : (opening : Node) (taken : ℕ → List Entry → Type 0) (i j : Accepting) (core : Core) (accepted : ℕ) (e : Event) (r : Refusal)
    → j ≡ i → core ≡ core_after opening j.entries → accepted ≡ length j.entries → accepted < life_limit
    → (decides core e ≡ Some r) ⊎ ((decides core e ≡ None) × (r ≡ refusal.NoMemory)) → Refuses opening taken i e r i
refuses_made opening taken i j core accepted e r same is count room (inl own) =
    refuses_own opening taken i i e r (decides_after opening i j core e (Some r) same is own) refl
refuses_made opening taken i j core accepted e r same is count room (inr free) =
    subst (λ (s : Refusal). Refuses opening taken i e s i) (sym free.1) (may_accept opening i j core accepted e same is count free.0 room, refl)
