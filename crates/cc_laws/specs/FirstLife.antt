-- What a crash leaves of a site where a node lived, and how far a first life goes.
--     life_left        the life of these events that a crash ends which leaves this
--     LeavesLife       whatever a crash leaves now ends such a life, of which so many events are durable
--     LeavesAll        so it does with all events durable, and what it leaves stands for the node after all of them
--     IsOfFirstLife    a moment at which no side is armed, or both stand for the node, or at which such a life may end
--     LifeStops        what a crash leaves where a first life stops early, and when it does
--     LifeRose         a device fault is told where the count of failures rose, and only there
use Rattle.std.specs.Prelude.{◌≡◌, ◌⊎◌, ◌≤◌, ℕ, List, [], ◌∷◌, length}
use Rattle.cc_messages.specs.declared.event.Event.{Event}
use Rattle.cc_messages.specs.declared.output.Output.{Output}
use Rattle.cc_site.specs.declared.site.Side.{Side}
use Rattle.cc_site.specs.Sides.{SideState}
use Rattle.cc_site.specs.Moments.{Contents, Rose}
use Rattle.cc_site.specs.Crashes.{AfterCrash}
use Rattle.cc_node.specs.Node.{Node, after}
use Rattle.cc_flush.specs.declared.format_sides.FormatFault.{FormatFault}
use Rattle.cc_checkpoint.specs.Faults.{FaultRose}
use Rattle.cc_journal.specs.Journals.{room_limit}
use Rattle.cc_flush.specs.FormatSides.{IsNoneOrWhole, FormatRose}
use Rattle.cc_flush.specs.Openings.{IsReadingFault, Opens}
use Rattle.cc_laws.specs.declared.first_life.Stopped.{Stopped}
use Rattle.cc_laws.specs.declared.first_life.Stopped.TheVariants.{Format, Open, NoRoom, Commit}
use Rattle.cc_laws.specs.Lives.{Life, IsLifeOf, LivesFrom}

abbrev pub life_left : List Event → ℕ → ℕ → Contents → List Output → Life
life_left events durable opening left told = record { events = events; durable = durable; opening = opening; left = left; told = told }

abbrev pub LeavesLife : (Side → SideState) → List Output → Node → List Event → ℕ → ℕ → Type 0
LeavesLife state sent start events durable opening = AfterCrash state sent (λ left told. IsLifeOf start (life_left events durable opening left told))

abbrev pub LeavesAll : (Side → SideState) → List Output → Node → List Event → ℕ → Type 0
LeavesAll state sent start events opening =
    AfterCrash state sent (λ left told. LivesFrom start (life_left events (length events) opening left told ∷ []) (after start events))

-- the first two while it is formatted, when nothing is put
abbrev pub IsOfFirstLife : Node → List Event → List Output → Contents → List Output → Type 0
IsOfFirstLife start events sent left told = IsNoneOrWhole start sent left told ⊎ IsLifeOf start (life_left events 0 (length sent) left told)

-- Formatting says itself what it leaves, and why. Before the batch was written the life has no event: what was formatted is
-- opened unless a disk call fails or memory is wanting, and there is room unless the side in use is that long. Where a disk
-- call failed for the batch, the life has its events, of which none is surely durable.
abbrev pub LifeStops : (FormatFault → Type 0) → (Side → SideState) → List Output → Node → List Event → ℕ → Stopped → Type 0
LifeStops Unformatted state sent start events opening (Format fault) = Unformatted fault
LifeStops Unformatted state sent start events opening (Open fault) = (¬ IsReadingFault fault) × LeavesLife state sent start [] 0 opening
LifeStops Unformatted state sent start events opening NoRoom =
    ((side : Side) × (room_limit ≤ length (state side).bytes)) × LeavesLife state sent start [] 0 opening
LifeStops Unformatted state sent start events opening (Commit failed) = LeavesLife state sent start events 0 opening

abbrev pub LifeRose : ℕ → ℕ → Stopped → Type 0
LifeRose before now (Format fault) = FormatRose before now fault
LifeRose before now (Open fault) = FaultRose Opens before now fault
LifeRose before now NoRoom = now ≡ before
LifeRose before now (Commit failed) = Rose before now
