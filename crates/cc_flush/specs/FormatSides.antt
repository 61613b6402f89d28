-- What formatting leaves.
--     BeginsWith          the first byte is that one
--     AreShut, StayShut   each side begins with the byte that is written for a closed gate, whatever a crash leaves;  at a moment with
--                         any byte but that of an open one
--     Arms                while an image is put behind the closed gate of a side, and then the gate is opened
--     HasNoneOrAll        no side is armed, or side A has the whole image
--     IsNoneOrWhole       no side is armed, or both stand for the node
--     of_fresh            the fault for a node that can't begin
--     FailsOn             a disk call on this side fails, and the other side is so
--     FormatStops         what was done where formatting stops at a disk call that fails
--     FormatFails         when each fault comes, and what it leaves unchanged
--     FormatRose          a device fault is told where the count of failures rose, and only there
use Rattle.std.specs.Prelude.{◌≡◌, ◌⊎◌, ℕ, List, [], ◌∷◌, take}
use Rattle.cc_messages.specs.declared.output.Output.{Output}
use Rattle.cc_site.specs.declared.site.Side.{Side}
use Rattle.cc_site.specs.declared.site.Site.{Ghosts}
use Rattle.cc_site.specs.declared.site.Side.TheVariants.{A, B}
use Rattle.cc_site.specs.declared.site.DeviceFault.{DeviceFault}
use Rattle.cc_site.specs.Sides.{SideState, MayLeave, other, durable}
use Rattle.cc_site.specs.Gates.{IsShut}
use Rattle.cc_site.specs.Moments.{Contents, Rose}
use Rattle.cc_site.specs.ToldFaults.{Looks}
use Rattle.cc_node.specs.Node.{Node}
use Rattle.cc_node_state.specs.Sides.{OPEN, IsArmed, Stands}
use Rattle.cc_node.specs.declared.opening.Fresh.{Fresh}
use Rattle.cc_node.specs.declared.opening.Fresh.TheVariants as fresh
use Rattle.cc_flush.specs.declared.format_sides.FormatFault.{FormatFault}
use Rattle.cc_flush.specs.declared.format_sides.FormatFault.TheVariants.{BadOpening, NoMemory, Device, AlreadyFormatted}

abbrev pub BeginsWith : ℕ → List ℕ → Type 0
BeginsWith byte bytes = take 1 bytes ≡ byte ∷ []

-- each side begins with the byte that is written for a closed gate, whatever a crash leaves of it now
abbrev pub AreShut : (Side → SideState) → Type 0
AreShut state = (side : Side) (left : List ℕ) → MayLeave (state side) left → BeginsWith 0 left

pub record StayShut (sent : List Output) (left : Contents) (told : List Output) : Type 0 where
  pub shut : (side : Side) → IsShut (left side)
  pub outlet : told ≡ sent

-- the side isn't armed, or has the whole image; the other one is as it was
pub record Arms (side : Side) (image : List ℕ) (state : Side → SideState) (sent : List Output) (left : Contents) (told : List Output) : Type 0 where
  pub this : (¬ IsArmed (left side)) ⊎ (left side ≡ OPEN ∷ image)
  pub rest : MayLeave (state (other side)) (left (other side))
  pub outlet : told ≡ sent

pub record HasNoneOrAll (image : List ℕ) (sent : List Output) (left : Contents) (told : List Output) : Type 0 where
  pub first : (¬ IsArmed (left A)) ⊎ (left A ≡ OPEN ∷ image)
  pub second : ¬ IsArmed (left B)
  pub outlet : told ≡ sent

-- no side is armed, or the two stand for the node; nothing was put
pub record IsNoneOrWhole (node : Node) (sent : List Output) (left : Contents) (told : List Output) : Type 0 where
  pub none_or_whole : ((¬ IsArmed (left A)) × (¬ IsArmed (left B))) ⊎ Stands (left A) (left B) node
  pub outlet : told ≡ sent

abbrev pub FormatRose : ℕ → ℕ → FormatFault → Type 0
FormatRose before now (Device fault) = Rose before now
FormatRose before now BadOpening = now ≡ before
FormatRose before now NoMemory = now ≡ before
FormatRose before now AlreadyFormatted = now ≡ before

abbrev pub of_fresh : Fresh → FormatFault
of_fresh fresh.BadOpening = BadOpening
of_fresh fresh.NoMemory = NoMemory

-- a disk call on this side failed, and the other side is so; a look at a side changes none
pub record FailsOn (this : Side) (rest : SideState) (old new : Side → SideState) (fault : DeviceFault) : Type 0 where
  pub on : fault.side ≡ this
  pub other_side : new (other this) ≡ rest
  pub same : Looks fault.call → new this ≡ old this

-- it was one of the first looks at both sides; or one while side B is laid out, and then side A
abbrev pub FormatStops : (Side → SideState) → (Side → SideState) → DeviceFault → Type 0
FormatStops old new fault =
    (Looks fault.call × (new ≡ old)) ⊎ FailsOn B (old A) old new fault ⊎ FailsOn A (durable (0 ∷ [])) old new fault

abbrev pub FormatFails : {D : Type 0} → Ghosts D → Type 0 → D → D → FormatFault → Type 0
FormatFails s is_opening old new BadOpening = (¬ is_opening) × (new ≡ old)
FormatFails s is_opening old new NoMemory = is_opening × (new ≡ old)
FormatFails s is_opening old new (Device fault) = is_opening × (s.honest old → FormatStops (s.state old) (s.state new) fault)
FormatFails s is_opening old new AlreadyFormatted =
    is_opening × (s.honest old → (IsArmed (s.state old A).bytes ⊎ IsArmed (s.state old B).bytes) × (s.state new ≡ s.state old))
