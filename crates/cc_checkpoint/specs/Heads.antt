-- What stands on an armed side behind its generation: a version, a length, and the state of a node.
--     size_of, state_of      the length that is told, and so many bytes
--     HeadAt                 a node's state stands there, up to the gate at this place
--     HeadFails              there is none, for this reason
--     fault_of               why the state of a side can't be read, as a fault of the sides
--     NodeFound              what reading a state tells
use Rattle.std.specs.Prelude.{◌≡◌, ◌⊎◌, ℕ, ◌+◌, ◌<◌, ◌≤◌, List, length, take, drop, slice_index, Result, Ok, Err}
use Rattle.std.specs.Int.{from_be_bytes, w32}
use Rattle.cc_site.specs.declared.site.Side.{Side}
use Rattle.cc_node.specs.Node.{Node}
use Rattle.cc_node_state.specs.declared.layout.Layout.{Layout}
use Rattle.cc_node_state.specs.Layouts.{IsVersion, layout_of}
use Rattle.cc_node_state.specs.States.{SpellsNode}
use Rattle.cc_checkpoint.specs.declared.read_fault.ReadFault.{ReadFault}
use Rattle.cc_checkpoint.specs.declared.read_fault.ReadFault.TheVariants as read_faults
use Rattle.cc_checkpoint.specs.declared.open_fault.OpenFault.{OpenFault}
use Rattle.cc_checkpoint.specs.declared.open_fault.OpenFault.TheVariants.{NotFormatted, Damaged, Version, Device, NoMemory}

abbrev pub size_of : List ℕ → ℕ
size_of bytes = from_be_bytes w32 (take 4 (drop 10 bytes))

abbrev pub state_of : List ℕ → List ℕ
state_of bytes = take (size_of bytes) (drop 14 bytes)

pub record HeadAt (bytes : List ℕ) (node : Node) (place : ℕ) : Type 0 where
  pub version : IsVersion (slice_index bytes 9)
  pub is : place ≡ 14 + size_of bytes
  pub long : 14 + size_of bytes ≤ length bytes
  pub state : SpellsNode (layout_of (slice_index bytes 9)) (state_of bytes) node

-- the version stands there, and is known
pub record HasVersion (bytes : List ℕ) : Type 0 where
  pub there : 10 ≤ length bytes
  pub known : IsVersion (slice_index bytes 9)

-- a state of the length that is told stands there
pub record HasState (bytes : List ℕ) : Type 0 where
  pub version : HasVersion bytes
  pub long : 14 + size_of bytes ≤ length bytes

-- the version, the length or the state is what fails, and with it its place
abbrev pub HeadFails : Side → List ℕ → OpenFault → Type 0
HeadFails side bytes (Damaged on place) =
    (on ≡ side)
    × (((place ≡ 9) × (length bytes < 10))
    ⊎ ((place ≡ 10) × HasVersion bytes × ((length bytes < 14) ⊎ (length bytes < 14 + size_of bytes)))
    ⊎ ((place ≡ 14) × HasState bytes × ((node : Node) → SpellsNode (layout_of (slice_index bytes 9)) (state_of bytes) node → ⊥)))
HeadFails side bytes (Version version) = (10 ≤ length bytes) × (slice_index bytes 9 ≡ version) × (¬ IsVersion version)
HeadFails side bytes NotFormatted = ⊥
HeadFails side bytes (Device fault) = Unit {0}
HeadFails side bytes NoMemory = Unit {0}

-- why the state of a side can't be read, as a fault of the sides
abbrev pub fault_of : Side → ReadFault → OpenFault
fault_of side (read_faults.Device fault) = Device fault
fault_of side read_faults.NoMemory = NoMemory
fault_of side read_faults.NoState = Damaged side 14

-- the node of that state is found, or there is none, but for want of memory and faults of the disk
abbrev pub NodeFound : Layout → List ℕ → Result Node ReadFault → Type 0
NodeFound layout bytes (Ok node) = SpellsNode layout bytes node
NodeFound layout bytes (Err read_faults.NoState) = (node : Node) → SpellsNode layout bytes node → ⊥
NodeFound layout bytes (Err read_faults.NoMemory) = Unit {0}
NodeFound layout bytes (Err (read_faults.Device fault)) = Unit {0}
