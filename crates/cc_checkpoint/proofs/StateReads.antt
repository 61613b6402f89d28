-- The state of an armed side, as it is read off.
--     ahead_all             all that is ahead is the state
--     missing_node, restored    what is missing is no node's state;  the node of the fields that were read, if there is one
--     still_counts, rose    the count of failures stays with these;  a fault of reading is one of the sides
--     looked                a fault of one call that looks at a side
--     head_fails            where no node has the state, the head fails
--     read_there            behind calls that only read, what is read is what was there
--     at_version, version_there, size_read, state_there    the version, and the length of the state, where they were read
use Rattle.std.proofs.Common.{◌≡◌, ℕ, slice_index, ◌+◌, ◌-◌, ◌≤◌, List, [], ◌++◌, length, get_or, get_or-take, take, drop, Some, None, Ok, Err}
use Rattle.std.proofs.Common.{refl, sym, ap, subst, ◌∙◌, inr, arith}
use Rattle.std.specs.Prelude.{◌↔◌, Option, IfSome, IsTrue, is_some}
use Rattle.std.specs.Int.{from_be_bytes, w32}
use Rattle.std.specs.Option.{ok_or}
use Rattle.std.proofs.lemmas.List.{get_or-drop}
use Rattle.cc_wire.specs.Readers.{whole}
use Rattle.cc_wire.proofs.Spelled.{IsBytes}
use Rattle.cc_site.specs.declared.site.Side.{Side}
use Rattle.cc_site.specs.declared.site.Site.{Ghosts}
use Rattle.cc_site.specs.Sides.{SideState}
use Rattle.cc_site.specs.Reads.{OnlyReads}
use Rattle.cc_site.specs.declared.site.Call.{Call}
use Rattle.cc_site.specs.declared.site.DeviceFault.{DeviceFault}
use Rattle.cc_site.specs.Moments.{Rose}
use Rattle.cc_site.specs.ToldFaults.{Looks, LooksAt, Tells}
use Rattle.cc_node.specs.Lawful.{IsLawfulNode}
use Rattle.cc_node.specs.Node.{Node}
use Rattle.cc_node_state.specs.Layouts.{IsVersion, layout_of}
use Rattle.cc_node_state.specs.declared.layout.Layout.{Layout}
use Rattle.cc_node_state.specs.States.{State, state_at, node_of, state_of as state_of_node}
use Rattle.cc_checkpoint.specs.declared.read_fault.ReadFault.{ReadFault}
use Rattle.cc_checkpoint.specs.declared.read_fault.ReadFault.TheVariants.{Device, NoMemory, NoState}
use Rattle.cc_checkpoint.specs.Faults.{FaultRose}
use Rattle.cc_checkpoint.specs.Heads.{size_of, state_of, fault_of, HasVersion, HasState, HeadFails, NodeFound}
use Rattle.cc_checkpoint.specs.Windows.{IsMissing, Misses, FaultRead, CountsRead}
use Rattle.cc_node_state.proofs.Decoded.{decodes, state_is_read, not_unlawful}

pub ahead_all : (held bytes : List ℕ) (end size : ℕ) → held ≡ [] → end ≡ 14 + size → held ++ take (end - 14) (drop 14 bytes) ≡ take size (drop 14 bytes)
ahead_all held bytes end size none is =
    let many : end - 14 ≡ size = omega (arith, is) in
    ap (λ (l : List ℕ). l ++ take (end - 14) (drop 14 bytes)) none ∙ ap (λ (n : ℕ). take n (drop 14 bytes)) many

pub missing_node : (layout : Layout) (bytes : List ℕ) (fault : ReadFault) → Misses fault (whole (state_at layout) bytes) → NodeFound layout bytes (Err fault)
missing_node layout bytes (Device fault) missing = tt
missing_node layout bytes NoMemory missing = tt
missing_node layout bytes NoState missing = λ node spelled. subst IsMissing (state_is_read layout bytes (state_of_node node) spelled.state) missing

pub restored : (layout : Layout) (bytes : List ℕ) (s : State) (node : Option Node)
    → IsBytes bytes → whole (state_at layout) bytes ≡ Ok s
    → (IsTrue (is_some node) ↔ IsLawfulNode (node_of s)) → IfSome node (λ n. n ≡ node_of s)
    → NodeFound layout bytes (ok_or node NoState)
restored layout bytes s (Some n) fits read there is = decodes layout bytes s (Some n) fits read there is
restored layout bytes s None fits read there is = λ n spelled. not_unlawful layout bytes n spelled (decodes layout bytes s None fits read there is)

pub still_counts : (side : Side) (before now : ℕ) (node : Option Node) → now ≡ before → CountsRead side before now (ok_or node NoState)
still_counts side before now (Some n) same = same
still_counts side before now None same = same

pub rose : (side : Side) (before now : ℕ) (fault : ReadFault) → FaultRead side before now fault → FaultRose (LooksAt side) before now (fault_of side fault)
rose side before now (Device fault) told = told
rose side before now NoMemory told = told
rose side before now NoState told = told

pub looked : (side : Side) (call : Call) (before mid now : ℕ) (fault : DeviceFault) → Looks call → mid ≡ before
    → (fault ≡ record { side = side; call = call }) × Rose mid now → Tells (LooksAt side) before now fault
looked side call before mid now fault looks same told = (
  (ap (λ (f : DeviceFault). f.side) told.0, subst Looks (sym (ap (λ (f : DeviceFault). f.call) told.0)) looks),
  subst (λ (n : ℕ). Rose n now) same told.1,
)

pub head_fails : (side : Side) (bytes : List ℕ) (fault : ReadFault)
    → HasState bytes → NodeFound (layout_of (slice_index bytes 9)) (state_of bytes) (Err fault) → HeadFails side bytes (fault_of side fault)
head_fails side bytes (Device fault) there found = tt
head_fails side bytes NoMemory there found = tt
head_fails side bytes NoState there found = (refl, inr (inr (refl, there, found)))

pub read_there : {D : Type 0} (s : Ghosts D) (side : Side) {old mid : D} {read : List ℕ} (n place : ℕ)
    → OnlyReads s old mid → s.honest old → (s.honest mid → read ≡ take n (drop place (s.state mid side).bytes))
    → read ≡ take n (drop place (s.state old side).bytes)
read_there s side n place reads honest is =
    is (reads.keeps_honesty.0 honest) ∙ ap (λ (t : Side → SideState). take n (drop place (t side).bytes)) (reads.keeps_state honest)

pub at_version : (bytes read : List ℕ) → read ≡ take 1 (drop 9 bytes) → get_or read 0 0 ≡ slice_index bytes 9
at_version bytes read is =
    ap (λ (l : List ℕ). get_or l 0 0) is ∙ get_or-take 1 (drop 9 bytes) 0 0 (omega arith) ∙ get_or-drop 9 bytes 0 0

pub version_there : (bytes read : List ℕ) (len : ℕ)
    → len ≡ length bytes → 10 ≤ len → read ≡ take 1 (drop 9 bytes) → IsVersion (get_or read 0 0) → HasVersion bytes
version_there bytes read len len_is there is known =
    record { there = omega (arith, len_is, there); known = subst IsVersion (at_version bytes read is) known }

pub size_read : (bytes number : List ℕ) (size : ℕ) → size ≡ from_be_bytes w32 number → number ≡ take 4 (drop 10 bytes) → size ≡ size_of bytes
size_read bytes number size is read = is ∙ ap (λ (l : List ℕ). from_be_bytes w32 l) read

pub state_there : (bytes : List ℕ) (len size : ℕ) → len ≡ length bytes → HasVersion bytes → size ≡ size_of bytes → 14 + size ≤ len → HasState bytes
state_there bytes len size len_is version is long = record { version = version; long = omega (arith, len_is, is, long) }
