-- What is told of a source of bytes, off which a state is read.
--     Misses, Finds      what a call answered is what is read, but for want of memory and failures of the source
--     failure_of         the failure of the source, where there is one
use Rattle.std.specs.Prelude.{◌≡◌, ◌≢◌, Option, Some, None, Result, Ok, Err}
use Rattle.cc_wire.specs.declared.fault.WireFault.{WireFault}
use Rattle.cc_wire.specs.declared.fault.WireFault.TheVariants.{NoMemory}
use Rattle.cc_node_state.specs.declared.source_fault.SourceFault.{SourceFault}
use Rattle.cc_node_state.specs.declared.source_fault.SourceFault.TheVariants.{Failed, Wire}

-- Nothing is read there, and where the faults of the bytes are told, it is that one.
abbrev pub Misses : {F Y : Type 0} → Type 0 → SourceFault F → Result Y WireFault → Type 0
Misses told (Failed failure) read = Unit {0}
Misses {Y} told (Wire fault) read = fault ≢ NoMemory → ((y : Y) → read ≢ Ok y) × (told → read ≡ Err fault)

abbrev pub Finds : {F X Y : Type 0} → Type 0 → (X → Y) → Result X (SourceFault F) → Result Y WireFault → Type 0
Finds told view (Ok x) read = read ≡ Ok (view x)
Finds told view (Err fault) read = Misses told fault read

abbrev pub failure_of : {F X : Type 0} → Result X (SourceFault F) → Option F
failure_of (Ok x) = None
failure_of (Err (Wire fault)) = None
failure_of (Err (Failed failure)) = Some failure
