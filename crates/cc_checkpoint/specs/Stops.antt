-- Where a step of a checkpoint stops: the disk call that failed, and how it left the side.
--     Fills, Retires          the disk calls that fill a side;  those that retire one
--     HasClosed               the gate is closed: it was so, or it was written over and made sure of
--     ClosingStops            where closing the gate stops
--     IsPastGate              where a write or a sync behind the gate stops: the gate is as it was
--     ImageStops              where cutting a side behind its gate and writing an image there stops
--     FillStops, RetireStops  where filling a side stops;  where retiring it does
use Rattle.std.specs.Prelude.{◌≡◌, ◌⊎◌, [], ◌∷◌, take}
use Rattle.cc_site.specs.declared.site.Side.{Side}
use Rattle.cc_site.specs.declared.site.Call.{Call}
use Rattle.cc_site.specs.declared.site.Call.TheVariants.{Read, Write, Cut, Sync}
use Rattle.cc_site.specs.Sides.{SideState, written, settled, HalfCut, MayHaveWritten, MayHaveCut}

abbrev pub WritesOrSyncs : Call → Type 0
WritesOrSyncs call = (call ≡ Write) ⊎ (call ≡ Sync)

abbrev pub Fills : Side → Side → Call → Type 0
Fills this side call = (side ≡ this) × ((call ≡ Read) ⊎ (call ≡ Cut) ⊎ WritesOrSyncs call)

abbrev pub Retires : Side → Side → Call → Type 0
Retires this side call = (side ≡ this) × ((call ≡ Cut) ⊎ WritesOrSyncs call)

abbrev pub HasClosed : SideState → SideState → Type 0
HasClosed was now = (now ≡ was) ⊎ (now ≡ settled (written was 0 (0 ∷ [])))

abbrev pub ClosingStops : SideState → Call → SideState → Type 0
ClosingStops was call now = ((call ≡ Read) × (now ≡ was)) ⊎ (WritesOrSyncs call × MayHaveWritten was 0 (0 ∷ []) now)

abbrev pub IsPastGate : SideState → Call → SideState → Type 0
IsPastGate was call now = WritesOrSyncs call × (take 1 now.bytes ≡ take 1 was.bytes)

abbrev pub ImageStops : SideState → Call → SideState → Type 0
ImageStops was call now = ((call ≡ Cut) × (HalfCut was 1 now ⊎ (now ≡ was))) ⊎ IsPastGate was call now

abbrev pub FillStops : SideState → Call → SideState → Type 0
FillStops was call now = ClosingStops was call now ⊎ ((closed : SideState) × HasClosed was closed × ImageStops closed call now)

-- the gate is being closed;  or the side is being cut behind it
abbrev pub RetireStops : SideState → Call → SideState → Type 0
RetireStops was call now =
    (WritesOrSyncs call × MayHaveWritten was 0 (0 ∷ []) now)
    ⊎ (((call ≡ Cut) ⊎ (call ≡ Sync)) × MayHaveCut (settled (written was 0 (0 ∷ []))) 1 now)
