-- A state that is read off a side through one buffer: first come the bytes that the buffer holds, and behind them those of
-- the side that are still to be read.
--     of_wire                 which fault of reading a fault of the wire is
--     Misses, Finds           what a function answered is what is read, but for want of memory and faults of the disk; which fault of the wire it is isn't told
--     seen_by                 what a function answered, as what was to be read
--     AreBytes                each is a byte
--     FaultRead, CountsRead   a fault of the disk is one of this side, and is told where the count of failures rose, and only there
--     At, ahead               a site, the bytes that are held, and those of the site that are still to be read;  the bytes of both
--     LiesOn                  the side has the bytes that are still to be read
--     Runs, ReadsOff          a call only reads this side;  and it answers what is read from the front of what is ahead
--     outcome_of              a failure of the source, as an outcome
--     runs_start, runs_again  no call;  one after another
use Rattle.std.specs.Prelude.{◌≡◌, ℕ, ◌-◌, ◌<◌, ◌≤◌, List, [], ◌++◌, length, take, drop, slice_index, Result, Ok, Err, MatchResult, Option, Some, None}
use Rattle.std.proofs.Common.{refl, subst, ◌∙◌}
use Rattle.cc_site.specs.declared.site.DeviceFault.{DeviceFault}
use Rattle.cc_site.specs.Reads.{reads_none, reads_then}
use Rattle.cc_wire.specs.declared.fault.WireFault.{WireFault}
use Rattle.cc_wire.specs.declared.fault.WireFault.TheVariants as wire
use Rattle.cc_wire.specs.Readers.{Reading}
use Rattle.cc_site.specs.declared.site.Side.{Side}
use Rattle.cc_site.specs.declared.site.Site.{Ghosts}
use Rattle.cc_site.specs.Reads.{OnlyReads}
use Rattle.cc_site.specs.ToldFaults.{LooksAt, Tells}
use Rattle.cc_checkpoint.specs.declared.read_fault.ReadFault.{ReadFault}
use Rattle.cc_checkpoint.specs.declared.read_fault.ReadFault.TheVariants.{Device, NoMemory, NoState}
use Rattle.cc_checkpoint.specs.declared.unread.Unread.{Unread}

-- ---- what is found

abbrev pub of_wire : WireFault → ReadFault
of_wire wire.NoMemory = NoMemory
of_wire fault = NoState

-- nothing is read there
abbrev pub IsMissing : {Y : Type 0} → Result Y WireFault → Type 0
IsMissing (Ok y) = ⊥
IsMissing (Err fault) = Unit {0}

abbrev pub Misses : {Y : Type 0} → ReadFault → Result Y WireFault → Type 0
Misses NoState read = IsMissing read
Misses NoMemory read = Unit {0}
Misses (Device fault) read = Unit {0}

abbrev pub Finds : {X Y : Type 0} → (X → Y) → Result X ReadFault → Result Y WireFault → Type 0
Finds view (Ok x) read = read ≡ Ok (view x)
Finds view (Err fault) read = Misses fault read

abbrev pub seen_by : {X Y : Type 0} → (X → Y) → Result X ReadFault → Result Y ReadFault
seen_by view (Ok x) = Ok (view x)
seen_by view (Err fault) = Err fault

abbrev pub IsOfDevice : ReadFault → Type 0
IsOfDevice (Device fault) = Unit {0}
IsOfDevice NoMemory = ⊥
IsOfDevice NoState = ⊥

-- ---- where it is read

abbrev pub AreBytes : List ℕ → Type 0
AreBytes bytes = (place : ℕ) → slice_index bytes place < 256

abbrev pub FaultRead : Side → ℕ → ℕ → ReadFault → Type 0
FaultRead side before now (Device fault) = Tells (LooksAt side) before now fault
FaultRead side before now NoMemory = now ≡ before
FaultRead side before now NoState = now ≡ before

abbrev pub CountsRead : {T : Type 0} → Side → ℕ → ℕ → Result T ReadFault → Type 0
CountsRead side before now outcome = MatchResult outcome (λ _. now ≡ before) (FaultRead side before now)

pub record At (D : Type 0) : Type 0 where
  pub site : D
  pub held : List ℕ
  pub unread : Unread

abbrev pub at : {D : Type 0} → D → List ℕ → Unread → At D
at site held unread = record { site = site; held = held; unread = unread }

module _ {D : Type 0} (s : Ghosts D) where
  abbrev pub ahead : At D → List ℕ
  ahead p = p.held ++ take (p.unread.end - p.unread.place) (drop p.unread.place (s.state p.site p.unread.side).bytes)

  pub record LiesOn (site : D) (unread : Unread) : Type 0 where
    pub within : s.honest site → unread.end ≤ length (s.state site unread.side).bytes

  pub record Runs {T : Type 0} (from to : At D) (outcome : Result T ReadFault) : Type 0 where
    pub side : to.unread.side ≡ from.unread.side
    pub lies : LiesOn to.site to.unread
    pub reads : OnlyReads s from.site to.site
    pub fault : CountsRead from.unread.side (s.failures from.site) (s.failures to.site) outcome

  pub record ReadsOff {Y : Type 0} (read : Reading Y) (from to : At D) (outcome : Result Y ReadFault) : Type 0 where
    pub run : Runs from to outcome
    pub exact : s.honest from.site → Finds (λ y. (y, ahead to)) outcome (read (ahead from))

-- ---- a source of bytes

abbrev pub outcome_of : Option DeviceFault → Result (Unit {0}) ReadFault
outcome_of None = Ok tt
outcome_of (Some fault) = Err (Device fault)

module _ {D : Type 0} (s : Ghosts D) where
  abbrev pub Goes : D → Unread → D → Unread → Option DeviceFault → Type 0
  Goes d u e v failure = Runs s (at d [] u) (at e [] v) (outcome_of failure)

  pub runs_start : (d : D) (u : Unread) → LiesOn s d u → Goes d u d u None
  runs_start d u lies = record { side = refl; lies = lies; reads = reads_none s d; fault = refl }

  pub runs_again : (d e f : D) (u v w : Unread) (failure : Option DeviceFault) → Goes d u e v None → Goes e v f w failure → Goes d u f w failure
  runs_again d e f u v w failure first second = record {
    side = second.side ∙ first.side;
    lies = second.lies;
    reads = reads_then s d e f first.reads second.reads;
    fault = subst (λ n. CountsRead u.side n (s.failures f) (outcome_of failure)) first.fault
        (subst (λ side. CountsRead side (s.failures e) (s.failures f) (outcome_of failure)) first.side second.fault);
  }
