-- What a site in memory shows.
--     memory_state, memory_outputs        its sides;  the outputs that it keeps
--     memory_reserve, memory_lost         how many of them it has room for;  how many it didn't keep
--     memory_calls, memory_fuse           how many disk calls it has counted;  which of them are to fail
--     memory_failures, memory_moment, memory_left_since     its members of these names
--     IsFresh                             one just made
--     CountsCall, Keeps                   what a disk call leaves of all but the disk;  what an output does
--     OnlyArms                            all is as it was but which calls are to fail
use Rattle.std.specs.Prelude.{◌≡◌, ◌↔◌, ◌+◌, ◌%◌, ◌^◌, ℕ, List, [], length, Option, None}
use Rattle.cc_messages.specs.declared.output.Output.{Output}
use Rattle.cc_site.specs.declared.fuse.Fuse.{Fuse}
use Rattle.cc_site.specs.declared.site.Side.{Side}
use Rattle.cc_site.specs.declared.memory.MemorySite.{MemorySite}
use Rattle.cc_site.specs.Kept.{kept, lost_after}
use Rattle.cc_site.specs.Moments.{Contents}
use Rattle.cc_site.specs.Sides.{SideState, settled}
use Rattle.cc_site.specs.Record.{state_now, Since}
use Rattle.cc_site.specs.Disks.{bytes_of}

-- its member `state`
abbrev pub memory_state : MemorySite → Side → SideState
memory_state m = state_now (bytes_of m.disk) m.disk.steps.items

-- its member `sent`
abbrev pub memory_outputs : MemorySite → List Output
memory_outputs m = m.outputs.items

-- how many outputs it keeps at most
abbrev pub memory_reserve : MemorySite → ℕ
memory_reserve m = m.reserve

-- how many it didn't keep, a u64 that stops at its greatest value
abbrev pub memory_lost : MemorySite → ℕ
memory_lost m = m.lost

-- the number of the next disk call, a u64 that wraps
abbrev pub memory_calls : MemorySite → ℕ
memory_calls m = m.calls

-- which disk calls are to fail
abbrev pub memory_fuse : MemorySite → Option Fuse
memory_fuse m = m.fuse

-- its members `failures`, `moment` and `left_since`
abbrev pub memory_failures : MemorySite → ℕ
memory_failures m = m.failures

abbrev pub memory_moment : MemorySite → ℕ
memory_moment m = length m.disk.steps.items + length m.outputs.items

abbrev pub memory_left_since : MemorySite → ℕ → Contents → List Output → Type 0
memory_left_since m t left told = Since (bytes_of m.disk) m.disk.steps.items m.outputs.items t left told

-- nothing is touched or put, and nothing has failed
pub record IsFresh (m : MemorySite) (reserve : ℕ) : Type 0 where
  pub settled : (side : Side) → memory_state m side ≡ settled (memory_state m side)
  pub silent : memory_outputs m ≡ []
  pub tells : m.lost ≡ 0
  pub failures : m.failures ≡ 0
  pub calls : m.calls ≡ 0
  pub unarmed : m.fuse ≡ None
  pub reserve_is : m.reserve ≡ reserve

-- a disk call has its number, and touches neither the outputs nor what fails
pub record CountsCall (old new : MemorySite) : Type 0 where
  pub calls : memory_calls new ≡ (memory_calls old + 1) % 2 ^ 64
  pub fuse : memory_fuse new ≡ memory_fuse old
  pub outputs : memory_outputs new ≡ memory_outputs old
  pub reserve : memory_reserve new ≡ memory_reserve old
  pub lost : memory_lost new ≡ memory_lost old

-- An output comes: it is kept behind the others where the reserve has room for it, and else it is lost. None is one for
-- which there was no memory.
pub record Keeps (output : Option Output) (old new : MemorySite) : Type 0 where
  pub outputs : memory_outputs new ≡ kept (memory_reserve old) (memory_outputs old) output
  pub lost : memory_lost new ≡ lost_after (memory_reserve old) (memory_outputs old) output (memory_lost old)
  pub reserve : memory_reserve new ≡ memory_reserve old
  pub calls : memory_calls new ≡ memory_calls old
  pub fuse : memory_fuse new ≡ memory_fuse old

pub record OnlyArms (old new : MemorySite) : Type 0 where
  pub state : memory_state new ≡ memory_state old
  pub outputs : memory_outputs new ≡ memory_outputs old
  pub reserve : memory_reserve new ≡ memory_reserve old
  pub lost : memory_lost new ≡ memory_lost old
  pub calls : memory_calls new ≡ memory_calls old
  pub failures : memory_failures new ≡ memory_failures old
  pub moment : memory_moment new ≡ memory_moment old
  pub left_since : (t : ℕ) (left : Contents) (told : List Output) → memory_left_since new t left told ↔ memory_left_since old t left told
