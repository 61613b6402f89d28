-- Moments: what a crash may leave of both sides, and what the outlet has got by then.
--     Contents, SeenFrom                  the bytes of each side;  what is said of one side's and the other's
--     Possible, Within, Nothing           what may be left and told: at rest;  while one side changes;  nothing
--     Elapses                             what one call adds to the moments
--     Rose, CountsFault, CountsOneFault   the count of failures, and the fault that is told
use Rattle.std.specs.Prelude.{◌≡◌, ◌⊎◌, ℕ, ◌+◌, ◌%◌, ◌^◌, ◌≤◌, List, Result, MatchResult}
use Rattle.cc_messages.specs.declared.output.Output.{Output}
use Rattle.cc_site.specs.declared.site.Side.{Side}
use Rattle.cc_site.specs.declared.site.Call.{Call}
use Rattle.cc_site.specs.declared.site.DeviceFault.{DeviceFault}
use Rattle.cc_site.specs.Sides.{SideState, MayLeave, other}

-- the bytes of each side
abbrev pub Contents : Type 0
Contents = Side → List ℕ

-- this side's bytes come first
abbrev pub SeenFrom : Side → (List ℕ → List ℕ → List Output → Type 0) → Contents → List Output → Type 0
SeenFrom side P left told = P (left side) (left (other side)) told

-- a crash at this moment may leave these contents, and this is what the outlet has got
pub record Possible (state : Side → SideState) (sent : List Output) (left : Contents) (told : List Output) : Type 0 where
  pub each : (side : Side) → MayLeave (state side) (left side)
  pub outlet : told ≡ sent

-- the same, where one side is touched: of it a crash leaves what it may leave of `bound`
pub record Within (side : Side) (bound : SideState) (state : Side → SideState) (sent : List Output) (left : Contents) (told : List Output) : Type 0 where
  pub this : MayLeave bound (left side)
  pub rest : MayLeave (state (other side)) (left (other side))
  pub outlet : told ≡ sent

-- nothing is possible
abbrev pub Nothing : Contents → List Output → Type 0
Nothing left told = ⊥

-- Time goes on: since t there was what there had been before, or what is `here`.
pub record Elapses (before now : ℕ) (past since : ℕ → Contents → List Output → Type 0) (here : Contents → List Output → Type 0) : Type 0 where
  pub later : before ≤ now
  pub nothing_else : (t : ℕ) (left : Contents) (told : List Output) → t ≤ before → since t left told → past t left told ⊎ here left told
  pub keeps : (t : ℕ) (left : Contents) (told : List Output) → t ≤ before → past t left told → since t left told

-- the count of failures, a u64 that wraps, went one on
abbrev pub Rose : ℕ → ℕ → Type 0
Rose before now = now ≡ (before + 1) % 2 ^ 64

-- a disk call that answers a fault names itself and its side, and raises the count; one that succeeds leaves it
abbrev pub CountsFault : {T : Type 0} → ℕ → ℕ → Side → Call → Result T DeviceFault → Type 0
CountsFault before now side call result = MatchResult result (λ _. now ≡ before) (λ fault. (fault ≡ record { side = side; call = call }) × Rose before now)

-- the same of two calls of which one may have failed
abbrev pub CountsOneFault : {T : Type 0} → ℕ → ℕ → Side → Call → Call → Result T DeviceFault → Type 0
CountsOneFault before now side first second result =
    MatchResult result (λ _. now ≡ before) (λ fault. (fault.side ≡ side) × ((fault.call ≡ first) ⊎ (fault.call ≡ second)) × Rose before now)
