-- What the record of a site in memory stands for: the state of each side at each moment.
--     is_side, file, AreBytes             sides and their bytes
--     Marks, no_marks, mark_..., marks    what is touched and shifted after some steps
--     undo_..., undo                      the bytes before some steps
--     state_now, state_at, told_at        each side now;  after the first steps;  how many outputs there were then
--     ToldFits, FirmFits                  what holds of every record
--     Since, Adds                         what was possible from a moment on;  one step more
use Rattle.std.specs.Prelude.{◌≡◌, ℕ, zero, suc, ◌+◌, ◌<◌, ◌≤◌, min, Bool, true, false, ◌||◌, ◌&&◌, nat_le, nat_lt, if◌then◌else◌}
use Rattle.std.specs.Prelude.{List, [], ◌∷◌, ◌++◌, length, take, drop, slice_index, Option, None, Some, unwrap_or}
use Rattle.cc_messages.specs.declared.output.Output.{Output}
use Rattle.cc_site.specs.declared.site.Side.{Side}
use Rattle.cc_site.specs.declared.site.Side.TheVariants.{A, B}
use Rattle.cc_site.specs.declared.steps.Step.{Step}
use Rattle.cc_site.specs.declared.steps.Change.{Change}
use Rattle.cc_site.specs.declared.steps.Change.TheVariants.{Written, MissedWrite, Shortened, MissedCut, Synced}
use Rattle.cc_site.specs.Sides.{SideState, firm}
use Rattle.cc_site.specs.Moments.{Contents, Possible}

abbrev pub is_side : Side → Side → Bool
is_side A A = true
is_side B B = true
is_side A B = false
is_side B A = false

-- the bytes of each side
abbrev pub file : List ℕ → List ℕ → Side → List ℕ
file a b A = a
file a b B = b

-- each of these is a byte
abbrev pub AreBytes : List ℕ → Type 0
AreBytes bytes = (place : ℕ) → slice_index bytes place < 256

-- a side's touched places and its lowest shifted one
pub record Marks : Type 0 where
  pub touched : ℕ → Bool
  pub shifted : Option ℕ

abbrev pub no_marks : Marks
no_marks = record { touched = λ _. false; shifted = None }

-- after a write on a side of this length
abbrev pub mark_write : Marks → ℕ → ℕ → ℕ → Marks
mark_write m len place count = record {
  touched = λ p. m.touched p || (nat_le place p && nat_lt p (place + count));
  shifted = if nat_lt len (place + count) then Some (unwrap_or m.shifted len) else m.shifted;
}

-- after a cut
abbrev pub mark_cut : Marks → ℕ → ℕ → Marks
mark_cut m len to = record { touched = m.touched; shifted = Some (min (unwrap_or m.shifted len) to) }

abbrev pub mark_change : Marks → ℕ → Change → Marks
mark_change m len (Written place count old) = mark_write m len place count
mark_change m len (MissedWrite place count) = mark_write m len place count
mark_change m len (Shortened to tail) = mark_cut m len to
mark_change m len (MissedCut to) = mark_cut m len to
mark_change m len Synced = no_marks

abbrev pub mark_step : Side → Marks → Step → Marks
mark_step side m step = if is_side side step.side then mark_change m step.length step.change else m

-- after these steps, the first of them first
abbrev pub marks_after : Side → Marks → List Step → Marks
marks_after side m [] = m
marks_after side m (step ∷ steps) = marks_after side (mark_step side m step) steps

abbrev pub marks : Side → List Step → Marks
marks side steps = marks_after side no_marks steps

-- the bytes before a change
abbrev pub undo_change : Change → List ℕ → List ℕ
undo_change (Written place count old) bytes = take place bytes ++ old.items ++ drop (place + count) bytes
undo_change (MissedWrite place count) bytes = bytes
undo_change (Shortened to tail) bytes = bytes ++ tail.items
undo_change (MissedCut to) bytes = bytes
undo_change Synced bytes = bytes

abbrev pub undo_step : Side → Step → List ℕ → List ℕ
undo_step side step bytes = if is_side side step.side then undo_change step.change bytes else bytes

-- the bytes before these steps
abbrev pub undo : Side → List Step → List ℕ → List ℕ
undo side [] bytes = bytes
undo side (step ∷ steps) bytes = undo_step side step (undo side steps bytes)

-- each side now
abbrev pub state_now : (Side → List ℕ) → List Step → Side → SideState
state_now files steps side = let m = marks side steps in record { bytes = files side; touched = m.touched; shifted = m.shifted }

-- each side after the first k steps
abbrev pub state_at : (Side → List ℕ) → List Step → ℕ → Side → SideState
state_at files steps k side =
    let m = marks side (take k steps) in record { bytes = undo side (drop k steps) (files side); touched = m.touched; shifted = m.shifted }

-- how many outputs there were at a step
abbrev pub told_at : List Step → ℕ → ℕ
told_at [] i = 0
told_at (step ∷ steps) zero = step.told
told_at (step ∷ steps) (suc i) = told_at steps i

-- the outputs are those that each step counted, and perhaps more
abbrev pub ToldFits : List Step → List Output → Type 0
ToldFits steps outputs = (i : ℕ) → i < length steps → told_at steps i ≤ length outputs

-- what is firm lies within the side
abbrev pub FirmFits : (Side → List ℕ) → List Step → Type 0
FirmFits files steps = (side : Side) → firm (state_now files steps side) ≤ length (files side)

-- at a moment from t on, after some of the steps and with some of the outputs put, this was possible
pub record Since (files : Side → List ℕ) (steps : List Step) (outputs : List Output) (t : ℕ) (left : Contents) (told : List Output) : Type 0 where
  pub done : ℕ
  pub put : ℕ
  pub from : t ≤ done + put
  pub within : done ≤ length steps
  pub put_within : put ≤ length outputs
  pub before : (i : ℕ) → i < done → told_at steps i ≤ put
  pub after : (i : ℕ) → done ≤ i → i < length steps → put ≤ told_at steps i
  pub possible : Possible (state_at files steps done) (take put outputs) left told

-- one step more on a side, which leads from these bytes to those and has this effect on its marks
pub record Adds (side : Side) (told : ℕ) (steps new : List Step) (from to : List ℕ) (effect : Marks → Marks) : Type 0 where
  pub step : Step
  pub side_is : step.side ≡ side
  pub told_is : step.told ≡ told
  pub last : new ≡ steps ++ step ∷ []
  pub undoes : undo_change step.change to ≡ from
  pub marked : (m : Marks) → mark_change m step.length step.change ≡ effect m
