-- A side as the disk model sees it, and what the disk calls do to it.
--     other                               the side that isn't this one
--     SideState, firm, MayLeave           a side;  where it may end after a crash;  which bytes a crash may leave of it
--     touch, overwritten, written         while a write runs;  its bytes after it;  the side after it
--     shift, cut_to                       while a cut runs;  after it
--     settled, durable                    after a sync;  a side with these bytes, all of them made sure of
--     IsHalfway                           a change of it was begun, and failed
--     HalfWritten, HalfCut                so it is with a write, and with a cut
--     MayHaveWritten, MayHaveCut          where a write or a cut fails, or the sync behind it
use Rattle.std.specs.Prelude.{◌≡◌, ◌⊎◌, ℕ, ◌+◌, ◌<◌, ◌≤◌, min, Bool, false, ◌||◌, ◌&&◌, nat_le, nat_lt, if◌then◌else◌}
use Rattle.std.specs.Prelude.{List, ◌++◌, length, take, drop, slice_index, Option, None, Some, unwrap_or}
use Rattle.cc_site.specs.declared.site.Side.{Side}
use Rattle.cc_site.specs.declared.site.Side.TheVariants.{A, B}

abbrev pub other : Side → Side
other A = B
other B = A

-- what a read gives, the places touched since the last sync, and the lowest place cut or extended since
pub record SideState : Type 0 where
  pub bytes : List ℕ
  pub touched : ℕ → Bool
  pub shifted : Option ℕ

-- from this place on a crash may leave anything; without a cut or an extension it is the end
abbrev pub firm : SideState → ℕ
firm s = unwrap_or s.shifted (length s.bytes)

-- a crash may leave these bytes
pub record MayLeave (s : SideState) (left : List ℕ) : Type 0 where
  pub no_shorter : firm s ≤ length left
  pub no_longer : s.shifted ≡ None → length left ≡ length s.bytes
  pub same : (p : ℕ) → p < firm s → s.touched p ≡ false → slice_index left p ≡ slice_index s.bytes p

-- n places from `at` on are touched, and where they go past the end, the side is extended
abbrev pub touch : SideState → ℕ → ℕ → SideState
touch s at n = record {
  bytes = s.bytes;
  touched = λ p. s.touched p || (nat_le at p && nat_lt p (at + n));
  shifted = if nat_lt (length s.bytes) (at + n) then Some (firm s) else s.shifted;
}

-- these bytes, where others are written over them and past their end from `at` on
abbrev pub overwritten : List ℕ → ℕ → List ℕ → List ℕ
overwritten old at bytes = take at old ++ bytes ++ drop (at + length bytes) old

-- after a write that succeeds
abbrev pub written : SideState → ℕ → List ℕ → SideState
written s at bytes = record (touch s at (length bytes)) { bytes = overwritten s.bytes at bytes }

-- everything from `len` on is shifted
abbrev pub shift : SideState → ℕ → SideState
shift s len = record s { shifted = Some (min (firm s) len) }

-- after a cut that succeeds
abbrev pub cut_to : SideState → ℕ → SideState
cut_to s len = record (shift s len) { bytes = take len s.bytes }

-- after a sync that succeeds
abbrev pub settled : SideState → SideState
settled s = record { bytes = s.bytes; touched = λ _. false; shifted = None }

abbrev pub durable : List ℕ → SideState
durable bytes = record { bytes = bytes; touched = λ _. false; shifted = None }

-- The change was begun, and failed: in its range a read gives any bytes that a crash might leave there, if all was sure
-- before. Whatever else was touched and not made sure of is read as before.
pub record IsHalfway (change : SideState → SideState) (old new : SideState) : Type 0 where
  pub marked : new ≡ record (change old) { bytes = new.bytes }
  pub reads : MayLeave (change (settled old)) new.bytes

-- a write of n bytes from `at` on
abbrev pub HalfWritten : SideState → ℕ → ℕ → SideState → Type 0
HalfWritten old at n new = IsHalfway (λ s. touch s at n) old new

-- a cut to this length
abbrev pub HalfCut : SideState → ℕ → SideState → Type 0
HalfCut old len new = IsHalfway (λ s. shift s len) old new

-- where a write fails, or the sync behind it: nothing has changed, or the write was made in part, or it was made
abbrev pub MayHaveWritten : SideState → ℕ → List ℕ → SideState → Type 0
MayHaveWritten old at bytes new = (new ≡ old) ⊎ (HalfWritten old at (length bytes) new ⊎ (new ≡ written old at bytes))

-- the same for a cut
abbrev pub MayHaveCut : SideState → ℕ → SideState → Type 0
MayHaveCut old len new = (new ≡ old) ⊎ (HalfCut old len new ⊎ (new ≡ cut_to old len))
