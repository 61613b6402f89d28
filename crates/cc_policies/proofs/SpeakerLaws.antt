-- What a table of speakers keeps.
--     kept_speakers       without some of them
--     pushed_speaker      with one more
use Rattle.std.proofs.Common.{◌≤◌, ◌<◌, Bool, ℕ, [], ◌∷◌, ◌++◌, length, arith}
use Rattle.std.specs.Prelude.{filter}
use Rattle.std.proofs.lemmas.List.{length-append}
use Rattle.cc_policies.specs.declared.speakers.Speaker.{Speaker}
use Rattle.cc_policies.specs.Speakers.{Speaking, IsSpeaking, speaker_limit}
use Rattle.cc_policies.proofs.RouteLaws.{shorter}

pub kept_speakers : (rows : Speaking) (capacity : ℕ) → IsSpeaking rows capacity → (p : Speaker → Bool) → IsSpeaking (filter p rows) capacity
kept_speakers rows capacity is p = record { fits = omega (arith, shorter p rows, is.fits); room = is.room }

pub pushed_speaker : (rows : Speaking) (capacity more : ℕ) (row : Speaker) → IsSpeaking rows capacity → length rows < speaker_limit → capacity ≤ more
    → IsSpeaking (rows ++ row ∷ []) more
pushed_speaker rows capacity more row is below le = record { fits = omega (arith, length-append rows (row ∷ []), below); room = omega (arith, is.room, le) }
