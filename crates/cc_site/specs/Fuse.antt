-- Which disk calls of a site in memory a fuse fails: `Fails` of one fuse, `MayFail` of one or none.
use Rattle.std.specs.Prelude.{◌≡◌, ℕ, ◌≤◌, Option, None, Some}
use Rattle.cc_site.specs.declared.fuse.Failing.{Failing}
use Rattle.cc_site.specs.declared.fuse.Failing.TheVariants.{Once, Stop}
use Rattle.cc_site.specs.declared.fuse.Fuse.{Fuse}

abbrev fails_at : Failing → ℕ → ℕ → Type 0
fails_at Once at number = number ≡ at
fails_at Stop at number = at ≤ number

-- this fuse fails the disk call with this number
abbrev pub Fails : Fuse → ℕ → Type 0
Fails fuse number = fails_at fuse.failing fuse.at number

-- so does this one, if there is one
abbrev pub MayFail : Option Fuse → ℕ → Type 0
MayFail None number = ⊥
MayFail (Some fuse) number = Fails fuse number
