-- Whether a write comes from a page of another origin.
use Rattle.std.specs.Prelude.{ℕ, Bool, false, ◌||◌, List, Option, Some, None, codes, is_some}
use Rattle.cc_web.specs.Words.{is_text}

unfoldable pub is_allowed : Option (List ℕ) → Option (List ℕ) → Bool
is_allowed (Some allowed) (Some origin) = is_text origin allowed
is_allowed _ _ = false

-- a browser says it by `Sec-Fetch-Site`; where it leaves that out, an `Origin` tells that it is one
unfoldable pub is_foreign : Option (List ℕ) → Option (List ℕ) → Bool
is_foreign origin (Some site) = is_text (codes "cross-site") site || is_text (codes "same-site") site
is_foreign origin None = is_some origin
