use Rattle.std.proofs.Common.{◌≢◌, ℕ, ◌<◌, get_or}
use Rattle.cc_status.specs.Pages.{path_of}
use Rattle.cc_status.specs.declared.page.Page.TheVariants.{Home}
use Rattle.cc_status.proofs.page.Page.at.Given as goal

-- none of the pages so far is there
abbrev pub invariant-loop-page : goal.invariant-loop-page
invariant-loop-page l = (k : ℕ) → k < l.page-index → l.path ≢ path_of (get_or l.page-items k Home)
