-- A batch with no entry goes through an engine that was asked for nothing.
--     no_entry, flushed_none
use Rattle.std.proofs.Common.{◌≡◌, List, [], ◌∷◌, length, refl, sym, subst, arith}
use Rattle.std.specs.Prelude.{false, None}
use Rattle.cc_site.specs.declared.site.Site.{Ghosts}
use Rattle.cc_site.specs.Runs.{OnlyNow}
use Rattle.cc_journal.specs.declared.entry.Entry.{Entry}
use Rattle.cc_flush.specs.Engine.{Engine}
use Rattle.cc_flush.specs.Commits.{LeadsTo, Flushes}
use Rattle.cc_flush.proofs.LifeSteps.{stays}

pub no_entry : (batch : List Entry) → length batch ≡ 0 → batch ≡ []
no_entry [] none = refl
no_entry (e ∷ es) none = absurd (omega arith)

pub flushed_none : {D : Type 0} (s : Ghosts D) (batch : List Entry) (e : Engine D) → length batch ≡ 0 → e.owes ≡ false → e.failed ≡ None
    → (s.honest e.site → OnlyNow s e.site) → Flushes s batch e e
flushed_none s batch e none owes goes only = subst (λ (b : List Entry). Flushes s b e e) (sym (no_entry batch none))
    (stays s (LeadsTo s) e (λ start events opening led. led.good) owes goes only)
