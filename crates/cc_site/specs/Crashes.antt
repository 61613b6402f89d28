-- What a crash may leave now.
--     AfterCrash          it is so, whatever a crash leaves
--     each_side           what holds of a side and of the other one holds of each
--     after_crash_of      the same said of any two byte lists that a crash may leave
use Rattle.std.proofs.Common.{List, ℕ, refl}
use Rattle.cc_messages.specs.declared.output.Output.{Output}
use Rattle.cc_site.specs.declared.site.Side.{Side}
use Rattle.cc_site.specs.declared.site.Side.TheVariants.{A, B}
use Rattle.cc_site.specs.Sides.{SideState, MayLeave, other}
use Rattle.cc_site.specs.Moments.{Contents, Possible}

abbrev pub AfterCrash : (Side → SideState) → List Output → (Contents → List Output → Type 0) → Type 0
AfterCrash state sent P = (left : Contents) (told : List Output) → Possible state sent left told → P left told

pub each_side : (side : Side) (P : Side → Type 0) → P side → P (other side) → (s : Side) → P s
each_side A P here there A = here
each_side A P here there B = there
each_side B P here there A = there
each_side B P here there B = here

pub after_crash_of : (state : Side → SideState) (sent : List Output) (side : Side) (P : List ℕ → List ℕ → List Output → Type 0)
    → AfterCrash state sent (λ left told. P (left side) (left (other side)) told)
    → (x y : List ℕ) → MayLeave (state side) x → MayLeave (state (other side)) y → P x y sent
unfolding each_side
after_crash_of state sent A P always x y may_x may_y = always (each_side A (λ _. List ℕ) x y) sent
    (record { each = each_side A (λ s. MayLeave (state s) (each_side A (λ _. List ℕ) x y s)) may_x may_y; outlet = refl })
after_crash_of state sent B P always x y may_x may_y = always (each_side B (λ _. List ℕ) x y) sent
    (record { each = each_side B (λ s. MayLeave (state s) (each_side B (λ _. List ℕ) x y s)) may_x may_y; outlet = refl })
