-- Runs of calls that change a side behind its gate.
--     started_behind, then_behind     no call yet, and two runs
--     cut_behind, then_written        a cut behind the gate, and a write behind a run
--     cut_run_behind, image_behind    a run within a cut, and two runs and one within a write at the end
--     behind_rests                    meanwhile the other side goes on holding what it held, where this one is shut
--     cut_there, grown, written_front     what a cut to one byte leaves, a write at the end, and one after the other
use Rattle.std.proofs.Common.{◌≡◌, ℕ, ◌+◌, ◌≤◌, ◌<◌, List, [], ◌∷◌, ◌++◌, length, take, drop, get_or, refl, sym, ◌∙◌, ap, subst, inl, arith, length-take}
use Rattle.std.specs.Prelude.{Result, Ok, Err, OnOk}
use Rattle.std.proofs.lemmas.List.{take_all, drop_all, append-nil}
use Rattle.cc_messages.specs.declared.output.Output.{Output}
use Rattle.cc_site.specs.declared.site.Side.{Side}
use Rattle.cc_site.specs.declared.site.Site.{Ghosts}
use Rattle.cc_site.specs.declared.site.DeviceFault.{DeviceFault}
use Rattle.cc_site.specs.Sides.{SideState, MayLeave, other, touch, shift, overwritten, written, cut_to, settled}
use Rattle.cc_site.specs.SideLaws.{other_other, settled_only}
use Rattle.cc_site.specs.FrontLaws.{KeepsFront, touch_keeps, shift_keeps}
use Rattle.cc_site.specs.Moments.{Contents, Within, SeenFrom}
use Rattle.cc_site.specs.Gates.{shut_like}
use Rattle.cc_site.specs.Runs.{EachMoment, OnlyNow, CountsNow, Passes, started, goes_on, joined, weaker, now_has}
use Rattle.cc_site.specs.Crashes.{after_crash_of}
use Rattle.cc_node_state.specs.Good.{AllMade, RestsAt}
use Rattle.cc_checkpoint.specs.Checkpoints.{IsShutNow, Behind, StaysBehind, RestsOff, KeepsOff}

-- what lies within a bound that has the gates of before
within_behind : (side : Side) (bound : SideState) (state : Side → SideState) (sent : List Output) → KeepsFront 1 bound (state side)
    → (left : Contents) (told : List Output) → Within side bound state sent left told → SeenFrom side (Behind (state side) (state (other side)) sent) left told
within_behind side bound state sent keeps left told within =
    let was = keeps.from (left side) within.this in
    record { was = was.0; possible = was.1; gate = was.2; rest = within.rest; outlet = within.outlet }

module _ {D : Type 0} (s : Ghosts D) (side : Side) where
  -- what changed since this site lies behind the gate
  abbrev IsBehind : D → Contents → List Output → Type 0
  IsBehind old = SeenFrom side (Behind (s.state old side) (s.state old (other side)) (s.sent old))

  -- what changed since this site lies within a bound
  abbrev IsWithin : D → SideState → Contents → List Output → Type 0
  IsWithin old bound = Within side bound (s.state old) (s.sent old)

  pub started_behind : (site : D) → OnlyNow s site → StaysBehind s side site site
  started_behind site only = started s site (IsBehind site) (λ left told since.
      let is = only left told since in
      record { was = left side; possible = is.each side; gate = refl; rest = is.each (other side); outlet = is.outlet })

  -- what is possible behind a run
  now_behind : (old new : D) → StaysBehind s side old new → CountsNow s new → (x y : List ℕ)
      → MayLeave (s.state new side) x → MayLeave (s.state new (other side)) y
      → Behind (s.state old side) (s.state old (other side)) (s.sent old) x y (s.sent new)
  now_behind old new run counts =
      after_crash_of (s.state new) (s.sent new) side (Behind (s.state old side) (s.state old (other side)) (s.sent old))
      (now_has s old new (IsBehind old) run counts)

  pub then_behind : (old mid new : D) → StaysBehind s side old mid → CountsNow s mid → StaysBehind s side mid new → StaysBehind s side old new
  then_behind old mid new first counts second = joined s old mid new (IsBehind old) first (weaker s mid new (IsBehind mid) (IsBehind old) second earlier)
    where
      earlier : (left : Contents) (told : List Output) → IsBehind mid left told → IsBehind old left told
      earlier left told is =
          let before = now_behind old mid first counts is.was (left (other side)) is.possible is.rest in
          record {
            was = before.was;
            possible = before.possible;
            gate = is.gate ∙ before.gate;
            rest = before.rest;
            outlet = is.outlet ∙ before.outlet;
          }

  -- one call, from a site on
  call_behind : (old new : D) (bound : SideState) → OnlyNow s old → KeepsFront 1 bound (s.state old side) → Passes s old new (IsWithin old bound)
      → StaysBehind s side old new
  call_behind old new bound only keeps time =
      goes_on s old old new (IsBehind old) (IsWithin old bound) (started_behind old only) time (within_behind side bound (s.state old) (s.sent old) keeps)

  pub cut_behind : (old new : D) → OnlyNow s old → 1 ≤ length (s.state old side).bytes → Passes s old new (IsWithin old (shift (s.state old side) 1))
      → StaysBehind s side old new
  cut_behind old new only there time = call_behind old new (shift (s.state old side) 1) only (shift_keeps (s.state old side) 1 there) time

  -- a write behind a run
  pub then_written : (old mid new : D) (place size : ℕ) → StaysBehind s side old mid → CountsNow s mid → OnlyNow s mid
      → 1 ≤ place → place ≤ length (s.state mid side).bytes → Passes s mid new (IsWithin mid (touch (s.state mid side) place size))
      → StaysBehind s side old new
  then_written old mid new place size run counts only from within time =
      then_behind old mid new run counts
      (call_behind mid new (touch (s.state mid side) place size) only (touch_keeps (s.state mid side) 1 place size from within) time)

  -- a run within a bound
  bound_behind : (old new : D) (bound : SideState) → KeepsFront 1 bound (s.state old side) → EachMoment s old new (IsWithin old bound)
      → StaysBehind s side old new
  bound_behind old new bound keeps run =
      weaker s old new (IsWithin old bound) (IsBehind old) run (within_behind side bound (s.state old) (s.sent old) keeps)

  -- two runs, and one within a write at the end
  pub image_behind : (old first second new : D) (place : ℕ) → StaysBehind s side old first → CountsNow s first
      → StaysBehind s side first second → CountsNow s second → 1 ≤ place → place ≡ length (s.state second side).bytes
      → EachMoment s second new (IsWithin second (touch (s.state second side) place 1)) → StaysBehind s side old new
  image_behind old first second new place begun counts written counts_still from end closed =
      then_behind old second new (then_behind old first second begun counts written) counts_still
      (bound_behind second new (touch (s.state second side) place 1) (touch_keeps (s.state second side) 1 place 1 from (omega (arith, end))) closed)

  pub cut_run_behind : (old new : D) → 1 ≤ length (s.state old side).bytes → EachMoment s old new (IsWithin old (shift (s.state old side) 1))
      → StaysBehind s side old new
  cut_run_behind old new there run = bound_behind old new (shift (s.state old side) 1) (shift_keeps (s.state old side) 1 there) run

  -- ---- while the other side holds the node

  first_of_both : (c d : List ℕ) → take 1 c ≡ take 1 d → 1 ≤ length d → 1 ≤ length c
  first_of_both c d same some = omega (arith, some, ap length same, length-take 1 c, length-take 1 d)

  pub behind_rests : (old new : D) → IsShutNow (s.state old side) → StaysBehind s side old new → KeepsOff s side old new
  behind_rests old new shut run generation place start events opening rest =
      weaker s old new (IsBehind old) (RestsOff side generation place start events opening) run holds
    where
      holds : (left : Contents) (told : List Output) → IsBehind old left told → RestsOff side generation place start events opening left told
      holds left told is =
          let before : RestsAt generation place start events opening (left (other side)) is.was (s.sent old) =
          after_crash_of (s.state old) (s.sent old) (other side) (RestsAt generation place start events opening) rest (left (other side)) is.was is.rest
          (subst (λ (at : Side). MayLeave (s.state old at) is.was) (sym (other_other side)) is.possible) in
          subst (λ (at : Side). RestsAt generation place start events opening (left (other side)) (left at) told) (sym (other_other side))
          (record {
            other_there = first_of_both (left side) is.was is.gate before.other_there;
            stands = record { holds = before.stands.holds; yields = inl (shut_like (left side) is.was is.gate (shut is.was is.possible)) };
            made = subst (AllMade start events opening) (sym is.outlet) before.made;
          })

-- ---- a gate that was closed and made sure of

pub written_there : (old new : SideState) (gate : ℕ) → new ≡ settled (written old 0 (gate ∷ [])) → 1 ≤ length new.bytes
written_there old new gate wrote = subst (λ (s : SideState). 1 ≤ length s.bytes) (sym wrote) (omega arith)

pub closed_shut : (old new : SideState) (gate : ℕ) → gate < 165 → new ≡ settled (written old 0 (gate ∷ [])) → IsShutNow new
closed_shut old new gate below wrote bytes may opened =
    let only : bytes ≡ gate ∷ drop 1 old.bytes = settled_only (written old 0 (gate ∷ [])) bytes (subst (λ (s : SideState). MayLeave s bytes) wrote may) in
    omega (arith, below, ap (λ (l : List ℕ). get_or l 0 0) only, opened)

-- ---- what a cut to one byte, and a write behind it, leave

pub cut_there : (old mid : SideState) → 1 ≤ length old.bytes → mid ≡ cut_to old 1 → 1 ≤ length mid.bytes
cut_there old mid there cut = omega (arith, ap (λ (s : SideState). length s.bytes) cut, length-take 1 old.bytes, there)

-- bytes written at the end
pub at_end : (old bytes : List ℕ) (at : ℕ) → length old ≡ at → overwritten old at bytes ≡ old ++ bytes
at_end old bytes at is =
    ap (λ (l : List ℕ). l ++ bytes ++ drop (at + length bytes) old) (take_all at old (omega (arith, is)))
    ∙ ap (λ (l : List ℕ). old ++ bytes ++ l) (drop_all (at + length bytes) old (omega (arith, is)))
    ∙ append-nil (old ++ bytes)

pub grown : (old new : SideState) (at : ℕ) (bytes : List ℕ) → at ≡ length old.bytes → new ≡ written old at bytes → new.bytes ≡ old.bytes ++ bytes
grown old new at bytes is wrote = ap (λ (s : SideState). s.bytes) wrote ∙ at_end old.bytes bytes at (sym is)

pub written_front : (old mid new : SideState) (front : List ℕ) (r : Result (Unit {0}) DeviceFault)
    → 1 ≤ length old.bytes → mid ≡ cut_to old 1 → OnOk r (new ≡ written mid 1 front) → OnOk r (new.bytes ≡ take 1 old.bytes ++ front)
written_front old mid new front (Err e) there cut wrote = tt
written_front old mid new front (Ok u) there cut wrote =
    let bytes : mid.bytes ≡ take 1 old.bytes = ap (λ (s : SideState). s.bytes) cut in
    let short : length mid.bytes ≡ 1 = ap length bytes ∙ omega (arith, length-take 1 old.bytes, there) in
    ap (λ (s : SideState). s.bytes) wrote ∙ at_end mid.bytes front 1 short ∙ ap (λ (l : List ℕ). l ++ front) bytes
