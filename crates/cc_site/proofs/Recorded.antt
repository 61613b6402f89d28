-- What a disk call of a site in memory leaves, whether it adds a step to the record or leaves all as it was.
--     Leaves                                    of the record, of all bytes and of the other side; and how time goes on
--     WithinBound                               what is possible while a write or a cut runs
--     Outcome, Writes, Cuts                     how a write or a cut went, by what the disk says of it
--     write_leaves, cut_leaves, sync_leaves     what each of the three leaves
--     side_written, side_missed                 the side after a write or a cut that succeeds, and after one that fails
--     side_synced, side_unsynced                the same for a sync
--     elapses_kept                              an output is kept or not
use Rattle.std.proofs.Common.{◌≡◌, ◌⊎◌, inl, inr, ⊎_elim, ℕ, ◌+◌, ◌≤◌, Bool, true, false, cond, nat_lt, List, [], ◌∷◌, ◌++◌, length, take}
use Rattle.std.proofs.Common.{Option, None, Some, unwrap_or, Result, Ok, Err, is_err, OnOk, OnErr, sym, ◌∙◌, ap, subst, subst₂, arith}
use Rattle.std.proofs.lemmas.List.{length-take-le}
use Rattle.cc_messages.specs.declared.output.Output.{Output}
use Rattle.cc_site.specs.declared.site.Side.{Side}
use Rattle.cc_site.specs.declared.steps.Step.{Step}
use Rattle.cc_site.specs.declared.disk.Disk.{Disk}
use Rattle.cc_site.specs.declared.memory.MemorySite.{MemorySite}
use Rattle.cc_site.specs.Sides.{SideState, MayLeave, other, firm, touch, overwritten, shift, settled}
use Rattle.cc_site.specs.Memory.{memory_state, memory_moment, memory_left_since}
use Rattle.cc_site.specs.SideLaws.{written_within, cut_within, settled_within, no_shorter_written}
use Rattle.cc_site.specs.Moments.{Contents, Possible, Within, Nothing, Elapses}
use Rattle.cc_site.specs.Crashes.{each_side}
use Rattle.cc_site.specs.Record.{AreBytes, Marks, no_marks, mark_write, mark_cut, marks, state_now, ToldFits, FirmFits, Since}
use Rattle.cc_site.specs.Disks.{bytes_of, AddsStep, StaysFull}
use Rattle.cc_site.specs.RecordLaws.{side_of, disk_state, elapses_same, this_side, that_side, told_fits, firm_fits, elapses, within, elapses_put}
use Rattle.cc_site.proofs.Bytes.{written_bytes, take_bytes}

-- what a disk call on a side leaves, and what is possible while it runs
pub record Leaves (m : MemorySite) (now : Disk) (side : Side) (here : Contents → List Output → Type 0) : Type 0 where
  pub told : ToldFits now.steps.items m.outputs.items
  pub firm : FirmFits (bytes_of now) now.steps.items
  pub bytes : (q : Side) → AreBytes (bytes_of now q)
  pub rest : disk_state now (other side) ≡ memory_state m (other side)
  pub time : Elapses (memory_moment m) (length now.steps.items + length m.outputs.items) (memory_left_since m)
      (Since (bytes_of now) now.steps.items m.outputs.items) here

-- while a write or a cut runs, the side is within this bound
abbrev pub WithinBound : MemorySite → Side → SideState → Contents → List Output → Type 0
WithinBound m side bound = Within side bound (memory_state m) m.outputs.items

-- the side with the step, were these its bytes
abbrev stepped : MemorySite → Side → (Marks → Marks) → List ℕ → SideState
stepped m side effect bytes = side_of bytes (effect (marks side m.disk.steps.items))

module _ (m : MemorySite) (now : Disk) (side : Side) (rest : bytes_of now (other side) ≡ bytes_of m.disk (other side)) where
  bytes_after : (bytes : List ℕ) → bytes_of now side ≡ bytes → AreBytes bytes → (q : Side) → AreBytes (bytes_of now q)
  bytes_after bytes is are =
      each_side side (λ q. AreBytes (bytes_of now q)) (subst AreBytes (sym is) are) (subst AreBytes (sym rest) (m.are_bytes (other side)))

  -- no step
  as_it_was : (here : Contents → List Output → Type 0) → now.steps.items ≡ m.disk.steps.items → bytes_of now side ≡ bytes_of m.disk side
      → Leaves m now side here
  as_it_was here steps this = record {
    told = subst (λ l. ToldFits l m.outputs.items) (sym steps) m.told_fits;
    firm = subst₂ FirmFits (sym files) (sym steps) m.firm_fits;
    bytes = bytes_after (bytes_of m.disk side) this (m.are_bytes side);
    rest = λ i. state_now (files i) (steps i) (other side);
    time = subst₂ (λ (f : Side → List ℕ) (l : List Step). Elapses (memory_moment m) (length l + length m.outputs.items) (memory_left_since m)
        (Since f l m.outputs.items) here) (sym files) (sym steps) (elapses_same (bytes_of m.disk) m.disk.steps.items m.outputs.items here);
  }
    where
      files : bytes_of now ≡ bytes_of m.disk
      files = λ i q. each_side side (λ q. bytes_of now q ≡ bytes_of m.disk q) this rest q i

  -- one step more
  module _ (told : ℕ) (told_is : told ≡ length m.outputs.items) (effect : Marks → Marks) (adds : AddsStep side told m.disk now effect)
      (bytes : List ℕ) (is : bytes_of now side ≡ bytes) where
    side_after : disk_state now side ≡ stepped m side effect bytes
    side_after = this_side m.disk now side told m.outputs.items told_is effect adds rest ∙ ap (stepped m side effect) is

    with_step : (here : Contents → List Output → Type 0) → AreBytes bytes → firm (stepped m side effect bytes) ≤ length bytes
        → ((left : Contents) (put : List Output) → Possible (disk_state now) m.outputs.items left put
        → here left put ⊎ Possible (memory_state m) m.outputs.items left put) → Leaves m now side here
    with_step here are fits seen = record {
      told = told_fits m.disk now side told m.outputs.items told_is effect adds rest m.told_fits;
      firm = firm_fits m.disk now side told m.outputs.items told_is effect adds rest m.firm_fits
          (subst₂ (λ (s : SideState) (l : List ℕ). firm s ≤ length l) (sym side_after) (sym is) fits);
      bytes = bytes_after bytes is are;
      rest = that_side m.disk now side told m.outputs.items told_is effect adds rest;
      time = elapses m.disk now side told m.outputs.items told_is effect adds rest here m.told_fits seen;
    }

    -- one that leaves nothing else than what is within the bound
    bounded : (bound : SideState) → AreBytes bytes → firm (stepped m side effect bytes) ≤ length bytes
        → ((l : List ℕ) → MayLeave (stepped m side effect bytes) l → MayLeave bound l) → Leaves m now side (WithinBound m side bound)
    bounded bound are fits less = with_step (WithinBound m side bound) are fits (λ left put possible.
        inl (within m.disk now side told m.outputs.items told_is effect adds rest bound left put
        (λ l may. less l (subst (λ s. MayLeave s l) side_after may)) possible))

-- how a write or a cut went, which makes these bytes of its side
pub record Outcome {T E : Type 0} (result : Result T E) (m : MemorySite) (now : Disk) (side : Side) (to : List ℕ) (effect : Marks → Marks) : Type 0 where
  pub told : ℕ
  pub told_is : told ≡ length m.outputs.items
  pub ok : OnOk result (bytes_of now side ≡ to)
  pub err : OnErr result (bytes_of now side ≡ bytes_of m.disk side)
  pub rest : bytes_of now (other side) ≡ bytes_of m.disk (other side)
  pub adds : OnOk result (AddsStep side told m.disk now effect)
  pub missed : OnErr result (AddsStep side told m.disk now effect ⊎ StaysFull m.disk now)

-- of a write from a place on;  of a cut to a length
abbrev pub Writes : {T E : Type 0} → Result T E → MemorySite → Disk → Side → ℕ → List ℕ → Type 0
Writes r m now side place bytes =
    let old = bytes_of m.disk side in
    Outcome r m now side (overwritten old place bytes) (λ s. mark_write s (length old) place (length bytes))

abbrev pub Cuts : {T E : Type 0} → Result T E → MemorySite → Disk → Side → ℕ → Type 0
Cuts r m now side to = let old = bytes_of m.disk side in Outcome r m now side (take to old) (λ s. mark_cut s (length old) to)

module _ (m : MemorySite) (now : Disk) (side : Side) (to : List ℕ) (effect : Marks → Marks) where
  -- the side while the call runs
  abbrev bound : SideState
  bound = stepped m side effect (bytes_of m.disk side)

  leaves : {T E : Type 0} (r : Result T E) → Outcome r m now side to effect → AreBytes to → firm (stepped m side effect to) ≤ length to
      → firm bound ≤ length (bytes_of m.disk side) → ((l : List ℕ) → MayLeave (stepped m side effect to) l → MayLeave bound l)
      → Leaves m now side (WithinBound m side bound)
  leaves (Ok v) o are fits fits_old less = bounded m now side o.rest o.told o.told_is effect o.adds to o.ok bound are fits less
  leaves (Err e) o are fits fits_old less = ⊎_elim
      (λ adds. bounded m now side o.rest o.told o.told_is effect adds (bytes_of m.disk side) o.err bound (m.are_bytes side) fits_old (λ l may. may))
      (λ none. as_it_was m now side o.rest (WithinBound m side bound) none.0 o.err) o.missed

  -- the side after it, told by another result that fails alike
  pub side_written : {T E U F : Type 0} (r : Result T E) (s : Result U F) → is_err s ≡ is_err r → Outcome r m now side to effect
      → OnOk s (disk_state now side ≡ stepped m side effect to)
  side_written (Ok v) (Ok w) alike o = side_after m now side o.rest o.told o.told_is effect o.adds to o.ok
  side_written (Err e) (Ok w) alike o = absurd cc
  side_written r (Err f) alike o = tt

  pub side_missed : {T E U F : Type 0} (r : Result T E) (s : Result U F) → is_err s ≡ is_err r → Outcome r m now side to effect
      → OnErr s ((disk_state now side ≡ bound) ⊎ (disk_state now side ≡ memory_state m side))
  side_missed (Err e) (Err f) alike o = ⊎_elim
      (λ adds. inl (side_after m now side o.rest o.told o.told_is effect adds (bytes_of m.disk side) o.err))
      (λ none. inr (λ i. side_of (o.err i) (marks side (none.0 i)))) o.missed
  side_missed (Ok v) (Err f) alike o = absurd cc
  side_missed r (Ok w) alike o = tt

firm_by : (shifted : Option ℕ) (b : Bool) (len longer : ℕ) → unwrap_or shifted len ≤ len → len ≤ longer
    → unwrap_or (cond b (Some (unwrap_or shifted len)) shifted) longer ≤ longer
firm_by shifted true len longer fits le = omega arith
firm_by None false len longer fits le = omega arith
firm_by (Some w) false len longer fits le = omega arith

pub write_leaves : {T E : Type 0} (r : Result T E) (m : MemorySite) (now : Disk) (side : Side) (place : ℕ) (bytes : List ℕ) → AreBytes bytes
    → place ≤ length (bytes_of m.disk side) → Writes r m now side place bytes
    → Leaves m now side (WithinBound m side (touch (memory_state m side) place (length bytes)))
write_leaves r m now side place bytes are fits o =
    let old = bytes_of m.disk side in
    let to = overwritten old place bytes in
    let firm_for = firm_by (memory_state m side).shifted (nat_lt (length old) (place + length bytes)) (length old) in
    leaves m now side to (λ s. mark_write s (length old) place (length bytes)) r o (written_bytes old bytes place (m.are_bytes side) are)
    (firm_for (length to) (m.firm_fits side) (no_shorter_written old bytes place fits)) (firm_for (length old) (m.firm_fits side) (omega arith))
    (λ l. written_within (memory_state m side) place bytes l fits)

pub cut_leaves : {T E : Type 0} (r : Result T E) (m : MemorySite) (now : Disk) (side : Side) (to : ℕ) → to ≤ length (bytes_of m.disk side)
    → Cuts r m now side to → Leaves m now side (WithinBound m side (shift (memory_state m side) to))
cut_leaves r m now side to fits o =
    let old = bytes_of m.disk side in
    leaves m now side (take to old) (λ s. mark_cut s (length old) to) r o (take_bytes to old (m.are_bytes side))
    (omega (arith, length-take-le to old fits)) (omega arith) (cut_within (memory_state m side) to)

-- a sync leaves all bytes alone
module _ (m : MemorySite) (now : Disk) (side : Side) (told : ℕ) (told_is : told ≡ length m.outputs.items)
    (this : bytes_of now side ≡ bytes_of m.disk side) (rest : bytes_of now (other side) ≡ bytes_of m.disk (other side)) where
  -- a sync marks nothing as touched any more
  abbrev Syncs : Type 0
  Syncs = AddsStep side told m.disk now (λ _. no_marks)

  after_sync : Syncs → disk_state now side ≡ settled (memory_state m side)
  after_sync adds = side_after m now side rest told told_is (λ _. no_marks) adds (bytes_of m.disk side) this

  -- a crash leaves nothing else of it than before
  possible_before : Syncs → (left : Contents) (put : List Output) → Possible (disk_state now) m.outputs.items left put
      → Possible (memory_state m) m.outputs.items left put
  possible_before adds left put possible = record {
    each = each_side side (λ q. MayLeave (memory_state m q) (left q))
        (settled_within (memory_state m side) (left side) (m.firm_fits side)
        (subst (λ s. MayLeave s (left side)) (after_sync adds) (possible.each side)))
        (subst (λ s. MayLeave s (left (other side))) (that_side m.disk now side told m.outputs.items told_is (λ _. no_marks) adds rest)
        (possible.each (other side)));
    outlet = possible.outlet;
  }

  pub sync_leaves : {T E : Type 0} (r : Result T E) → OnOk r Syncs → OnErr r (now.steps.items ≡ m.disk.steps.items) → Leaves m now side Nothing
  sync_leaves (Ok v) adds err = with_step m now side rest told told_is (λ _. no_marks) adds (bytes_of m.disk side) this Nothing (m.are_bytes side)
      (omega arith) (λ left put possible. inr (possible_before adds left put possible))
  sync_leaves (Err e) adds err = as_it_was m now side rest Nothing err this

  pub side_synced : {T E U F : Type 0} (r : Result T E) (s : Result U F) → is_err s ≡ is_err r → OnOk r Syncs
      → OnOk s (disk_state now side ≡ settled (memory_state m side))
  side_synced (Ok v) (Ok w) alike adds = after_sync adds
  side_synced (Err e) (Ok w) alike adds = absurd cc
  side_synced r (Err f) alike adds = tt

  pub side_unsynced : {T E U F : Type 0} (r : Result T E) (s : Result U F) → is_err s ≡ is_err r
      → OnErr r (now.steps.items ≡ m.disk.steps.items) → OnErr s (disk_state now side ≡ memory_state m side)
  side_unsynced (Err e) (Err f) alike err = λ i. side_of (this i) (marks side (err i))
  side_unsynced (Ok v) (Err f) alike err = absurd cc
  side_unsynced r (Ok w) alike err = tt

-- an output is kept or not
pub elapses_kept : (files : Side → List ℕ) (steps : List Step) (outputs later : List Output) → ToldFits steps outputs
    → (later ≡ outputs) ⊎ ((o : Output) × (later ≡ outputs ++ o ∷ []))
    → Elapses (length steps + length outputs) (length steps + length later) (Since files steps outputs) (Since files steps later)
    (Possible (state_now files steps) later)
elapses_kept files steps outputs later fits cases = ⊎_elim
    (λ same. subst elapsed (sym same) (elapses_same files steps outputs (Possible (state_now files steps) outputs)))
    (λ put. subst elapsed (sym put.1) (elapses_put files steps outputs put.0 fits)) cases
  where
    elapsed : List Output → Type 0
    elapsed l = Elapses (length steps + length outputs) (length steps + length l) (Since files steps outputs) (Since files steps l)
        (Possible (state_now files steps) l)
