-- Room in the own set, as an ask begins, or waits.
--     none_waits, may_wait      nothing waits where nothing is pending; anything may where something is
--     begin_room, wait_room     room for what waits, as an ask begins where nothing waits, and as it waits behind the others
--     no_room                   where one finds no room, not all do
use Rattle.std.proofs.Common.{◌≡◌, ℕ, zero, suc, ◌+◌, ◌<◌, ◌≤◌, arith, nat_lt, ◌&&◌, Bool, true, false, List, [], ◌∷◌, ◌++◌, length, drop, get_or}
use Rattle.std.proofs.Common.{refl, sym, ap, subst, ◌∙◌}
use Rattle.std.specs.Prelude.{Option, Some, None, is_some, option_map, if◌then◌else◌}
use Rattle.std.proofs.lemmas.Bool.{cond_both, lt-ltb, ltb-true, ne_eqb}
use Rattle.std.proofs.lemmas.List.{drop_more}
use Rattle.cc_views.specs.Limits.{counter_limit, set_limit, overruns}
use Rattle.cc_views.specs.NatSets as set
use Rattle.cc_views.specs.NatSets.{len_within}
use Rattle.cc_views.specs.Rows.{ViewMap, single}
use Rattle.cc_views.specs.Merge.{merge}
use Rattle.cc_views.specs.declared.value.Value.{Value}
use Rattle.cc_messages.specs.declared.command.Command.{Command}
use Rattle.cc_ops.specs.declared.pending_operation.Asked.{Asked}
use Rattle.cc_ops.specs.declared.stage.Stage.{Stage}
use Rattle.cc_ops.specs.declared.stage.Stage.TheVariants as stage
use Rattle.cc_ops.specs.Commands.{is_writing, written, finds_no_room}
use Rattle.cc_ops.specs.OwnLaws.{last_number}
use Rattle.cc_ops.specs.Refusals.{passes}
use Rattle.cc_ops.specs.Ops.{Ops, Phase, Idle, Storing, Querying, StoringBack, is_idle, is_last, counted, after_ack, begun_in, round_of, next_round}
use Rattle.cc_ops.specs.Ops.{with_own_row, with_written, begin_round, after_last}
use Rattle.cc_ops.specs.Rounds.{picked, spared, first_round, line_behind}
use Rattle.cc_ops.specs.RoundLaws.{round_written, behind_within}
use Rattle.cc_ops.specs.Stages.{phase_of, WaitsBehind, HasRoom}
use Rattle.cc_ops.specs.WaitingAsks.{first_in, writes_by, written_by}
use Rattle.cc_ops.specs.WaitingAskLaws.{written_last, written_both, written_fits, first_room}

pub none_waits : (at : Stage) (seen : ViewMap) (line : List Asked) → is_idle (phase_of at seen) ≡ true → WaitsBehind at line → line ≡ []
none_waits stage.Idle seen line idle h = h
none_waits (stage.Storing p) seen line idle h = cc
none_waits (stage.Querying p) seen line idle h = cc
none_waits (stage.StoringBack p) seen line idle h = cc

pub may_wait : (at : Stage) (seen : ViewMap) (line : List Asked) → is_idle (phase_of at seen) ≡ false → WaitsBehind at line
may_wait stage.Idle seen line busy = cc
may_wait (stage.Storing p) seen line busy = tt
may_wait (stage.Querying p) seen line busy = tt
may_wait (stage.StoringBack p) seen line busy = tt

pub begin_room : (line : List Asked) (k : Command) (mine : Value) → line ≡ [] → finds_no_room (written_by line mine) k ≡ false → HasRoom line mine
    → HasRoom line (written k mine)
begin_room [] k mine none room h = written_fits k mine room h
begin_room (a ∷ line) k mine none room h = cc

pub wait_room : (line : List Asked) (a : Asked) (mine : Value) → finds_no_room (written_by line mine) a.command ≡ false → HasRoom line mine
    → HasRoom (line ++ a ∷ []) mine
wait_room line a mine room h =
    subst (λ (v : Value). set.len v.set ≤ set_limit) (sym (written_last line a mine)) (written_fits a.command (written_by line mine) room h)

-- ---- the first of those that wait

pub no_room : (asks : List Asked) (i : ℕ) (value mine : Value) (a : Asked) → i < length asks → a ≡ get_or asks i a
    → written_by (drop i asks) value ≡ written_by asks mine
    → finds_no_room value a.command ≡ true → HasRoom asks mine → ⊥
no_room asks i value mine a inside is same full h =
    let front : drop i asks ≡ a ∷ drop (i + 1) asks = drop_more asks i a inside ∙ ap (λ (x : Asked). x ∷ drop (i + 1) asks) (sym is) in
    let here : written_by (a ∷ drop (i + 1) asks) value ≡ written_by asks mine = ap (λ (l : List Asked). written_by l value) (sym front) ∙ same in
    both_ways (finds_no_room value a.command) full (first_room a (drop (i + 1) asks) value (subst (λ (v : Value). set.len v.set ≤ set_limit) (sym here) h))
  where
    both_ways : (b : Bool) → b ≡ true → b ≡ false → ⊥
    both_ways true e f = cc
    both_ways false e f = cc

-- ---- a round that begins

pub round_room : (share : ℕ) (line : List Asked) (mine : Value) → HasRoom line mine
    → HasRoom (line_behind share line) (written_by (first_round share line) mine)
round_room share line mine h =
    subst (λ (v : Value). set.len v.set ≤ set_limit)
    (sym (round_written share line mine) ∙ written_both (first_round share line) (line_behind share line) mine) h

pub behind_room : (share : ℕ) (line : List Asked) (mine : Value) → HasRoom line mine → HasRoom (line_behind share line) mine
behind_room share line mine h =
    let less : set.len (written_by (line_behind share line) mine).set ≤ set.len (written_by line mine).set =
    len_within (written_by (line_behind share line) mine).set (written_by line mine).set (behind_within share line mine) in
    omega (arith, less, h)

-- of a round whose first ask writes the row is that of its last one
pub round_view : (me quorum : ℕ) (a : Asked) (s : Ops) → Some a ≡ first_in s.line → is_writing a.command ≡ true → 1 ≤ s.share
    → (after_last me quorum s).view
    ≡ merge s.view (single (record {
      node = me;
      number = s.number + writes_by (first_round s.share s.line);
      value = written_by (first_round s.share s.line) s.mine;
    }))
round_view me quorum a s first writes some = of_line s.share s.line first some
  where
    of_line : (share : ℕ) (line : List Asked) → Some a ≡ first_in line → 1 ≤ share
        → (begin_round me quorum (first_round share line) (record s { line = line_behind share line })).view
        ≡ merge s.view (single (record {
          node = me;
          number = s.number + writes_by (first_round share line);
          value = written_by (first_round share line) s.mine;
        }))
    of_line share [] first some = cc
    of_line zero (b ∷ line) first some = absurd (omega (arith, some))
    of_line (suc n) (b ∷ line) first some =
        let same : a ≡ b = cc in
        let is : is_writing b.command ≡ true = subst (λ (x : Asked). is_writing x.command ≡ true) same writes in
        let round = b ∷ picked (is_writing b.command) n line in
        let t : Ops = record s { line = spared (is_writing b.command) n line } in
        ap (λ (c : Bool). (if c then next_round (Storing (round_of quorum b)) (with_own_row me (with_written round t)) else
        next_round (Querying (round_of quorum b)) t).view) is

-- the counters as one does
pub round_tag : (me quorum : ℕ) (a : Asked) (s : Ops) → Some a ≡ first_in s.line → 1 ≤ s.share → (after_last me quorum s).tag ≡ s.tag + 1
round_tag me quorum a s first some = of_line s.share s.line first some
  where
    of_line : (share : ℕ) (line : List Asked) → Some a ≡ first_in line → 1 ≤ share
        → (begin_round me quorum (first_round share line) (record s { line = line_behind share line })).tag ≡ s.tag + 1
    of_line share [] first some = cc
    of_line zero (b ∷ line) first some = absurd (omega (arith, some))
    of_line (suc n) (b ∷ line) first some =
        cond_both (is_writing b.command)
        (next_round (Storing (round_of quorum b)) (with_own_row me (with_written (b ∷ picked (is_writing b.command) n line)
        (record s { line = spared (is_writing b.command) n line }))))
        (next_round (Querying (round_of quorum b)) (record s { line = spared (is_writing b.command) n line }))
        (λ (u : Ops). u.tag ≡ s.tag + 1) (λ _. refl) (λ _. refl)

-- the round that begins has the first ask of the line
first_same : (share : ℕ) (line : List Asked) → 1 ≤ share → first_in (first_round share line) ≡ first_in line
first_same zero line some = absurd (omega (arith, some))
first_same (suc n) [] some = refl
first_same (suc n) (a ∷ line) some = refl

-- what the acknowledgement makes of the counters that lets a round begin
pub record Raises (s t : Ops) : Type 0 where
  pub number : t.number ≡ s.number + writes_by (first_round s.share s.line)
  pub tag : t.tag ≡ s.tag + 1

either_raises : (me quorum : ℕ) (b : Bool) (a : Asked) (s more : Ops) → Some a ≡ first_in (if b then first_round s.share s.line else []) → 1 ≤ s.share
    → Raises s (if b then after_last me quorum s else more)
either_raises me quorum true a s more first some = record {
  number = last_number me quorum s;
  tag = round_tag me quorum a s (first ∙ first_same s.share s.line some) some;
}
either_raises me quorum false a s more first some = cc

pub ack_raises : (me quorum : ℕ) (phase : Phase) (a : Asked) (s : Ops) → Some a ≡ first_in (begun_in phase s) → 1 ≤ s.share
    → Raises s (after_ack me quorum phase s)
ack_raises me quorum Idle a s first some = cc
ack_raises me quorum (Storing p) a s first some = either_raises me quorum (is_last p) a s (record s { phase = Storing (counted p) }) first some
ack_raises me quorum (Querying p) a s first some = cc
ack_raises me quorum (StoringBack p seen) a s first some = either_raises me quorum (is_last p) a s
    (record s { phase = StoringBack (counted p) seen }) first some

pub passes_by : (n k : ℕ) → n ≤ counter_limit → passes n (n + k) ≡ nat_lt counter_limit (n + k)
passes_by n k within =
    elim (nat_lt counter_limit (n + k)) as (λ b. nat_lt counter_limit (n + k) ≡ b → (nat_lt n (n + k) && b) ≡ b) [
      | true ↦ λ e. ap (λ b. b && true) (lt-ltb n (n + k) (omega (arith, within, ltb-true counter_limit (n + k) e)))
      | false ↦ λ _. elim (nat_lt n (n + k)) as (λ b. (b && false) ≡ false) [ true ↦ refl | false ↦ refl ]
    ] refl

pub some_there : {X : Type 0} (f : X → Asked) (o : Option X) (q : Option Asked) → is_some o ≡ true → option_map f o ≡ q → (a : Asked) × (Some a ≡ q)
some_there f None q there is = cc
some_there f (Some x) q there is = (f x, is)

-- a counter that stands below its limit isn't raised past it
pub none_overruns : (n m : ℕ) → (n ≡ counter_limit → ⊥) → overruns n m ≡ false
none_overruns n m below = ap (λ (b : Bool). b && nat_lt n m) (ne_eqb n counter_limit below)
