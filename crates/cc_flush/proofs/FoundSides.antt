-- What reading two sides found stands there, and opening them leaves it so.
use Rattle.std.proofs.Common.{slice_index, ◌≡◌, inl, inr, ℕ, ◌+◌, List, ◌∷◌, ◌++◌, length, drop, Result, Ok, Err, refl, sym, ◌∙◌, ap, subst}
use Rattle.std.proofs.Common.{arith, length-append}
use Rattle.std.specs.Prelude.{IfOk, IfErr}
use Rattle.std.proofs.lemmas.List.{append_assoc}
use Rattle.cc_wire.proofs.Spelled.{IsBytes}
use Rattle.cc_site.specs.declared.site.Side.{Side}
use Rattle.cc_site.specs.declared.site.Side.TheVariants.{A, B}
use Rattle.cc_site.specs.declared.site.Site.{Ghosts}
use Rattle.cc_site.specs.Reads.{OnlyReads, reads_then}
use Rattle.cc_site.specs.Sides.{SideState, MayLeave, other, settled}
use Rattle.cc_site.specs.Moments.{Contents}
use Rattle.cc_node.specs.Node.{Node}
use Rattle.cc_node_state.specs.Sides.{StandsAt}
use Rattle.cc_checkpoint.specs.declared.side_choice.InUse.{InUse}
use Rattle.cc_checkpoint.specs.declared.open_fault.OpenFault.{OpenFault}
use Rattle.cc_checkpoint.specs.SideChoice.{chosen}
use Rattle.cc_checkpoint.specs.Heads.{HeadAt}
use Rattle.cc_checkpoint.proofs.SideChoiceLaws.{chosen_takes}
use Rattle.cc_checkpoint.proofs.HeadLaws.{head_spelled}
use Rattle.cc_journal.specs.Journals.{Position}
use Rattle.cc_journal.specs.Scans.{ScansTo}
use Rattle.cc_flush.specs.declared.opened.Opened.{Opened}
use Rattle.cc_flush.specs.declared.opening.Found.{Found}
use Rattle.cc_flush.specs.Engine.{IsSettled, StandsNow}
use Rattle.cc_flush.proofs.KeptSides.{settled_bytes}
use Rattle.cc_flush.specs.Openings.{AreSettled, HoldsRecords, IsFound, SideFails, ReadingFails, OpenFails}

module _ (left : Contents) (used : InUse) (start node : Node) (first size records events : ℕ) (bytes : (side : Side) → IsBytes (left side))
    (chose : chosen (left A) (left B) ≡ Ok used) (at_head : HeadAt (left used.side) start first)
    (scans : ScansTo (drop first (left used.side)) start node size records events) where
  counted : HoldsRecords (left used.side) used.generation node (first + size) records events
  counted =
      let in_use = chosen_takes left used chose in
      let head = head_spelled (left used.side) used.generation start first (bytes used.side) in_use.armed in_use.from_one in_use.is at_head in
      record {
        holds = record {
          front = head.head ++ scans.front;
          gate = scans.gate;
          rest = scans.rest;
          parts = head.parts ∙ ap (λ (l : List ℕ). head.head ++ l) scans.parts ∙ sym (append_assoc head.head scans.front (scans.gate ∷ scans.rest));
          closed = scans.closed;
          at_place = length-append head.head scans.front ∙ omega (arith, head.size, scans.at_size);
          is_front = record {
            start = start;
            batches = scans.batches;
            head = head.head;
            records = scans.front;
            version = slice_index (left used.side) 9;
            parts = refl;
            known = at_head.version;
            head_spelled = head.spelled;
            records_spelled = scans.spelled;
            lawful = scans.lawful;
            leads_to = scans.leads_to;
          };
        };
        record_count = scans.record_count;
        event_count = scans.event_count;
      }

  pub held : StandsAt (left used.side) (left (other used.side)) used.generation (first + size) node
  held = record { holds = counted.holds; yields = (chosen_takes left used chose).yields }

  -- what is told of it, where the next record goes
  pub found_there : (at : Position) (len : ℕ) → at.side ≡ used.side → first + size ≡ at.place → len ≡ length (left used.side)
      → IsFound left node at used.generation len (record { side = used.side; records = records; events = events })
  found_there at len same place is =
      let opened : Opened = record { side = used.side; records = records; events = events } in
      subst (λ (n : ℕ). IsFound left node (record { side = at.side; place = n }) used.generation len opened) place
      (subst (λ (side : Side). IsFound left node (record { side = side; place = first + size }) used.generation len opened) (sym same) (record {
        stands = held;
        counted = record { side = refl; holds = counted };
        length = is;
      }))

pub reads_four : {D : Type 0} (s : Ghosts D) (old first second third new : D) → OnlyReads s old first → OnlyReads s first second → OnlyReads s second third
    → OnlyReads s third new → OnlyReads s old new
reads_four s old first second third new one two three four =
    reads_then s old third new (reads_then s old second third (reads_then s old first second one two) three) four

pub same_bytes : (old mid : Side → SideState) → AreSettled old mid → (side : Side) → (mid side).bytes ≡ (old side).bytes
same_bytes old mid is A = ap (λ (t : SideState). t.bytes) is.0
same_bytes old mid is B = ap (λ (t : SideState). t.bytes) is.1

pub are_settled : (old new : Side → SideState) → AreSettled old new → (side : Side) → IsSettled (new side)
are_settled old new is A = is.0 ∙ ap settled (sym is.0)
are_settled old new is B = is.1 ∙ ap settled (sym is.1)

-- the contents are the same on each side
module _ (mid old : Contents) (same : (side : Side) → mid side ≡ old side) where
  same_chosen : chosen (old A) (old B) ≡ chosen (mid A) (mid B)
  same_chosen = ap (λ (l : List ℕ). chosen l (old B)) (sym (same A)) ∙ ap (λ (l : List ℕ). chosen (mid A) l) (sym (same B))

  same_reading : (fault : OpenFault) → ReadingFails mid fault → ReadingFails old fault
  same_reading fault (inl none) = inl (same_chosen ∙ none)
  same_reading fault (inr some) =
      inr (some.0, same_chosen ∙ some.1, subst (λ (l : List ℕ). SideFails some.0.side l fault) (same some.0.side) some.2)

  pub same_fails : (result : Result Found OpenFault) → IfErr result (OpenFails mid) → IfErr result (OpenFails old)
  same_fails (Ok found) fails = tt
  same_fails (Err fault) fails = λ is. same_reading fault (fails is)

settled_read : (old mid new : Side → SideState) → AreSettled old mid → new ≡ mid → (side : Side) (left : List ℕ) → MayLeave (new side) left
    → left ≡ (mid side).bytes
settled_read old mid new is same side left may =
    settled_bytes (mid side) (are_settled old mid is side) left (subst (λ (t : Side → SideState). MayLeave (t side) left) same may)

-- what was found in settled sides stands there
pub if_found : (result : Result Found OpenFault) (old mid new : Side → SideState) → AreSettled old mid → new ≡ mid
    → IfOk result (λ found. IsFound (λ side. (mid side).bytes) found.node found.journal found.generation found.used found.opened)
    → IfOk result (λ found. StandsNow new found.journal found.generation found.node)
if_found (Ok found) old mid new is same there = λ bytes others may may_other.
    let at = found.journal in
    let here = settled_read old mid new is same at.side bytes may in
    let behind = settled_read old mid new is same (other at.side) others may_other in
    subst (λ (l : List ℕ). StandsAt l others found.generation at.place found.node) (sym here)
    (subst (λ (l : List ℕ). StandsAt (mid at.side).bytes l found.generation at.place found.node) (sym behind) there.stands)
if_found (Err fault) old mid new is same there = tt
