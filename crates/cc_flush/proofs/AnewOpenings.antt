-- What opening anew reads, and why it stops.
--     gate_same           an open gate that is written over itself changes no byte
--     gate_reads_same     so a read of either side gives what it gave
--     looked_reads_same   and so it does where both sides were looked at before
--     fails_alike         where reads give the same, opening stops for the same reasons
use Rattle.std.proofs.Common.{◌≡◌, inl, inr, ℕ, List, [], ◌∷◌, ◌++◌, take, drop, sym, ◌∙◌, ap, subst}
use Rattle.std.specs.Prelude.{Some, Ok, Err}
use Rattle.cc_site.specs.declared.site.Side.{Side}
use Rattle.cc_site.specs.declared.site.Side.TheVariants.{A, B}
use Rattle.cc_site.specs.declared.site.Site.{Ghosts}
use Rattle.cc_site.specs.Sides.{SideState, other, settled, written, overwritten}
use Rattle.cc_site.specs.Moments.{Contents}
use Rattle.cc_site.specs.Reads.{OnlyReads, bytes_of, reads_then}
use Rattle.cc_node_state.specs.Sides.{OPEN, IsArmed}
use Rattle.cc_checkpoint.specs.declared.side_choice.Peeked.{Peeked}
use Rattle.cc_checkpoint.specs.declared.side_choice.InUse.{InUse}
use Rattle.cc_checkpoint.specs.declared.open_fault.OpenFault.{OpenFault}
use Rattle.cc_checkpoint.specs.SideChoice.{chosen, peek_of}
use Rattle.cc_flush.specs.Openings.{OpenFails, ReadingFails, SideFails}
use Rattle.cc_flush.specs.Reopenings.{ReadsSame, older_of}
use Rattle.cc_flush.proofs.RearmedSides.{both_armed}

gate_same : (bytes : List ℕ) → IsArmed bytes → overwritten bytes 0 (OPEN ∷ []) ≡ bytes
gate_same [] armed = absurd cc
gate_same (b ∷ bs) armed = ap (λ (x : ℕ). x ∷ bs) (sym armed)

module _ {D : Type 0} (s : Ghosts D) where
  pub gate_reads_same : (old mid new : D) (older : Side) → ((side : Side) → IsArmed (s.state old side).bytes)
      → s.state mid older ≡ settled (s.state old older) → s.state mid (other older) ≡ s.state old (other older)
      → s.state new (other older) ≡ settled (written (s.state mid (other older)) 0 (OPEN ∷ []))
      → s.state new (other (other older)) ≡ s.state mid (other (other older)) → ReadsSame (bytes_of s old) (bytes_of s new)
  gate_reads_same old mid new A armed sure kept gate rest A = ap (λ (t : SideState). t.bytes) (rest ∙ sure)
  gate_reads_same old mid new A armed sure kept gate rest B =
      ap (λ (t : SideState). t.bytes) gate ∙ ap (λ (t : SideState). overwritten t.bytes 0 (OPEN ∷ [])) kept ∙ gate_same (s.state old B).bytes (armed B)
  gate_reads_same old mid new B armed sure kept gate rest A =
      ap (λ (t : SideState). t.bytes) gate ∙ ap (λ (t : SideState). overwritten t.bytes 0 (OPEN ∷ [])) kept ∙ gate_same (s.state old A).bytes (armed A)
  gate_reads_same old mid new B armed sure kept gate rest B = ap (λ (t : SideState). t.bytes) (rest ∙ sure)

  pub only_reads_same : (old new : D) → s.honest old → OnlyReads s old new → ReadsSame (bytes_of s old) (bytes_of s new)
  only_reads_same old new h reads side = ap (λ (state : Side → SideState). (state side).bytes) (reads.keeps_state h)

  -- both sides were looked at, and one is told as the older one
  pub looked_reads_same : (old first mid new : D) → s.honest old → OnlyReads s old first → OnlyReads s first mid → (p q : Peeked) (older : Side)
      → p ≡ peek_of (s.state old A).bytes → q ≡ peek_of (s.state first B).bytes → Some older ≡ older_of p q
      → (s.honest mid → ((side : Side) → IsArmed (s.state mid side).bytes) → ReadsSame (bytes_of s mid) (bytes_of s new))
      → ReadsSame (bytes_of s old) (bytes_of s new)
  looked_reads_same old first mid new h one two p q older at_a at_b is same side =
      let reads = reads_then s old first mid one two in
      let armed = both_armed (s.state old) p q older at_a (subst (λ (state : Side → SideState). q ≡ peek_of (state B).bytes) (one.keeps_state h) at_b) is in
      same (reads.keeps_honesty.0 h) (λ on. subst (λ (state : Side → SideState). IsArmed (state on).bytes) (sym (reads.keeps_state h)) (armed on)) side
      ∙ only_reads_same old mid h reads side

reading_fails_alike : (old new : Contents) → ReadsSame old new → (fault : OpenFault) → ReadingFails new fault → ReadingFails old fault
reading_fails_alike old new same fault (inl none) =
    inl (subst (λ (a : List ℕ). chosen a (old B) ≡ Err fault) (same A) (subst (λ (b : List ℕ). chosen (new A) b ≡ Err fault) (same B) none))
reading_fails_alike old new same fault (inr found) =
    inr (
      found.0,
      subst (λ (a : List ℕ). chosen a (old B) ≡ Ok found.0) (same A) (subst (λ (b : List ℕ). chosen (new A) b ≡ Ok found.0) (same B) found.1),
      subst (λ (l : List ℕ). SideFails found.0.side l fault) (same found.0.side) found.2,
    )

pub fails_alike : (old new : Contents) → ReadsSame old new → (fault : OpenFault) → OpenFails new fault → OpenFails old fault
fails_alike old new same fault fails = λ is. reading_fails_alike old new same fault (fails is)
