-- What holds of both states that a round may leave holds of the one that it leaves.
--     of_begun     asks begin with it, or none do
--     of_round     the round that asks begin writes, or it reads
--     of_ack       an acknowledgement is the last one that is needed, or not
--     of_reply     so is a reply
use Rattle.std.proofs.Common.{◌≡◌, ℕ, true, false, List, ◌∷◌, Bool, []}
use Rattle.std.specs.Prelude.{if◌then◌else◌}
use Rattle.std.proofs.lemmas.Bool.{cond_both}
use Rattle.cc_views.specs.Rows.{ViewMap}
use Rattle.cc_views.specs.Merge.{merge}
use Rattle.cc_ops.specs.declared.pending_operation.Asked.{Asked}
use Rattle.cc_ops.specs.declared.pending_operation.Pending.{Pending}
use Rattle.cc_ops.specs.Commands.{is_writing}
use Rattle.cc_ops.specs.Ops.{Ops, Phase, Storing, Querying, StoringBack, is_last, round_of, counted, merged, next_round, with_written, with_own_row}
use Rattle.cc_ops.specs.Ops.{begin_round, after_reply, after_last}
use Rattle.cc_laws.proofs.Lists.{either}

abbrev pub writing_round : ℕ → ℕ → Asked → List Asked → Ops → Ops
writing_round me quorum a others s =
    record (next_round (Storing (round_of quorum a)) (with_own_row me (with_written (a ∷ others) s))) { others = others }

abbrev pub reading_round : ℕ → Asked → List Asked → Ops → Ops
reading_round quorum a others s = record (next_round (Querying (round_of quorum a)) s) { others = others }

-- with the last reply, and with one more
abbrev pub stores_back : ℕ → ViewMap → Pending → Ops → Ops
stores_back quorum v p s = next_round (StoringBack (round_of quorum p.asked) (merge s.view v)) (merged v s)

abbrev pub awaits_more : ViewMap → Pending → Ops → Ops
awaits_more v p s = record (merged v s) { phase = Querying (counted p) }

-- of a state, and of what begins with it
pub of_begun : (P : Ops → List Asked → Type 0) (b : Bool) (t s : Ops) (asks : List Asked) → P t asks → P s []
    → P (if b then t else s) (if b then asks else [])
of_begun P true t s asks h k = h
of_begun P false t s asks h k = k

module _ (P : Ops → Type 0) where
  pub of_round : (me quorum : ℕ) (a : Asked) (others : List Asked) (s : Ops)
      → (is_writing a.command ≡ true → P (writing_round me quorum a others s))
      → (is_writing a.command ≡ false → P (reading_round quorum a others s))
      → P (begin_round me quorum (a ∷ others) s)
  of_round me quorum a others s writes reads =
      cond_both (is_writing a.command) (next_round (Storing (round_of quorum a)) (with_own_row me (with_written (a ∷ others) s)))
      (next_round (Querying (round_of quorum a)) s) (λ (t : Ops). P (record t { others = others })) writes reads

  pub of_ack : (me quorum : ℕ) (p : Pending) (phase : Phase) (s : Ops) → P (after_last me quorum s) → P (record s { phase = phase })
      → P (if is_last p then after_last me quorum s else record s { phase = phase })
  of_ack me quorum p phase s last more = either P (is_last p) (after_last me quorum s) (record s { phase = phase }) last more

  pub of_reply : (quorum : ℕ) (v : ViewMap) (p : Pending) (s : Ops) → P (stores_back quorum v p s) → P (awaits_more v p s)
      → P (after_reply quorum v (Querying p) s)
  of_reply quorum v p s last more = either P (is_last p) (stores_back quorum v p s) (awaits_more v p s) last more
