-- The rows that a node writes are those of its writing asks, in the order in which these were accepted.
--     write_front                   a write of a front is one of the whole
--     fresh_writes                  of a fresh node: what holds of each write holds of each row that is written along
use Rattle.std.proofs.Common.{◌≡◌, ℕ, ◌+◌, ◌<◌, arith, zero, suc, true, List, [], ◌∷◌, ◌++◌, length, refl, sym, ap, subst, ◌∙◌, append_assoc, length-append}
use Rattle.std.specs.Prelude.{Some, slice_get}
use Rattle.cc_views.specs.declared.value.Value.{Value}
use Rattle.cc_messages.specs.declared.event.Event.{Event}
use Rattle.cc_ops.specs.declared.pending_operation.Asked.{Asked}
use Rattle.cc_ops.specs.Ops.{Ops, nothing_stored}
use Rattle.cc_ops.specs.Rounds.{of_kind}
use Rattle.cc_ops.specs.WaitingAsks.{writes_by, written_by}
use Rattle.cc_node.specs.Core.{begun, next}
use Rattle.cc_node.specs.Node.{Node, step, after, IsLawful}
use Rattle.cc_node.specs.Openings.{Opening, IsOpening, fresh}
use Rattle.cc_node.specs.Writes.{asked_by, asked_along, begun_along}
use Rattle.cc_node.proofs.CoreLaws.{own_number, own_value}
use Rattle.cc_node.proofs.FreshLaws.{fresh_lawful}
use Rattle.cc_node.proofs.OrderLaws.{begin_in_order}
use Rattle.cc_laws.specs.Written.{values_of, IsWrite, IsWriteOf}
use Rattle.cc_laws.proofs.Rows.{OfWrite, WritesAlong}
use Rattle.cc_laws.proofs.Steps.{me_next}
use Rattle.cc_laws.proofs.Written.{last_write, length-values, values_both, values_kind, slice_get_front, slice_get_behind}

pub write_in_front : (mine : Value) (xs ys : List Asked) (k : ℕ) (x : Value) → IsWrite (values_of mine xs) k x → IsWrite (values_of mine (xs ++ ys)) k x
write_in_front mine xs ys k x h =
    let rest = values_of (written_by xs mine) ys in
    (h.0, h.1, ap (λ l. slice_get l h.0) (values_both mine xs ys) ∙ slice_get_front (values_of mine xs) rest h.0 x h.2)

pub asked_both : (xs ys : List Event) → asked_along (xs ++ ys) ≡ asked_along xs ++ asked_along ys
asked_both [] ys = refl
asked_both (e ∷ xs) ys = ap (λ (l : List Asked). asked_by e ++ l) (asked_both xs ys) ∙ sym (append_assoc (asked_by e) (asked_along xs) (asked_along ys))

-- a write of a front of the events is one of all
pub write_front : (xs ys : List Event) (k : ℕ) (x : Value) → IsWriteOf xs k x → IsWriteOf (xs ++ ys) k x
write_front xs ys k x h =
    subst (λ (l : List Asked). IsWrite (values_of nothing_stored l) k x) (sym (asked_both xs ys))
    (write_in_front nothing_stored (asked_along xs) (asked_along ys) k x h)

pub fresh_mine : (o : Opening) → (fresh o).core.ops.mine ≡ nothing_stored
unfolding fresh
fresh_mine o = refl

pub fresh_line : (o : Opening) → (fresh o).core.ops.line ≡ []
unfolding fresh
fresh_line o = refl

pub fresh_number : (o : Opening) → (fresh o).core.ops.number ≡ 0
unfolding fresh
fresh_number o = refl

pub fresh_me : (o : Opening) → (fresh o).core.me ≡ o.me
unfolding fresh
fresh_me o = refl

-- of the writing asks what begins is a front of what was accepted
pub begun_write : (o : Opening) (es : List Event) → IsOpening o → IsLawful (fresh o) es → (k : ℕ) (x : Value)
    → IsWrite (values_of nothing_stored (begun_along (fresh o) es)) k x → IsWriteOf es k x
begun_write o es opens lawful k x h =
    let begun = begun_along (fresh o) es in
    let waits = (after (fresh o) es).core.ops.line in
    let asks = asked_along es in
    let order : of_kind true asks ≡ of_kind true (begun ++ waits) =
    ap (λ (l : List Asked). of_kind true (l ++ asks)) (sym (fresh_line o)) ∙ begin_in_order true (fresh o) es (fresh_lawful o opens) lawful in
    let same : values_of nothing_stored asks ≡ values_of nothing_stored (begun ++ waits) =
    values_kind nothing_stored asks ∙ ap (values_of nothing_stored) order ∙ sym (values_kind nothing_stored (begun ++ waits)) in
    subst (λ (l : List Value). IsWrite l k x) (sym same) (write_in_front nothing_stored begun waits k x h)

module _ (P : ℕ → ℕ → Value → Type 0) where
  -- P holds of the rows that are written from here on; earlier are the values that were written before
  record Covers (me number : ℕ) (mine : Value) (earlier : List Value) (asks : List Asked) : Type 0 where
    count : length earlier ≡ number
    each : (k : ℕ) (x : Value) → slice_get (earlier ++ values_of mine asks) k ≡ Some x → P me (k + 1) x

  moved : (me you number other : ℕ) (mine yours : Value) (earlier : List Value) (asks : List Asked)
      → you ≡ me → other ≡ number → yours ≡ mine → Covers me number mine earlier asks → Covers you other yours earlier asks
  moved me you number other mine yours earlier asks a b c h = record {
    count = h.count ∙ sym b;
    each = λ k x g. subst (λ q. P q (k + 1) x) (sym a) (h.each k x (subst (λ v. slice_get (earlier ++ values_of v asks) k ≡ Some x) c g));
  }

  -- some asks begin
  begun_covers : (me number : ℕ) (mine : Value) (earlier : List Value) (asks more : List Asked)
      → Covers me number mine earlier (asks ++ more) → Covers me (number + writes_by asks) (written_by asks mine) (earlier ++ values_of mine asks) more
  begun_covers me number mine earlier asks more h = record {
    count = length-append earlier (values_of mine asks) ∙ (λ i. h.count i + length-values mine asks i);
    each = λ k x g. h.each k x (
        ap (λ l. slice_get (earlier ++ l) k) (values_both mine asks more)
        ∙ ap (λ l. slice_get l k) (sym (append_assoc earlier (values_of mine asks) (values_of (written_by asks mine) more))) ∙ g);
  }

  now_written : (me : ℕ) (s : Ops) (earlier : List Value) (asks more : List Asked) → Covers me s.number s.mine earlier (asks ++ more) → OfWrite P me s asks
  now_written me s earlier asks more h = λ some. last_of (writes_by asks) refl some
    where
      last_of : (n : ℕ) → writes_by asks ≡ n → 0 < n → P me (s.number + writes_by asks) (written_by asks s.mine)
      last_of zero is some = absurd (omega (arith, some))
      last_of (suc n) is some =
          let w = written_by asks s.mine in
          let there : slice_get (earlier ++ values_of s.mine (asks ++ more)) (length earlier + n) ≡ Some w =
          slice_get_behind earlier (values_of s.mine (asks ++ more)) n ∙ ap (λ l. slice_get l n) (values_both s.mine asks more)
          ∙ slice_get_front (values_of s.mine asks) (values_of w more) n w (last_write asks s.mine n is) in
          let number : length earlier + n + 1 ≡ s.number + writes_by asks = omega (arith, h.count, is) in
          subst (λ k. P me k w) number (h.each (length earlier + n) w there)

  writes_along : (n : Node) (es : List Event) (earlier : List Value) → Covers n.core.me n.core.ops.number n.core.ops.mine earlier (begun_along n es)
      → WritesAlong P n es
  unfolding step
  writes_along n [] earlier h = tt
  writes_along n (e ∷ es) earlier h =
      let c = n.core in
      let asks = begun c e in
      let more = begun_along (step n e) es in (
        now_written c.me c.ops earlier asks more h,
        writes_along (step n e) es (earlier ++ values_of c.ops.mine asks)
            (moved c.me (next c e).me (c.ops.number + writes_by asks) (next c e).ops.number (written_by asks c.ops.mine) (next c e).ops.mine
            (earlier ++ values_of c.ops.mine asks) more
            (me_next c e) (own_number c e) (own_value c e) (begun_covers c.me c.ops.number c.ops.mine earlier asks more h)),
      )

  pub fresh_writes : (o : Opening) (es : List Event) → IsOpening o → IsLawful (fresh o) es → ((k : ℕ) (x : Value) → IsWriteOf es k x → P o.me k x)
      → WritesAlong P (fresh o) es
  fresh_writes o es opens lawful h =
      writes_along (fresh o) es [] (record {
        count = sym (fresh_number o);
        each = λ k x g. subst (λ q. P q (k + 1) x) (sym (fresh_me o)) (h (k + 1) x (begun_write o es opens lawful (k + 1) x
            (k, refl, subst (λ v. slice_get (values_of v (begun_along (fresh o) es)) k ≡ Some x) (fresh_mine o) g)));
      })
