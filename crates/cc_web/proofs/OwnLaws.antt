-- The laws of the node's own sessions.
--     out_taken            a key that is taken is out
--     taken_once           until it is given back, its session isn't taken again
--     never_again          once an ask may stand under it, it isn't taken again
use Rattle.std.proofs.Common.{◌≡◌, ◌≢◌, inl, inr, ℕ, ◌+◌, ◌<◌, ◌≤◌, ◌^◌, ◌&&◌, Bool, true, cond, List, [], ◌∷◌, length, set, refl, sym, ap, subst, ◌∙◌, arith, nat_eq, nat_lt}
use Rattle.std.proofs.lemmas.Bool.{and_parts, false≢true, eqb-true, eq-eqb, lt-ltb, cases_eq, cond_both}
use Rattle.std.proofs.lemmas.List.{length-set, get_or-set_same, get_or-set_other}
use Rattle.cc_web.specs.OwnSessions.{place_of, fresh, row_at, is_out, after, Takes, given_back}
use Rattle.cc_web.specs.OwnHistories.{Deed, Took, Gave, Leads, IsOut, IsKept, IsUsed, TakenOnceAtATime, NeverTakenAgain}
use Rattle.cc_web.specs.declared.key.AskKey.{AskKey}
use Rattle.cc_web.specs.declared.own_sessions.Fate.{Fate}
use Rattle.cc_web.specs.declared.own_sessions.Fate.TheVariants as fate
use Rattle.cc_web.specs.declared.own_sessions.OwnSession.{OwnSession}

abbrev Rows : Type 0
Rows = List OwnSession

-- ---- rows

-- what holds of a row after a write to one
row_set : (P : OwnSession → Type 0) (rows : Rows) (p q : ℕ) (v : OwnSession) → p < length rows
    → (p ≡ q → P v) → (p ≢ q → P (row_at rows p)) → P (row_at (set rows q v) p)
row_set P rows p q v within here there =
    elim (cases_eq p q) as (λ _. P (row_at (set rows q v) p)) [
      | inl same ↦ subst (λ (n : ℕ). P (row_at (set rows n v) p)) same (subst P (sym (get_or-set_same rows p v (fresh 0) within)) (here same))
      | inr other ↦ subst P (sym (get_or-set_other rows q p v (fresh 0) other)) (there other)
    ]

within_set : (rows : Rows) (p q : ℕ) (v : OwnSession) → p < length rows → p < length (set rows q v)
within_set rows p q v within = omega (arith, within, length-set rows q v)

same_session : (s t : ℕ) → s < 2 ^ 64 → t < 2 ^ 64 → place_of s ≡ place_of t → s ≡ t
same_session s t small too same = omega arith

same_key : (a b : AskKey) → a.session ≡ b.session → a.request ≡ b.request → a ≡ b
same_key a b s r =
    ap (λ (x : ℕ). let k : AskKey = record { session = x; request = a.request } in k) s
    ∙ ap (λ (y : ℕ). let k : AskKey = record { session = b.session; request = y } in k) r

-- a key that is out is the next one of its row, which is taken
is_taken : (row : OwnSession) (r : ℕ) → is_out row r ≡ true → row.is_taken ≡ true
is_taken row r out = (and_parts row.is_taken (nat_eq r (row.last + 1)) out).0

is_next : (row : OwnSession) (r : ℕ) → is_out row r ≡ true → r ≡ row.last + 1
is_next row r out = eqb-true r (row.last + 1) (and_parts row.is_taken (nat_eq r (row.last + 1)) out).1

-- ---- a session is taken once at a time

taken_row : OwnSession → OwnSession
taken_row row = record row { is_taken = true }

pub out_taken : (rows new : Rows) (key : AskKey) → Takes rows key new → IsOut new key
unfolding taken_row
out_taken rows new key t =
    let p = place_of key.session in
    let here : IsOut (set rows p (taken_row (row_at rows p))) key = record {
      fits = t.fits;
      within = within_set rows p p (taken_row (row_at rows p)) t.best.within;
      out = row_set (λ row. is_out row key.request ≡ true) rows p p (taken_row (row_at rows p)) t.best.within
          (λ _. eq-eqb key.request ((row_at rows p).last + 1) t.request) (λ other. absurd (other refl));
    } in
    subst (λ (rs : Rows). IsOut rs key) (sym t.taken) here

out_beside : (rows mid : Rows) (key other : AskKey) → IsOut rows key → Takes rows other mid → IsOut mid key
unfolding taken_row
out_beside rows mid key other out t =
    let p = place_of key.session in
    let q = place_of other.session in
    let here : IsOut (set rows q (taken_row (row_at rows q))) key = record {
      fits = out.fits;
      within = within_set rows p q (taken_row (row_at rows q)) out.within;
      out = row_set (λ row. is_out row key.request ≡ true) rows p q (taken_row (row_at rows q)) out.within
          (λ same. absurd (false≢true (sym t.best.free ∙ ap (λ (n : ℕ). (row_at rows n).is_taken) (sym same) ∙ is_taken (row_at rows p) key.request out.out)))
          (λ _. out.out);
    } in
    subst (λ (rs : Rows). IsOut rs key) (sym t.taken) here

out_kept : (rows : Rows) (key other : AskKey) (what : Fate) → IsOut rows key → other.session < 2 ^ 64 → other ≢ key → IsOut (given_back rows other what) key
out_kept rows key other what out small differs =
    let p = place_of key.session in
    let q = place_of other.session in
    let v = after (row_at rows q) what in
    cond_both (nat_lt q (length rows) && is_out (row_at rows q) other.request) (set rows q v) rows (λ rs. IsOut rs key)
    (λ given. let there = (and_parts (nat_lt q (length rows)) (is_out (row_at rows q) other.request) given).1 in record {
      fits = out.fits;
      within = within_set rows p q v out.within;
      out = row_set (λ row. is_out row key.request ≡ true) rows p q v out.within
          (λ same. absurd (differs (same_key other key (same_session other.session key.session small out.fits (sym same))
          (is_next (row_at rows q) other.request there ∙ ap (λ (n : ℕ). (row_at rows n).last + 1) (sym same) ∙ sym (is_next (row_at rows p) key.request out.out)))))
          (λ _. out.out);
    })
    (λ _. out)

stays_out : (deeds : List Deed) (rows new : Rows) (key : AskKey) → IsOut rows key → Leads deeds rows new → IsKept key deeds → IsOut new key
stays_out [] rows new key out leads kept = subst (λ (rs : Rows). IsOut rs key) leads out
stays_out (Took other ∷ deeds) rows new key out leads kept =
    stays_out deeds leads.0 new key (out_beside rows leads.0 key other out leads.1) leads.2 kept
stays_out (Gave other what ∷ deeds) rows new key out leads kept =
    stays_out deeds (given_back rows other what) new key (out_kept rows key other what out leads.0 kept.0) leads.1 kept.1

pub taken_once : TakenOnceAtATime
taken_once rows mid new next key other deeds t leads kept u = λ same.
    let out = stays_out deeds mid new key (out_taken rows mid key t) leads kept in
    false≢true (sym u.best.free ∙ ap (λ (s : ℕ). (row_at new (place_of s)).is_taken) same ∙ is_taken (row_at new (place_of key.session)) key.request out.out)

-- ---- a key is used once

record IsPast (rows : Rows) (key : AskKey) : Type 0 where
  within : place_of key.session < length rows
  past : key.request ≤ (row_at rows (place_of key.session)).last

grows : (row : OwnSession) (what : Fate) → row.last ≤ (after row what).last
grows row fate.Answered = omega arith
grows row fate.Refused = omega arith
grows row fate.Abandoned = omega arith
grows row (fate.Behind last) = omega arith

past_beside : (rows mid : Rows) (key other : AskKey) → IsPast rows key → Takes rows other mid → IsPast mid key
unfolding taken_row
past_beside rows mid key other past t =
    let p = place_of key.session in
    let q = place_of other.session in
    let here : IsPast (set rows q (taken_row (row_at rows q))) key = record {
      within = within_set rows p q (taken_row (row_at rows q)) past.within;
      past = row_set (λ row. key.request ≤ row.last) rows p q (taken_row (row_at rows q)) past.within
          (λ same. subst (λ (n : ℕ). key.request ≤ (row_at rows n).last) same past.past) (λ _. past.past);
    } in
    subst (λ (rs : Rows). IsPast rs key) (sym t.taken) here

past_kept : (rows : Rows) (key other : AskKey) (what : Fate) → IsPast rows key → IsPast (given_back rows other what) key
past_kept rows key other what past =
    let p = place_of key.session in
    let q = place_of other.session in
    let v = after (row_at rows q) what in
    cond_both (nat_lt q (length rows) && is_out (row_at rows q) other.request) (set rows q v) rows (λ rs. IsPast rs key)
    (λ _. record {
      within = within_set rows p q v past.within;
      past = row_set (λ row. key.request ≤ row.last) rows p q v past.within
          (λ same. let was : key.request ≤ (row_at rows q).last = subst (λ (n : ℕ). key.request ≤ (row_at rows n).last) same past.past in
          omega (arith, was, grows (row_at rows q) what)) (λ _. past.past);
    })
    (λ _. past)

stays_past : (deeds : List Deed) (rows new : Rows) (key : AskKey) → IsPast rows key → Leads deeds rows new → IsPast new key
stays_past [] rows new key past leads = subst (λ (rs : Rows). IsPast rs key) leads past
stays_past (Took other ∷ deeds) rows new key past leads = stays_past deeds leads.0 new key (past_beside rows leads.0 key other past leads.1) leads.2
stays_past (Gave other what ∷ deeds) rows new key past leads =
    stays_past deeds (given_back rows other what) new key (past_kept rows key other what past) leads.1

-- the number of a used key is the last one of its row
reaches : (row : OwnSession) (key : AskKey) (what : Fate) → IsUsed key what → key.request ≡ row.last + 1 → key.request ≤ (after row what).last
reaches row key fate.Answered used next = omega (arith, next)
reaches row key fate.Refused used next = absurd used
reaches row key fate.Abandoned used next = omega (arith, next)
reaches row key (fate.Behind last) used next = omega (arith, used)

used_past : (rows : Rows) (key : AskKey) (what : Fate) → IsOut rows key → IsUsed key what → IsPast (given_back rows key what) key
used_past rows key what out used =
    let p = place_of key.session in
    let v = after (row_at rows p) what in
    let tests : (nat_lt p (length rows) && is_out (row_at rows p) key.request) ≡ true = rw (lt-ltb p (length rows) out.within, out.out) refl in
    let here : IsPast (set rows p v) key = record {
      within = within_set rows p p v out.within;
      past = row_set (λ row. key.request ≤ row.last) rows p p v out.within
          (λ _. reaches (row_at rows p) key what used (is_next (row_at rows p) key.request out.out)) (λ other. absurd (other refl));
    } in
    subst (λ (b : Bool). IsPast (cond b (set rows p v) rows) key) (sym tests) here

pub never_again : NeverTakenAgain
never_again rows new next key other what deeds out used leads u = λ same.
    let past = stays_past deeds (given_back rows key what) new key (used_past rows key what out used) leads in
    let first : key.request ≡ (row_at new (place_of key.session)).last + 1 =
    subst (λ (k : AskKey). k.request ≡ (row_at new (place_of k.session)).last + 1) same u.request in
    omega (arith, first, past.past)
