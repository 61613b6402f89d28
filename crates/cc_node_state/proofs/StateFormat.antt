-- States are read as they are spelled.
use Rattle.std.proofs.Common.{◌≡◌, ℕ, zero, suc, ◌+◌, ◌<◌, ◌≤◌, ◌^◌, nat_lt, cond, eqb, Bool, false, List, [], ◌∷◌, ◌++◌, length, Ok, Err}
use Rattle.std.proofs.Common.{◌||◌, refl, sym, ap, subst, ◌∙◌, append_assoc, arith}
use Rattle.std.specs.Int.{w16, w64, to_be_bytes}
use Rattle.std.specs.List.{flat_map, AllByRecursion}
use Rattle.std.specs.Ordering.{nat_cmp}
use Rattle.std.specs.FinMap as table
use Rattle.std.specs.FinMap.{FinMap}
use Rattle.std.proofs.lemmas.Bool.{ltb-false, le-ltb, or_parts, or_from}
use Rattle.std.proofs.lemmas.List.Concat.{flat_map-cons}
use Rattle.cc_views.specs.Entries.{from_T, ascending_of_sorted, sorted_of_ascending, entries_back}
use Rattle.cc_wire.specs.declared.fault.WireFault.TheVariants.{BadKind, NotAscending}
use Rattle.cc_wire.specs.Readers.{◌>>=◌, Reading, via, nothing_at, byte_at, items_at}
use Rattle.cc_ops.specs.declared.pending_operation.Asked.{Asked}
use Rattle.cc_ops.specs.Ops.{Phase, Idle, Storing, Querying, StoringBack}
use Rattle.cc_links.specs.Links.{Link}
use Rattle.cc_wire.proofs.Spelled.{IsBytes, bind_ok, guard_ok, ok_is, Takes, Takes-then, Spelled, both, as_fields, as_facts, tested, counted}
use Rattle.cc_wire.proofs.Spelled.{IsRun, items_spelled, byte_spelled, nothing_spelled, kind_or, kinded_takes}
use Rattle.cc_wire.proofs.Formats.{ascending_of_run, run_of_ascending, u16_spelled, u32_spelled, u64_spelled, limited_spelled, from_spelled}
use Rattle.cc_wire.proofs.Formats.{id_spelled, value_spelled, view_spelled, changes_spelled}
use Rattle.cc_wire.proofs.Items.{all_weaker}
use Rattle.cc_wire.proofs.MessageFormat.{message_spelled}
use Rattle.cc_wire.proofs.AnswerFormat.{answer_spelled}
use Rattle.cc_wire.proofs.EventFormat.{asked_spelled}
use Rattle.cc_wire.specs.Spellings.{value_spelling, IsValue}
use Rattle.cc_node_state.specs.Fields.{own_at}
use Rattle.cc_messages.specs.Shares.{share_limit}
use Rattle.cc_node_state.specs.declared.layout.Layout.{Layout}
use Rattle.cc_node_state.specs.declared.layout.Layout.TheVariants.{Plain, Lined, Shared}
use Rattle.cc_node_state.specs.States.{fraction_spelling, IsFraction, fraction_with, fraction_at}
use Rattle.cc_node_state.specs.States.{membership_spelling, IsMembership, membership_with, membership_at, pending_spelling, IsPending, pending_with, pending_at}
use Rattle.cc_node_state.specs.States.{phase_spelling, IsPhase, phase_fields, phase_at, ask_spelling, IsAsk, ask_with, ask_at, asks_spelling, AreAsks, ask_list_at}
use Rattle.cc_node_state.specs.States.{line_spelling, IsLineOf, line_at, others_spelling, IsRoundShare, AreOthersOf, share_at, others_at, round_spelling, round_at}
use Rattle.cc_node_state.specs.States.{entering_spelling, entering_at, work_spelling, IsWork, work_with, work_at, table_spelling, IsTableOf, row_list_at, table_at}
use Rattle.cc_node_state.specs.States.{link_spelling, IsLink, link_with, link_at, session_from, session_spelling, IsSession, session_at, most_rows}
use Rattle.cc_node_state.specs.States.{kept_answer_spelling, IsKeptAnswer, kept_answer_at, kept_spelling, IsKeptPosts, kept_at}
use Rattle.cc_node_state.specs.States.{tables_spelling, IsTables, tables_with, tables_at, state_spelling, IsState, state_with, state_at}

-- ---- fractions

pub fraction_spelled : Spelled fraction_at IsFraction fraction_spelling
unfolding fraction_at
fraction_spelled = as_facts IsFraction
    (λ f h. record { num = h.0; den = h.1 })
    (λ f h. (h.num, h.den))
    (as_fields fraction_with (λ f. (f.num, f.den)) (λ _. refl) (λ _ _. refl) (both u32_spelled u32_spelled))

-- ---- the first part

pub membership_spelled : Spelled membership_at IsMembership membership_spelling
unfolding membership_at
membership_spelled = as_facts IsMembership
    (λ m h. record { me = h.0; beta = h.1.0; gamma = h.1.1.0; changes = h.1.1.1 })
    (λ m h. (h.me, (h.beta, (h.gamma, h.changes))))
    (as_fields membership_with (λ m. (m.me, (m.beta, (m.gamma, m.changes)))) (λ _. refl) (λ _ _. refl)
    (both id_spelled (both fraction_spelled (both fraction_spelled changes_spelled))))

-- ---- the pending operation

pub pending_spelled : Spelled pending_at IsPending pending_spelling
unfolding pending_at
pending_spelled = as_facts IsPending
    (λ p h. record { asked = h.0; need = h.1.0; count = h.1.1 })
    (λ p h. (h.asked, (h.need, h.count)))
    (as_fields pending_with (λ p. (((p.asked.session, p.asked.request), p.asked.command), (p.need, p.count))) (λ _. refl) (λ _ _. refl)
    (both asked_spelled (both u16_spelled u16_spelled)))

module _ (bytes after : List ℕ) (k : ℕ) (m : Phase) (rest : List ℕ) (fits : IsBytes after) (front : Takes bytes (k ∷ []) after) where
  abbrev case : {A : Type 0} {r : Reading A} {P : A → Type 0} {f : A → List ℕ} (spelled : Spelled r P f) (make : A → Phase) (kind : ℕ)
      → ((a : A) → P a → IsPhase (make a)) → ((a : A) → phase_spelling (make a) ≡ kind ∷ f a)
      → (other : Reading Phase) → (other after ≡ Ok (m, rest) → Takes bytes (phase_spelling m) rest × IsPhase m)
      → (cond (eqb k kind) (via make r) other) after ≡ Ok (m, rest) → Takes bytes (phase_spelling m) rest × IsPhase m
  case = kind_or phase_spelling IsPhase bytes after k m rest fits front

  fields_take : phase_fields k after ≡ Ok (m, rest) → Takes bytes (phase_spelling m) rest × IsPhase m
  fields_take =
      case nothing_spelled (λ _. Idle) 0 (λ a h. h) (λ a. refl) _ (
      case pending_spelled (λ p. Storing p) 1 (λ a h. h) (λ a. refl) _ (
      case pending_spelled (λ p. Querying p) 2 (λ a h. h) (λ a. refl) _ (
      case (both pending_spelled view_spelled) (λ f. StoringBack f.0 f.1) 3 (λ a h. h) (λ a. refl) _ (
      λ e. absurd cc))))

phase_again : (m : Phase) (rest : List ℕ) → IsPhase m → phase_at (phase_spelling m ++ rest) ≡ Ok (m, rest)
unfolding phase_at
phase_again Idle rest is = refl
phase_again (Storing p) rest is = rw (pending_spelled.again p rest is) refl
phase_again (Querying p) rest is = rw (pending_spelled.again p rest is) refl
phase_again (StoringBack p seen) rest is = rw ((both pending_spelled view_spelled).again (p, seen) rest is) refl

pub phase_spelled : Spelled phase_at IsPhase phase_spelling
unfolding phase_at
phase_spelled = record { takes = kinded_takes fields_take; again = phase_again }

-- ---- items in any order

module _ {X : Type 0} {read : Reading X} {Is : X → Type 0} {f : X → List ℕ} (each : Spelled read Is f) where
  abbrev many_at : ℕ → ℕ → Reading (List X)
  many_at n least = items_at (λ _. read) (λ _. 0) n least

  -- so many were taken, and these bytes are left
  abbrev Many : ℕ → List ℕ → List X × List ℕ → Type 0
  Many n bytes y = Takes bytes (flat_map f y.0) y.1 × ((length y.0 ≡ n) × AllByRecursion Is y.0)

  many_take : (n least : ℕ) (bytes : List ℕ) (xs : List X) (rest : List ℕ) → IsBytes bytes → many_at n least bytes ≡ Ok (xs, rest) → Many n bytes (xs, rest)
  unfolding items_at
  many_take zero least bytes xs rest fits e =
      subst (Many 0 bytes) (ok_is ([], bytes) (xs, rest) e) (record { parts = refl; left = fits }, (refl, tt))
  many_take (suc n) least bytes xs rest fits e =
      let a = bind_ok (read bytes) (λ first. many_at n 1 first.1 >>= λ others. Ok (first.0 ∷ others.0, others.1)) (xs, rest) e in
      let b = bind_ok (many_at n 1 a.0.1) (λ others. Ok (a.0.0 ∷ others.0, others.1)) (xs, rest) a.2 in
      let t = each.takes bytes a.0.0 a.0.1 fits a.1 in
      let u = many_take n 1 a.0.1 b.0.0 b.0.1 t.0.left b.1 in
      let all = Takes-then bytes (f a.0.0) a.0.1 (flat_map f b.0.0) b.0.1 t.0 u.0 in
      let made : List X × List ℕ = (a.0.0 ∷ b.0.0, b.0.1) in
      subst (Many (suc n) bytes) (ok_is made (xs, rest) b.2) (rw flat_map-cons all, (ap suc u.1.0, (t.1, u.1.1)))

  many_again : (xs : List X) (least : ℕ) (rest : List ℕ) → AllByRecursion Is xs → many_at (length xs) least (flat_map f xs ++ rest) ≡ Ok (xs, rest)
  unfolding items_at
  many_again [] least rest fits = refl
  many_again (x ∷ xs) least rest fits =
      let regrouped : flat_map f (x ∷ xs) ++ rest ≡ f x ++ (flat_map f xs ++ rest) = simp (flat_map-cons, append_assoc) in
      ap (many_at (suc (length xs)) least) regrouped ∙ rw (each.again x (flat_map f xs ++ rest) fits.0, many_again xs 1 rest fits.1) refl

  pub many_spelled : (n : ℕ) → Spelled (many_at n 0) (λ xs. (length xs ≡ n) × AllByRecursion Is xs) (flat_map f)
  many_spelled n = record {
    takes = λ bytes xs rest fits e. many_take n 0 bytes xs rest fits e;
    again = λ xs rest fits. subst (λ (k : ℕ). many_at k 0 (flat_map f xs ++ rest) ≡ Ok (xs, rest)) fits.0 (many_again xs 0 rest fits.1);
  }

-- ---- the asks that wait

ask_spelled : Spelled ask_at IsAsk ask_spelling
unfolding ask_at
ask_spelled = as_fields ask_with (λ a. ((a.session, a.request), a.command)) (λ _. refl) (λ _ _. refl) asked_spelled

pub ask_list_spelled : Spelled ask_list_at AreAsks asks_spelling
unfolding ask_list_at
ask_list_spelled = as_facts AreAsks
    (λ asks h. record { fits = h.0.1; each = h.1 })
    (λ asks h. ((omega (arith, h.fits), h.fits), h.each))
    (counted length (limited_spelled 32 byte_spelled) (λ n. many_spelled ask_spelled n))

-- a value that takes no byte
module _ {X : Type 0} (x : X) where
  none_spelled : Spelled (via (λ _. x) nothing_at) (λ y. y ≡ x) (λ _. [])
  none_spelled = record {
    takes = λ bytes y rest fits e.
        subst (λ (z : X × List ℕ). Takes bytes [] z.1 × (z.0 ≡ x)) (ok_is (x, bytes) (y, rest) e) (record { parts = refl; left = fits }, refl);
    again = λ y rest is. ap (λ (z : X). Ok (z, rest)) (sym is);
  }

pub line_spelled : (layout : Layout) → Spelled (line_at layout) (IsLineOf layout) (line_spelling layout)
line_spelled Plain = none_spelled []
line_spelled Lined = ask_list_spelled
line_spelled Shared = ask_list_spelled

-- ---- the share, and the others of the pending round

abbrev is_no_share : ℕ → Bool
is_no_share n = nat_lt n 2 || nat_lt share_limit n

is_share : (n : ℕ) → is_no_share n ≡ false → IsRoundShare n
is_share n e = let t = or_parts _ _ e in record { several = ltb-false _ _ t.0; most = ltb-false _ _ t.1 }

share_is : (n : ℕ) → IsRoundShare n → is_no_share n ≡ false
share_is n is = or_from _ _ (le-ltb _ _ is.several) (le-ltb _ _ is.most)

share_spelled : Spelled share_at IsRoundShare (λ share. share ∷ [])
unfolding share_at
share_spelled = record {
  takes = λ bytes x rest fits e.
      let a = bind_ok (byte_at bytes) (λ n. cond (is_no_share n.0) (Err (BadKind n.0)) (Ok n)) (x, rest) e in
      let g = guard_ok (is_no_share a.0.0) (BadKind a.0.0) a.0 (x, rest) a.2 in
      let t = byte_spelled.takes bytes a.0.0 a.0.1 fits a.1 in
      subst (λ (y : ℕ × List ℕ). Takes bytes (y.0 ∷ []) y.1 × IsRoundShare y.0) g.1 (t.0, is_share a.0.0 g.0);
  again = λ x rest is. rw (share_is x is) refl;
}

abbrev no_others : ℕ × List Asked
no_others = (1, [])

others_none : Spelled (others_at Plain) (λ o. AreOthersOf Plain o.0 o.1) (λ o. others_spelling Plain o.0 o.1)
others_none = as_facts (λ o. AreOthersOf Plain o.0 o.1)
    (λ o h. (ap (λ (o : ℕ × List Asked). o.0) h, ap (λ (o : ℕ × List Asked). o.1) h))
    (λ (share, others) h. ap (λ (n : ℕ). (n, others)) h.0 ∙ ap (λ (l : List Asked). (1, l)) h.1)
    (none_spelled no_others)

pub others_spelled : (layout : Layout) → Spelled (others_at layout) (λ o. AreOthersOf layout o.0 o.1) (λ o. others_spelling layout o.0 o.1)
others_spelled Plain = others_none
others_spelled Lined = others_none
others_spelled Shared = both share_spelled ask_list_spelled

pub round_spelled : (layout : Layout) → Spelled (round_at layout) (λ r. IsPhase r.0 × (AreOthersOf layout r.1.0.0 r.1.0.1 × IsLineOf layout r.1.1))
    (λ r. round_spelling layout r.0 r.1.0.0 r.1.0.1 r.1.1)
round_spelled layout = both phase_spelled (both (others_spelled layout) (line_spelled layout))

-- ---- the second part

pub own_spelled : Spelled own_at (λ own. (own.0 < 2 ^ 64) × (IsValue own.1.0 × (own.1.1 < 2 ^ 64)))
    (λ own. to_be_bytes w64 own.0 ++ (value_spelling own.1.0 ++ to_be_bytes w64 own.1.1))
own_spelled = both u64_spelled (both value_spelled u64_spelled)

pub entering_spelled : Spelled entering_at (λ entering. (entering.0 < 2 ^ 64) × (entering.1 < 2 ^ 16)) (λ entering. entering_spelling entering.0 entering.1)
entering_spelled = both u64_spelled u16_spelled

pub work_spelled : (layout : Layout) → Spelled (work_at layout) (IsWork layout) (work_spelling layout)
unfolding work_at
work_spelled layout = as_facts (IsWork layout)
    (λ w (s, (e, r)). record { view = s.0; number = s.1.0; mine = s.1.1.0; tag = s.1.1.1; echoes = e.0; need = e.1; phase = r.0; others = r.1.0; line = r.1.1 })
    (λ w h. ((h.view, (h.number, (h.mine, h.tag))), ((h.echoes, h.need), (h.phase, (h.others, h.line)))))
    (as_fields work_with (λ w. ((w.view, (w.number, (w.mine, w.tag))), ((w.echoes, w.need), (w.phase, ((w.share, w.others), w.line)))))
    (λ _. refl) (λ _ _. refl) (both (both view_spelled own_spelled) (both entering_spelled (round_spelled layout))))

-- ---- tables

pub entries_again : {X : Type 0} (m : FinMap nat_cmp X) → table.from_entries (table.entries m) ≡ m
entries_again m = table.same_entries_map _ _ (entries_back (table.entries m) (from_T _ (table.entries_sorted m)))

module _ {X : Type 0} (row : ℕ → Reading (ℕ × X)) (Body Is : ℕ × X → Type 0) (f : ℕ × X → List ℕ) (base : ℕ)
    (each : (least : ℕ) → Spelled (row least) (λ e. Body e × (least ≤ e.0)) f)
    (to : (e : ℕ × X) → Body e → base ≤ e.0 → Is e) (from : (e : ℕ × X) → Is e → Body e × (base ≤ e.0)) where
  all_of_run : (least : ℕ) (es : List (ℕ × X)) → base ≤ least → IsRun (λ e. e.0) Body least es → AllByRecursion Is es
  all_of_run least [] le run = tt
  all_of_run least (e ∷ es) le run = (to e run.0.0 (omega (arith, le, run.0.1)), all_of_run (e.0 + 1) es (omega (arith, le, run.0.1)) run.1)

  abbrev IsList : ℕ → List (ℕ × X) → Type 0
  IsList limit es = ((length es < 2 ^ 16) × (length es ≤ limit)) × IsRun (λ e. e.0) Body base es

  list_spelled : (limit : ℕ) → Spelled (row_list_at row limit base) (IsList limit) (λ es. to_be_bytes w16 (length es) ++ flat_map f es)
  unfolding row_list_at
  list_spelled limit = counted length (limited_spelled limit u16_spelled) (λ n. items_spelled row (λ e. e.0) Body f each n base)

  -- a count that is told as a number of entries
  abbrev told : FinMap nat_cmp X → ℕ → List ℕ
  told m n = to_be_bytes w16 n ++ flat_map f (table.entries m)

  as_list : (limit : ℕ) → Spelled (table_at row limit base) (λ m. IsList limit (table.entries m)) (λ m. told m (length (table.entries m)))
  as_list limit =
      as_fields table.from_entries table.entries entries_again
      (λ es is. entries_back es (sorted_of_ascending es (ascending_of_run (λ e. e.0) Body base es is.1))) (list_spelled limit)

  listed : (limit : ℕ) → limit < 2 ^ 16 → (m : FinMap nat_cmp X) → IsTableOf Is limit m → IsList limit (table.entries m)
  listed limit small m is =
      let es = table.entries m in
      let low = all_weaker Is (λ e. base ≤ e.0) es (λ e h. (from e h).1) is.rows in
      let bodies = all_weaker Is Body es (λ e h. (from e h).0) is.rows in
      let ascending = ascending_of_sorted es (from_T _ (table.entries_sorted m)) in (
        (omega (arith, is.fits, small, table.len-entries m), omega (arith, is.fits, table.len-entries m)),
        run_of_ascending (λ e. e.0) Body base es low ascending bodies,
      )

  pub table_spelled : (limit : ℕ) → limit < 2 ^ 16 → Spelled (table_at row limit base) (IsTableOf Is limit) (table_spelling f)
  table_spelled limit small = record {
    takes = λ bytes m rest fits e.
        let t = (as_list limit).takes bytes m rest fits e in (
          subst (λ (n : ℕ). Takes bytes (told m n) rest) (sym (table.len-entries m)) t.0,
          record { fits = omega (arith, t.1.0.1, table.len-entries m); rows = all_of_run base (table.entries m) (omega arith) t.1.1 },
        );
    again = λ m rest is.
        ap (λ (n : ℕ). table_at row limit base (told m n ++ rest)) (table.len-entries m) ∙ (as_list limit).again m rest (listed limit small m is);
  }

-- ---- links

abbrev IsLinkBody : ℕ × Link → Type 0
IsLinkBody e = (e.0 < 2 ^ 32) × ((e.1.start < 2 ^ 64) × ((e.1.acked < 2 ^ 64) × (e.1.heard < 2 ^ 64)))

pub link_spelled : (least : ℕ) → Spelled (link_at least) (λ e. IsLinkBody e × (least ≤ e.0)) link_spelling
unfolding link_at
link_spelled least = as_facts (λ e. IsLinkBody e × (least ≤ e.0))
    (λ e h. ((h.0.0, h.1), h.0.1))
    (λ e h. ((h.0.0, h.1), h.0.1))
    (as_fields link_with (λ e. (e.0, (e.1.start, (e.1.acked, e.1.heard)))) (λ _. refl) (λ _ _. refl)
    (both (from_spelled least) (both u64_spelled (both u64_spelled u64_spelled))))

pub links_spelled : Spelled (table_at link_at most_rows 1) (IsTableOf IsLink most_rows) (table_spelling link_spelling)
links_spelled =
    table_spelled link_at IsLinkBody IsLink link_spelling 1 link_spelled
    (λ e h le. record { peer = record { positive = le; fits = h.0 }; start = h.1.0; acked = h.1.1.0; heard = h.1.1.1 })
    (λ e is. ((is.peer.fits, (is.start, (is.acked, is.heard))), is.peer.positive))
    most_rows (omega arith)

-- ---- sessions

session_from_spelled : (least : ℕ) → Spelled (session_from least) (λ n. (n < 2 ^ 64) × (least ≤ n)) (to_be_bytes w64)
unfolding session_from
session_from_spelled least = tested (λ n. nat_lt n least) NotAscending (λ n. least ≤ n) (λ n e. ltb-false _ _ e) (λ n le. le-ltb _ _ le) u64_spelled

session_spelled : (least : ℕ) → Spelled (session_at least) (λ e. IsSession e × (least ≤ e.0)) session_spelling
unfolding session_at
session_spelled least = as_facts (λ e. IsSession e × (least ≤ e.0))
    (λ e h. (record { session = h.0.0; last = h.1 }, h.0.1))
    (λ e h. ((h.0.session, h.1), h.0.last))
    (both (session_from_spelled least) u64_spelled)

pub sessions_spelled : Spelled (table_at session_at 256 0) (IsTableOf IsSession 256) (table_spelling session_spelling)
sessions_spelled = table_spelled session_at IsSession IsSession session_spelling 0 session_spelled (λ e h le. h) (λ e is. (is, omega arith)) 256 (omega arith)

pub kept_answer_spelled : (least : ℕ) → Spelled (kept_answer_at least) (λ e. IsKeptAnswer e × (least ≤ e.0)) kept_answer_spelling
unfolding kept_answer_at
kept_answer_spelled least = as_facts (λ e. IsKeptAnswer e × (least ≤ e.0))
    (λ e h. (record { session = h.0.0; answer = h.1 }, h.0.1))
    (λ e h. ((h.0.session, h.1), h.0.answer))
    (both (session_from_spelled least) answer_spelled)

pub kept_answers_spelled : Spelled (table_at kept_answer_at most_rows 0) (IsTableOf IsKeptAnswer most_rows) (table_spelling kept_answer_spelling)
kept_answers_spelled =
    table_spelled kept_answer_at IsKeptAnswer IsKeptAnswer kept_answer_spelling 0 kept_answer_spelled
    (λ e h le. h) (λ e is. (is, omega arith)) most_rows (omega arith)

-- ---- kept posts

pub kept_spelled : Spelled kept_at IsKeptPosts kept_spelling
unfolding kept_at
kept_spelled = as_facts IsKeptPosts
    (λ posts h. record { fits = h.0.1; each = h.1 })
    (λ posts h. ((omega (arith, h.fits), h.fits), h.each))
    (counted length (limited_spelled 512 u16_spelled) (λ n. many_spelled message_spelled n))

-- ---- the third part

pub tables_spelled : Spelled tables_at IsTables tables_spelling
unfolding tables_at
tables_spelled = as_facts IsTables
    (λ t h. record { posts = h.0; links = h.1.0; sessions = h.1.1.0; kept = h.1.1.1.0; answers = h.1.1.1.1 })
    (λ t h. (h.posts, (h.links, (h.sessions, (h.kept, h.answers)))))
    (as_fields tables_with (λ t. (t.posts, (t.links, (t.sessions, (t.kept, t.answers))))) (λ _. refl) (λ _ _. refl)
    (both u64_spelled (both links_spelled (both sessions_spelled (both kept_spelled kept_answers_spelled)))))

-- ---- states

pub state_spelled : (layout : Layout) → Spelled (state_at layout) (IsState layout) (state_spelling layout)
unfolding state_at
state_spelled layout = as_facts (IsState layout)
    (λ s h. record { membership = h.0; work = h.1.0; tables = h.1.1 })
    (λ s h. (h.membership, (h.work, h.tables)))
    (as_fields state_with (λ s. (s.membership, (s.work, s.tables))) (λ _. refl) (λ _ _. refl)
    (both membership_spelled (both (work_spelled layout) tables_spelled)))
