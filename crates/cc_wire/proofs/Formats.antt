-- Each format is read as it is spelled.
use Rattle.std.proofs.Common.{◌≡◌, ℕ, zero, suc, ◌+◌, ◌^◌, ◌<◌, ◌≤◌, Bool, true, false, ltb, List, [], ◌∷◌, ◌++◌, map as list_map, length, Ok, Err, refl}
use Rattle.std.proofs.Common.{sym, ap, subst, ◌∙◌, cond, arith}
use Rattle.std.specs.Int.{w16, w32, w64, to_be_bytes}
use Rattle.std.specs.List.{flat_map, AllByRecursion}
use Rattle.std.specs.FinMap as map
use Rattle.std.proofs.lemmas.Bool.{ltb-false, le-ltb}
use Rattle.std.proofs.lemmas.Nat.{be_bytes_2, be_bytes_4, be_bytes_8, from_be_bytes-to_be_bytes_2, from_be_bytes-to_be_bytes_4, from_be_bytes-to_be_bytes_8}
use Rattle.cc_views.specs.AscendingLists.{IsAscending}
use Rattle.cc_views.specs.NatSets.{NatSet, from_list, items}
use Rattle.cc_views.specs.NatLists.{items_ascending, items-from_list, from_list-items}
use Rattle.cc_changes.specs.ChangeSets.{ChangeSets}
use Rattle.cc_messages.specs.Ranges.{Range, IsRange}
use Rattle.cc_messages.specs.Shares.{IsAskShare, is_no_share}
use Rattle.cc_messages.specs.ShareLaws.{is_share, share_is}
use Rattle.cc_views.specs.declared.value.Value.{Value}
use Rattle.cc_views.specs.declared.row.Row.{Row}
use Rattle.cc_views.specs.Rows.{ViewMap, entry_of, rows_of}
use Rattle.cc_views.specs.Tables.{IsRising, keys_ascend, rising_of_keys}
use Rattle.cc_views.specs.Entries.{from_T}
use Rattle.cc_views.proofs.Absorbs.{rows_back}
use Rattle.cc_wire.specs.declared.fault.WireFault.TheVariants.{BadKind, NotAscending, TooLarge}
use Rattle.cc_wire.specs.Readers.{Reading, via, byte_at, number_at, limited, number_from, flag_with, flag_at, text_at, numbers_at, number_set_at}
use Rattle.cc_wire.specs.Readers.{number_list_at, listed_at, value_with, value_at, row_with, row_at, row_list_at, view_with, view_at, id_set_at}
use Rattle.cc_wire.specs.Readers.{changes_with, changes_at, wide_from, range_with, range_at, ask_share_at}
use Rattle.cc_wire.specs.Events.{range_spelling}
use Rattle.cc_wire.specs.Spellings.{text_spelling, IsText, flag_spelling, number_spelling, number_set_spelling, IsNumberSet, value_spelling, IsValue}
use Rattle.cc_wire.specs.Spellings.{row_spelling, IsRow, view_spelling, IsView, number_list_spelling, IsNumberList, id_set_spelling, IsId, IsIdSet}
use Rattle.cc_wire.specs.Spellings.{changes_spelling, IsChanges}
use Rattle.cc_wire.proofs.Spelled.{IsBytes, bind_ok, guard_ok, ok_is, Takes, Spelled, both, as_fields, as_facts, tested, counted, IsRun, items_spelled, byte_spelled}
use Rattle.cc_wire.proofs.Spelled.{bytes_spelled, IsWide, number_spelled}
use Rattle.cc_wire.proofs.Views.{len-rows_of, view_of_rows, entries_of_rows}

-- ---- numbers

pub bytes_of_all : (bs : List ℕ) → AllByRecursion (λ b. b < 256) bs → IsBytes bs
bytes_of_all [] all i = omega arith
bytes_of_all (b ∷ bs) all zero = all.0
bytes_of_all (b ∷ bs) all (suc i) = bytes_of_all bs all.1 i

pub all_of_bytes : (bs : List ℕ) → IsBytes bs → AllByRecursion (λ b. b < 256) bs
all_of_bytes [] fits = tt
all_of_bytes (b ∷ bs) fits = (fits 0, all_of_bytes bs (λ i. fits (suc i)))

pub wide16 : IsWide w16 (2 ^ 16)
wide16 = record {
  len = λ n. refl;
  fit = λ n. bytes_of_all (to_be_bytes w16 n) (omega arith, (omega arith, tt));
  back = λ bytes len fits. be_bytes_2 bytes _ len fits refl;
  again = λ n lt. from_be_bytes-to_be_bytes_2 n lt;
  below = λ bytes len fits. omega (arith, fits 0, fits 1);
}

pub wide32 : IsWide w32 (2 ^ 32)
wide32 = record {
  len = λ n. refl;
  fit = λ n. bytes_of_all (to_be_bytes w32 n) (omega arith, (omega arith, (omega arith, (omega arith, tt))));
  back = λ bytes len fits. be_bytes_4 bytes _ len fits refl;
  again = λ n lt. from_be_bytes-to_be_bytes_4 n lt;
  below = λ bytes len fits. omega (arith, fits 0, fits 1, fits 2, fits 3);
}

pub wide64 : IsWide w64 (2 ^ 64)
wide64 = record {
  len = λ n. refl;
  fit = λ n. bytes_of_all (to_be_bytes w64 n) (
    omega arith,
    (
      omega arith,
      (omega arith, (omega arith, (omega arith, (omega arith, (omega arith, (omega arith, tt)))))),
    ),
  );
  back = λ bytes len fits. be_bytes_8 bytes _ len fits refl;
  again = λ n lt. from_be_bytes-to_be_bytes_8 n lt;
  below = λ bytes len fits. omega (arith, fits 0, fits 1, fits 2, fits 3, fits 4, fits 5, fits 6, fits 7);
}

pub u16_spelled : Spelled (number_at w16) (λ n. n < 2 ^ 16) (to_be_bytes w16)
u16_spelled = number_spelled w16 (2 ^ 16) wide16

pub u32_spelled : Spelled (number_at w32) (λ n. n < 2 ^ 32) (to_be_bytes w32)
u32_spelled = number_spelled w32 (2 ^ 32) wide32

pub u64_spelled : Spelled (number_at w64) (λ n. n < 2 ^ 64) (to_be_bytes w64)
u64_spelled = number_spelled w64 (2 ^ 64) wide64

pub limited_spelled : {r : Reading ℕ} {P : ℕ → Type 0} {f : ℕ → List ℕ} (limit : ℕ) → Spelled r P f → Spelled (limited limit r) (λ n. P n × (n ≤ limit)) f
limited_spelled limit spelled = tested (λ n. ltb limit n) TooLarge (λ n. n ≤ limit) (λ n e. ltb-false _ _ e) (λ n le. le-ltb _ _ le) spelled

pub from_spelled : (least : ℕ) → Spelled (number_from least) (λ n. (n < 2 ^ 32) × (least ≤ n)) (to_be_bytes w32)
unfolding number_from
from_spelled least = tested (λ n. ltb n least) NotAscending (λ n. least ≤ n) (λ n e. ltb-false _ _ e) (λ n le. le-ltb _ _ le) u32_spelled

pub id_spelled : Spelled (number_from 1) IsId (to_be_bytes w32)
id_spelled = as_facts IsId (λ n h. record { positive = h.1; fits = h.0 }) (λ n h. (h.fits, h.positive)) (from_spelled 1)

-- ---- the first and the last of some posts

wide_spelled : (least : ℕ) → Spelled (wide_from least) (λ n. (n < 2 ^ 64) × (least ≤ n)) (to_be_bytes w64)
unfolding wide_from
wide_spelled least = tested (λ n. ltb n least) NotAscending (λ n. least ≤ n) (λ n e. ltb-false _ _ e) (λ n le. le-ltb _ _ le) u64_spelled

abbrev range_fields : Range → ℕ × ℕ
range_fields r = (r.first, r.last)

pub range_spelled : Spelled range_at (λ r. IsRange r × (r.last < 2 ^ 64)) range_spelling
unfolding range_at
range_spelled = as_facts (λ r. IsRange r × (r.last < 2 ^ 64))
    (λ r h. (record { some = h.0.0.1; ascends = h.1 }, h.0.1))
    (λ r h. (((omega (arith, h.0.ascends, h.1), h.0.some), h.1), h.0.ascends))
    (as_fields range_with range_fields (λ _. refl) (λ _ _. refl)
    (tested (λ f. ltb f.1 f.0) NotAscending (λ f. f.0 ≤ f.1) (λ f e. ltb-false _ _ e) (λ f le. le-ltb _ _ le) (both (wide_spelled 1) u64_spelled)))

-- ---- how many asks may begin together

pub ask_share_spelled : Spelled ask_share_at IsAskShare (λ share. share ∷ [])
unfolding ask_share_at
ask_share_spelled = record {
  takes = λ bytes x rest fits e.
      let a = bind_ok (byte_at bytes) (λ n. cond (is_no_share n.0) (Err (BadKind n.0)) (Ok n)) (x, rest) e in
      let g = guard_ok (is_no_share a.0.0) (BadKind a.0.0) a.0 (x, rest) a.2 in
      let t = byte_spelled.takes bytes a.0.0 a.0.1 fits a.1 in
      subst (λ (y : ℕ × List ℕ). Takes bytes (y.0 ∷ []) y.1 × IsAskShare y.0) g.1 (t.0, is_share a.0.0 g.0);
  again = λ x rest is. rw (share_is x is) refl;
}

-- ---- flags

flag_takes : (byte : ℕ) (bytes : List ℕ) (x : Bool) (rest : List ℕ) → IsBytes bytes → flag_with (byte, bytes) ≡ Ok (x, rest)
    → Takes (byte ∷ bytes) (flag_spelling x) rest
flag_takes zero bytes x rest fits e = subst (λ (y : Bool × List ℕ). Takes (0 ∷ bytes) (flag_spelling y.0) y.1) (ok_is (false, bytes) (x, rest) e)
    (record { parts = refl; left = fits })
flag_takes (suc zero) bytes x rest fits e = subst (λ (y : Bool × List ℕ). Takes (1 ∷ bytes) (flag_spelling y.0) y.1) (ok_is (true, bytes) (x, rest) e)
    (record { parts = refl; left = fits })
flag_takes (suc (suc byte)) bytes x rest fits e = absurd cc

flag_take : (bytes : List ℕ) (x : Bool) (rest : List ℕ) → IsBytes bytes → flag_at bytes ≡ Ok (x, rest) → Takes bytes (flag_spelling x) rest × Unit {0}
unfolding flag_at
flag_take [] x rest fits e = absurd cc
flag_take (byte ∷ bytes) x rest fits e = (flag_takes byte bytes x rest (λ i. fits (suc i)) e, tt)

flag_again : (x : Bool) (rest : List ℕ) → flag_at (flag_spelling x ++ rest) ≡ Ok (x, rest)
unfolding flag_at
flag_again false rest = refl
flag_again true rest = refl

pub flag_spelled : Spelled flag_at (λ _. Unit {0}) flag_spelling
flag_spelled = record { takes = flag_take; again = λ x rest fits. flag_again x rest }

-- ---- texts

pub text_spelled : Spelled text_at IsText text_spelling
unfolding text_at
text_spelled = as_facts IsText
    (λ t h. record { fits = h.0.1; bytes = all_of_bytes t h.1 })
    (λ t h. ((omega (arith, h.fits), h.fits), bytes_of_all t h.bytes))
    (counted length (limited_spelled 64 byte_spelled) bytes_spelled)

-- ---- sets

above_weaker : {X : Type 0} (key : X → ℕ) (a b : ℕ) (xs : List X) → a ≤ b → AllByRecursion (λ x. b ≤ key x) xs → AllByRecursion (λ x. a ≤ key x) xs
above_weaker key a b [] le all = tt
above_weaker key a b (x ∷ xs) le all = (omega (arith, all.0), above_weaker key a b xs le all.1)

pub above_of_run : {X : Type 0} (key : X → ℕ) (Q : X → Type 0) (least : ℕ) (xs : List X) → IsRun key Q least xs → AllByRecursion (λ x. least ≤ key x) xs
above_of_run key Q least [] run = tt
above_of_run key Q least (x ∷ xs) run = (run.0.1, above_weaker key least (key x + 1) xs (omega (arith, run.0.1)) (above_of_run key Q (key x + 1) xs run.1))

facts_of_run : {X : Type 0} (key : X → ℕ) (Q : X → Type 0) (least : ℕ) (xs : List X) → IsRun key Q least xs → AllByRecursion Q xs
facts_of_run key Q least [] run = tt
facts_of_run key Q least (x ∷ xs) run = (run.0.0, facts_of_run key Q (key x + 1) xs run.1)

next_le : {X : Type 0} (key : X → ℕ) (n : ℕ) (xs : List X) → AllByRecursion (λ x. n + 1 ≤ key x) xs → AllByRecursion (λ q. n < q) (list_map key xs)
next_le key n [] all = tt
next_le key n (x ∷ xs) all = (omega (arith, all.0), next_le key n xs all.1)

next_lt : {X : Type 0} (key : X → ℕ) (n : ℕ) (xs : List X) → AllByRecursion (λ q. n < q) (list_map key xs) → AllByRecursion (λ x. n + 1 ≤ key x) xs
next_lt key n [] all = tt
next_lt key n (x ∷ xs) all = (omega (arith, all.0), next_lt key n xs all.1)

-- the keys of a run ascend, and items whose keys ascend are a run
pub ascending_of_run : {X : Type 0} (key : X → ℕ) (Q : X → Type 0) (least : ℕ) (xs : List X) → IsRun key Q least xs → IsAscending (list_map key xs)
ascending_of_run key Q least [] run = tt
ascending_of_run key Q least (x ∷ xs) run = (next_le key (key x) xs (above_of_run key Q (key x + 1) xs run.1), ascending_of_run key Q (key x + 1) xs run.1)

pub run_of_ascending : {X : Type 0} (key : X → ℕ) (Q : X → Type 0) (least : ℕ) (xs : List X) → AllByRecursion (λ x. least ≤ key x) xs
    → IsAscending (list_map key xs) → AllByRecursion Q xs → IsRun key Q least xs
run_of_ascending key Q least [] above up all = tt
run_of_ascending key Q least (x ∷ xs) above up all = ((all.0, above.0), run_of_ascending key Q (key x + 1) xs (next_lt key (key x) xs up.0) up.1 all.1)

same_numbers : (ns : List ℕ) → list_map (λ n. n) ns ≡ ns
same_numbers [] = refl
same_numbers (n ∷ ns) = ap (λ (t : List ℕ). n ∷ t) (same_numbers ns)

numbers_of_run : (least : ℕ) (ns : List ℕ) → IsRun (λ n. n) (λ n. n < 2 ^ 32) least ns → IsAscending ns
numbers_of_run least ns run = subst IsAscending (same_numbers ns) (ascending_of_run (λ n. n) (λ n. n < 2 ^ 32) least ns run)

run_of_numbers : (least : ℕ) (ns : List ℕ) → AllByRecursion (λ n. least ≤ n) ns → IsAscending ns → AllByRecursion (λ n. n < 2 ^ 32) ns
    → IsRun (λ n. n) (λ n. n < 2 ^ 32) least ns
run_of_numbers least ns above up all = run_of_ascending (λ n. n) (λ n. n < 2 ^ 32) least ns above (subst IsAscending (sym (same_numbers ns)) up) all

from_zero : (ns : List ℕ) → AllByRecursion (λ n. 0 ≤ n) ns
from_zero [] = tt
from_zero (n ∷ ns) = (omega arith, from_zero ns)

-- a count, and numbers that rise
abbrev IsListed : (ℕ → Type 0) → ℕ → ℕ → List ℕ → Type 0
IsListed P limit least ns = (P (length ns) × (length ns ≤ limit)) × IsRun (λ n. n) (λ n. n < 2 ^ 32) least ns

listed_spelled : {count : Reading ℕ} {P : ℕ → Type 0} {c : ℕ → List ℕ} (limit least : ℕ) → Spelled count P c
    → Spelled (listed_at count limit least) (IsListed P limit least) (λ ns. c (length ns) ++ flat_map number_spelling ns)
unfolding listed_at
listed_spelled limit least spelled = counted length (limited_spelled limit spelled)
    (λ n. items_spelled number_from (λ n. n) (λ n. n < 2 ^ 32) number_spelling from_spelled n least)

pub number_set_spelled : Spelled number_set_at IsNumberSet number_set_spelling
unfolding number_set_at
number_set_spelled = as_facts IsNumberSet
    (λ s h. record { fits = h.0.1; numbers = facts_of_run (λ n. n) (λ n. n < 2 ^ 32) 0 (items s) h.1 })
    (λ s h. ((omega (arith, h.fits), h.fits), run_of_numbers 0 (items s) (from_zero (items s)) (items_ascending s) h.numbers))
    (as_fields from_list items from_list-items (λ ns h. items-from_list ns (numbers_of_run 0 ns h.1)) (listed_spelled 32 0 byte_spelled))

pub number_list_spelled : Spelled number_list_at IsNumberList number_list_spelling
unfolding number_list_at
number_list_spelled = as_facts IsNumberList
    (λ s h. record { fits = h.0.1; numbers = facts_of_run (λ n. n) (λ n. n < 2 ^ 32) 0 (items s) h.1 })
    (λ s h. ((omega (arith, h.fits), h.fits), run_of_numbers 0 (items s) (from_zero (items s)) (items_ascending s) h.numbers))
    (as_fields from_list items from_list-items (λ ns h. items-from_list ns (numbers_of_run 0 ns h.1)) (listed_spelled 8192 0 u16_spelled))

-- ---- values

abbrev value_fields : Value → List ℕ × (ℕ × (Bool × NatSet))
value_fields v = (v.text, (v.max, (v.flag, v.set)))

pub value_spelled : Spelled value_at IsValue value_spelling
unfolding value_at
value_spelled = as_facts IsValue
    (λ v h. record { text = h.0; max = h.1.0; set = h.1.1.1 })
    (λ v h. (h.text, (h.max, (tt, h.set))))
    (as_fields value_with value_fields (λ _. refl) (λ _ _. refl) (both text_spelled (both u64_spelled (both flag_spelled number_set_spelled))))

-- ---- rows

abbrev HasRowFields : Row → Type 0
HasRowFields row = (row.node < 2 ^ 32) × ((row.number < 2 ^ 64) × IsValue row.value)

abbrev row_fields : Row → ℕ × (ℕ × Value)
row_fields row = (row.node, (row.number, row.value))

pub row_spelled : (least : ℕ) → Spelled (row_at least) (λ row. HasRowFields row × (least ≤ row.node)) row_spelling
unfolding row_at
row_spelled least = as_facts (λ row. HasRowFields row × (least ≤ row.node))
    (λ row h. ((h.0.0, h.1), h.0.1))
    (λ row h. ((h.0.0, h.1), h.0.1))
    (as_fields row_with row_fields (λ _. refl) (λ _ _. refl) (both (from_spelled least) (both u64_spelled value_spelled)))

-- ---- views

abbrev node_of : Row → ℕ
node_of row = row.node

rows_of_run : (least : ℕ) (rows : List Row) → 1 ≤ least → IsRun node_of HasRowFields least rows → AllByRecursion IsRow rows
rows_of_run least [] le run = tt
rows_of_run least (r ∷ rows) le run =
    (record { id = omega (arith, run.0.1); node = run.0.0.0; number = run.0.0.1.0; value = run.0.0.1.1 }, rows_of_run (r.node + 1) rows (omega arith) run.1)

fields_of_rows : (rows : List Row) → AllByRecursion IsRow rows → AllByRecursion HasRowFields rows
fields_of_rows [] all = tt
fields_of_rows (r ∷ rows) all = ((all.0.node, (all.0.number, all.0.value)), fields_of_rows rows all.1)

ids_above : (rows : List Row) → AllByRecursion IsRow rows → AllByRecursion (λ r. 1 ≤ r.node) rows
ids_above [] all = tt
ids_above (r ∷ rows) all = (all.0.id, ids_above rows all.1)

abbrev IsRowList : List Row → Type 0
IsRowList rows = ((length rows < 2 ^ 16) × (length rows ≤ 256)) × IsRun node_of HasRowFields 1 rows

row_list_spelled : Spelled row_list_at IsRowList (λ rows. to_be_bytes w16 (length rows) ++ flat_map row_spelling rows)
unfolding row_list_at
row_list_spelled = counted length (limited_spelled 256 u16_spelled) (λ n. items_spelled row_at node_of HasRowFields row_spelling row_spelled n 1)

rising_rows_of : (v : ViewMap) → IsRising entry_of (rows_of v)
rising_rows_of v = rw (entries_of_rows v) (from_T _ (map.entries_sorted v))

pub view_spelled : Spelled view_at IsView view_spelling
unfolding view_at
view_spelled = record {
  takes = λ bytes v rest fits e. let t = as_list.takes bytes v rest fits e in
      (subst (λ (n : ℕ). Takes bytes (to_be_bytes w16 n ++ flat_map row_spelling (rows_of v)) rest) (len-rows_of v) t.0, lawful v t.1);
  again = λ v rest is. ap (λ (n : ℕ). view_at ((to_be_bytes w16 n ++ flat_map row_spelling (rows_of v)) ++ rest)) (sym (len-rows_of v))
      ∙ as_list.again v rest (listed v is);
}
  where
    as_list : Spelled (via view_with row_list_at) (λ v. IsRowList (rows_of v)) (λ v. to_be_bytes w16 (length (rows_of v)) ++ flat_map row_spelling (rows_of v))
    as_list = as_fields view_with rows_of view_of_rows (λ rows is. sym
        (rows_back rows (rising_of_keys entry_of rows (ascending_of_run node_of HasRowFields 1 rows is.1)))) row_list_spelled

    lawful : (v : ViewMap) → IsRowList (rows_of v) → IsView v
    lawful v is = record { fits = omega (arith, is.0.1, len-rows_of v); rows = rows_of_run 1 (rows_of v) (omega arith) is.1 }

    listed : (v : ViewMap) → IsView v → IsRowList (rows_of v)
    listed v is = (
      (omega (arith, is.fits, len-rows_of v), omega (arith, is.fits, len-rows_of v)),
      run_of_ascending node_of HasRowFields 1 (rows_of v) (ids_above (rows_of v) is.rows) (keys_ascend entry_of (rows_of v) (rising_rows_of v))
          (fields_of_rows (rows_of v) is.rows),
    )

-- ---- sets of ids

ids_of_run : (least : ℕ) (ids : List ℕ) → 1 ≤ least → IsRun (λ n. n) (λ n. n < 2 ^ 32) least ids → AllByRecursion IsId ids
ids_of_run least [] le run = tt
ids_of_run least (id ∷ ids) le run = (record { positive = omega (arith, run.0.1); fits = run.0.0 }, ids_of_run (id + 1) ids (omega arith) run.1)

positive_ids : (ids : List ℕ) → AllByRecursion IsId ids → AllByRecursion (λ n. 1 ≤ n) ids
positive_ids [] all = tt
positive_ids (id ∷ ids) all = (all.0.positive, positive_ids ids all.1)

fitting_ids : (ids : List ℕ) → AllByRecursion IsId ids → AllByRecursion (λ n. n < 2 ^ 32) ids
fitting_ids [] all = tt
fitting_ids (id ∷ ids) all = (all.0.fits, fitting_ids ids all.1)

pub id_set_spelled : Spelled id_set_at IsIdSet id_set_spelling
unfolding id_set_at
id_set_spelled = as_facts IsIdSet
    (λ s h. record { fits = h.0.1; ids = ids_of_run 1 (items s) (omega arith) h.1 })
    (λ s h. ((omega (arith, h.fits), h.fits), run_of_numbers 1 (items s) (positive_ids (items s) h.ids) (items_ascending s) (fitting_ids (items s) h.ids)))
    (as_fields from_list items from_list-items (λ ids h. items-from_list ids (numbers_of_run 1 ids h.1)) (listed_spelled 256 1 u16_spelled))

abbrev changes_fields : ChangeSets → NatSet × (NatSet × NatSet)
changes_fields c = (c.entered, (c.joined, c.left))

pub changes_spelled : Spelled changes_at IsChanges changes_spelling
unfolding changes_at
changes_spelled = as_facts IsChanges
    (λ c h. record { entered = h.0; joined = h.1.0; left = h.1.1 })
    (λ c h. (h.entered, (h.joined, h.left)))
    (as_fields changes_with changes_fields (λ _. refl) (λ _ _. refl) (both id_set_spelled (both id_set_spelled id_set_spelled)))

-- a count within its limit, and so many numbers
listed_is_read : (count_at : Reading ℕ) (limit least : ℕ) (bytes : List ℕ) (count : ℕ) (after : List ℕ) (s : NatSet) (rest : List ℕ)
    → count_at bytes ≡ Ok (count, after) → count ≤ limit → numbers_at count least after ≡ Ok (items s, rest)
    → via from_list (listed_at count_at limit least) bytes ≡ Ok (s, rest)
unfolding listed_at
listed_is_read count_at limit least bytes count after s rest counted le read =
    let test : ltb limit count ≡ false = le-ltb limit count le in
    rw (counted, test, read) (ap (λ (t : NatSet). Ok (t, rest)) (from_list-items s))

pub number_set_is_read : (bytes : List ℕ) (count : ℕ) (after : List ℕ) (s : NatSet) (rest : List ℕ) → byte_at bytes ≡ Ok (count, after) → count ≤ 32
    → numbers_at count 0 after ≡ Ok (items s, rest)
    → number_set_at bytes ≡ Ok (s, rest)
unfolding number_set_at
number_set_is_read = listed_is_read byte_at 32 0

pub id_set_is_read : (bytes : List ℕ) (count : ℕ) (after : List ℕ) (s : NatSet) (rest : List ℕ) → number_at w16 bytes ≡ Ok (count, after) → count ≤ 256
    → numbers_at count 1 after ≡ Ok (items s, rest)
    → id_set_at bytes ≡ Ok (s, rest)
unfolding id_set_at
id_set_is_read = listed_is_read (number_at w16) 256 1
