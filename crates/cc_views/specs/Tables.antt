-- Rows in ascending order of their keys, as a table that keeps a finite map. `entry` takes a row to its key and its value.
--     table_of                     the map that rows keep
--     IsRising, IsTable            that keys rise from row to row;  and that the rows fit a room that is there
--     IsAt, IsGapFor, IsPlaceOf    the place of a key's row, or where it would go, as a binary search answers it
--     searched, found              that it answers that, and so whether the key is there
--     put_.., table_of-.., rising-..   what an edit at such a place makes of the entries and of the map, and that the keys rise still
--     get-.., len-.., entries-..   look-ups, size and entries of the map by the rows
--     keys_ascend, rising_of_keys  keys that rise, as numbers that ascend
--     .._table                     that a table stays one
use Rattle.std.proofs.Common.{◌≡◌, ℕ, zero, suc, ◌+◌, ◌<◌, ◌≤◌, Bool, true, false, cond, not, List, [], ◌∷◌, ◌++◌, map, length, get_or, set, Option}
use Rattle.std.proofs.Common.{Some, None, Result, Ok, Err, refl, sym, ap, subst, ◌∙◌, arith, inl, inr}
use Rattle.std.specs.Prelude.{IsTrue, ◌⊎◌, is_ok, is_some}
use Rattle.std.specs.List.{AllByRecursion, insert, remove}
use Rattle.std.specs.List.Sorted.{IsSearchInRange, IsBinarySearchResult, IsNonDecreasingBy}
use Rattle.std.specs.declared.cmp.Ordering.TheVariants.{Equal}
use Rattle.std.specs.Ordering.{nat_cmp, ordering_index, eq_by_cmp, is_lt}
use Rattle.std.specs.Cmp.{nat_cmp_total, eq_by_cmp_equiv}
use Rattle.std.specs.FinMap as finite
use Rattle.std.specs.FinMap.{FinMap, nat_cmp-IsAntisymmetric}
use Rattle.std.specs.FinMap.Entries.{find, put, where_key, below_all, is_sorted, is_sorted-put, is_sorted-where_key, find-put, find-where_key}
use Rattle.std.proofs.Math.ListN.{get_or-map}
use Rattle.std.proofs.lemmas.Bool.{and_from, cases_lt}
use Rattle.std.proofs.lemmas.Bool.Decides.{nat_tests}
use Rattle.std.proofs.lemmas.Cmp.{ranked}
use Rattle.std.proofs.lemmas.List.{length-append, length-map, length-set, map-set, map_push}
use Rattle.std.proofs.lemmas.List.Edits.{length-insert, length-remove}
use Rattle.cc_views.specs.AscendingLists.{IsAscending}
use Rattle.cc_views.specs.Entries.{cmp_lt, cmp_eq, cmp_gt, and_left, and_right, to_T, from_T, lt_from_cmp, ascending_of_sorted, sorted_of_ascending}
use Rattle.cc_views.specs.Entries.{below_at, rises, put_at, put_gap, find_at, find_none, entries_back}

-- keys rise from row to row
abbrev pub IsRising : {Row X : Type 0} → (Row → ℕ × X) → List Row → Type 0
IsRising entry rows = IsTrue (is_sorted nat_cmp (map entry rows))

-- rows in order, at most `limit` of them, in room for as many
pub record IsTable {Row X : Type 0} (entry : Row → ℕ × X) (limit : ℕ) (rows : List Row) (capacity : ℕ) : Type 0 where
  pub rising : IsRising entry rows
  pub fits : length rows ≤ limit
  pub room : limit ≤ capacity

-- the map that rows keep
abbrev pub table_of : {Row X : Type 0} → (Row → ℕ × X) → List Row → FinMap nat_cmp X
table_of entry rows = finite.from_entries (map entry rows)

-- the row at place i is that of the key
pub record IsAt {Row X : Type 0} (entry : Row → ℕ × X) (rows : List Row) (key i : ℕ) : Type 0 where
  pub in_range : i < length rows
  pub has_key : (d : Row) → (entry (get_or rows i d)).0 ≡ key

-- the row of the key would go to place i
pub record IsGapFor {Row X : Type 0} (entry : Row → ℕ × X) (rows : List Row) (key i : ℕ) : Type 0 where
  pub in_range : i ≤ length rows
  pub below : (j : ℕ) (d : Row) → j < i → (entry (get_or rows j d)).0 < key
  pub above : (j : ℕ) (d : Row) → i ≤ j → j < length rows → key < (entry (get_or rows j d)).0

abbrev pub IsPlaceOf : {Row X : Type 0} → (Row → ℕ × X) → List Row → ℕ → Result ℕ ℕ → Type 0
IsPlaceOf entry rows key (Ok i) = IsAt entry rows key i
IsPlaceOf entry rows key (Err i) = IsGapFor entry rows key i

-- a map of entries with one more put is the map with it inserted
from_entries-put : {X : Type 0} (k : ℕ) (v : X) (es : List (ℕ × X)) → finite.from_entries {R = nat_cmp} (put nat_cmp k v es)
    ≡ finite.insert (finite.from_entries es) k v
from_entries-put k v es = finite.same_map nat_cmp_total nat_cmp-IsAntisymmetric _ _ (λ q.
    finite.get-from_entries nat_cmp_total (put nat_cmp k v es) q ∙ find-put nat_cmp nat_cmp_total q k v es
    ∙ sym (finite.get-insert nat_cmp_total (finite.from_entries es) k v q ∙ ap (λ o. cond (eq_by_cmp nat_cmp q k) (Some v) o)
    (finite.get-from_entries nat_cmp_total es q)))

module _ {Row X : Type 0} (entry : Row → ℕ × X) (rows : List Row) where
  entry_at : (i : ℕ) (d : Row) → get_or (map entry rows) i (entry d) ≡ entry (get_or rows i d)
  entry_at i d = get_or-map entry rows i d

  pub entries-table_of : IsRising entry rows → finite.entries (table_of entry rows) ≡ map entry rows
  entries-table_of rising = entries_back (map entry rows) rising

  pub len-table_of : IsRising entry rows → finite.len (table_of entry rows) ≡ length rows
  len-table_of rising = finite.len-entries (table_of entry rows) ∙ ap length (entries-table_of rising) ∙ length-map rows entry

  pub get-table_of : (q : ℕ) → finite.get (table_of entry rows) q ≡ find nat_cmp q (map entry rows)
  get-table_of q = finite.get-from_entries nat_cmp_total (map entry rows) q

  -- a row is written over that of its key
  module _ (rising : IsRising entry rows) (key i : ℕ) (at : IsAt entry rows key i) where
    in_entries : i < length (map entry rows)
    in_entries = omega (arith, at.in_range, length-map rows entry)

    key_at : (d : Row) → (get_or (map entry rows) i (entry d)).0 ≡ key
    key_at d = ap (λ (e : ℕ × X). e.0) (entry_at i d) ∙ at.has_key d

    pub find-at : (d : Row) → find nat_cmp key (map entry rows) ≡ Some (entry (get_or rows i d)).1
    find-at d = find_at (map entry rows) i key (entry d) rising in_entries (key_at d) ∙ ap (λ (e : ℕ × X). Some e.1) (entry_at i d)

    pub get-at : (d : Row) → finite.get (table_of entry rows) key ≡ Some (entry (get_or rows i d)).1
    get-at d = get-table_of key ∙ find-at d

    pub put_set : (row : Row) → (entry row).0 ≡ key → map entry (set rows i row) ≡ put nat_cmp key (entry row).1 (map entry rows)
    put_set row is =
        map-set entry rows i row ∙ ap (λ (k : ℕ). set (map entry rows) i (k, (entry row).1)) is
        ∙ put_at (map entry rows) i key (entry row).1 (entry row) rising in_entries (key_at row)

    pub table_of-set : (row : Row) → (entry row).0 ≡ key → table_of entry (set rows i row) ≡ finite.insert (table_of entry rows) key (entry row).1
    table_of-set row is = ap (λ (es : List (ℕ × X)). finite.from_entries es) (put_set row is) ∙ from_entries-put key (entry row).1 (map entry rows)

    pub rising-set : (row : Row) → (entry row).0 ≡ key → IsRising entry (set rows i row)
    rising-set row is = ap (is_sorted nat_cmp) (put_set row is) ∙ from_T _
        (is_sorted-put nat_cmp nat_cmp_total key (entry row).1 (map entry rows) (to_T _ rising))

  -- a row goes into the gap for its key
  module _ (key i : ℕ) (gap : IsGapFor entry rows key i) where
    none_there : (d : Row) → find nat_cmp key (map entry rows) ≡ None
    none_there d = find_none (map entry rows) key (entry d) (λ j lt. side j lt)
      where
        side : (j : ℕ) → j < length (map entry rows) → ((get_or (map entry rows) j (entry d)).0 < key) ⊎ (key < (get_or (map entry rows) j (entry d)).0)
        side j lt = elim (cases_lt j i) [
          | inl l ↦ inl (rw (entry_at j d) (gap.below j d l))
          | inr r ↦ inr (rw (entry_at j d) (gap.above j d r (omega (arith, lt, length-map rows entry))))
        ]

    pub find-gap : find nat_cmp key (map entry rows) ≡ None
    find-gap = none_of rows refl
      where
        none_of : (rs : List Row) → rs ≡ rows → find nat_cmp key (map entry rows) ≡ None
        none_of [] is = subst (λ (rs : List Row). find nat_cmp key (map entry rs) ≡ None) is refl
        none_of (d ∷ rs) is = none_there d

    pub get-gap : finite.get (table_of entry rows) key ≡ None
    get-gap = get-table_of key ∙ find-gap

    map_insert : (rs : List Row) (j : ℕ) (row : Row) → map entry (insert rs j row) ≡ insert (map entry rs) j (entry row)
    map_insert rs zero row = refl
    map_insert [] (suc j) row = refl
    map_insert (r ∷ rs) (suc j) row = ap (λ (t : List (ℕ × X)). entry r ∷ t) (map_insert rs j row)

    pub put_insert : (row : Row) → (entry row).0 ≡ key → map entry (insert rows i row) ≡ put nat_cmp key (entry row).1 (map entry rows)
    put_insert row is =
        map_insert rows i row ∙ ap (λ (k : ℕ). insert (map entry rows) i (k, (entry row).1)) is
        ∙ put_gap (map entry rows) i key (entry row).1 (entry row) (omega (arith, gap.in_range, length-map rows entry))
        (λ j lt. rw (entry_at j row) (gap.below j row lt))
        (λ j le lt. rw (entry_at j row) (gap.above j row le (omega (arith, lt, length-map rows entry))))

    pub table_of-insert : (row : Row) → (entry row).0 ≡ key → table_of entry (insert rows i row) ≡ finite.insert (table_of entry rows) key (entry row).1
    table_of-insert row is = ap (λ (es : List (ℕ × X)). finite.from_entries es) (put_insert row is) ∙ from_entries-put key (entry row).1 (map entry rows)

    pub rising-insert : (row : Row) → (entry row).0 ≡ key → IsRising entry rows → IsRising entry (insert rows i row)
    rising-insert row is rising = ap (is_sorted nat_cmp) (put_insert row is)
        ∙ from_T _ (is_sorted-put nat_cmp nat_cmp_total key (entry row).1 (map entry rows) (to_T _ rising))

    -- so that there is one more
    pub len-insert_gap : (v : X) → IsRising entry rows → finite.len (finite.insert (table_of entry rows) key v) ≡ length rows + 1
    len-insert_gap v rising =
        finite.len-insert nat_cmp_total (table_of entry rows) key v
        ∙ ap (λ (o : Option X). cond (is_some o) (finite.len (table_of entry rows)) (finite.len (table_of entry rows) + 1)) get-gap
        ∙ ap (λ (n : ℕ). n + 1) (len-table_of rising)

-- a binary search by key ends at the key's row, or at the gap for it
module _ {Row X : Type 0} (entry : Row → ℕ × X) (rows : List Row) (rising : IsRising entry rows) (key : ℕ) where
  comparisons_rise : IsNonDecreasingBy (λ (row : Row). ordering_index (nat_cmp (entry row).0 key)) rows
  comparisons_rise i j d le lt =
      let a : (get_or (map entry rows) i (entry d)).0 ≡ (entry (get_or rows i d)).0 = ap (λ (e : ℕ × X). e.0) (entry_at entry rows i d) in
      let b : (get_or (map entry rows) j (entry d)).0 ≡ (entry (get_or rows j d)).0 = ap (λ (e : ℕ × X). e.0) (entry_at entry rows j d) in
      let keys_rise : (entry (get_or rows i d)).0 ≤ (entry (get_or rows j d)).0 =
      grind (arith, length-map rows entry, rises (map entry rows) rising i j (entry d), λ (same : i ≡ j). ap (λ (k : ℕ). (entry (get_or rows k d)).0) same) in
      grind (arith, nat_tests)

  pub searched : (r : Result ℕ ℕ) → IsSearchInRange r (length rows) → IsBinarySearchResult (λ (row : Row). nat_cmp (entry row).0 key) rows r
      → IsPlaceOf entry rows key r
  searched (Ok i) in_range equal = record { in_range = in_range; has_key = λ d. ranked _ key _ (sym (equal d)) }
  searched (Err i) in_range parted = record {
    in_range = in_range;
    below = λ j d lt. ranked _ key _ (sym ((parted comparisons_rise).0 j d (omega arith) lt));
    above = λ j d le lt. ranked _ key _ (sym ((parted comparisons_rise).1 j d le lt));
  }

  -- so it tells whether the map has the key
  pub found : (r : Result ℕ ℕ) → Row → IsPlaceOf entry rows key r → is_ok r ≡ finite.contains_key (table_of entry rows) key
  found (Ok i) d at = sym (ap is_some (get-at entry rows rising key i at d))
  found (Err i) d gap = sym (ap is_some (get-gap entry rows key i gap))

-- ---- a row is taken out

turned : {A : Type 0} (b : Bool) (x y : A) → cond (not b) x y ≡ cond b y x
turned true x y = refl
turned false x y = refl

-- the keys that differ from one
abbrev other_than : ℕ → ℕ → Bool
other_than k q = not (eq_by_cmp nat_cmp k q)

module _ {X : Type 0} where
  all_others : (k : ℕ) (es : List (ℕ × X)) → below_all nat_cmp k es ≡ true → es ≡ where_key nat_cmp (other_than k) es
  all_others k [] h = refl
  all_others k (e ∷ es) h = rw (cmp_lt k e.0 (lt_from_cmp k e.0 (and_left _ _ h))) (ap (λ (t : List (ℕ × X)). e ∷ t) (all_others k es (and_right _ _ h)))

  remove_other : (es : List (ℕ × X)) (i k : ℕ) (d : ℕ × X) → is_sorted nat_cmp es ≡ true → i < length es → (get_or es i d).0 ≡ k
      → remove es i ≡ where_key nat_cmp (other_than k) es
  remove_other [] i k d h lt is = absurd (omega arith)
  remove_other (e ∷ es) zero k d h lt is =
      rw (cmp_eq k e.0 (sym is)) (subst (λ (q : ℕ). es ≡ where_key nat_cmp (other_than q) es) is (all_others e.0 es (and_left _ _ h)))
  remove_other (e ∷ es) (suc i) k d h lt is =
      let later : e.0 < (get_or es i d).0 = below_at e.0 es (and_left _ _ h) i d (omega arith) in
      rw (cmp_gt k e.0 (subst (λ (q : ℕ). e.0 < q) is later)) (ap (λ (t : List (ℕ × X)). e ∷ t) (remove_other es i k d (and_right _ _ h) (omega arith) is))

  from_entries-other : (k : ℕ) (es : List (ℕ × X)) → finite.from_entries {R = nat_cmp} (where_key nat_cmp (other_than k) es)
      ≡ finite.remove (finite.from_entries es) k
  from_entries-other k es = finite.same_map nat_cmp_total nat_cmp-IsAntisymmetric _ _ (λ q.
      finite.get-from_entries nat_cmp_total (where_key nat_cmp (other_than k) es) q
      ∙ find-where_key nat_cmp (other_than k) q (λ x tied. ap (other_than k) (sym (nat_cmp-IsAntisymmetric q x tied))) es
      ∙ turned (eq_by_cmp nat_cmp k q) _ _ ∙ ap (λ (b : Bool). cond b None (find nat_cmp q es)) ((eq_by_cmp_equiv nat_cmp_total).symm k q)
      ∙ sym (finite.get-remove nat_cmp_total (finite.from_entries es) k q ∙ ap (λ o. cond (eq_by_cmp nat_cmp q k) None o)
      (finite.get-from_entries nat_cmp_total es q)))

module _ {Row X : Type 0} (entry : Row → ℕ × X) (rows : List Row) (rising : IsRising entry rows) (key i : ℕ) (at : IsAt entry rows key i) where
  map_remove : (rs : List Row) (j : ℕ) → map entry (remove rs j) ≡ remove (map entry rs) j
  map_remove [] zero = refl
  map_remove [] (suc j) = refl
  map_remove (r ∷ rs) zero = refl
  map_remove (r ∷ rs) (suc j) = ap (λ (t : List (ℕ × X)). entry r ∷ t) (map_remove rs j)

  others : (d : Row) → map entry (remove rows i) ≡ where_key nat_cmp (other_than key) (map entry rows)
  others d = map_remove rows i ∙ remove_other (map entry rows) i key (entry d) rising (in_entries entry rows rising key i at)
      (key_at entry rows rising key i at d)

  pub table_of-remove : (d : Row) → table_of entry (remove rows i) ≡ finite.remove (table_of entry rows) key
  table_of-remove d = ap (λ (es : List (ℕ × X)). finite.from_entries es) (others d) ∙ from_entries-other key (map entry rows)

  pub rising-remove : (d : Row) → IsRising entry (remove rows i)
  rising-remove d = ap (is_sorted nat_cmp) (others d) ∙ from_T _ (is_sorted-where_key nat_cmp (other_than key) (map entry rows) (to_T _ rising))

-- ---- a row whose key is above all goes to the end

module _ {Row X : Type 0} (entry : Row → ℕ × X) where
  abbrev pub IsAboveAll : Row → List Row → Type 0
  IsAboveAll row rows = AllByRecursion (λ r. (entry r).0 < (entry row).0) rows

  below_push : (k : ℕ) (rows : List Row) (row : Row) → below_all nat_cmp k (map entry rows) ≡ true → k < (entry row).0
      → below_all nat_cmp k (map entry (rows ++ row ∷ [])) ≡ true
  below_push k [] row below lt = and_from _ _ (ap is_lt (cmp_lt k (entry row).0 lt)) refl
  below_push k (r ∷ rows) row below lt = and_from _ _ (and_left _ _ below) (below_push k rows row (and_right _ _ below) lt)

  pub rising-push : (rows : List Row) (row : Row) → IsRising entry rows → IsAboveAll row rows → IsRising entry (rows ++ row ∷ [])
  rising-push [] row rising above = refl
  rising-push (r ∷ rows) row rising above =
      and_from _ _ (below_push (entry r).0 rows row (and_left _ _ rising) above.0) (rising-push rows row (and_right _ _ rising) above.1)

  find_above : (rows : List Row) (row : Row) → IsAboveAll row rows → find nat_cmp (entry row).0 (map entry rows) ≡ None
  find_above [] row above = refl
  find_above (r ∷ rows) row above = rw (cmp_gt (entry row).0 (entry r).0 above.0) (find_above rows row above.1)

  pub table_of-push : (rows : List Row) (row : Row) → IsAboveAll row rows → table_of entry (rows ++ row ∷ []) ≡ finite.insert (table_of entry rows)
      (entry row).0 (entry row).1
  table_of-push rows row above =
      ap (λ (es : List (ℕ × X)). finite.from_entries es) (map_push entry rows row)
      ∙ finite.from_entries_push nat_cmp_total nat_cmp-IsAntisymmetric (map entry rows) (entry row).0 (entry row).1 (find_above rows row above)

  pub push_table : (limit : ℕ) (rows : List Row) (capacity : ℕ) → IsTable entry limit rows capacity → (row : Row) → IsAboveAll row rows
      → length rows < limit → (more : ℕ) → capacity ≤ more
      → IsTable entry limit (rows ++ row ∷ []) more
  push_table limit rows capacity is row above lt more le = record {
    rising = rising-push rows row is.rising above;
    fits = omega (arith, length-append rows (row ∷ []), lt);
    room = omega (arith, is.room);
  }

-- ---- rows again, and a part of the rows

-- to keep the keys that pass a test is to keep their entries
pub retain-from_entries : {X : Type 0} (p : ℕ → Bool) (es : List (ℕ × X)) → finite.retain_keys (finite.from_entries {R = nat_cmp} es) p
    ≡ finite.from_entries (where_key nat_cmp p es)
retain-from_entries p es =
    let alike : (q x : ℕ) → nat_cmp q x ≡ Equal → p x ≡ p q = λ q x tied. ap p (sym (nat_cmp-IsAntisymmetric q x tied)) in
    finite.same_map nat_cmp_total nat_cmp-IsAntisymmetric _ _ (λ q.
    finite.get-retain_keys (finite.from_entries es) p q (alike q) ∙ ap (λ o. cond (p q) o None) (finite.get-from_entries nat_cmp_total es q)
    ∙ sym (finite.get-from_entries nat_cmp_total (where_key nat_cmp p es) q ∙ find-where_key nat_cmp p q (alike q) es))

module _ {Row X : Type 0} (entry : Row → ℕ × X) where
  rows_again : (row_of : ℕ × X → Row) → ((row : Row) → row_of (entry row) ≡ row) → (rows : List Row) → map row_of (map entry rows) ≡ rows
  rows_again row_of back [] = refl
  rows_again row_of back (row ∷ rows) = λ i. back row i ∷ rows_again row_of back rows i

  -- the map has the rows that it is made of
  pub rows-table_of : (row_of : ℕ × X → Row) → ((row : Row) → row_of (entry row) ≡ row) → (rows : List Row) → IsRising entry rows
      → map row_of (finite.entries (table_of entry rows)) ≡ rows
  rows-table_of row_of back rows rising = ap (map row_of) (entries-table_of entry rows rising) ∙ rows_again row_of back rows

  -- the entries whose keys pass a test
  pub entries-retain : (rows : List Row) (p : ℕ → Bool) → IsRising entry rows → finite.entries (finite.retain_keys (table_of entry rows) p)
      ≡ where_key nat_cmp p (map entry rows)
  entries-retain rows p rising =
      ap finite.entries (retain-from_entries p (map entry rows))
      ∙ entries_back (where_key nat_cmp p (map entry rows)) (from_T _ (is_sorted-where_key nat_cmp p (map entry rows) (to_T _ rising)))

  -- keys rise where, as numbers, they ascend
  keys_are : (rows : List Row) → map (λ (e : ℕ × X). e.0) (map entry rows) ≡ map (λ row. (entry row).0) rows
  keys_are [] = refl
  keys_are (row ∷ rows) = ap (λ (t : List ℕ). (entry row).0 ∷ t) (keys_are rows)

  pub keys_ascend : (rows : List Row) → IsRising entry rows → IsAscending (map (λ row. (entry row).0) rows)
  keys_ascend rows rising = subst IsAscending (keys_are rows) (ascending_of_sorted (map entry rows) rising)

  pub rising_of_keys : (rows : List Row) → IsAscending (map (λ row. (entry row).0) rows) → IsRising entry rows
  rising_of_keys rows h = sorted_of_ascending (map entry rows) (subst IsAscending (sym (keys_are rows)) h)

-- ---- what an edit keeps of a table

module _ {Row X : Type 0} (entry : Row → ℕ × X) (limit : ℕ) (rows : List Row) (capacity : ℕ) (is : IsTable entry limit rows capacity) (key i : ℕ) where
  pub set_table : IsAt entry rows key i → (row : Row) → (entry row).0 ≡ key → IsTable entry limit (set rows i row) capacity
  set_table at row of = record {
    rising = rising-set entry rows is.rising key i at row of;
    fits = omega (arith, length-set rows i row, is.fits);
    room = is.room;
  }

  pub insert_table : IsGapFor entry rows key i → (row : Row) → (entry row).0 ≡ key → finite.len (finite.insert (table_of entry rows) key (entry row).1)
      ≤ limit → (more : ℕ) → capacity ≤ more → IsTable entry limit (insert rows i row) more
  insert_table gap row of fits more le = record {
    rising = rising-insert entry rows key i gap row of is.rising;
    fits = omega (arith, length-insert rows i row gap.in_range, len-insert_gap entry rows key i gap (entry row).1 is.rising, fits);
    room = omega (arith, is.room);
  }

  pub remove_table : IsAt entry rows key i → (d : Row) → IsTable entry limit (remove rows i) capacity
  remove_table at d = record {
    rising = rising-remove entry rows is.rising key i at d;
    fits = omega (arith, length-remove rows i at.in_range, is.fits);
    room = is.room;
  }

  -- there is room for one more where the map with it fits
  pub room_for : IsGapFor entry rows key i → (v : X) → finite.len (finite.insert (table_of entry rows) key v) ≤ limit → length rows < capacity
  room_for gap v fits = omega (arith, len-insert_gap entry rows key i gap v is.rising, fits, is.room)
