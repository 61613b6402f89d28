-- Rows are read one after the other, as a loop does.
--     rows_go_on              one more row
--     RowsRead, row_read      how far it has come with rows whose keys rise, and with one row more
--     many_go_on              one more of what is read in any order; so of posts: posts_go_on
--     err_is                  what the exit of a `?` returns
use Rattle.std.proofs.Common.{◌≡◌, ℕ, zero, suc, ◌+◌, ◌-◌, ◌<◌, ◌≤◌, List, [], ◌∷◌, ◌++◌, length, map, Result, Ok, Err, refl, ap, ◌∙◌}
use Rattle.std.specs.Prelude.{IsErrAnd}
use Rattle.std.specs.List.{AllByRecursion}
use Rattle.std.proofs.lemmas.List.{map_push, length_push}
use Rattle.cc_views.specs.Tables.{IsRising, rising-push}
use Rattle.cc_wire.specs.declared.fault.WireFault.{WireFault}
use Rattle.cc_messages.specs.declared.message.Message.{Message}
use Rattle.cc_wire.specs.Messages.{message_at}
use Rattle.cc_wire.specs.Readers.{Reading, items_at}
use Rattle.cc_wire.proofs.Items.{with_front, goes_on, still_below, below_next}
use Rattle.cc_node_state.specs.States.{rows_at, posts_at}

pub err_is : {T E : Type 0} {e : E} (r : Result T E) → IsErrAnd r (λ y. y ≡ e) → r ≡ Err e
err_is (Ok x) is = absurd is
err_is (Err y) is = cc

module _ {X Row : Type 0} (entry : Row → ℕ × X) (item : ℕ → Reading (ℕ × X)) where
  pub rows_go_on : (rows : List Row) (count i least : ℕ) (bytes : List ℕ) (row : Row) (after : List ℕ) (total : Result (List (ℕ × X) × List ℕ) WireFault)
      → i < count → item least bytes ≡ Ok (entry row, after) → with_front (map entry rows) (rows_at item (count - i) least bytes) ≡ total
      → with_front (map entry (rows ++ row ∷ [])) (rows_at item (count - (i + 1)) ((entry row).0 + 1) after) ≡ total
  rows_go_on rows count i least bytes row after total lt read so_far =
      ap (λ (front : List (ℕ × X)). with_front front (rows_at item (count - (i + 1)) ((entry row).0 + 1) after)) (map_push entry rows row)
      ∙ goes_on item (λ e. e.0) (map entry rows) count i least bytes (entry row) after total lt read so_far

  -- so many rows of a count have come, of which the total is made where the source is honest
  pub record RowsRead (honest : Type 0) (count : ℕ) (total : Result (List (ℕ × X) × List ℕ) WireFault) (i least : ℕ) (bytes : List ℕ)
      (rows : List Row) : Type 0 where
    pub so_far : honest → with_front (map entry rows) (rows_at item (count - i) least bytes) ≡ total
    pub length : length rows ≡ i
    pub below : AllByRecursion (λ row. (entry row).0 < least) rows
    pub rising : IsRising entry rows

  pub row_read : {honest : Type 0} {count i least : ℕ} {bytes after : List ℕ} {total : Result (List (ℕ × X) × List ℕ) WireFault} {rows : List Row} {row : Row}
      → i < count → (honest → item least bytes ≡ Ok (entry row, after)) → least ≤ (entry row).0 → RowsRead honest count total i least bytes rows
      → RowsRead honest count total (i + 1) ((entry row).0 + 1) after (rows ++ row ∷ [])
  row_read {count} {i} {least} {bytes} {after} {total} {rows} {row} lt read le is = record {
    so_far = λ honest. rows_go_on rows count i least bytes row after total lt (read honest) (is.so_far honest);
    length = length_push rows row ∙ ap (λ k. k + 1) is.length;
    below = below_next (λ row. (entry row).0) rows row least is.below le;
    rising = rising-push entry rows row is.rising (still_below (λ row. (entry row).0) rows row least is.below le);
  }

-- ---- what is read in any order

module _ {X : Type 0} (read : Reading X) where
  abbrev many_at : ℕ → ℕ → Reading (List X)
  many_at count least = items_at (λ _. read) (λ _. 0) count least

  any_least : (count : ℕ) (bytes : List ℕ) → many_at count 0 bytes ≡ many_at count 1 bytes
  unfolding items_at
  any_least zero bytes = refl
  any_least (suc count) bytes = refl

  pub many_go_on : (front : List X) (count i : ℕ) (bytes : List ℕ) (x : X) (after : List ℕ) (total : Result (List X × List ℕ) WireFault)
      → i < count → read bytes ≡ Ok (x, after) → with_front front (many_at (count - i) 0 bytes) ≡ total
      → with_front (front ++ x ∷ []) (many_at (count - (i + 1)) 0 after) ≡ total
  many_go_on front count i bytes x after total lt is so_far =
      ap (with_front (front ++ x ∷ [])) (any_least (count - (i + 1)) after) ∙ goes_on (λ _. read) (λ _. 0) front count i 0 bytes x after total lt is so_far

pub posts_go_on : (posts : List Message) (count i : ℕ) (bytes : List ℕ) (post : Message) (after : List ℕ) (total : Result (List Message × List ℕ) WireFault)
    → i < count → message_at bytes ≡ Ok (post, after) → with_front posts (posts_at (count - i) bytes) ≡ total
    → with_front (posts ++ post ∷ []) (posts_at (count - (i + 1)) after) ≡ total
posts_go_on = many_go_on message_at
