-- Numbers in ascending order at the front of a room for a set slot.
use Rattle.std.specs.Prelude.{◌≡◌, ℕ, List, length, take}
use Rattle.std.proofs.Common.{ap, ◌∙◌}
use Rattle.cc_views.specs.Limits.{set_limit}
use Rattle.cc_views.specs.NatLists.{items-table_of}
use Rattle.cc_views.specs.NatSets.{marked, items}
use Rattle.cc_views.specs.Room.{IsRoom, filled, filled_of_used}
use Rattle.cc_views.specs.Tables.{IsRising, table_of}

pub record IsNumberTable (cells : List ℕ) (len : ℕ) : Type 0 where
  pub room : IsRoom set_limit cells len
  pub rising : IsRising marked (take len cells)

-- the set of the numbers gives the cells back, and how many are used
pub cells_of_items : (cells : List ℕ) (len : ℕ) → IsNumberTable cells len
    → (filled set_limit (items (table_of marked (take len cells))) ≡ cells) × (length (items (table_of marked (take len cells))) ≡ len)
cells_of_items cells len h =
    let known = items-table_of (take len cells) h.rising in
    let back = filled_of_used set_limit cells len h.room in
    (ap (filled set_limit) known ∙ back.0, ap length known ∙ back.1)
