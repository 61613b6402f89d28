-- The one spelling of each thing, and what has one.
use Rattle.std.specs.Prelude.{◌≡◌, ℕ, ◌<◌, ◌≤◌, ◌^◌, List, [], ◌∷◌, ◌++◌, length, Bool, true, false}
use Rattle.std.specs.Int.{w16, w32, w64, to_be_bytes}
use Rattle.std.specs.List.{flat_map, AllByRecursion}
use Rattle.std.specs.FinMap.{len}
use Rattle.cc_views.specs.NatSets.{NatSet, items}
use Rattle.cc_views.specs.declared.value.Value.{Value}
use Rattle.cc_views.specs.declared.row.Row.{Row}
use Rattle.cc_views.specs.Rows.{ViewMap, rows_of}
use Rattle.cc_changes.specs.ChangeSets.{ChangeSets}
use Rattle.cc_views.specs.Limits.{known_limit, set_limit, text_limit}
use Rattle.cc_messages.specs.Limits.{list_limit}

-- the bytes spell what has a spelling
pub record Spells {X : Type 0} (Is : X → Type 0) (spelling : X → List ℕ) (bytes : List ℕ) (x : X) : Type 0 where
  pub lawful : Is x
  pub spelled : bytes ≡ spelling x

-- ---- texts: a length and the bytes
abbrev pub text_spelling : List ℕ → List ℕ
text_spelling text = length text ∷ text

pub record IsText (text : List ℕ) : Type 0 where
  pub fits : length text ≤ text_limit
  pub bytes : AllByRecursion (λ b. b < 256) text

-- ---- flags
abbrev pub flag_spelling : Bool → List ℕ
flag_spelling false = 0 ∷ []
flag_spelling true = 1 ∷ []

-- ---- sets: a count and the numbers
abbrev pub number_spelling : ℕ → List ℕ
number_spelling n = to_be_bytes w32 n

abbrev pub number_set_spelling : NatSet → List ℕ
number_set_spelling s = length (items s) ∷ flat_map number_spelling (items s)

pub record IsNumberSet (s : NatSet) : Type 0 where
  pub fits : length (items s) ≤ set_limit
  pub numbers : AllByRecursion (λ n. n < 2 ^ 32) (items s)

-- ---- values: text, max, flag, set
abbrev pub value_spelling : Value → List ℕ
value_spelling v = text_spelling v.text ++ (to_be_bytes w64 v.max ++ (flag_spelling v.flag ++ number_set_spelling v.set))

pub record IsValue (v : Value) : Type 0 where
  pub text : IsText v.text
  pub max : v.max < 2 ^ 64
  pub set : IsNumberSet v.set

-- ---- rows: node, number, value
abbrev pub row_spelling : Row → List ℕ
row_spelling row = to_be_bytes w32 row.node ++ (to_be_bytes w64 row.number ++ value_spelling row.value)

pub record IsRow (row : Row) : Type 0 where
  pub id : 1 ≤ row.node
  pub node : row.node < 2 ^ 32
  pub number : row.number < 2 ^ 64
  pub value : IsValue row.value

-- ---- views: a count, and the rows by ascending node
abbrev pub view_spelling : ViewMap → List ℕ
view_spelling v = to_be_bytes w16 (len v) ++ flat_map row_spelling (rows_of v)

pub record IsView (v : ViewMap) : Type 0 where
  pub fits : len v ≤ known_limit
  pub rows : AllByRecursion IsRow (rows_of v)

abbrev pub SpellsView : List ℕ → ViewMap → Type 0
SpellsView = Spells IsView view_spelling

-- ---- lists: a count, and the numbers in ascending order
abbrev pub listed_spelling : List ℕ → List ℕ
listed_spelling ns = to_be_bytes w16 (length ns) ++ flat_map number_spelling ns

abbrev pub number_list_spelling : NatSet → List ℕ
number_list_spelling s = listed_spelling (items s)

pub record IsNumberList (s : NatSet) : Type 0 where
  pub fits : length (items s) ≤ list_limit
  pub numbers : AllByRecursion (λ n. n < 2 ^ 32) (items s)

-- ---- sets of ids
abbrev pub id_set_spelling : NatSet → List ℕ
id_set_spelling s = listed_spelling (items s)

pub record IsId (id : ℕ) : Type 0 where
  pub positive : 1 ≤ id
  pub fits : id < 2 ^ 32

pub record IsIdSet (s : NatSet) : Type 0 where
  pub fits : length (items s) ≤ known_limit
  pub ids : AllByRecursion IsId (items s)

-- ---- changes: who entered, joined and left. Who joined need not be among those who entered
abbrev pub changes_spelling : ChangeSets → List ℕ
changes_spelling c = id_set_spelling c.entered ++ (id_set_spelling c.joined ++ id_set_spelling c.left)

pub record IsChanges (c : ChangeSets) : Type 0 where
  pub entered : IsIdSet c.entered
  pub joined : IsIdSet c.joined
  pub left : IsIdSet c.left
