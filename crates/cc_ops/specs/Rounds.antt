-- Which of the asks that wait begin together: of the kind of the first one, which writes or reads, the first few.
--     is_of, kind_of              whether an ask is of a kind;  its own
--     picked, spared              of the asks of a kind the first n;  what is left of all of them
--     first_round, line_behind    those that begin together: of the kind of the first one the first `share`;  what is left
--     of_kind                     all of a kind, in their order
--     IsAt n ask asks             n others stand before the ask;  ComesOn: it begins, or fewer do than did
use Rattle.std.specs.Prelude.{◌≡◌, ℕ, zero, suc, ◌<◌, ◌⊎◌, Bool, true, false, not, List, [], ◌∷◌, if◌then◌else◌}
use Rattle.cc_ops.specs.declared.pending_operation.Asked.{Asked}
use Rattle.cc_ops.specs.Commands.{is_writing}

abbrev pub kind_of : Asked → Bool
kind_of a = is_writing a.command

-- the kind of those that write is true
abbrev pub is_of : Bool → Asked → Bool
is_of true a = is_writing a.command
is_of false a = not (is_writing a.command)

abbrev pub picked : Bool → ℕ → List Asked → List Asked
picked kind zero asks = []
picked kind (suc n) [] = []
picked kind (suc n) (a ∷ asks) = if is_of kind a then a ∷ picked kind n asks else picked kind (suc n) asks

abbrev pub spared : Bool → ℕ → List Asked → List Asked
spared kind zero asks = asks
spared kind (suc n) [] = []
spared kind (suc n) (a ∷ asks) = if is_of kind a then spared kind n asks else a ∷ spared kind (suc n) asks

abbrev pub first_round : ℕ → List Asked → List Asked
first_round zero line = []
first_round (suc n) [] = []
first_round (suc n) (a ∷ line) = a ∷ picked (kind_of a) n line

abbrev pub line_behind : ℕ → List Asked → List Asked
line_behind zero line = line
line_behind (suc n) [] = []
line_behind (suc n) (a ∷ line) = spared (kind_of a) n line

abbrev pub of_kind : Bool → List Asked → List Asked
of_kind kind [] = []
of_kind kind (a ∷ asks) = if is_of kind a then a ∷ of_kind kind asks else of_kind kind asks

abbrev pub IsAt : ℕ → Asked → List Asked → Type 0
IsAt n asked [] = ⊥
IsAt zero asked (a ∷ asks) = asked ≡ a
IsAt (suc n) asked (a ∷ asks) = IsAt n asked asks

-- it is one of those that begin, or waits on with fewer before it
abbrev pub ComesOn : ℕ → Asked → List Asked → List Asked → Type 0
ComesOn n asked begun line = ((j : ℕ) × IsAt j asked begun) ⊎ ((j : ℕ) × (j < n) × IsAt j asked line)
