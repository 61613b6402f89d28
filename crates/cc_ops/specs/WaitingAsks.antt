-- Asks that wait, one behind the other.
--     line_limit, FitsLine    how many wait at most; so many, and room for them
--     first_in                the first of them
--     has_session s asks      whether one of them is of that session
--     AreApart asks           no two of them are of one session
--     writes_by, written_by   how often they write the own value, and what they make of it, one after the other
use Rattle.std.specs.Prelude.{ℕ, ◌+◌, ◌≤◌, Bool, IsFalse, nat_eq, List, [], ◌∷◌, length, Option, Some, None, if◌then◌else◌, ⊤}
use Rattle.std.specs.List.{list_any}
use Rattle.cc_views.specs.declared.value.Value.{Value}
use Rattle.cc_ops.specs.declared.pending_operation.Asked.{Asked}
use Rattle.cc_ops.specs.Commands.{is_writing, written}

abbrev pub line_limit : ℕ
line_limit = 32

-- so few asks, in room for as many as may wait
pub record FitsLine (asks : List Asked) (capacity : ℕ) : Type 0 where
  pub few : length asks ≤ line_limit
  pub room : line_limit ≤ capacity

abbrev pub first_in : List Asked → Option Asked
first_in [] = None
first_in (asked ∷ asks) = Some asked

abbrev pub has_session : ℕ → List Asked → Bool
has_session session asks = list_any (λ (asked : Asked). nat_eq session asked.session) asks

abbrev pub AreApart : List Asked → Type 0
AreApart [] = ⊤
AreApart (asked ∷ asks) = IsFalse (has_session asked.session asks) × AreApart asks

abbrev pub writes_by : List Asked → ℕ
writes_by [] = 0
writes_by (asked ∷ asks) = (if is_writing asked.command then 1 else 0) + writes_by asks

abbrev pub written_by : List Asked → Value → Value
written_by [] mine = mine
written_by (asked ∷ asks) mine = written_by asks (written asked.command mine)
