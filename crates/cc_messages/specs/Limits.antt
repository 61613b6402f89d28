-- How much a message or an answer holds at most, beside what a node knows.
--     list_limit              numbers of an answer's list: as many as all nodes have in their sets
use Rattle.std.specs.Prelude.{ℕ}

abbrev pub list_limit : ℕ
list_limit = 8192
