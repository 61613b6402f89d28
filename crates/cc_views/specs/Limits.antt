-- The limits of the product: how far the counters of a node go, and how much is known and kept at most.
--     counter_limit          the last number of a counter: no sequence number, tag, post, request or generation goes past it
--     overruns before after  whether a counter stands at its limit and would be raised
--     known_limit            how many nodes are known
--     session_limit          how many sessions a node serves, each with one kept answer
--     set_limit              how many numbers a set slot has
--     text_limit             how many bytes a text has
use Rattle.std.specs.Prelude.{ℕ, ◌^◌, ◌==◌, ◌&&◌, Bool, nat_lt}

abbrev pub counter_limit : ℕ
counter_limit = 2 ^ 62

abbrev pub overruns : ℕ → ℕ → Bool
overruns before after = (before == counter_limit) && nat_lt before after

abbrev pub known_limit : ℕ
known_limit = 256

abbrev pub session_limit : ℕ
session_limit = 256

abbrev pub set_limit : ℕ
set_limit = 32

abbrev pub text_limit : ℕ
text_limit = 64
