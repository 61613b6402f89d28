-- How the elements of a state are read and spelled.
--     Format, spelled_as      what is seen of a value, how that is read and spelled, and in how many bytes at most
--     .._small                these have no more bytes
use Rattle.std.specs.Prelude.{ℕ, ◌≤◌, List, length}
use Rattle.std.specs.Int.{w16, w64, to_be_bytes}
use Rattle.std.proofs.Common.{arith}
use Rattle.cc_wire.specs.Readers.{Reading}
use Rattle.cc_wire.proofs.Spelled.{Spelled}
use Rattle.cc_links.specs.Links.{Link}
use Rattle.cc_node_state.specs.States.{entering_spelling, link_spelling}

pub record Format (T : Type 0) : Type 1 where
  pub Seen : Type 0
  pub see : T → Seen
  pub read : Reading Seen
  pub Is : Seen → Type 0
  pub spelling : Seen → List ℕ
  pub most : ℕ
  pub spelled : Spelled read Is spelling
  pub small : (x : Seen) → Is x → length (spelling x) ≤ most

abbrev pub spelled_as : {T X : Type 0} {read : Reading X} {Is : X → Type 0} {spelling : X → List ℕ}
    → (T → X) → (most : ℕ) → Spelled read Is spelling → ((x : X) → Is x → length (spelling x) ≤ most) → Format T
spelled_as {X} {read} {Is} {spelling} see most spelled small = record {
  Seen = X;
  see = see;
  read = read;
  Is = Is;
  spelling = spelling;
  most = most;
  spelled = spelled;
  small = small;
}

pub entering_small : (e : ℕ × ℕ) → length (entering_spelling e.0 e.1) ≤ 10
entering_small e = omega arith

pub number_small : (n : ℕ) → length (to_be_bytes w64 n) ≤ 8
number_small n = omega arith

pub count_small : (n : ℕ) → length (to_be_bytes w16 n) ≤ 2
count_small n = omega arith

pub link_small : (e : ℕ × Link) → length (link_spelling e) ≤ 28
link_small e = omega arith
