-- The head of a side: what was read behind its generation is spelled so.
--     front_4, front_8     the first bytes are those of the number that they are read as
--     head_spelled         an armed side with a generation and a state has a head
--     head_found           what a head spells is at the places where it is read
use Rattle.std.proofs.Common.{◌≡◌, ℕ, ◌+◌, ◌<◌, ◌≤◌, ◌^◌, List, ◌∷◌, ◌++◌, length, take, drop, slice_index, refl, sym, ◌∙◌, ap, subst}
use Rattle.std.proofs.Common.{arith, length-append, length-drop, take-append-drop}
use Rattle.std.specs.Int.{to_be_bytes, from_be_bytes, w32, w64}
use Rattle.std.proofs.lemmas.Nat.{from_be_bytes-to_be_bytes_4, be_bytes_4, be_bytes_8}
use Rattle.std.proofs.lemmas.List.{drop_more, drop-drop, length-take-le, take_at}
use Rattle.cc_wire.proofs.Spelled.{IsBytes, IsBytes-drop, IsBytes-take}
use Rattle.cc_node.specs.Node.{Node}
use Rattle.cc_node_state.specs.Layouts.{IsVersion, layout_of}
use Rattle.cc_node_state.specs.Sides.{OPEN, IsArmed, generation_of, SpellsHead}
use Rattle.cc_node_state.specs.States.{SpellsNode}
use Rattle.cc_checkpoint.specs.Heads.{size_of, state_of, HeadAt}

-- a front of four or eight bytes is a number
pub front_4 : (bytes : List ℕ) → IsBytes bytes → 4 ≤ length bytes
    → (to_be_bytes w32 (from_be_bytes w32 (take 4 bytes)) ≡ take 4 bytes) × (from_be_bytes w32 (take 4 bytes) < 2 ^ 32)
front_4 bytes fits long =
    let front = IsBytes-take 4 bytes fits in
    (be_bytes_4 (take 4 bytes) (from_be_bytes w32 (take 4 bytes)) (length-take-le 4 bytes long) front refl, below (take 4 bytes) front)
  where
    below : (bs : List ℕ) → IsBytes bs → from_be_bytes w32 bs < 2 ^ 32
    below bs fits = omega (arith, fits 0, fits 1, fits 2, fits 3)

pub front_8 : (bytes : List ℕ) → IsBytes bytes → 8 ≤ length bytes
    → (to_be_bytes w64 (from_be_bytes w64 (take 8 bytes)) ≡ take 8 bytes) × (from_be_bytes w64 (take 8 bytes) < 2 ^ 64)
front_8 bytes fits long =
    let front = IsBytes-take 8 bytes fits in
    (be_bytes_8 (take 8 bytes) (from_be_bytes w64 (take 8 bytes)) (length-take-le 8 bytes long) front refl, below (take 8 bytes) front)
  where
    below : (bs : List ℕ) → IsBytes bs → from_be_bytes w64 bs < 2 ^ 64
    below bs fits = omega (arith, fits 0, fits 1, fits 2, fits 3, fits 4, fits 5, fits 6, fits 7)

-- a head, and what stands behind it
pub record FrontHead (bytes : List ℕ) (generation : ℕ) (node : Node) (place : ℕ) : Type 0 where
  pub head : List ℕ
  pub parts : bytes ≡ head ++ drop place bytes
  pub size : length head ≡ place
  pub spelled : SpellsHead (slice_index bytes 9) head generation node

pub head_spelled : (bytes : List ℕ) (generation : ℕ) (node : Node) (place : ℕ)
    → IsBytes bytes → IsArmed bytes → 1 ≤ generation → generation_of bytes ≡ generation → HeadAt bytes node place
    → FrontHead bytes generation node place
head_spelled bytes generation node place fits armed from_one is at =
    let size = size_of bytes in
    let long = at.long in
    let state = state_of bytes in
    let counted : length state ≡ size = length-take-le size (drop 14 bytes) (omega (arith, length-drop 14 bytes, long)) in
    let behind_gate = drop 1 bytes in
    let number = front_8 behind_gate (IsBytes-drop 1 bytes fits) (omega (arith, length-drop 1 bytes, long)) in
    let behind_version = drop 10 bytes in
    let sized = front_4 behind_version (IsBytes-drop 10 bytes fits) (omega (arith, length-drop 10 bytes, long)) in
    let tail = drop (14 + size) bytes in
    let version = slice_index bytes 9 in
    let at_state : drop 14 bytes ≡ state ++ tail = sym (take-append-drop size (drop 14 bytes)) ∙ ap (λ (l : List ℕ). state ++ l) (drop-drop size 14 bytes) in
    let at_size : drop 10 bytes ≡ to_be_bytes w32 size ++ (state ++ tail) =
    sym (take-append-drop 4 behind_version)
    ∙ ap (λ (l : List ℕ). l ++ drop 4 behind_version) (sym sized.0)
    ∙ ap (λ (l : List ℕ). to_be_bytes w32 size ++ l) (drop-drop 4 10 bytes ∙ at_state) in
    let at_version : drop 9 bytes ≡ version ∷ (to_be_bytes w32 size ++ (state ++ tail)) =
    drop_more bytes 9 0 (omega (arith, long)) ∙ ap (λ (l : List ℕ). version ∷ l) at_size in
    let at_number : drop 1 bytes ≡ to_be_bytes w64 generation ++ (version ∷ (to_be_bytes w32 size ++ (state ++ tail))) =
    sym (take-append-drop 8 behind_gate)
    ∙ ap (λ (l : List ℕ). l ++ drop 8 behind_gate) (sym number.0 ∙ ap (to_be_bytes w64) is)
    ∙ ap (λ (l : List ℕ). to_be_bytes w64 generation ++ l) (drop-drop 8 1 bytes ∙ at_version) in
    let all : bytes ≡ OPEN ∷ (to_be_bytes w64 generation ++ (version ∷ (to_be_bytes w32 size ++ (state ++ tail)))) =
    drop_more bytes 0 0 (omega (arith, long)) ∙ ap (λ (v : ℕ). v ∷ drop 1 bytes) armed ∙ ap (λ (l : List ℕ). OPEN ∷ l) at_number in
    subst (λ (p : ℕ). FrontHead bytes generation node p) (sym at.is) (record {
      head = OPEN ∷ (to_be_bytes w64 generation ++ version ∷ (to_be_bytes w32 size ++ state));
      parts = all;
      size = omega (arith, counted);
      spelled = record {
        state = state;
        parts = ap (λ (n : ℕ). OPEN ∷ (to_be_bytes w64 generation ++ version ∷ (to_be_bytes w32 n ++ state))) (sym counted);
        from_one = from_one;
        fits = omega (arith, number.1, is);
        short = omega (arith, counted, sized.1);
        spelled = at.state;
      };
    })

-- a side that begins with a head of a known version has the state that it spells
pub head_found : (version : ℕ) (head rest : List ℕ) (generation : ℕ) (node : Node)
    → IsVersion version → SpellsHead version head generation node → HeadAt (head ++ rest) node (length head)
head_found version head rest generation node known spelled =
    let size = length spelled.state in
    let all : head ++ rest ≡ OPEN ∷ (to_be_bytes w64 generation ++ (version ∷ (to_be_bytes w32 size ++ (spelled.state ++ rest)))) =
    ap (λ (l : List ℕ). l ++ rest) spelled.parts in
    let long : length head ≡ 14 + size = ap length spelled.parts ∙ omega arith in
    let told : size_of (head ++ rest) ≡ size = ap size_of all ∙ from_be_bytes-to_be_bytes_4 size spelled.short in
    let there : slice_index (head ++ rest) 9 ≡ version = ap (λ (l : List ℕ). slice_index l 9) all in
    let found : state_of (head ++ rest) ≡ spelled.state =
    ap (λ (n : ℕ). take n (drop 14 (head ++ rest))) told
    ∙ ap (λ (l : List ℕ). take size (drop 14 l)) all
    ∙ take_at spelled.state rest size refl in
    record {
      version = subst IsVersion (sym there) known;
      is = omega (arith, long, told);
      long = omega (arith, long, told, length-append head rest);
      state = subst (λ (v : ℕ). SpellsNode (layout_of v) (state_of (head ++ rest)) node) (sym there)
          (subst (λ (l : List ℕ). SpellsNode (layout_of version) l node) (sym found) spelled.spelled);
    }
