-- What stands behind the first byte of a side that holds a node and no record.
--     image_spelling      generation, version, length, state, and the closed gate of the first record
--     SpellsImage         the bytes are that, of the one spelling of the node's state
--     image_holds         with an open gate before it, the side holds the node
use Rattle.std.specs.Prelude.{◌≡◌, ◌≢◌, ℕ, List, [], ◌∷◌, ◌++◌, length}
use Rattle.std.proofs.Common.{refl, sym, ap, arith, length-append}
use Rattle.std.proofs.lemmas.List.{append-nil}
use Rattle.std.specs.Int.{to_be_bytes, w32, w64}
use Rattle.cc_node.specs.Node.{Node}
use Rattle.cc_node_state.specs.Layouts.{version_of, version_known}
use Rattle.cc_node_state.specs.Sides.{OPEN, SpellsHead, Holds}
use Rattle.cc_node_state.specs.States.{layout_of_node}

unfoldable pub head_spelling : ℕ → ℕ → List ℕ → List ℕ
head_spelling version generation state = to_be_bytes w64 generation ++ version ∷ (to_be_bytes w32 (length state) ++ state)

abbrev pub image_spelling : ℕ → ℕ → List ℕ → List ℕ
image_spelling version generation state = head_spelling version generation state ++ 0 ∷ []

pub record SpellsImage (bytes : List ℕ) (generation : ℕ) (node : Node) : Type 0 where
  pub head : List ℕ
  pub gate : ℕ
  pub parts : bytes ≡ head ++ gate ∷ []
  pub closed : gate ≢ OPEN
  pub spelled : SpellsHead (version_of (layout_of_node node)) (OPEN ∷ head) generation node

pub image_holds : (image : List ℕ) (generation : ℕ) (node : Node) → SpellsImage image generation node → Holds (OPEN ∷ image) generation node (length image)
image_holds image generation node spells = record {
  front = OPEN ∷ spells.head;
  gate = spells.gate;
  rest = [];
  parts = ap (λ (l : List ℕ). OPEN ∷ l) spells.parts;
  closed = spells.closed;
  at_place = omega (arith, ap length spells.parts, length-append spells.head (spells.gate ∷ []));
  is_front = record {
    start = node;
    batches = [];
    head = OPEN ∷ spells.head;
    records = [];
    version = version_of (layout_of_node node);
    known = version_known (layout_of_node node);
    parts = sym (append-nil (OPEN ∷ spells.head));
    head_spelled = spells.spelled;
    records_spelled = refl;
    lawful = tt;
    leads_to = refl;
  };
}
