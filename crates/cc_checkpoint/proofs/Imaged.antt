-- An image: how it is spelled, how long it is, and of what parts.
use Rattle.std.proofs.Common.{◌≡◌, ◌+◌, ◌<◌, ◌≤◌, ◌^◌, List, ℕ, [], ◌∷◌, ◌++◌, length, take, get_or, refl, sym, ap, subst, ◌∙◌}
use Rattle.std.proofs.Common.{append_assoc, length-append, arith}
use Rattle.std.specs.Int.{w32, w64, to_be_bytes}
use Rattle.cc_site.specs.Sides.{SideState, overwritten, written, settled, durable}
use Rattle.cc_site.specs.Gates.{IsShut}
use Rattle.cc_node.specs.Node.{Node}
use Rattle.cc_node_state.specs.declared.layout.Layout.{Layout}
use Rattle.cc_node_state.specs.Layouts.{version_of, layout_back}
use Rattle.cc_node_state.specs.Sides.{OPEN}
use Rattle.cc_node_state.specs.States.{SpellsNode, layout_of_node, node_spelling}
use Rattle.cc_checkpoint.specs.Images.{SpellsImage, head_spelling, image_spelling}
use Rattle.cc_checkpoint.specs.Checkpoints.{image_of, IsFilled}
use Rattle.cc_node_state.proofs.StateLengths.{length-node}
use Rattle.cc_checkpoint.proofs.BehindRuns.{at_end}

pub image_spelled : (version generation : ℕ) (state : List ℕ) (node : Node)
    → version ≡ version_of (layout_of_node node) → 1 ≤ generation → generation < 2 ^ 64
    → SpellsNode (layout_of_node node) state node → length state < 2 ^ 32
    → SpellsImage (image_spelling version generation state) generation node
unfolding head_spelling
image_spelled version generation state node is from_one fits spelled short = record {
  head = head_spelling version generation state;
  gate = 0;
  parts = refl;
  closed = λ is. absurd cc;
  spelled = record {
    state = state;
    parts = ap (λ (v : ℕ). OPEN ∷ head_spelling v generation state) is;
    from_one = from_one;
    fits = fits;
    short = short;
    spelled = subst (λ (l : Layout). SpellsNode l state node) (sym (layout_back (layout_of_node node))) spelled;
  };
}

-- how long an image is
pub length-image : (version generation : ℕ) (state : List ℕ) → length (image_spelling version generation state) ≡ 14 + length state
unfolding head_spelling
length-image version generation state =
    omega (arith, length-append (head_spelling version generation state) (0 ∷ []), length-append (to_be_bytes w32 (length state)) state)

-- written piece by piece: what stands before it, its head, the state, and the closed gate
pub image_parts : (first : List ℕ) (version generation size : ℕ) (state : List ℕ) → size ≡ length state
    → first ++ (to_be_bytes w64 generation ++ version ∷ to_be_bytes w32 size) ++ state ++ 0 ∷ [] ≡ first ++ image_spelling version generation state
unfolding head_spelling
image_parts first version generation size state is =
    let head = to_be_bytes w64 generation ++ version ∷ to_be_bytes w32 size in
    append_assoc (first ++ head) state (0 ∷ [])
    ∙ append_assoc first head (state ++ 0 ∷ [])
    ∙ ap (λ (l : List ℕ). first ++ l) (append_assoc (to_be_bytes w64 generation) (version ∷ to_be_bytes w32 size) (state ++ 0 ∷ []))
    ∙ ap (λ (n : ℕ). first ++ (to_be_bytes w64 generation ++ version ∷ (to_be_bytes w32 n ++ (state ++ 0 ∷ [])))) is
    ∙ ap (λ (l : List ℕ). first ++ l)
    (ap (λ (l : List ℕ). to_be_bytes w64 generation ++ version ∷ l) (sym (append_assoc (to_be_bytes w32 (length state)) state (0 ∷ [])))
    ∙ sym (append_assoc (to_be_bytes w64 generation) (version ∷ (to_be_bytes w32 (length state) ++ state)) (0 ∷ [])))

-- ---- the steps that lay an image out

pub image_laid : (old first second new : SideState) (front : List ℕ) (version generation size end : ℕ) (node : Node)
    → size ≡ length (node_spelling node) → version ≡ version_of (layout_of_node node)
    → front ≡ to_be_bytes w64 generation ++ version ∷ to_be_bytes w32 size → first.bytes ≡ take 1 old.bytes ++ front
    → second.bytes ≡ first.bytes ++ node_spelling node → end ≡ length second.bytes
    → new ≡ settled (written second end (0 ∷ [])) → new ≡ durable (take 1 old.bytes ++ image_of generation node)
image_laid old first second new front version generation size end node size_is is front_is begun written_all end_is wrote =
    let state = node_spelling node in
    let all : overwritten second.bytes end (0 ∷ []) ≡ take 1 old.bytes ++ image_of generation node =
    at_end second.bytes (0 ∷ []) end (sym end_is)
    ∙ ap (λ (l : List ℕ). l ++ 0 ∷ []) (written_all ∙ ap (λ (l : List ℕ). l ++ state) (begun ∙ ap (λ (l : List ℕ). take 1 old.bytes ++ l) front_is))
    ∙ image_parts (take 1 old.bytes) version generation size state size_is
    ∙ ap (λ (v : ℕ). take 1 old.bytes ++ image_spelling v generation state) is in
    wrote ∙ ap durable all

-- a side's first byte
pub first_byte : (bytes : List ℕ) → 1 ≤ length bytes → take 1 bytes ≡ get_or bytes 0 0 ∷ []
first_byte [] there = absurd (omega (arith, there))
first_byte (b ∷ bytes) there = refl

pub filled_by : (old new : SideState) (generation : ℕ) (node : Node)
    → 1 ≤ length old.bytes → IsShut old.bytes → 1 ≤ generation → generation < 2 ^ 64 → SpellsNode (layout_of_node node) (node_spelling node) node
    → new ≡ durable (take 1 old.bytes ++ image_of generation node) → IsFilled new generation node
filled_by old new generation node there shut from_one fits spelled is = record {
  gate = get_or old.bytes 0 0;
  closed = shut;
  is = is ∙ ap (λ (l : List ℕ). durable (l ++ image_of generation node)) (first_byte old.bytes there);
  spelled = image_spelled (version_of (layout_of_node node)) generation (node_spelling node) node refl from_one fits spelled
      (omega (arith, length-node (layout_of_node node) (node_spelling node) node spelled));
}
