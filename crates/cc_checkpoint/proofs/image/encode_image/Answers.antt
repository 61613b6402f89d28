use Rattle.std.proofs.Common.{◌<◌, ◌^◌, List, ℕ, length, arith}
use Rattle.cc_node.specs.Node.{Node}
use Rattle.cc_node_state.specs.States.{SpellsNode, layout_of_node}
use Rattle.cc_node_state.proofs.StateLengths.{length-node}
use Rattle.cc_checkpoint.proofs.Imaged.{image_spelled}
use Rattle.cc_checkpoint.proofs.image.encode_image.Goals as goal

short : (n : Node) (bytes : List ℕ) → SpellsNode (layout_of_node n) bytes n → length bytes < 2 ^ 32
short n bytes spelled = omega (arith, length-node (layout_of_node n) bytes n spelled)

pub put_image-requires-clause-short : goal.put_image-requires-clause-short
put_image-requires-clause-short c =
    rw (c.deref.ensures.value, c.in_ok-encode_state.ensures.ok, c.new-state.ensures.items) (short _ _ c.in_ok-encode_state.ensures.spelled)

pub returns : goal.returns
returns c =
    let spelled = c.in_ok-encode_state.ensures.spelled in
    rw (c.in_ok-put_image.ensures, c.deref.ensures.value, c.in_ok-encode_state.ensures.ok, c.new-state.ensures.items)
    (image_spelled _ _ _ _ c.version_for.ensures c.requires (omega (arith, c.ranges.generation)) spelled (short _ _ spelled))
