use Rattle.std.proofs.Common.{arith}
use Rattle.cc_node_state.specs.Fields.{state_in}
use Rattle.cc_node_state.proofs.Decoded.{decodes}
use Rattle.cc_node_state.proofs.state.decode_all.Goals as goal

pub returns : goal.returns
returns c =
    rw c.ok_or.ensures.value
    (decodes c.args.layout c.args.bytes.now (state_in c.in_ok-fields.fields) c.in_ok-node.node (λ i. omega (arith, c.type_inv.bytes i))
    c.in_ok-fields.ensures.exact c.in_ok-node.ensures.lawful c.in_ok-node.ensures.node)
