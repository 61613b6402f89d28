use Rattle.cc_command_line.proofs.AddressWords.{no_equals, not_id, not_address, is_peer}
use Rattle.cc_command_line.proofs.addresses.peer_in.Goals as goal

pub returns-in_err-id : goal.returns-in_err-id
returns-in_err-id c = rw c.from_residual.ensures (no_equals c.args.word.now c.split_once.result c.split_once.ensures.cases c.in_err-id.was)

pub returns-in_err-node_id : goal.returns-in_err-node_id
returns-in_err-node_id c = rw c.from_residual-in_err-node_id.ensures (not_id c.args.word.now c.split_once.result c.in_ok-id.id c.in_ok-id.address_word
    c.split_once.ensures.cases c.in_ok-id.was c.in_err-node_id.ensures)

pub returns-in_err-address : goal.returns-in_err-address
returns-in_err-address c = rw c.from_residual-in_err-address.ensures (not_address c.args.word.now c.split_once.result c.in_ok-id.id
    c.in_ok-id.address_word c.split_once.ensures.cases c.in_ok-id.was c.in_err-address.ensures)

pub returns : goal.returns
returns c = is_peer c.args.word.now c.split_once.result c.in_ok-id.id c.in_ok-id.address_word _ c.split_once.ensures.cases c.in_ok-id.was
    c.in_ok-node_id.ensures c.in_ok-address.ensures
