use Rattle.std.proofs.Common.{rules}
use Rattle.cc_command_line.proofs.AddressWords.{no_colon, not_host, not_port, is_address}
use Rattle.cc_command_line.proofs.addresses.address.Goals as goal

pub returns-in_err-host : goal.returns-in_err-host
returns-in_err-host c = rw c.from_residual.ensures (no_colon c.args.word.now c.rsplit_once.result c.rsplit_once.ensures.cases c.in_err-host.was)

pub returns-in_err-host_in : goal.returns-in_err-host_in
returns-in_err-host_in c = rw c.from_residual-in_err-host_in.ensures (not_host c.args.word.now c.rsplit_once.result c.in_ok-host.host c.in_ok-host.port
    c.rsplit_once.ensures.cases c.in_ok-host.was c.in_err-host_in.ensures)

pub returns-in_err-port_number : goal.returns-in_err-port_number
returns-in_err-port_number c = rw c.from_residual-in_err-port_number.ensures (not_port c.args.word.now c.rsplit_once.result c.in_ok-host.host
    c.in_ok-host.port c.rsplit_once.ensures.cases c.in_ok-host.was c.in_err-port_number.ensures)

pub returns : goal.returns
returns c = is_address c.args.word.now c.rsplit_once.result c.in_ok-host.host c.in_ok-host.port _ c.rsplit_once.ensures.cases c.in_ok-host.was
    c.in_ok-host_in.ensures c.in_ok-port_number.ensures (search rules)
