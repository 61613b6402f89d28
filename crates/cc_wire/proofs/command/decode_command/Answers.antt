use Rattle.std.proofs.Common.{arith, ◌∙◌}
use Rattle.cc_wire.specs.Commands.{command_at}
use Rattle.cc_wire.specs.Readers.{whole}
use Rattle.cc_wire.proofs.CommandFormat.{command_spelled}
use Rattle.cc_wire.proofs.Whole.{just_read, whole_found, whole_only}
use Rattle.cc_wire.proofs.command.decode_command.Goals as goal

pub returns-clause-found : goal.returns-clause-found
returns-clause-found c = whole_found command_spelled c.args.bytes.now c.decode_all.result (λ i. omega (arith, c.type_inv.bytes i)) c.decode_all.ensures.exact

pub returns-clause-only : goal.returns-clause-only
returns-clause-only c = λ x spelled. just_read c.decode_all.result (whole command_at c.args.bytes.now) c.decode_all.ensures.free
    c.decode_all.ensures.exact ∙ whole_only command_spelled c.args.bytes.now x spelled

pub returns-clause-exact : goal.returns-clause-exact
returns-clause-exact c = just_read c.decode_all.result (whole command_at c.args.bytes.now) c.decode_all.ensures.free c.decode_all.ensures.exact
