use Rattle.std.proofs.Common.{◌≤◌, length, sym, rules}
use Rattle.cc_command_line.proofs.IdentityLines.{named, never_named}
use Rattle.cc_command_line.proofs.identities.cluster_name.Goals as goal

pub returns-in-Ok : goal.returns-in-Ok
returns-in-Ok c =
    let some : 1 ≤ length c.args.word.now = search rules in
    named c.args.word.now c.in-Ok.name some (sym (rw c.as_bytes.ensures.value at c.in-Ok.ensures))

pub returns-in-Err : goal.returns-in-Err
returns-in-Err c = never_named c.args.word.now _ (sym (rw c.as_bytes.ensures.value at c.in-Err.ensures))
