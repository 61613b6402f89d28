use Rattle.std.proofs.Common.{◌≤◌, length, sym, rules}
use Rattle.cc_connections.proofs.ClusterNames.{is_name}
use Rattle.cc_connections.proofs.clusters.ClusterName.new.Goals as goal

pub invariant_of-result : goal.invariant_of-result
invariant_of-result c =
    let fits : length c.args.bytes.now ≤ 64 = search rules in
    rw c.in-Some.ensures.text (is_name c.args.bytes.now fits (sym c.in-None.ensures))
