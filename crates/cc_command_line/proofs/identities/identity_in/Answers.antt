use Rattle.cc_command_line.proofs.IdentityLines.{no_cluster, bad_name, identity_of, fault_of}
use Rattle.cc_command_line.proofs.identities.identity_in.Goals as goal

pub returns-in_default : goal.returns-in_default
returns-in_default c = no_cluster c.args.text.now c.in_default.ensures

pub returns-in_default-cluster_name : goal.returns-in_default-cluster_name
returns-in_default-cluster_name c = bad_name c.args.text.now _ _ c.in-Some.ensures c.in_default-cluster_name.ensures

pub returns-in-Ok : goal.returns-in-Ok
returns-in-Ok c =
    identity_of c.args.text.now _ _ c.in-Some-cluster_name.cluster c.in-Ok.birth c.in-Some.ensures c.in-Some-cluster_name.ensures.0
    c.in-Some-cluster_name.ensures.1 c.in-Ok.ensures

pub returns-in-Err : goal.returns-in-Err
returns-in-Err c = fault_of c.args.text.now _ _ c.in-Err.fault c.in-Some.ensures c.in-Some-cluster_name.ensures.1 c.in-Err.ensures
