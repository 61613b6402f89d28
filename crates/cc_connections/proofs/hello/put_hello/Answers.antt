use Rattle.std.proofs.Common.{Result, Ok, Err}
use Rattle.std.specs.Prelude.{OnOk}
use Rattle.std.specs.declared.alloc.AllocError.{AllocError}
use Rattle.cc_wire.proofs.Writes.{writes_then}
use Rattle.cc_connections.proofs.hello.put_hello.Goals as goal

pub returns-clause-writes : goal.returns-clause-writes
returns-clause-writes c =
    let marks = writes_then c.put_nodes.new.out c.put_quorums.new.out c.put_marks.new.out _ _ c.put_marks.result c.in_ok-put_quorums.ensures.writes
    c.put_marks.ensures.writes in
    let nodes = writes_then c.put_cluster.new.out c.put_nodes.new.out c.put_marks.new.out _ _ c.put_marks.result c.in_ok-put_nodes.ensures.writes marks in
    writes_then c.args.out.now c.put_cluster.new.out c.put_marks.new.out _ _ c.put_marks.result c.in_ok-put_cluster.ensures.writes nodes

-- what holds whatever came of a write
always : {P : Type 0} (r : Result (Unit {0}) AllocError) → P → OnOk r P
always (Ok u) p = p
always (Err e) p = tt

pub returns-clause-fits : goal.returns-clause-fits
returns-clause-fits c = always c.put_marks.result (record {
  cluster = c.in_ok-put_cluster.ensures.fits;
  sender = c.in_ok-put_nodes.ensures.sender;
  receiver = c.in_ok-put_nodes.ensures.receiver;
  beta = c.in_ok-put_quorums.ensures.beta;
  gamma = c.in_ok-put_quorums.ensures.gamma;
  birth = c.put_marks.ensures.birth;
  run = c.put_marks.ensures.run;
  heard = c.put_marks.ensures.heard;
})
