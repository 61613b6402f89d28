use Rattle.cc_connections.proofs.StreamLaws.{feeds_read, feeds_refuse, streams_read_one_way, streams_stay_refused}
use Rattle.cc_connections.proofs.frame_reader.feeds_any_cutting.Goals as goal

pub returns : goal.returns
returns c = record {
  read = feeds_read;
  refuse = feeds_refuse;
  one_way = streams_read_one_way;
  stay = streams_stay_refused;
}
