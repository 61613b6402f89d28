use Rattle.cc_journal.proofs.ScanLaws.{found_once, stopped_once, either_one, neither_one}
use Rattle.cc_journal.proofs.laws.scans_once.Goals as goal

pub returns : goal.returns
returns c = record { found = found_once; stopped = stopped_once; either = either_one; neither = neither_one }
