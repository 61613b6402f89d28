use Rattle.cc_site.specs.Moments.{Nothing}
use Rattle.cc_site.specs.Disks.{bytes_of}
use Rattle.cc_site.specs.RecordLaws.{elapses_same}
use Rattle.cc_site.proofs.memory.MemorySiteSite.length.Goals as goal

pub returns-in_err-count-clause-time : goal.returns-in_err-count-clause-time
returns-in_err-count-clause-time c = elapses_same (bytes_of c.args.self.now.disk) c.args.self.now.disk.steps.items c.args.self.now.outputs.items Nothing

pub returns-clause-time : goal.returns-clause-time
returns-clause-time c = elapses_same (bytes_of c.args.self.now.disk) c.args.self.now.disk.steps.items c.args.self.now.outputs.items Nothing
