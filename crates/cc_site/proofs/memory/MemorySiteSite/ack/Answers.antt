use Rattle.cc_site.specs.Disks.{bytes_of}
use Rattle.cc_site.proofs.Recorded.{elapses_kept}
use Rattle.cc_site.proofs.memory.MemorySiteSite.ack.Goals as goal

pub returns-clause-time : goal.returns-clause-time
returns-clause-time c =
    let m = c.args.self.now in
    elapses_kept (bytes_of m.disk) m.disk.steps.items m.outputs.items c.keep.new.outputs.items m.told_fits c.keep.ensures.cases
