use Rattle.std.proofs.Common.{◌≡◌, ◌++◌, length}
use Rattle.std.specs.Vec.Iter.{into_iter_items, into_iter_len}
use Rattle.cc_flush.specs.Lives.{HaveDone, AreTurnsLawful}
use Rattle.cc_flush.proofs.LifeSteps.{Done}
use Rattle.cc_flush.proofs.flusher.Flusher.run_life.Given as goal

abbrev pub invariant-loop-action : goal.invariant-loop-action
invariant-loop-action g l = record {
  parts : l.fn.actions.items ≡ l.yielded ++ into_iter_items l.action-iterator;
  count : into_iter_len l.action-iterator ≡ length (into_iter_items l.action-iterator);
  lawful : AreTurnsLawful l.self.twin (into_iter_items l.action-iterator);
  run : Done g.S.Site l.yielded l.fn.self l.self;
  each : HaveDone g.S.Site l.yielded l.fn.self l.self;
  same_opened : l.self.opened ≡ l.fn.self.opened;
}
