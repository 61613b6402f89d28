use Rattle.std.proofs.Common.{◌∙◌, sym}
use Rattle.cc_connections.proofs.Feeds.{held_ok}
use Rattle.cc_connections.proofs.frame_reader.take_in.Goals as goal

pub returns-else-is_err-clause-held : goal.returns-else-is_err-clause-held
returns-else-is_err-clause-held c = record {
  partial = held_ok c.args.held.now.items c.args.piece.now c.next_frame-outcome.new.held.items c.next_frame-outcome.result
      (sym c.is_err.ensures.value ∙ c.if-is_err.false) c.next_frame-outcome.ensures.exact c.next_frame-outcome.ensures.rest;
  room = c.next_frame-outcome.ensures.room;
}
