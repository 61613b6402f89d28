use Rattle.std.proofs.Common.{sym, ◌∙◌}
use Rattle.cc_connections.proofs.FrameFormat.{frame_spelled}
use Rattle.cc_wire.proofs.Whole.{only_spelling}
use Rattle.cc_connections.proofs.frame.one_spelling_of_frames.Goals as goal

pub returns : goal.returns
returns c = record { one = only_spelling frame_spelled; same = λ a b x p q. p.spelled ∙ sym q.spelled }
