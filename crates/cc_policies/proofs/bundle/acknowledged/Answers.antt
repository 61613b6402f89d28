use Rattle.std.proofs.Common.{◌++◌, ap, ◌∙◌}
use Rattle.cc_connections.specs.declared.frame.Frame.{Frame}
use Rattle.cc_connections.specs.Frames.{frame_spelling}
use Rattle.cc_policies.proofs.bundle.acknowledged.Goals as goal

pub returns-in-Ok : goal.returns-in-Ok
returns-in-Ok c = c.in-Ok.ensures.ok ∙ ap (λ (f : Frame). c.args.bytes.items ++ frame_spelling f) (c.ack_frame-ack.ensures 0)
