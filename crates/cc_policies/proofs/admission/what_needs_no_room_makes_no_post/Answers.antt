use Rattle.cc_policies.proofs.StirLaws.{no_post}
use Rattle.cc_policies.proofs.admission.what_needs_no_room_makes_no_post.Goals as goal

pub returns : goal.returns
returns c = no_post
