-- What makes no post and no answer.
--     no_post          a message that can't stir the node
use Rattle.std.proofs.Common.{◌≡◌, ℕ, false, [], None, refl}
use Rattle.cc_messages.specs.declared.event.Event.TheVariants as event
use Rattle.cc_messages.specs.declared.message.Message.{Message}
use Rattle.cc_messages.specs.declared.message.Message.TheVariants as message
use Rattle.cc_node.specs.Core as machine
use Rattle.cc_node.specs.Core.{Core}
use Rattle.cc_policies.specs.Admission.{may_stir}

pub no_post : (c : Core) (from n : ℕ) (m : Message) → may_stir c.me m ≡ false
    → machine.made c (event.Deliver from n m) ≡ record { ack = machine.ack (event.Deliver from n m); post = None; answers = [] }
no_post c from n (message.JoinEcho q) h = refl
no_post c from n (message.LeaveEcho q) h = refl
no_post c from n (message.QueryReply v tag q) h = rw h refl
no_post c from n (message.StoreAck tag q) h = rw h refl
no_post c from n m h = cc
