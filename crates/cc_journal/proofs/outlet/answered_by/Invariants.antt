use Rattle.std.proofs.Common.{◌≡◌, map, take}
use Rattle.arrayvec.specs.ArrayVec.{array_vec_len}
use Rattle.cc_journal.specs.Outlet.{request_of}
use Rattle.cc_journal.proofs.outlet.answered_by.Given as goal

abbrev pub invariant-loop-reply : goal.invariant-loop-reply
invariant-loop-reply l =
    record { len : array_vec_len l.answered ≡ l.reply-index; items : l.answered.items ≡ map request_of (take l.reply-index l.made.answers) }
