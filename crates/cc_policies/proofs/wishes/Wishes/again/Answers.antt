use Rattle.std.proofs.Common.{arith}
use Rattle.cc_policies.proofs.WishLaws.{session_wished}
use Rattle.cc_policies.proofs.wishes.Wishes.again.Goals as goal

pub invariant_of-self : goal.invariant_of-self
invariant_of-self c =
    let told = rw c.deref.ensures.value at c.has_session.ensures in
    rw (c.push.ensures.items, c.unwrap.ensures) (session_wished _ _ _ _ _ _ _ c.self.invariant told c.if-not-has_session.true
    (omega (arith, c.len.ensures, c.if-len-lt-MAX_WAITING.true)) c.push.ensures.capacity)
