use Rattle.std.proofs.Common.{arith}
use Rattle.cc_policies.proofs.WishLaws.{peer_wished}
use Rattle.cc_policies.proofs.wishes.Wishes.reack.Goals as goal

pub invariant_of-self : goal.invariant_of-self
invariant_of-self c =
    let told = rw c.deref.ensures.value at c.has_peer.ensures in
    rw (c.push.ensures.items, c.unwrap.ensures) (peer_wished _ _ _ _ _ _ _ c.self.invariant told c.if-not-has_peer.true
    (omega (arith, c.len.ensures, c.if-len-lt-MAX_WAITING.true)) c.push.ensures.capacity)
