-- A number is a share or none.
--     is_share, share_is     one that isn't none is a share, and the other way round
use Rattle.std.specs.Prelude.{◌≡◌, ℕ, false}
use Rattle.std.proofs.lemmas.Bool.{ltb-false, le-ltb, or_parts, or_from}
use Rattle.cc_messages.specs.Shares.{IsAskShare, is_no_share}

pub is_share : (n : ℕ) → is_no_share n ≡ false → IsAskShare n
is_share n e = let t = or_parts _ _ e in record { some = ltb-false _ _ t.0; most = ltb-false _ _ t.1 }

pub share_is : (n : ℕ) → IsAskShare n → is_no_share n ≡ false
share_is n is = or_from _ _ (le-ltb _ _ is.some) (le-ltb _ _ is.most)
