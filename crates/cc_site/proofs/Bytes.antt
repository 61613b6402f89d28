-- Bytes put together of others are bytes: `take_bytes`, and `written_bytes` after a write.
use Rattle.std.proofs.Common.{ℕ, zero, suc, ◌+◌, List, [], ◌∷◌, ◌++◌, length, take, drop, arith}
use Rattle.cc_site.specs.Sides.{overwritten}
use Rattle.cc_site.specs.Record.{AreBytes}

append_bytes : (xs ys : List ℕ) → AreBytes xs → AreBytes ys → AreBytes (xs ++ ys)
append_bytes [] ys first second place = second place
append_bytes (x ∷ xs) ys first second zero = first 0
append_bytes (x ∷ xs) ys first second (suc place) = append_bytes xs ys (λ p. first (suc p)) second place

pub take_bytes : (n : ℕ) (xs : List ℕ) → AreBytes xs → AreBytes (take n xs)
take_bytes zero xs bytes place = omega arith
take_bytes (suc n) [] bytes place = omega arith
take_bytes (suc n) (x ∷ xs) bytes zero = bytes 0
take_bytes (suc n) (x ∷ xs) bytes (suc place) = take_bytes n xs (λ p. bytes (suc p)) place

drop_bytes : (n : ℕ) (xs : List ℕ) → AreBytes xs → AreBytes (drop n xs)
drop_bytes zero xs bytes place = bytes place
drop_bytes (suc n) [] bytes place = omega arith
drop_bytes (suc n) (x ∷ xs) bytes place = drop_bytes n xs (λ p. bytes (suc p)) place

pub written_bytes : (old new : List ℕ) (place : ℕ) → AreBytes old → AreBytes new → AreBytes (overwritten old place new)
written_bytes old new place are are_new = append_bytes (take place old ++ new) (drop (place + length new) old)
    (append_bytes (take place old) new (take_bytes place old are) are_new) (drop_bytes (place + length new) old are)
