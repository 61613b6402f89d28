-- What a text is shown as.
--     plain_utf8, base64_utf8       as it stands where it is UTF-8
--     plain_other, base64_other     and else in base64
use Rattle.std.proofs.Common.{◌≡◌, ℕ, List, Some, None, false, cond, ap}
use Rattle.std.specs.Str.{IsUtf8, is_utf8}
use Rattle.std.proofs.lemmas.Bool.{false_from_ne_true}
use Rattle.std.proofs.lemmas.Str.{IsUtf8-from_is_utf8, is_utf8-from_IsUtf8}
use Rattle.base64.specs.Engines.{standard}
use Rattle.base64.specs.GeneralPurpose.{encode_of}
use Rattle.cc_status.specs.Texts.{plain_of, base64_of}

other : (bytes : List ℕ) → ¬ (IsUtf8 bytes) → is_utf8 bytes ≡ false
other bytes never = false_from_ne_true (is_utf8 bytes) (λ is. never (IsUtf8-from_is_utf8 bytes is))

pub plain_utf8 : (bytes : List ℕ) → IsUtf8 bytes → plain_of bytes ≡ Some bytes
plain_utf8 bytes is = ap (λ b. cond b (Some bytes) None) (is_utf8-from_IsUtf8 bytes is)

pub base64_utf8 : (bytes : List ℕ) → IsUtf8 bytes → base64_of bytes ≡ None
base64_utf8 bytes is = ap (λ b. cond b None (Some (encode_of standard bytes))) (is_utf8-from_IsUtf8 bytes is)

pub plain_other : (bytes : List ℕ) → ¬ (IsUtf8 bytes) → plain_of bytes ≡ None
plain_other bytes never = ap (λ b. cond b (Some bytes) None) (other bytes never)

pub base64_other : (bytes : List ℕ) → ¬ (IsUtf8 bytes) → base64_of bytes ≡ Some (encode_of standard bytes)
base64_other bytes never = ap (λ b. cond b None (Some (encode_of standard bytes))) (other bytes never)
