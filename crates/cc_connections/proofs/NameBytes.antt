-- The bytes of a name, which are ASCII.
use Rattle.std.proofs.Common.{ℕ, ◌<◌, List, IsTrue, IsUtf8, refl, arith}
use Rattle.std.proofs.lemmas.Bool.Decides.{nat_tests, Decides-by_and}
use Rattle.std.proofs.lemmas.List.Elements.{All-weaker}
use Rattle.std.proofs.lemmas.Str.{IsUtf8-from_ascii}
use Rattle.std.proofs.lemmas.Str.Ascii.{IsAscii-from_all}
use Rattle.std.specs.List.{list_all}
use Rattle.cc_connections.specs.Hosts.{is_name_byte, IsHostName}

low : (b : ℕ) → IsTrue (is_name_byte b) → b < 128
low b h = grind (arith, nat_tests)

pub name_is_text : (name : List ℕ) → IsHostName name → IsUtf8 name
name_is_text name is =
    let bytes = (Decides-by_and is_name_byte (λ b. IsTrue (is_name_byte b)) (list_all is_name_byte) (λ b. (λ h. h, λ h. h)) refl (λ _ _. refl) name).0 is.bytes in
    IsUtf8-from_ascii name (IsAscii-from_all name (All-weaker (λ b. IsTrue (is_name_byte b)) (λ b. b < 128) low name bytes))
