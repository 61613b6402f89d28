-- Texts of which the same is told are the same.
--     base64_apart, told_apart      of those in base64; of all
use Rattle.std.proofs.Common.{◌≡◌, ◌∙◌, ℕ, List, [], Bool, true, false, Some, None, cond, ap, sym, refl}
use Rattle.std.specs.Prelude.{Result, Ok, Err}
use Rattle.std.specs.Str.{is_utf8}
use Rattle.std.proofs.lemmas.Option.{none-some, same_Some}
use Rattle.base64.specs.Engines.{standard}
use Rattle.base64.specs.GeneralPurpose.{IsBytes, decode_of, encode_of}
use Rattle.base64.specs.declared.decode.DecodeError.{DecodeError}
use Rattle.base64.proofs.EngineFacts.{decode_of-encode_of}
use Rattle.cc_status.specs.ShownNodes.{text_told}

abbrev bytes_in : Result (List ℕ) DecodeError → List ℕ
bytes_in (Ok b) = b
bytes_in (Err e) = []

decoded : (b : List ℕ) → IsBytes b → bytes_in (decode_of standard (encode_of standard b)) ≡ b
decoded b is = ap bytes_in (decode_of-encode_of standard b refl is)

base64_apart : (a b : List ℕ) → IsBytes a → IsBytes b → encode_of standard a ≡ encode_of standard b → a ≡ b
base64_apart a b a-is b-is same =
    sym (decoded a a-is) ∙ ap (λ t. bytes_in (decode_of standard t)) same ∙ decoded b b-is

apart : (p q : Bool) (a b : List ℕ) → IsBytes a → IsBytes b
    → cond p (Some a) None ≡ cond q (Some b) None
    → cond p None (Some (encode_of standard a)) ≡ cond q None (Some (encode_of standard b)) → a ≡ b
apart true true a b a-is b-is plain coded = same_Some a b plain
apart true false a b a-is b-is plain coded = absurd (none-some a (sym plain))
apart false true a b a-is b-is plain coded = absurd (none-some b plain)
apart false false a b a-is b-is plain coded = base64_apart a b a-is b-is (same_Some _ _ coded)

pub told_apart : (a b : List ℕ) → IsBytes a → IsBytes b → text_told a ≡ text_told b → a ≡ b
told_apart a b a-is b-is same = apart (is_utf8 a) (is_utf8 b) a b a-is b-is (ap (λ p. p.0) same) (ap (λ p. p.1) same)
