-- Under which name a text stands, and which type a value names.
use Rattle.std.proofs.Common.{◌≡◌, ℕ, Bool, List, ◌++◌, cond, ap, ◌∙◌, codes, map}
use Rattle.std.specs.Prelude.{Decides, bytes_eq}
use Rattle.std.specs.Char.{to_ascii_lowercase}
use Rattle.std.specs.List.{before_first}
use Rattle.std.specs.Str.{IsUtf8, is_utf8}
use Rattle.std.proofs.Common.{nat_eq}
use Rattle.std.proofs.lemmas.Bool.{false_from_ne_true}
use Rattle.std.proofs.lemmas.Bool.Decides.{same_from_decides}
use Rattle.std.proofs.lemmas.Slice.Eq.{bytes_eq-Decides}
use Rattle.std.proofs.lemmas.Str.{IsUtf8-from_is_utf8, is_utf8-from_IsUtf8}
use Rattle.cc_web.specs.Bodies.{essence}
use Rattle.cc_web.specs.Json.{string_json, base64_json, text_json}

pub text_utf8 : (text : List ℕ) → IsUtf8 text → text_json text ≡ codes "\"text\":" ++ string_json text
unfolding text_json
text_utf8 text is = ap (λ b. cond b (codes "\"text\":" ++ string_json text) (base64_json text)) (is_utf8-from_IsUtf8 text is)

pub text_other : (text : List ℕ) → ¬ (IsUtf8 text) → text_json text ≡ base64_json text
unfolding text_json
text_other text never = ap (λ b. cond b (codes "\"text\":" ++ string_json text) (base64_json text))
    (false_from_ne_true (is_utf8 text) (λ is. never (IsUtf8-from_is_utf8 text is)))

pub named_type : (value front word name : List ℕ) (r : Bool) → front ≡ before_first (λ b. nat_eq b 59) value → word ≡ before_first (λ b. nat_eq b 32) front
    → Decides r (map to_ascii_lowercase word ≡ map to_ascii_lowercase name) → map to_ascii_lowercase name ≡ name → r ≡ bytes_eq (essence value) name
unfolding essence
named_type value front word name r cut taken named small =
    same_from_decides r (bytes_eq (map to_ascii_lowercase word) (map to_ascii_lowercase name)) named
    (bytes_eq-Decides (map to_ascii_lowercase word) (map to_ascii_lowercase name))
    ∙ ap (λ (ys : List ℕ). bytes_eq (map to_ascii_lowercase word) ys) small
    ∙ ap (λ (ys : List ℕ). bytes_eq (map to_ascii_lowercase ys) name) taken
    ∙ ap (λ (ys : List ℕ). bytes_eq (map to_ascii_lowercase (before_first (λ b. nat_eq b 32) ys)) name) cut
