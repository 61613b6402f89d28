-- Each head that is written is one of the grammar.
use Rattle.std.proofs.Common.{◌≡◌, ℕ, ◌<◌, ◌^◌, List, [], ◌∷◌, ◌++◌, length, refl, Bool, true, false, All, decimal, codes, arith, lit<, lit≤}
use Rattle.std.specs.List.{list_all}
use Rattle.std.specs.Char.{is_ascii_digit}
use Rattle.std.proofs.lemmas.Fmt.{decimal_is_IsNumeral}
use Rattle.std.specs.Str.Parse.{AllDigits}
use Rattle.std.specs.Char.{digit_value, is_ascii_digit}
use Rattle.std.proofs.lemmas.Bool.{and_from}
use Rattle.std.proofs.lemmas.Bool.Decides.{nat_tests}
use Rattle.std.proofs.lemmas.List.Elements.{All-nil, All-cons, All-append}
use Rattle.std.proofs.lemmas.List.Sums.{AllPass-from_list_all}
use Rattle.httparse.specs.Ascii.{space}
use Rattle.httparse.specs.Grammar.{AllPass, is_token_byte, is_value_byte, Field, IsField, IsResponseHead}
use Rattle.cc_status.specs.declared.page.Page.{Page}
use Rattle.cc_status.specs.declared.page.Page.TheVariants.{Home, Status, View, Changes, Metrics, Health, Ready}
use Rattle.cc_status.specs.declared.answer.Outcome.{Outcome}
use Rattle.cc_status.specs.declared.answer.Outcome.TheVariants.{Served, NotReady}
use Rattle.cc_status.specs.declared.request.Wrong.{Wrong}
use Rattle.cc_status.specs.declared.request.Wrong.TheVariants.{Malformed, NoPage, Method, TooLong, Version}
use Rattle.cc_status.specs.Answers.{field, head, page_head, wrong_head, form_of, common_fields, policy_fields, allow_fields, length_fields, is_stream}

-- a digit is a byte of a value
digit_passes : (c : ℕ) → digit_value c < 10 → is_value_byte c ≡ true
digit_passes c small = grind (arith, nat_tests)

digits_pass : (text : List ℕ) → AllDigits 10 text → list_all is_value_byte text ≡ true
digits_pass [] all = refl
digits_pass (c ∷ cs) all = and_from _ _ (digit_passes c all.0) (digits_pass cs all.1)

number_passes : (size : ℕ) → size < 2 ^ 64 → AllPass is_value_byte (decimal size)
number_passes size fits =
    AllPass-from_list_all is_value_byte (decimal size) (digits_pass (decimal size) (decimal_is_IsNumeral size fits).0.1)

value : (bytes : List ℕ) → AllPass is_value_byte bytes → AllPass is_value_byte (space ∷ bytes)
value bytes all = All-cons (λ b. is_value_byte b ≡ true) space bytes refl all

plain : (name text : List ℕ) → 0 < length name → list_all is_token_byte name ≡ true → list_all is_value_byte text ≡ true
    → IsField (field name text)
plain name text some token passes = record {
  name = (some, AllPass-from_list_all is_token_byte name token);
  raw = value text (AllPass-from_list_all is_value_byte text passes);
}

one : (f : Field) → IsField f → All IsField (f ∷ [])
one f is = All-cons IsField f [] is (All-nil IsField)

common : All IsField common_fields
unfolding is_token_byte
common =
    let cache = field (codes "Cache-Control") (codes "no-store") in
    let connection = field (codes "Connection") (codes "close") in
    let sniff = field (codes "X-Content-Type-Options") (codes "nosniff") in
    All-cons IsField cache (connection ∷ (sniff ∷ [])) (plain (codes "Cache-Control") (codes "no-store") (lit< tt) refl refl)
    (All-cons IsField connection (sniff ∷ []) (plain (codes "Connection") (codes "close") (lit< tt) refl refl)
    (one sniff (plain (codes "X-Content-Type-Options") (codes "nosniff") (lit< tt) refl refl)))

policy : (page : Page) → All IsField (policy_fields page)
unfolding is_token_byte
policy Home = one _ (plain (codes "Content-Security-Policy") _ (lit< tt) refl refl)
policy Status = All-nil IsField
policy View = All-nil IsField
policy Changes = All-nil IsField
policy Metrics = All-nil IsField
policy Health = All-nil IsField
policy Ready = All-nil IsField

allow : (wrong : Wrong) → All IsField (allow_fields wrong)
unfolding is_token_byte
allow Malformed = All-nil IsField
allow NoPage = All-nil IsField
allow Method = one _ (plain (codes "Allow") (codes "GET, HEAD") (lit< tt) refl refl)
allow TooLong = All-nil IsField
allow Version = All-nil IsField

size_line : (is_stream : Bool) (size : ℕ) → size < 2 ^ 64 → All IsField (length_fields is_stream size)
unfolding is_token_byte
size_line true size fits = All-nil IsField
size_line false size fits = one (field (codes "Content-Length") (decimal size)) (record {
  name = (lit< tt, AllPass-from_list_all is_token_byte (codes "Content-Length") refl);
  raw = value (decimal size) (number_passes size fits);
})

form : (page : Page) → IsField (field (codes "Content-Type") (form_of page))
unfolding is_token_byte
form Home = plain (codes "Content-Type") _ (lit< tt) refl refl
form Status = plain (codes "Content-Type") _ (lit< tt) refl refl
form View = plain (codes "Content-Type") _ (lit< tt) refl refl
form Changes = plain (codes "Content-Type") _ (lit< tt) refl refl
form Metrics = plain (codes "Content-Type") _ (lit< tt) refl refl
form Health = plain (codes "Content-Type") _ (lit< tt) refl refl
form Ready = plain (codes "Content-Type") _ (lit< tt) refl refl

-- a head of three digits, a reason and fields
lawful : (digits reason : List ℕ) (first : Field) (other : List Field) (is_stream : Bool) (size : ℕ)
    → length digits ≡ 3 → list_all is_ascii_digit digits ≡ true → list_all is_value_byte reason ≡ true
    → IsField first → All IsField other → size < 2 ^ 64
    → IsResponseHead (head digits reason (first ∷ (common_fields ++ (other ++ length_fields is_stream size))))
lawful digits reason first other is_stream size three numeral passes is more fits = record {
  minor = lit≤ tt;
  digits = (three, AllPass-from_list_all is_ascii_digit digits numeral);
  reason = AllPass-from_list_all is_value_byte reason passes;
  fields = All-cons IsField first (common_fields ++ (other ++ length_fields is_stream size)) is
      (All-append IsField common_fields (other ++ length_fields is_stream size) common
      (All-append IsField other (length_fields is_stream size) more (size_line is_stream size fits)));
}

pub page_heads : (page : Page) (outcome : Outcome) (size : ℕ) → size < 2 ^ 64 → IsResponseHead (page_head page outcome size)
page_heads page Served size fits =
    lawful (codes "200") (codes "OK") _ (policy_fields page) (is_stream page) size refl refl refl (form page) (policy page) fits
page_heads page NotReady size fits =
    lawful (codes "503") (codes "Service Unavailable") _ (policy_fields page) (is_stream page) size refl refl refl (form page) (policy page) fits

pub wrong_heads : (wrong : Wrong) (size : ℕ) → size < 2 ^ 64 → IsResponseHead (wrong_head wrong size)
wrong_heads Malformed size fits = lawful (codes "400") (codes "Bad Request") _ (allow_fields Malformed) false size refl refl refl (form Health)
    (allow Malformed) fits
wrong_heads NoPage size fits = lawful (codes "404") (codes "Not Found") _ (allow_fields NoPage) false size refl refl refl (form Health) (allow NoPage) fits
wrong_heads Method size fits = lawful (codes "405") (codes "Method Not Allowed") _ (allow_fields Method) false size refl refl refl (form Health)
    (allow Method) fits
wrong_heads TooLong size fits = lawful (codes "431") (codes "Request Header Fields Too Large") _ (allow_fields TooLong) false size refl refl refl
    (form Health) (allow TooLong) fits
wrong_heads Version size fits = lawful (codes "505") (codes "HTTP Version Not Supported") _ (allow_fields Version) false size refl refl refl (form Health)
    (allow Version) fits
