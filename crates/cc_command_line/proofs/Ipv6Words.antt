-- The characters of IPv6 addresses.
--     six_avoids     an IPv6 address has hexadecimal digits, colons and dots alone
use Rattle.std.proofs.Common.{◌≡◌, inl, inr, ℕ, ◌<◌, List, [], ◌∷◌, ◌++◌, Bool, true, false, sym, subst, codes, eqb}
use Rattle.std.specs.Int.{IsInRange}
use Rattle.std.specs.Char.{digit_value}
use Rattle.std.specs.Str.Parse.{AllDigits}
use Rattle.std.specs.Net.Addr.{ipv6_segments}
use Rattle.std.specs.Net.Grammar.{IsGroupsAfter, IsIpv6Text}
use Rattle.std.specs.declared.net.ipv6_addr.Ipv6Addr.{Ipv6Addr}
use Rattle.std.proofs.lemmas.Bool.{ne_eqb}
use Rattle.std.proofs.lemmas.List.Elements.{All-cons, All-nil}
use Rattle.cc_command_line.proofs.AddressWords.{Avoids, one, joined, dotted_avoids}

-- what is no character of an address
pub record IsOther (k : ℕ) : Type 0 where
  pub no_digit : ¬ (IsInRange 48 57 k)
  pub no_hex : ¬ (digit_value k < 16)
  pub no_dot : eqb 46 k ≡ false
  pub no_colon : eqb 58 k ≡ false

hex_avoids : (k : ℕ) → IsOther k → (cs : List ℕ) → AllDigits 16 cs → Avoids k cs
hex_avoids k other [] all = All-nil (λ b. eqb b k ≡ false)
hex_avoids k other (c ∷ cs) all = All-cons (λ b. eqb b k ≡ false) c cs
    (ne_eqb c k (λ same. other.no_hex (subst (λ (n : ℕ). digit_value n < 16) same all.0))) (hex_avoids k other cs all.1)

groups_avoid : (k : ℕ) → IsOther k → (ipv4 : Bool) (lead : List ℕ) → Avoids k lead → (segments text : List ℕ) → IsGroupsAfter ipv4 lead text segments
    → Avoids k text
groups_avoid k other ipv4 lead leads [] text is = subst (Avoids k) (sym is) (All-nil (λ b. eqb b k ≡ false))
groups_avoid k other ipv4 lead leads (s ∷ segments) text (inl is) =
    subst (Avoids k) (sym is.2) (
    joined k (lead ++ is.0) is.1 (joined k lead is.0 leads (hex_avoids k other is.0 is.3.0.0.1))
    (groups_avoid k other ipv4 (codes ":") (one k 58 other.no_colon) segments is.1 is.4)
    )
groups_avoid k other ipv4 lead leads (s ∷ segments) text (inr is) =
    subst (Avoids k) (sym is.3) (joined k lead is.0 leads (dotted_avoids k is.0 is.1 other.no_digit other.no_dot is.4))

pub six_avoids : (k : ℕ) → IsOther k → (text : List ℕ) (a : Ipv6Addr) → IsIpv6Text text a → Avoids k text
six_avoids k other text a (inl is) = groups_avoid k other true [] (All-nil (λ b. eqb b k ≡ false)) (ipv6_segments a) text is.0
six_avoids k other text a (inr is) =
    subst (Avoids k) (sym is.spelled) (
    joined k (is.head_text ++ codes "::") is.tail_text (
    joined k is.head_text (codes "::") (groups_avoid k other false [] (All-nil (λ b. eqb b k ≡ false)) is.head is.head_text is.head_groups)
    (All-cons (λ b. eqb b k ≡ false) 58 (58 ∷ []) other.no_colon (one k 58 other.no_colon))
    )
    (groups_avoid k other true [] (All-nil (λ b. eqb b k ≡ false)) is.tail is.tail_text is.tail_groups)
    )
