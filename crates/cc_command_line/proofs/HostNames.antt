-- The bytes of names.
--     name_avoids     a name has no other bytes than its own
use Rattle.std.proofs.Common.{◌≡◌, ℕ, List, [], ◌∷◌, true, false, sym, ap, ◌∙◌, eqb, true≢false}
use Rattle.std.specs.List.{list_all}
use Rattle.std.proofs.lemmas.Bool.{and_parts, ne_eqb}
use Rattle.std.proofs.lemmas.List.Elements.{All-cons, All-nil}
use Rattle.cc_connections.specs.Hosts.{is_name_byte}
use Rattle.cc_command_line.proofs.AddressWords.{Avoids}

pub name_avoids : (k : ℕ) → is_name_byte k ≡ false → (name : List ℕ) → list_all is_name_byte name ≡ true → Avoids k name
name_avoids k out [] all = All-nil (λ b. eqb b k ≡ false)
name_avoids k out (b ∷ bs) all =
    let parts = and_parts (is_name_byte b) (list_all is_name_byte bs) all in
    All-cons (λ b. eqb b k ≡ false) b bs (ne_eqb b k (λ same. true≢false (sym parts.0 ∙ ap is_name_byte same ∙ out))) (name_avoids k out bs parts.1)
