-- The names of clusters.
--     none_bad, all_good     a name has no bad byte;  a text without a bad byte has the bytes of a name
--     is_name                such a text that isn't too long is a name
--     ok_named, named_ok     a name is taken as it is;  what is taken is a name
use Rattle.std.proofs.Common.{◌≡◌, ℕ, ◌≤◌, Bool, true, false, cond, not, ltb, List, [], ◌∷◌, length, Option, Some, None, Ok, Err, refl}
use Rattle.std.specs.List.{list_all}
use Rattle.std.proofs.lemmas.Bool.{ltb-false, le-ltb, and_from, and_parts}
use Rattle.cc_connections.specs.declared.clusters.NameFault.TheVariants.{TooLong}
use Rattle.cc_connections.specs.Hosts.{is_name_byte}
use Rattle.cc_connections.specs.Clusters.{bad_byte, name_unless, name_in, IsClusterName}

-- of one more byte
none_if : (b : Bool) (byte : ℕ) (more : Option ℕ) → b ≡ true → more ≡ None → cond (not b) (Some byte) more ≡ None
none_if true byte more is none = none
none_if false byte more is none = absurd cc

good_if : (b : Bool) (byte : ℕ) (more : Option ℕ) → cond (not b) (Some byte) more ≡ None → (b ≡ true) × (more ≡ None)
good_if true byte more none = (refl, none)
good_if false byte more none = absurd cc

pub none_bad : (text : List ℕ) → list_all is_name_byte text ≡ true → bad_byte text ≡ None
none_bad [] all = refl
none_bad (b ∷ bs) all =
    let parts = and_parts (is_name_byte b) (list_all is_name_byte bs) all in
    none_if (is_name_byte b) b (bad_byte bs) parts.0 (none_bad bs parts.1)

pub all_good : (text : List ℕ) → bad_byte text ≡ None → list_all is_name_byte text ≡ true
all_good [] none = refl
all_good (b ∷ bs) none =
    let parts = good_if (is_name_byte b) b (bad_byte bs) none in
    and_from (is_name_byte b) (list_all is_name_byte bs) parts.0 (all_good bs parts.1)

pub is_name : (text : List ℕ) → length text ≤ 64 → bad_byte text ≡ None → IsClusterName text
is_name text fits none = record { fits = fits; bytes = all_good text none }

pub ok_named : (text : List ℕ) → IsClusterName text → name_in text ≡ Ok text
ok_named text is = rw (le-ltb 64 (length text) is.fits, none_bad text is.bytes) refl

named_if : (b : Bool) (text name : List ℕ) (bad : Option ℕ) → cond b (Err TooLong) (name_unless text bad) ≡ Ok name
    → (b ≡ false) × ((bad ≡ None) × (text ≡ name))
named_if true text name bad e = absurd cc
named_if false text name None e = (refl, (refl, cc))
named_if false text name (Some byte) e = absurd cc

pub named_ok : (text name : List ℕ) → name_in text ≡ Ok name → IsClusterName text × (text ≡ name)
named_ok text name e =
    let parts = named_if (ltb 64 (length text)) text name (bad_byte text) e in
    (is_name text (ltb-false _ _ parts.0) parts.1.0, parts.1.1)
