-- An identity, line by line.
--     first_cut                                a text has one cut at the first of a byte
--     lacks_blank                              a key without a blank
--     no_blank, other_key, line_of             as a text is cut behind a key, and behind a line
--     named, never_named                       a word that is the name of a cluster;  that isn't one
--     no_cluster, bad_name                     what has no first line of an identity
--     no_birth, bad_number, more_behind        what has no second one, or more
--     identity_of, fault_of                    both lines
--     one_identity, no_fault                   one identity has a text, and the text has no fault
use Rattle.std.proofs.Common.{◌≡◌, ◌≢◌, ℕ, zero, suc, ◌+◌, ◌≤◌, ◌<◌, ◌^◌, true, false, List, [], ◌∷◌, ◌++◌, length, drop, get_or, Option, Some, None, Ok, Err}
use Rattle.std.proofs.Common.{Bor, refl, sym, ap, ap₂, subst, ◌∙◌, arith, lit<, eqb}
use Rattle.std.specs.Prelude.{MatchOption, codes}
use Rattle.std.specs.Fmt.{decimal}
use Rattle.std.specs.Int.{IsInRange}
use Rattle.std.specs.List.{list_all}
use Rattle.std.proofs.lemmas.Bool.{eqb-false, or_parts, and_parts}
use Rattle.std.proofs.lemmas.Fmt.{decimal_injective}
use Rattle.std.proofs.lemmas.Str.Pattern.{IsSplitOnceResult, split_after, split_parts}
use Rattle.cc_connections.specs.declared.clusters.NameFault.{NameFault}
use Rattle.cc_connections.specs.Hosts.{is_name_byte}
use Rattle.cc_connections.specs.Clusters.{name_in}
use Rattle.cc_connections.proofs.ClusterNames.{ok_named, named_ok}
use Rattle.cc_command_line.specs.declared.identities.Identity.{Identity}
use Rattle.cc_command_line.specs.declared.identities.IdentityFault.{IdentityFault}
use Rattle.cc_command_line.specs.declared.identities.IdentityFault.TheVariants.{NoCluster, NoBirth, More}
use Rattle.cc_command_line.specs.Words.{NoNumber}
use Rattle.cc_command_line.specs.Identities.{Lacks, has_blank, line_spelling, IsLine, NoLine, IsNamed, cluster_spelling, birth_spelling}
use Rattle.cc_command_line.specs.Identities.{SpellsIdentity, IsBirthFault, IsSecondFault, IsIdentityFault}
use Rattle.cc_command_line.proofs.Parts.{avoids}

-- ---- texts

pub first_cut : (c : ℕ) (xs ys us vs : List ℕ) → Lacks c xs → Lacks c us → xs ++ c ∷ ys ≡ us ++ c ∷ vs → (xs ≡ us) × (ys ≡ vs)
first_cut c [] ys [] vs first second same = (refl, ap (λ (l : List ℕ). drop 1 l) same)
first_cut c [] ys (u ∷ us) vs first second same = absurd (second 0 (omega arith) (sym (ap (λ (l : List ℕ). get_or l 0 0) same)))
first_cut c (x ∷ xs) ys [] vs first second same = absurd (first 0 (omega arith) (ap (λ (l : List ℕ). get_or l 0 0) same))
first_cut c (x ∷ xs) ys (u ∷ us) vs first second same =
    let rest = first_cut c xs ys us vs (λ i within. first (suc i) (omega (arith, within))) (λ i within. second (suc i) (omega (arith, within)))
    (ap (λ (l : List ℕ). drop 1 l) same) in
    (ap₂ (λ (h : ℕ) (t : List ℕ). h ∷ t) (ap (λ (l : List ℕ). get_or l 0 0) same) rest.0, rest.1)

pub lacks_blank : (key : List ℕ) → has_blank key ≡ false → Lacks 32 key
lacks_blank [] none i within same = omega (arith, within)
lacks_blank (k ∷ ks) none zero within same = eqb-false k 32 (or_parts (eqb k 32) (has_blank ks) none).0 same
lacks_blank (k ∷ ks) none (suc i) within same = lacks_blank ks (or_parts (eqb k 32) (has_blank ks) none).1 i (omega (arith, within)) same

name_byte_is_no_end : (b : ℕ) → is_name_byte b ≡ true → b ≢ 10
name_byte_is_no_end b is same = let e : is_name_byte 10 ≡ true = ap is_name_byte (sym same) ∙ is in let n : is_name_byte 10 ≡ false = refl in cc

name_on_line : (name : List ℕ) → list_all is_name_byte name ≡ true → Lacks 10 name
name_on_line [] all i within same = omega (arith, within)
name_on_line (b ∷ bs) all zero within same = name_byte_is_no_end b (and_parts (is_name_byte b) (list_all is_name_byte bs) all).0 same
name_on_line (b ∷ bs) all (suc i) within same =
    name_on_line bs (and_parts (is_name_byte b) (list_all is_name_byte bs) all).1 i (omega (arith, within)) same

end_is_no_digit : ¬ (IsInRange 48 57 10)
end_is_no_digit is = omega (arith, is.0)

number_on_line : (n : ℕ) → n < 2 ^ 64 → Lacks 10 (decimal n)
number_on_line n small i within same = eqb-false (get_or (decimal n) i 0) 10 (avoids 10 n small end_is_no_digit i 0 within) same

-- ---- a line of a key

module _ (key text : List ℕ) (r : Option (Bor (List ℕ) × Bor (List ℕ))) (cut : IsSplitOnceResult 32 text r) (lacks : Lacks 32 key) where
  pub no_blank : r ≡ None → NoLine key text
  no_blank none word rest on is = rw none at (split_after 32 text key (word ++ 10 ∷ rest) r cut (lit< tt) is lacks)

  module _ (a b : Bor (List ℕ)) (some : r ≡ Some (a, b)) where
    parts_of : (behind : List ℕ) → text ≡ key ++ 32 ∷ behind → (a.now ≡ key) × (b.now ≡ behind)
    parts_of behind is = rw some at (split_after 32 text key behind r cut (lit< tt) is lacks)

    pub other_key : (a.now ≡ key → ⊥) → NoLine key text
    other_key never word rest on is = never (parts_of (word ++ 10 ∷ rest) is).0

    pub line_of : (t : Option (Bor (List ℕ) × Bor (List ℕ))) → a.now ≡ key → IsSplitOnceResult 10 b.now t
        → MatchOption t (NoLine key text) (λ x. IsLine key text x.0.now x.1.now)
    line_of None same end = λ word rest on is. split_after 10 b.now word rest None end (lit< tt) (parts_of (word ++ 10 ∷ rest) is).1 on
    line_of (Some x) same end =
        let front : (text ≡ a.now ++ 32 ∷ b.now) × Lacks 32 a.now = rw some at (split_parts 32 text r cut (lit< tt)) in
        let back = split_parts 10 b.now (Some x) end (lit< tt) in
        record {
          spelled = front.0 ∙ ap (λ (k : List ℕ). k ++ 32 ∷ b.now) same ∙ ap (λ (t : List ℕ). key ++ 32 ∷ t) back.0;
          on_line = back.1;
        }

-- ---- the first line

pub named : (word name : List ℕ) → 1 ≤ length word → name_in word ≡ Ok name → (name ≡ word) × IsNamed word
named word name some e = let is = named_ok word name e in (sym is.1, record { some = some; is_name = is.0 })

pub never_named : (word : List ℕ) (fault : NameFault) → name_in word ≡ Err fault → IsNamed word → ⊥
never_named word fault e is = let named : name_in word ≡ Ok word = ok_named word is.is_name in cc

pub no_cluster : (text : List ℕ) → NoLine (codes "cluster") text → (name rest : List ℕ) → IsNamed name → text ≢ cluster_spelling name rest
no_cluster text none name rest is same = none name rest (name_on_line name is.is_name.bytes) same

-- two first lines of one text are one
same_clusters : (word rest name more : List ℕ) → Lacks 10 word → Lacks 10 name → cluster_spelling word rest ≡ cluster_spelling name more
    → (word ≡ name) × (rest ≡ more)
same_clusters word rest name more on on_too same = first_cut 10 word rest name more on on_too (ap (λ (l : List ℕ). drop 8 l) same)

pub bad_name : (text word rest : List ℕ) → IsLine (codes "cluster") text word rest → (IsNamed word → ⊥) → (name more : List ℕ) → IsNamed name
    → text ≢ cluster_spelling name more
bad_name text word rest line bad name more is same =
    bad (subst IsNamed (sym (same_clusters word rest name more line.on_line (name_on_line name is.is_name.bytes) (sym line.spelled ∙ same)).0) is)

-- ---- the second line

pub no_birth : (text : List ℕ) → NoLine (codes "birth") text → IsBirthFault text NoBirth
no_birth text none birth rest fits same = none (decimal birth) rest (number_on_line birth fits) same

same_births : (word rest : List ℕ) (birth : ℕ) (more : List ℕ) → Lacks 10 word → birth < 2 ^ 64
    → line_spelling (codes "birth") word rest ≡ birth_spelling birth more → (word ≡ decimal birth) × (rest ≡ more)
same_births word rest birth more on fits same =
    first_cut 10 word rest (decimal birth) more on (number_on_line birth fits) (ap (λ (l : List ℕ). drop 6 l) same)

pub bad_number : (text word rest : List ℕ) → IsLine (codes "birth") text word rest → NoNumber 64 word → IsBirthFault text NoBirth
bad_number text word rest line bad birth more fits same =
    bad birth fits (same_births word rest birth more line.on_line fits (sym line.spelled ∙ same)).0

-- the number that was read is the birth
pub birth_line : (text word rest : List ℕ) (birth : ℕ) → IsLine (codes "birth") text word rest → word ≡ decimal birth → text ≡ birth_spelling birth rest
birth_line text word rest birth line is = line.spelled ∙ ap (λ (w : List ℕ). line_spelling (codes "birth") w rest) is

pub more_behind : (text word rest : List ℕ) (birth : ℕ) → birth < 2 ^ 64 → IsLine (codes "birth") text word rest → word ≡ decimal birth → 1 ≤ length rest
    → IsBirthFault text More
more_behind text word rest birth fits line is some =
    record { birth = birth; more = rest; fits = fits; spelled = birth_line text word rest birth line is; some = some }

-- ---- both

pub identity_of : (text name rest : List ℕ) (cluster : List ℕ) (birth : ℕ) → IsLine (codes "cluster") text name rest → cluster ≡ name → IsNamed name
    → rest ≡ birth_spelling birth [] → SpellsIdentity text (record { cluster = cluster; birth = birth })
identity_of text name rest cluster birth line same is second = record {
  named = subst IsNamed (sym same) is;
  spelled = line.spelled ∙ ap (λ (n : List ℕ). cluster_spelling n rest) (sym same) ∙ ap (λ (t : List ℕ). cluster_spelling cluster t) second;
}

pub fault_of : (text name rest : List ℕ) (e : IdentityFault) → IsLine (codes "cluster") text name rest → IsNamed name → IsBirthFault rest e
    → IsIdentityFault text e
fault_of text name rest NoCluster line is bad = absurd bad
fault_of text name rest NoBirth line is bad = record { name = name; rest = rest; named = is; spelled = line.spelled; bad = bad }
fault_of text name rest More line is bad = record { name = name; rest = rest; named = is; spelled = line.spelled; bad = bad }

-- ---- what was written is read again

module _ (a : Identity) (text : List ℕ) (fits : a.birth < 2 ^ 64) (spells : SpellsIdentity text a) where
  -- the parts of another first line of the text
  first_of : (name rest : List ℕ) → IsNamed name → text ≡ cluster_spelling name rest → (a.cluster ≡ name) × (birth_spelling a.birth [] ≡ rest)
  first_of name rest is same =
      same_clusters a.cluster (birth_spelling a.birth []) name rest (name_on_line a.cluster spells.named.is_name.bytes) (name_on_line name is.is_name.bytes)
      (sym spells.spelled ∙ same)

  -- and of another second one
  second_of : (birth : ℕ) (more : List ℕ) → birth < 2 ^ 64 → birth_spelling a.birth [] ≡ birth_spelling birth more
      → (decimal a.birth ≡ decimal birth) × ([] ≡ more)
  second_of birth more fits_too same = same_births (decimal a.birth) [] birth more (number_on_line a.birth fits) fits_too same

  abbrev identity_with : List ℕ → ℕ → Identity
  identity_with cluster birth = record { cluster = cluster; birth = birth }

  pub one_identity : (b : Identity) → b.birth < 2 ^ 64 → SpellsIdentity text b → a ≡ b
  one_identity b fits_too other =
      let first = first_of b.cluster (birth_spelling b.birth []) other.named other.spelled in
      let second = second_of b.birth [] fits_too first.1 in
      ap₂ identity_with first.0 (decimal_injective a.birth b.birth fits fits_too second.0)

  second_fault : (e : IdentityFault) → IsSecondFault text e → ⊥
  second_fault NoCluster bad = bad.bad
  second_fault NoBirth bad = bad.bad a.birth [] fits (sym (first_of bad.name bad.rest bad.named bad.spelled).1)
  second_fault More bad =
      let first = first_of bad.name bad.rest bad.named bad.spelled in
      let second = second_of bad.bad.birth bad.bad.more bad.bad.fits (first.1 ∙ bad.bad.spelled) in
      omega (arith, ap length second.1, bad.bad.some)

  pub no_fault : (e : IdentityFault) → IsIdentityFault text e → ⊥
  no_fault NoCluster bad = bad a.cluster (birth_spelling a.birth []) spells.named spells.spelled
  no_fault NoBirth bad = second_fault NoBirth bad
  no_fault More bad = second_fault More bad
