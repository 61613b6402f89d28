-- Addresses with a colon in them, and peers with an equals sign and commas.
--     Avoids, one, joined, dotted_avoids, ip_avoids     no character of a text is that one;  of one character, two texts, an IPv4 address
--     bracket_of_parse, not_bracketed                   what stands in brackets is an IPv6 address, or isn't;  no brackets
--     no_host                                           neither of three is no machine
--     no_colon, not_host, not_port, is_address          a word without a colon is no address;  one whose parts aren't such;  one whose parts are
--     id_of                                             the id that a number is
--     no_equals, not_id, not_address, is_peer           the same of a peer
--     peers_of_parts, none_peers, peers_push            peers are what stands between commas;  one that is none;  one more
use Rattle.std.proofs.Common.{◌≡◌, ◌≢◌, ◌↔◌, ℕ, zero, suc, ◌<◌, ◌≤◌, ◌^◌, List, [], ◌∷◌, ◌++◌, length, map, take, drop, get_or, true, false, Option, Some}
use Rattle.std.proofs.Common.{None, Result, Ok, Err, Bor, refl, sym, ap, subst, ◌∙◌, arith, lit<, lit≤}
use Rattle.std.specs.Prelude.{IsSome, IfSome, IfOk, MatchOption}
use Rattle.std.specs.Fmt.{decimal}
use Rattle.std.specs.Int.{IsInRange}
use Rattle.std.specs.List.{All, slice_split}
use Rattle.std.specs.Result.{result_ok}
use Rattle.std.specs.Net.Grammar.{IsDotted, IsIpv4Text, IsIpv6Text, Parses}
use Rattle.std.specs.Net.Addr.{ipv4_octets}
use Rattle.std.specs.Net.Text.{dotted_text}
use Rattle.std.specs.declared.net.ip_addr.IpAddr.TheVariants as ip
use Rattle.std.specs.declared.net.ipv4_addr.Ipv4Addr.{Ipv4Addr}
use Rattle.std.specs.declared.net.ipv6_addr.Ipv6Addr.{Ipv6Addr}
use Rattle.std.proofs.Math.Dec.{eqb}
use Rattle.std.proofs.lemmas.Bool.{eqb-false}
use Rattle.std.proofs.lemmas.Fmt.{decimal_injective}
use Rattle.std.proofs.lemmas.List.Elements.{All-append, All-cons, All-nil}
use Rattle.std.proofs.lemmas.Str.Pattern.{IsSplitOnceResult, split_after, split_parts}
use Rattle.cc_command_line.specs.Words.{NoNumber}
use Rattle.cc_connections.specs.Hosts.{IsHostName}
use Rattle.cc_command_line.specs.Addresses.{SpellsBracketed, NoBracketed, SpellsHost, NoHost, SpellsAddress, NoAddress, NoId, SpellsPeer, NoPeer, ArePeers}
use Rattle.cc_command_line.specs.Addresses.{NonePeers, SpellsPeers, NoPeers}
use Rattle.cc_connections.specs.declared.hosts.Host.TheVariants as host
use Rattle.cc_connections.specs.declared.peer.Address.{Address}
use Rattle.cc_connections.specs.declared.peer.Peer.{Peer}
use Rattle.cc_command_line.proofs.Digits.{fits}
use Rattle.cc_connections.proofs.LastParts.{Lacks, cut_later, last_split, IsCut, cut_parts}
use Rattle.cc_command_line.proofs.Parts.{avoids}

-- ---- characters

abbrev Cut : Type 0
Cut = Option (Bor (List ℕ) × Bor (List ℕ))

abbrev pub Avoids : ℕ → List ℕ → Type 0
Avoids c text = All (λ b. eqb b c ≡ false) text

octet : (c n : ℕ) → ¬ (IsInRange 48 57 c) → n < 256 → Avoids c (decimal n)
octet c n out small = let most : 256 ≤ 2 ^ 64 = lit≤ tt in avoids c n (omega (arith, small, most)) out

pub one : (c b : ℕ) → eqb b c ≡ false → Avoids c (b ∷ [])
one c b other = All-cons (λ b. eqb b c ≡ false) b [] other (All-nil (λ b. eqb b c ≡ false))

pub joined : (c : ℕ) (xs ys : List ℕ) → Avoids c xs → Avoids c ys → Avoids c (xs ++ ys)
joined c xs ys = All-append (λ b. eqb b c ≡ false) xs ys

dotted : (k a b c d : ℕ) → ¬ (IsInRange 48 57 k) → eqb 46 k ≡ false → a < 256 → b < 256 → c < 256 → d < 256 → Avoids k (dotted_text a b c d)
dotted k a b c d out other p q r s =
    let dot = one k 46 other in
    joined k _ _ (joined k _ _ (joined k _ _ (joined k _ _ (joined k _ _ (joined k _ _ (octet k a out p) dot) (octet k b out q)) dot) (octet k c out r))
    dot) (octet k d out s)

-- an address has digits and dots alone
pub dotted_avoids : (k : ℕ) (text octets : List ℕ) → ¬ (IsInRange 48 57 k) → eqb 46 k ≡ false → IsDotted text octets → Avoids k text
dotted_avoids k text octets out other is =
    subst (Avoids k) (sym is.spelled) (dotted k is.a is.b is.c is.d out other is.fit.0 is.fit.1 is.fit.2 is.fit.3)

pub ip_avoids : (k : ℕ) (text : List ℕ) (a : Ipv4Addr) → ¬ (IsInRange 48 57 k) → eqb 46 k ≡ false → IsIpv4Text text a → Avoids k text
ip_avoids k text a out other is = dotted_avoids k text (ipv4_octets a) out other is

-- ---- a machine

nothing_lacks : (c : ℕ) → Lacks c []
nothing_lacks c i within = absurd (omega (arith, within))

pub not_bracketed : (word : List ℕ) → ((rest : List ℕ) → word ≢ 91 ∷ rest) → NoBracketed word
not_bracketed word never a is = never (is.inside ++ 93 ∷ []) is.spelled

pub not_closed : (word rest : List ℕ) → word ≡ 91 ∷ rest → ((front : List ℕ) → rest ≢ front ++ 93 ∷ []) → NoBracketed word
not_closed word rest begins never a is = never is.inside (ap (λ (l : List ℕ). drop 1 l) (sym begins ∙ is.spelled))

pub bracket_of_parse : {E : Type 0} (word rest inside : List ℕ) (p : Result Ipv6Addr E) → word ≡ 91 ∷ rest → rest ≡ inside ++ 93 ∷ []
    → Parses IsIpv6Text inside p → MatchOption (result_ok p) (NoBracketed word) (SpellsBracketed word)
bracket_of_parse word rest inside (Ok a) begins ends parses = record {
  inside = inside;
  spelled = begins ∙ ap (λ (l : List ℕ). 91 ∷ l) ends;
  ip_text = parses;
}
bracket_of_parse word rest inside (Err e) begins ends never = λ a is.
    let same : inside ++ 93 ∷ [] ≡ is.inside ++ 93 ∷ [] = sym ends ∙ ap (λ (l : List ℕ). drop 1 l) (sym begins ∙ is.spelled) in
    never a (subst (λ (text : List ℕ). IsIpv6Text text a) (sym (last_split 93 inside [] is.inside [] (nothing_lacks 93) (nothing_lacks 93) same).0) is.ip_text)

pub no_host : (word : List ℕ) → NoBracketed word → ((a : Ipv4Addr) → ¬ (IsIpv4Text word a)) → ¬ (IsHostName word) → NoHost word
no_host word six four name (host.Ip (ip.V4 a)) is = four a is
no_host word six four name (host.Ip (ip.V6 a)) is = six a is
no_host word six four name (host.Name n) is = name is.0

-- ---- an address

colon_is_no_digit : ¬ (IsInRange 48 57 58)
colon_is_no_digit is = omega (arith, is.1)

small_port : (n : ℕ) → n < 2 ^ 16 → n < 2 ^ 64
small_port n small = let most : 2 ^ 16 < 2 ^ 64 = lit< tt in omega (arith, small, most)

port_lacks : (n : ℕ) → n < 2 ^ 16 → Lacks 58 (decimal n)
port_lacks n small i within = eqb-false (get_or (decimal n) i 0) 58 (avoids 58 n (small_port n small) colon_is_no_digit i 0 within)

pub no_colon : (word : List ℕ) (r : Cut) → IsCut 58 word r → r ≡ None → NoAddress word
no_colon word r cut none a is =
    let lacks : Lacks 58 word = rw none at (cut_parts 58 word r cut (lit< tt)) in
    cut_later 58 is.host_word (decimal a.port) word lacks is.spelled

address_parts : (word : List ℕ) (r : Cut) (x y : Bor (List ℕ)) → IsCut 58 word r → r ≡ Some (x, y) → (a : Address) (is : SpellsAddress word a)
    → (x.now ≡ is.host_word) × (y.now ≡ decimal a.port)
address_parts word r x y cut some a is =
    let parts : (word ≡ x.now ++ 58 ∷ y.now) × Lacks 58 y.now = rw some at (cut_parts 58 word r cut (lit< tt)) in
    last_split 58 x.now y.now is.host_word (decimal a.port) parts.1 (port_lacks a.port is.fits) (sym parts.0 ∙ is.spelled)

pub not_host : (word : List ℕ) (r : Cut) (x y : Bor (List ℕ)) → IsCut 58 word r → r ≡ Some (x, y) → NoHost x.now → NoAddress word
not_host word r x y cut some never a is =
    never a.host (subst (λ (text : List ℕ). SpellsHost text a.host) (sym (address_parts word r x y cut some a is).0) is.host)

pub not_port : (word : List ℕ) (r : Cut) (x y : Bor (List ℕ)) → IsCut 58 word r → r ≡ Some (x, y) → NoNumber 16 y.now → NoAddress word
not_port word r x y cut some never a is = never a.port is.fits (address_parts word r x y cut some a is).1

pub is_address : (word : List ℕ) (r : Cut) (x y : Bor (List ℕ)) (a : Address) → IsCut 58 word r → r ≡ Some (x, y) → SpellsHost x.now a.host
    → y.now ≡ decimal a.port → a.port < 2 ^ 16 → SpellsAddress word a
is_address word r x y a cut some is_host is_port small =
    let parts : (word ≡ x.now ++ 58 ∷ y.now) × Lacks 58 y.now = rw some at (cut_parts 58 word r cut (lit< tt)) in
    record {
      host_word = x.now;
      spelled = parts.0 ∙ ap (λ (digits : List ℕ). x.now ++ (58 ∷ digits)) is_port;
      host = is_host;
      fits = small;
    }

-- ---- a peer

pub id_of : (word : List ℕ) (n : ℕ) (o : Option ℕ) → word ≡ decimal n → n < 2 ^ 32 → (IsSome o ↔ (1 ≤ n)) → IfSome o (λ id. id ≡ n)
    → MatchOption o (NoId word) (λ id. (word ≡ decimal id) × (1 ≤ id) × (id < 2 ^ 32))
id_of word n None is small some same = λ id positive fits' spelled.
    let equal : n ≡ id = decimal_injective n id (fits n small) (fits id fits') (sym is ∙ spelled) in
    let none : false ≡ true = some.1 (omega (arith, equal, positive)) in
    cc
id_of word n (Some id) is small some same = (is ∙ ap decimal (sym same), omega (arith, some.0 refl, same), omega (arith, small, same))

equals_is_no_digit : ¬ (IsInRange 48 57 61)
equals_is_no_digit is = omega (arith, is.1)

no_equals_in : (n : ℕ) → n < 2 ^ 32 → (i : ℕ) → i < length (decimal n) → get_or (decimal n) i 0 ≢ 61
no_equals_in n small i within is = eqb-false (get_or (decimal n) i 0) 61 (avoids 61 n (fits n small) equals_is_no_digit i 0 within) is

pub no_equals : (word : List ℕ) (r : Cut) → IsSplitOnceResult 61 word r → r ≡ None → NoPeer word
no_equals word r cut none p is = rw none at (split_after 61 word (decimal p.id) is.address_word r cut (lit< tt) is.spelled (no_equals_in p.id is.fits))

peer_parts : (word : List ℕ) (r : Cut) (x y : Bor (List ℕ)) → IsSplitOnceResult 61 word r → r ≡ Some (x, y) → (p : Peer) (is : SpellsPeer word p)
    → (x.now ≡ decimal p.id) × (y.now ≡ is.address_word)
peer_parts word r x y cut some p is = rw some at (split_after 61 word (decimal p.id) is.address_word r cut (lit< tt) is.spelled (no_equals_in p.id is.fits))

pub not_id : (word : List ℕ) (r : Cut) (x y : Bor (List ℕ)) → IsSplitOnceResult 61 word r → r ≡ Some (x, y) → NoId x.now → NoPeer word
not_id word r x y cut some never p is = never p.id is.positive is.fits (peer_parts word r x y cut some p is).0

pub not_address : (word : List ℕ) (r : Cut) (x y : Bor (List ℕ)) → IsSplitOnceResult 61 word r → r ≡ Some (x, y) → NoAddress y.now → NoPeer word
not_address word r x y cut some never p is = never p.address (subst (λ (text : List ℕ). SpellsAddress text p.address)
    (sym (peer_parts word r x y cut some p is).1) is.address)

pub is_peer : (word : List ℕ) (r : Cut) (x y : Bor (List ℕ)) (p : Peer) → IsSplitOnceResult 61 word r → r ≡ Some (x, y)
    → (x.now ≡ decimal p.id) × (1 ≤ p.id) × (p.id < 2 ^ 32) → SpellsAddress y.now p.address → SpellsPeer word p
is_peer word r x y p cut some id address =
    let split : word ≡ x.now ++ (61 ∷ y.now) = (rw some at (split_parts 61 word r cut (lit< tt))).0 in
    record {
      address_word = y.now;
      spelled = split ∙ ap (λ (digits : List ℕ). digits ++ (61 ∷ y.now)) id.0;
      address = address;
      positive = id.1;
      fits = id.2;
    }

-- ---- peers

pub peers_of_parts : {V E : Type 0} (items : V → List Peer) (word : List ℕ) (parts : List (List ℕ)) (r : Result (Option V) E)
    → parts ≡ slice_split (λ b. eqb b 44) word
    → IfOk r (λ o. MatchOption o (NonePeers parts) (λ v. ArePeers parts (items v)))
    → IfOk r (λ o. MatchOption o (NoPeers word) (λ v. SpellsPeers word (items v)))
peers_of_parts items word parts r split h = subst (λ (ps : List (List ℕ)). IfOk r (λ o. MatchOption o (NonePeers ps) (λ v. ArePeers ps (items v)))) split h

pub none_peers : (words : List (List ℕ)) (i : ℕ) → i < length words → NoPeer (get_or words i []) → NonePeers words
none_peers [] i within never peers are = omega (arith, within)
none_peers (word ∷ words) i within never [] are = are
none_peers (word ∷ words) zero within never (p ∷ peers) are = never p are.0
none_peers (word ∷ words) (suc i) within never (p ∷ peers) are = none_peers words i (omega (arith, within)) never peers are.1

pub peers_push : {W : Type 0} (text : W → List ℕ) (words : List W) (i : ℕ) (d : W) (peers : List Peer) (p : Peer) → i < length words
    → ArePeers (map text (take i words)) peers → SpellsPeer (text (get_or words i d)) p
    → ArePeers (map text (take (suc i) words)) (peers ++ p ∷ [])
peers_push text [] i d peers p within are is = absurd (omega (arith, within))
peers_push text (w ∷ words) zero d [] p within are is = (is, tt)
peers_push text (w ∷ words) zero d (q ∷ peers) p within are is = absurd are
peers_push text (w ∷ words) (suc i) d [] p within are is = absurd are
peers_push text (w ∷ words) (suc i) d (q ∷ peers) p within are is = (are.0, peers_push text words i d peers p (omega (arith, within)) are.1 is)
