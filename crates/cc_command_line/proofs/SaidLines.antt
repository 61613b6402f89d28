-- Peers on lines.
--     takes_one                      one more line says one more peer
--     said_more, peers_more          what the lines up to one more say;  their peers
--     peers_have_no_comma            words of peers have no comma
--     list_is_lines                  words without a comma, joined by commas, are parted again as they were
--     spells_list, lines_are_list    peers on lines are those of the list;  without commas both say the same
--     first_fault                    the fault of the first line that says something else
--     peers_of_lines, list_of_peers, fault_of_lines     the same of a text's lines
use Rattle.std.proofs.Common.{◌≡◌, ℕ, zero, suc, ◌<◌, ◌≤◌, ◌+◌, ◌^◌, List, [], ◌∷◌, ◌++◌, length, map, take, get_or, false, Option, Some, None}
use Rattle.std.proofs.Common.{Result, Ok, Err, refl, sym, ap, subst, ◌∙◌, arith, lit<, add-one}
use Rattle.std.specs.Prelude.{IfOk, IfErr}
use Rattle.std.specs.Fmt.{decimal}
use Rattle.std.specs.Int.{IsInRange}
use Rattle.std.specs.List.{cons_option, join_with_byte, slice_split, take-map}
use Rattle.std.specs.declared.net.ip_addr.IpAddr.TheVariants as ip
use Rattle.std.proofs.Math.Dec.{eqb}
use Rattle.std.proofs.lemmas.List.{get_or-map, length-map}
use Rattle.std.proofs.lemmas.List.Elements.{All-cons}
use Rattle.std.proofs.lemmas.List.Splits.{slice_split_at, slice_split_none}
use Rattle.cc_connections.specs.declared.hosts.Host.{Host}
use Rattle.cc_connections.specs.declared.hosts.Host.TheVariants as host
use Rattle.cc_connections.specs.declared.peer.Address.{Address}
use Rattle.cc_connections.specs.declared.peer.Peer.{Peer}
use Rattle.cc_command_line.specs.Addresses.{SpellsHost, SpellsAddress, SpellsPeer, ArePeers, SpellsPeers}
use Rattle.cc_command_line.specs.PeerLines.{said_in, said_on, lines_of, said_lines, list_of_lines, IsNoPeerLine, IsFaultAt, IsFirstFault, HaveNoComma}
use Rattle.cc_command_line.specs.declared.peer_lines.LineFault.{LineFault}
use Rattle.cc_command_line.specs.declared.peer_lines.LineFault.TheVariants as fault
use Rattle.cc_command_line.proofs.AddressWords.{Avoids, one, joined, ip_avoids}
use Rattle.cc_command_line.proofs.Digits.{fits}
use Rattle.cc_command_line.proofs.HostNames.{name_avoids}
use Rattle.cc_command_line.proofs.Ipv6Words.{IsOther, six_avoids}
use Rattle.cc_command_line.proofs.Parts.{avoids}

are_push : (words : List (List ℕ)) (peers : List Peer) (word : List ℕ) (p : Peer) → ArePeers words peers → SpellsPeer word p
    → ArePeers (words ++ word ∷ []) (peers ++ p ∷ [])
are_push [] [] word p are is = (is, tt)
are_push [] (q ∷ peers) word p are is = absurd are
are_push (w ∷ words) [] word p are is = absurd are
are_push (w ∷ words) (q ∷ peers) word p are is = (are.0, are_push words peers word p are.1 is)

pub takes_one : (said : Option (List ℕ)) (word : List ℕ) (peers : List Peer) (p : Peer) → said ≡ Some word → SpellsPeer word p
    → (words : List (List ℕ)) → ArePeers words peers → ArePeers (words ++ cons_option said []) (peers ++ p ∷ [])
takes_one said word peers p some is words are = rw some (are_push words peers word p are is)

pub said_more : {W : Type 0} (text : W → List ℕ) (lines : List W) (i : ℕ) (d : W) → i < length lines
    → said_on (map text (take (suc i) lines)) ≡ said_on (map text (take i lines)) ++ cons_option (said_in (text (get_or lines i d))) []
said_more text [] i d within = absurd (omega (arith, within))
said_more text (l ∷ lines) zero d within = said_first (said_in (text l))
  where
    said_first : (o : Option (List ℕ)) → cons_option o [] ≡ [] ++ cons_option o []
    said_first o = refl
said_more text (l ∷ lines) (suc i) d within = more (said_in (text l)) _ _ _ (said_more text lines i d (omega (arith, within)))
  where
    more : (o : Option (List ℕ)) (xs ys zs : List (List ℕ)) → xs ≡ ys ++ zs → cons_option o xs ≡ cons_option o ys ++ zs
    more None xs ys zs same = same
    more (Some x) xs ys zs same = ap (λ (l : List (List ℕ)). x ∷ l) same

-- ---- no comma

comma_is_no_digit : ¬ (IsInRange 48 57 44)
comma_is_no_digit is = omega (arith, is.0)

comma_is_other : IsOther 44
comma_is_other = record {
  no_digit = comma_is_no_digit;
  no_hex = λ is. let small : 36 < 16 = is in omega (arith, small);
  no_dot = refl;
  no_colon = refl;
}

host_avoids : (word : List ℕ) (h : Host) → SpellsHost word h → Avoids 44 word
host_avoids word (host.Ip (ip.V4 a)) is = ip_avoids 44 word a comma_is_no_digit refl is
host_avoids word (host.Ip (ip.V6 a)) is =
    subst (Avoids 44) (sym is.spelled) (
    All-cons (λ b. eqb b 44 ≡ false) 91 (is.inside ++ 93 ∷ []) refl
    (joined 44 is.inside (93 ∷ []) (six_avoids 44 comma_is_other is.inside a is.ip_text) (one 44 93 refl))
    )
host_avoids word (host.Name n) is = name_avoids 44 refl word is.0.bytes

small_port : (n : ℕ) → n < 2 ^ 16 → n < 2 ^ 64
small_port n small = let most : 2 ^ 16 < 2 ^ 64 = lit< tt in omega (arith, small, most)

address_avoids : (word : List ℕ) (a : Address) → SpellsAddress word a → Avoids 44 word
address_avoids word a is =
    subst (Avoids 44) (sym is.spelled) (
    joined 44 is.host_word (58 ∷ decimal a.port) (host_avoids is.host_word a.host is.host)
    (All-cons (λ b. eqb b 44 ≡ false) 58 (decimal a.port) refl (avoids 44 a.port (small_port a.port is.fits) comma_is_no_digit))
    )

peer_avoids : (word : List ℕ) (p : Peer) → SpellsPeer word p → Avoids 44 word
peer_avoids word p is =
    subst (Avoids 44) (sym is.spelled) (
    joined 44 (decimal p.id) (61 ∷ is.address_word) (avoids 44 p.id (fits p.id is.fits) comma_is_no_digit)
    (All-cons (λ b. eqb b 44 ≡ false) 61 is.address_word refl (address_avoids is.address_word p.address is.address))
    )

pub peers_have_no_comma : (words : List (List ℕ)) (peers : List Peer) → ArePeers words peers → HaveNoComma words
peers_have_no_comma [] peers are = tt
peers_have_no_comma (word ∷ words) [] are = absurd are
peers_have_no_comma (word ∷ words) (p ∷ peers) are = (peer_avoids word p are.0, peers_have_no_comma words peers are.1)

-- ---- the list

pub list_is_lines : (words : List (List ℕ)) → 1 ≤ length words → HaveNoComma words → slice_split (λ b. eqb b 44) (join_with_byte 44 words) ≡ words
list_is_lines [] some none = absurd (omega (arith, some))
list_is_lines (word ∷ []) some none = slice_split_none (λ b. eqb b 44) word none.0
list_is_lines (word ∷ next ∷ words) some none =
    slice_split_at (λ b. eqb b 44) word 44 (join_with_byte 44 (next ∷ words)) none.0 refl
    ∙ ap (λ (parts : List (List ℕ)). word ∷ parts) (list_is_lines (next ∷ words) (omega arith) none.1)

pub spells_list : (words : List (List ℕ)) (peers : List Peer) → ArePeers words peers → 1 ≤ length words → SpellsPeers (join_with_byte 44 words) peers
spells_list words peers are some = subst (λ (ws : List (List ℕ)). ArePeers ws peers) (sym (list_is_lines words some (peers_have_no_comma words peers are))) are

pub lines_are_list : (text : List ℕ) (peers : List Peer) → 1 ≤ length (said_lines text) → HaveNoComma (said_lines text)
    → (ArePeers (said_lines text) peers → SpellsPeers (list_of_lines text) peers) × (SpellsPeers (list_of_lines text) peers → ArePeers (said_lines text) peers)
lines_are_list text peers some none =
    let same = list_is_lines (said_lines text) some none in
    (λ are. subst (λ (ws : List (List ℕ)). ArePeers ws peers) (sym same) are, λ are. subst (λ (ws : List (List ℕ)). ArePeers ws peers) same are)

-- ---- as a call answers

pub first_fault : {W : Type 0} (text : W → List ℕ) (lines : List W) (i : ℕ) (d : W) (peers : List Peer) (e : LineFault) → i < length lines
    → IsFaultAt (i + 1) (text (get_or lines i d)) e
    → ArePeers (said_on (map text (take i lines))) peers → IsFirstFault (map text lines) e
first_fault text lines i d peers (fault.NoPeer n) within is are = record {
  at = i;
  within = rw length-map within;
  counted = is.0;
  bad = subst IsNoPeerLine (sym (get_or-map text lines i d [] within)) is.1;
  before = (peers, subst (λ (ls : List (List ℕ)). ArePeers (said_on ls) peers) (sym (take-map text i lines)) are);
}
first_fault text lines i d peers fault.NoMemory within is are = tt

pub peers_of_lines : {V E : Type 0} (items : V → List Peer) (text : List ℕ) (lines : List (List ℕ)) (r : Result V E) → lines ≡ lines_of text
    → IfOk r (λ v. ArePeers (said_on lines) (items v)) → IfOk r (λ v. ArePeers (said_lines text) (items v))
peers_of_lines items text lines r same is = subst (λ (ls : List (List ℕ)). IfOk r (λ v. ArePeers (said_on ls) (items v))) same is

pub list_of_peers : {V E : Type 0} (items : V → List Peer) (text : List ℕ) (r : Result V E) → IfOk r (λ v. ArePeers (said_lines text) (items v))
    → IfOk r (λ v. 1 ≤ length (said_lines text) → SpellsPeers (list_of_lines text) (items v))
list_of_peers items text (Ok v) are = λ some. spells_list (said_lines text) (items v) are some
list_of_peers items text (Err e) are = tt

pub fault_of_lines : {V : Type 0} (text : List ℕ) (lines : List (List ℕ)) (r : Result V LineFault) → lines ≡ lines_of text
    → IfErr r (λ e. IsFirstFault lines e) → IfErr r (λ e. IsFirstFault (lines_of text) e)
fault_of_lines text lines r same is = subst (λ (ls : List (List ℕ)). IfErr r (λ e. IsFirstFault ls e)) same is

pub peers_more : {W : Type 0} (text : W → List ℕ) (lines : List W) (i : ℕ) (d : W) (peers : List Peer) → i < length lines
    → ArePeers (said_on (map text (take i lines)) ++ cons_option (said_in (text (get_or lines i d))) []) peers
    → ArePeers (said_on (map text (take (i + 1) lines))) peers
peers_more text lines i d peers within are = rw add-one (subst (λ (words : List (List ℕ)). ArePeers words peers) (sym (said_more text lines i d within)) are)
