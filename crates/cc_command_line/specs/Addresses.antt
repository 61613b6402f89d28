-- The words of addresses, and of peers with their addresses.
--     SpellsBracketed, NoBracketed     an IPv6 address in brackets;  not a word of one
--     SpellsHost, NoHost               an IPv4 address in dotted decimal, an IPv6 address in brackets, or a name;  not a word of one
--     SpellsAddress, NoAddress         a machine, a colon and a port;  not a word of one
--     NoId                             not the digits of an id
--     SpellsPeer, NoPeer               an id, an equals sign and an address;  not a word of one
--     ArePeers, NonePeers              each word is a peer;  they aren't any peers
--     SpellsPeers, NoPeers             peers with a comma between each two;  not a word of these
use Rattle.std.specs.Prelude.{◌≡◌, ◌≢◌, ◌≤◌, ◌<◌, ◌^◌, ◌==◌, ℕ, List, [], ◌∷◌, ◌++◌}
use Rattle.std.specs.Fmt.{decimal}
use Rattle.std.specs.List.{AllZip, slice_split}
use Rattle.std.specs.Net.Grammar.{IsIpv4Text, IsIpv6Text}
use Rattle.std.specs.declared.net.ip_addr.IpAddr.TheVariants as ip
use Rattle.std.specs.declared.net.ipv6_addr.Ipv6Addr.{Ipv6Addr}
use Rattle.cc_connections.specs.Hosts.{IsHostName, host_name}
use Rattle.cc_connections.specs.declared.hosts.Host.{Host}
use Rattle.cc_connections.specs.declared.hosts.Host.TheVariants as host
use Rattle.cc_connections.specs.declared.peer.Address.{Address}
use Rattle.cc_connections.specs.declared.peer.Peer.{Peer}

pub record SpellsBracketed (word : List ℕ) (a : Ipv6Addr) : Type 0 where
  pub inside : List ℕ
  pub spelled : word ≡ 91 ∷ (inside ++ 93 ∷ [])
  pub ip_text : IsIpv6Text inside a

abbrev pub NoBracketed : List ℕ → Type 0
NoBracketed word = (a : Ipv6Addr) → SpellsBracketed word a → ⊥

abbrev pub SpellsHost : List ℕ → Host → Type 0
SpellsHost word (host.Ip (ip.V4 a)) = IsIpv4Text word a
SpellsHost word (host.Ip (ip.V6 a)) = SpellsBracketed word a
SpellsHost word (host.Name n) = IsHostName word × (host_name n ≡ word)

abbrev pub NoHost : List ℕ → Type 0
NoHost word = (h : Host) → SpellsHost word h → ⊥

pub record SpellsAddress (word : List ℕ) (a : Address) : Type 0 where
  pub host_word : List ℕ
  pub spelled : word ≡ host_word ++ 58 ∷ decimal a.port
  pub host : SpellsHost host_word a.host
  pub fits : a.port < 2 ^ 16

abbrev pub NoAddress : List ℕ → Type 0
NoAddress word = (a : Address) → SpellsAddress word a → ⊥

pub record SpellsPeer (word : List ℕ) (p : Peer) : Type 0 where
  pub address_word : List ℕ
  pub spelled : word ≡ decimal p.id ++ 61 ∷ address_word
  pub address : SpellsAddress address_word p.address
  pub positive : 1 ≤ p.id
  pub fits : p.id < 2 ^ 32

abbrev pub NoId : List ℕ → Type 0
NoId word = (id : ℕ) → 1 ≤ id → id < 2 ^ 32 → word ≢ decimal id

abbrev pub NoPeer : List ℕ → Type 0
NoPeer word = (p : Peer) → SpellsPeer word p → ⊥

-- word by word
abbrev pub ArePeers : List (List ℕ) → List Peer → Type 0
ArePeers words peers = AllZip SpellsPeer words peers

-- between the commas
abbrev pub SpellsPeers : List ℕ → List Peer → Type 0
SpellsPeers word peers = ArePeers (slice_split (λ b. b == 44) word) peers

abbrev pub NonePeers : List (List ℕ) → Type 0
NonePeers words = (peers : List Peer) → ArePeers words peers → ⊥

abbrev pub NoPeers : List ℕ → Type 0
NoPeers word = (peers : List Peer) → SpellsPeers word peers → ⊥
