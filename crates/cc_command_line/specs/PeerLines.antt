-- Peers on the lines of a text.
--     lines_of                  the lines, as newlines part them
--     said_in, said_on          what a line says, without the blanks around it: nothing where it is blank, or begins with #;  what lines say
--     said_lines, list_of_lines     what the lines of a text say;  that as a list, with commas
--     IsNoPeerLine              a line that says something else than a peer
--     IsFaultAt, IsFirstFault   the fault of that line;  of the first such line
--     HaveNoComma               none of these words has a comma
use Rattle.std.specs.Prelude.{◌≡◌, ◌<◌, ◌+◌, ◌==◌, ⊤, ℕ, List, [], ◌∷◌, Option, Some, None, false, length, take, if◌then◌else◌}
use Rattle.std.specs.List.{All, filter_map, join_with_byte, slice_index_or, slice_split}
use Rattle.std.specs.Str.{trim}
use Rattle.cc_connections.specs.declared.peer.Peer.{Peer}
use Rattle.cc_command_line.specs.Addresses.{ArePeers, NoPeer}
use Rattle.cc_command_line.specs.declared.peer_lines.LineFault.{LineFault}
use Rattle.cc_command_line.specs.declared.peer_lines.LineFault.TheVariants as fault

abbrev pub lines_of : List ℕ → List (List ℕ)
lines_of text = slice_split (λ b. b == 10) text

abbrev pub said_word : List ℕ → Option (List ℕ)
said_word [] = None
said_word (b ∷ bs) = if b == 35 then None else Some (b ∷ bs)

abbrev pub said_in : List ℕ → Option (List ℕ)
said_in line = said_word (trim line)

abbrev pub said_on : List (List ℕ) → List (List ℕ)
said_on lines = filter_map said_in lines

abbrev pub said_lines : List ℕ → List (List ℕ)
said_lines text = said_on (lines_of text)

abbrev pub list_of_lines : List ℕ → List ℕ
list_of_lines text = join_with_byte 44 (said_lines text)

pub record IsNoPeerLine (line : List ℕ) : Type 0 where
  pub word : List ℕ
  pub says : said_in line ≡ Some word
  pub never : NoPeer word

abbrev pub IsFaultAt : ℕ → List ℕ → LineFault → Type 0
IsFaultAt number line (fault.NoPeer n) = (n ≡ number) × IsNoPeerLine line
IsFaultAt number line fault.NoMemory = ⊤

-- those before it are peers
pub record IsFirstBad (lines : List (List ℕ)) (number : ℕ) : Type 0 where
  pub at : ℕ
  pub within : at < length lines
  pub counted : number ≡ at + 1
  pub bad : IsNoPeerLine (slice_index_or lines at [])
  pub before : (peers : List Peer) × ArePeers (said_on (take at lines)) peers

abbrev pub IsFirstFault : List (List ℕ) → LineFault → Type 0
IsFirstFault lines (fault.NoPeer number) = IsFirstBad lines number
IsFirstFault lines fault.NoMemory = ⊤

abbrev pub HaveNoComma : List (List ℕ) → Type 0
HaveNoComma [] = ⊤
HaveNoComma (word ∷ words) = All (λ b. (b == 44) ≡ false) word × HaveNoComma words
