-- What workers ask of the flusher.
--     Wishing             the peers that wait for what was heard from them, and the sessions that wait for their last answer
--     wish_limit          how many of either kind wait at most
--     is_wished, wished   whether somebody waits;  one more, behind all others, unless it waits already
--     AreOnce             none is there twice
--     IsWishing           what every table of wishes keeps
use Rattle.std.specs.Prelude.{◌≡◌, ◌≤◌, ℕ, ◌==◌, ◌||◌, nat_le, Bool, false, List, [], ◌∷◌, ◌++◌, length, if◌then◌else◌, ⊤}
use Rattle.std.specs.List.{list_any}

pub record Wishing : Type 0 where
  pub peers : List ℕ
  pub sessions : List ℕ

abbrev pub no_wishes : Wishing
no_wishes = record { peers = []; sessions = [] }

-- as many as a node has links to others, and as many as it has sessions
abbrev pub wish_limit : ℕ
wish_limit = 256

abbrev pub is_wished : ℕ → List ℕ → Bool
is_wished n waiting = list_any (λ other. other == n) waiting

abbrev pub wished : ℕ → List ℕ → List ℕ
wished n waiting = if is_wished n waiting || nat_le wish_limit (length waiting) then waiting else waiting ++ n ∷ []

abbrev pub AreOnce : List ℕ → Type 0
AreOnce [] = ⊤
AreOnce (n ∷ rest) = (is_wished n rest ≡ false) × AreOnce rest

pub record IsWishing (w : Wishing) (peer_capacity session_capacity : ℕ) : Type 0 where
  pub peers_once : AreOnce w.peers
  pub sessions_once : AreOnce w.sessions
  pub peers_fit : length w.peers ≤ wish_limit
  pub sessions_fit : length w.sessions ≤ wish_limit
  pub peer_room : wish_limit ≤ peer_capacity
  pub session_room : wish_limit ≤ session_capacity
