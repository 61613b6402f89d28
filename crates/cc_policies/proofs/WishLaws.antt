-- What a table of wishes keeps.
--     peer_wished, session_wished      with one wish more
use Rattle.std.proofs.Common.{◌≡◌, ◌==◌, ◌≤◌, ◌<◌, ℕ, Bool, false, List, [], ◌∷◌, ◌++◌, length, refl, sym, ◌∙◌, arith}
use Rattle.std.proofs.lemmas.Bool.Decides.{nat_tests}
use Rattle.std.proofs.lemmas.List.{length-append}
use Rattle.cc_policies.specs.Wishes.{IsWishing, is_wished, wish_limit, AreOnce}

apart_last : (m n : ℕ) (waiting : List ℕ) → is_wished m waiting ≡ false → (m == n) ≡ false → is_wished m (waiting ++ n ∷ []) ≡ false
apart_last m n [] h apart = grind (arith, nat_tests)
apart_last m n (k ∷ rest) h apart = grind (arith, nat_tests, apart_last m n rest)

once_push : (n : ℕ) (waiting : List ℕ) → AreOnce waiting → is_wished n waiting ≡ false → AreOnce (waiting ++ n ∷ [])
once_push n [] once new = (refl, tt)
once_push n (k ∷ rest) once new = (apart_last k n rest once.0 (grind (arith, nat_tests)), once_push n rest once.1 (grind (arith, nat_tests)))

pub peer_wished : (peers sessions : List ℕ) (peer peer_room session_room more : ℕ) (b : Bool)
    → IsWishing (record { peers = peers; sessions = sessions }) peer_room session_room
    → b ≡ is_wished peer peers → b ≡ false → length peers < wish_limit → peer_room ≤ more
    → IsWishing (record { peers = peers ++ peer ∷ []; sessions = sessions }) more session_room
peer_wished peers sessions peer peer_room session_room more b is told new below le = record {
  peers_once = once_push peer peers is.peers_once (sym told ∙ new);
  sessions_once = is.sessions_once;
  peers_fit = omega (arith, length-append peers (peer ∷ []), below);
  sessions_fit = is.sessions_fit;
  peer_room = omega (arith, is.peer_room, le);
  session_room = is.session_room;
}

pub session_wished : (peers sessions : List ℕ) (session peer_room session_room more : ℕ) (b : Bool)
    → IsWishing (record { peers = peers; sessions = sessions }) peer_room session_room
    → b ≡ is_wished session sessions → b ≡ false → length sessions < wish_limit → session_room ≤ more
    → IsWishing (record { peers = peers; sessions = sessions ++ session ∷ [] }) peer_room more
session_wished peers sessions session peer_room session_room more b is told new below le = record {
  peers_once = is.peers_once;
  sessions_once = once_push session sessions is.sessions_once (sym told ∙ new);
  peers_fit = is.peers_fit;
  sessions_fit = omega (arith, length-append sessions (session ∷ []), below);
  peer_room = is.peer_room;
  session_room = omega (arith, is.session_room, le);
}
