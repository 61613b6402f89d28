-- What the requests of a server do with the node's own sessions, one after the other.
--     Deed, Leads          one call of theirs;  calls that lead from sessions to sessions
--     IsOut                a request has that key
--     IsKept               no call gives that key back
--     IsUsed               an ask stands under the key, or may, or the session is past it
--     TakenOnceAtATime, NeverTakenAgain     the laws
use Rattle.std.specs.Prelude.{◌≡◌, ◌≢◌, ⊤, ◌<◌, ◌≤◌, ◌^◌, true, List, [], ◌∷◌, length}
use Rattle.cc_web.specs.OwnSessions.{place_of, row_at, is_out, Takes, given_back}
use Rattle.cc_web.specs.declared.key.AskKey.{AskKey}
use Rattle.cc_web.specs.declared.own_sessions.Fate.{Fate}
use Rattle.cc_web.specs.declared.own_sessions.Fate.TheVariants as fate
use Rattle.cc_web.specs.declared.own_sessions.OwnSession.{OwnSession}

pub data Deed : Type 0 where
  Took : (key : AskKey) → Deed
  Gave : (key : AskKey) (what : Fate) → Deed

abbrev pub Leads : List Deed → List OwnSession → List OwnSession → Type 0
Leads [] rows new = rows ≡ new
Leads (Took key ∷ deeds) rows new = (mid : List OwnSession) × Takes rows key mid × Leads deeds mid new
Leads (Gave key what ∷ deeds) rows new = (key.session < 2 ^ 64) × Leads deeds (given_back rows key what) new

pub record IsOut (rows : List OwnSession) (key : AskKey) : Type 0 where
  pub fits : key.session < 2 ^ 64
  pub within : place_of key.session < length rows
  pub out : is_out (row_at rows (place_of key.session)) key.request ≡ true

abbrev pub IsKept : AskKey → List Deed → Type 0
IsKept key [] = ⊤
IsKept key (Took other ∷ deeds) = IsKept key deeds
IsKept key (Gave other what ∷ deeds) = (other ≢ key) × IsKept key deeds

abbrev pub IsUsed : AskKey → Fate → Type 0
IsUsed key fate.Answered = ⊤
IsUsed key fate.Refused = ⊥
IsUsed key fate.Abandoned = ⊤
IsUsed key (fate.Behind last) = key.request ≤ last

-- until a key is given back, its session isn't taken again
abbrev pub TakenOnceAtATime : Type 0
TakenOnceAtATime = (rows mid new next : List OwnSession) (key other : AskKey) (deeds : List Deed)
    → Takes rows key mid → Leads deeds mid new → IsKept key deeds → Takes new other next → other.session ≢ key.session

-- a key under which an ask may stand, or that its session is past, isn't taken again, whatever comes
abbrev pub NeverTakenAgain : Type 0
NeverTakenAgain = (rows new next : List OwnSession) (key other : AskKey) (what : Fate) (deeds : List Deed)
    → IsOut rows key → IsUsed key what → Leads deeds (given_back rows key what) new → Takes new other next → other ≢ key
