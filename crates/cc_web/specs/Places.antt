-- What there is, and at which path.
use Rattle.std.specs.Prelude.{ℕ, List, Option, Some, None, nat_lt, codes, if◌then◌else◌}
use Rattle.std.specs.Option.{option_and_then}
use Rattle.cc_web.specs.Words.{is_text, behind, number_in}
use Rattle.cc_web.specs.declared.place.Place.{Place}
use Rattle.cc_web.specs.declared.place.Place.TheVariants as place

-- a session of a client is at least 1
abbrev pub session_place : ℕ → Option Place
session_place session = if nat_lt 0 session then Some (place.Session session) else None

unfoldable pub session_at : List ℕ → Option Place
session_at path = option_and_then session_place (option_and_then (number_in 64) (behind (codes "/v1/sessions/") path))

unfoldable pub place_at : List ℕ → Option Place
place_at path =
    if is_text (codes "/v1/") path then Some place.Overview else (
    if is_text (codes "/v1/text") path then Some place.Text else (
    if is_text (codes "/v1/max") path then Some place.Max else (
    if is_text (codes "/v1/flag") path then Some place.Flag else (
    if is_text (codes "/v1/set") path then Some place.Set else (
    if is_text (codes "/v1/view") path then Some place.View else (
    if is_text (codes "/v1/snapshot") path then Some place.Snapshot else (
    if is_text (codes "/v1/changes") path then Some place.Changes else session_at path)))))))

abbrev pub methods_of : Place → List ℕ
methods_of place.Overview = codes "GET, HEAD"
methods_of place.Text = codes "PUT"
methods_of place.Max = codes "GET, HEAD, PUT"
methods_of place.Flag = codes "GET, HEAD, PUT"
methods_of place.Set = codes "GET, HEAD, POST"
methods_of place.View = codes "GET, HEAD"
methods_of place.Snapshot = codes "GET, HEAD"
methods_of place.Changes = codes "GET, HEAD"
methods_of (place.Session session) = codes "GET, HEAD"
