-- What a method asks for at a place.
use Rattle.std.specs.Prelude.{ℕ, Bool, true, false, ◌&&◌, ◌||◌, List, Option, Some, None, codes, if◌then◌else◌}
use Rattle.cc_messages.specs.declared.command.Command.TheVariants as command
use Rattle.cc_web.specs.Words.{is_text}
use Rattle.cc_web.specs.declared.place.Place.{Place}
use Rattle.cc_web.specs.declared.place.Place.TheVariants as place
use Rattle.cc_web.specs.declared.call.Call.{Call}
use Rattle.cc_web.specs.declared.call.Call.TheVariants as call
use Rattle.cc_web.specs.declared.call.Write.TheVariants as write

abbrev pub reading_of : Place → Option Call
reading_of place.Overview = Some call.Overview
reading_of place.Text = None
reading_of place.Max = Some (call.Read command.ReadMax)
reading_of place.Flag = Some (call.Read command.ReadFlag)
reading_of place.Set = Some (call.Read command.ReadSet)
reading_of place.View = Some (call.Read command.Collect)
reading_of place.Snapshot = Some call.Snapshot
reading_of place.Changes = Some call.Changes
reading_of (place.Session session) = Some (call.LastRequest session)

-- what stands is replaced, or raised
abbrev pub putting_of : Place → Option Call
putting_of place.Text = Some (call.Write write.Text)
putting_of place.Max = Some (call.Write write.Max)
putting_of place.Flag = Some (call.Write write.Flag)
putting_of _ = None

-- a number is added
abbrev pub posting_of : Place → Option Call
posting_of place.Set = Some (call.Write write.Member)
posting_of _ = None

unfoldable pub call_of : Place → List ℕ → Bool → Option Call
call_of place method is_allowed =
    if is_text (codes "GET") method || is_text (codes "HEAD") method then reading_of place else (
    if is_text (codes "PUT") method then putting_of place else (
    if is_text (codes "POST") method then posting_of place else (
    if is_text (codes "OPTIONS") method && is_allowed then Some (call.Preflight place) else None)))

abbrev pub is_write : Call → Bool
is_write (call.Write what) = true
is_write _ = false

abbrev pub is_one_ask : Call → Bool
is_one_ask (call.Write what) = true
is_one_ask (call.Read reading) = true
is_one_ask _ = false
