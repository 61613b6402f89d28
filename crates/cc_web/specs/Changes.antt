-- What changes, as server-sent events (HTML Standard, 9.2).
--     stores_in               how many stores rows show, of all nodes together: at most 2^64 - 1
--     is_news                 whether they show another number of stores than the one that is known
--     change_event, no_event  the event that tells what stands now, and the stream that tells nothing
use Rattle.std.specs.Prelude.{ℕ, ◌+◌, ◌==◌, min, Bool, true, not, List, [], ◌∷◌, Option, Some, None, codes}
use Rattle.std.specs.Fmt.{decimal}
use Rattle.std.specs.List.{concat}
use Rattle.cc_views.specs.declared.row.Row.{Row}
use Rattle.cc_web.specs.Responses.{view_json}

-- a row's number is that of its node's last store
abbrev pub stores_in : List Row → ℕ
stores_in [] = 0
stores_in (row ∷ others) = min (row.number + stores_in others) 18446744073709551615

abbrev pub is_news : Option ℕ → List Row → Bool
is_news None rows = true
is_news (Some stores) rows = not (stores == stores_in rows)

-- who reads it asks again after so many milliseconds, and then names the event that it had
abbrev pub no_event : List ℕ
no_event = codes "retry: 100\n\n"

abbrev pub change_event : List Row → List ℕ
change_event rows = concat
    (codes "retry: 100\nid: " ∷ decimal (stores_in rows) ∷ codes "\ndata: " ∷ view_json rows None ∷ codes "\n\n" ∷ [])
