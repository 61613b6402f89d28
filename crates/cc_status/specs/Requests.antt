-- What a request asks for, by the grammar of HTTP/1.x.
use Rattle.std.specs.Prelude.{◌≡◌, ◌≢◌, ℕ, ◌<◌, ◌≤◌, ◌⊎◌, ◌==◌, Bool, true, false, List, All, length, map, codes}
use Rattle.std.specs.List.{before_first}
use Rattle.std.specs.Char.{to_ascii_lowercase}
use Rattle.httparse.specs.Grammar.{RequestHead, print_request, ReadsRequest, HasNoRequest, NeverHasRequest, MayBecomeRequest}
use Rattle.httparse.specs.Spans.{name_and_value, RequestExceeds}
use Rattle.cc_status.specs.declared.page.Page.{Page}
use Rattle.cc_status.specs.declared.request.Asked.{Asked}
use Rattle.cc_status.specs.declared.request.Asked.TheVariants as asked
use Rattle.cc_status.specs.declared.request.Wrong.TheVariants as wrong
use Rattle.cc_status.specs.Pages.{path_of}

-- how many bytes a head has at most, and how many fields
abbrev pub head_limit : ℕ
head_limit = 8192

abbrev pub field_limit : ℕ
field_limit = 64

-- the path of a target: what stands before its query, `?` and on
abbrev pub path_in : List ℕ → List ℕ
path_in target = before_first (λ b. b == 63) target

-- the text is the name, in any case
abbrev pub IsNamed : List ℕ → List ℕ → Type 0
IsNamed name text = map to_ascii_lowercase text ≡ map to_ascii_lowercase name

-- the field, a name and a value, says nothing of a body, or that it has no bytes
pub record BringsNoBody (field : List ℕ × List ℕ) : Type 0 where
  pub coding : ¬ (IsNamed (codes "transfer-encoding") field.0)
  pub bytes : IsNamed (codes "content-length") field.0 → field.1 ≡ codes "0"

-- the fields say of no body
abbrev pub BringNoBody : List (List ℕ × List ℕ) → Type 0
BringNoBody fields = All BringsNoBody fields

-- the method that asks for a page, or for its head alone
abbrev pub method_of : Bool → List ℕ
method_of true = codes "HEAD"
method_of false = codes "GET"

-- the method asks for a page
abbrev pub IsReading : List ℕ → Type 0
IsReading method = (is_head : Bool) × (method ≡ method_of is_head)

-- the path is that of no page
abbrev pub IsNowhere : List ℕ → Type 0
IsNowhere path = (page : Page) → path ≢ path_of page

-- that is what a method, a path and the names and values of fields ask for: it is one thing, and no other
abbrev pub IsAskedFor : List ℕ → List ℕ → List (List ℕ × List ℕ) → Asked → Type 0
IsAskedFor method path fields asked.More = ⊥
IsAskedFor method path fields (asked.Page page is_head) =
    (method ≡ method_of is_head) × BringNoBody fields × (path ≡ path_of page)
IsAskedFor method path fields (asked.Wrong wrong.Malformed is_head) =
    (method ≡ method_of is_head) × ¬ (BringNoBody fields)
IsAskedFor method path fields (asked.Wrong wrong.NoPage is_head) =
    (method ≡ method_of is_head) × BringNoBody fields × IsNowhere path
IsAskedFor method path fields (asked.Wrong wrong.Method is_head) = ¬ (IsReading method) × (is_head ≡ false)
IsAskedFor method path fields (asked.Wrong wrong.TooLong is_head) = ⊥
IsAskedFor method path fields (asked.Wrong wrong.Version is_head) = ⊥

-- that is what a head asks for
abbrev pub IsAskedBy : RequestHead → Asked → Type 0
IsAskedBy h what = IsAskedFor h.method (path_in h.target) (map name_and_value h.fields) what

-- the head is read whole
abbrev pub IsShort : RequestHead → Type 0
IsShort h = (length (print_request h) ≤ head_limit) × (length h.fields ≤ field_limit)

-- the bytes begin with such a head, which asks for that
abbrev pub BeginsWithOneFor : List ℕ → Asked → Type 0
BeginsWithOneFor bytes what =
    (h : RequestHead) × (rest : List ℕ) × ReadsRequest bytes h rest × IsShort h × IsAskedBy h what

-- a head at the front of the bytes has too many bytes or too many fields, now or in whatever way it is ended
abbrev pub IsTooLong : List ℕ → Type 0
IsTooLong bytes =
    ((h : RequestHead) × (rest : List ℕ) × ReadsRequest bytes h rest × (head_limit < length (print_request h)))
    ⊎ ((head_limit ≤ length bytes × HasNoRequest bytes) ⊎ RequestExceeds field_limit bytes)

-- that is what the bytes that came so far ask for
abbrev pub IsDue : List ℕ → Asked → Type 0
IsDue bytes asked.More = (length bytes < head_limit) × HasNoRequest bytes × MayBecomeRequest bytes
IsDue bytes (asked.Page page is_head) = BeginsWithOneFor bytes (asked.Page page is_head)
IsDue bytes (asked.Wrong wrong.Malformed is_head) =
    BeginsWithOneFor bytes (asked.Wrong wrong.Malformed is_head) ⊎ (NeverHasRequest bytes × (is_head ≡ false))
IsDue bytes (asked.Wrong wrong.NoPage is_head) = BeginsWithOneFor bytes (asked.Wrong wrong.NoPage is_head)
IsDue bytes (asked.Wrong wrong.Method is_head) = BeginsWithOneFor bytes (asked.Wrong wrong.Method is_head)
IsDue bytes (asked.Wrong wrong.TooLong is_head) = IsTooLong bytes × (is_head ≡ false)
IsDue bytes (asked.Wrong wrong.Version is_head) = NeverHasRequest bytes × (is_head ≡ false)
