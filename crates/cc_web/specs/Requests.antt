-- What is read of a request over HTTP: its line, the fields that are looked at, and its body.
--     stands_twice, has_double     more than one value stands under a name;  under one that is looked at
--     IsRequest                    the parts are those that were sent
--     Reads                        what is read of a request
--     origin_of                    the origin of a page that may see the response
use Rattle.std.specs.Prelude.{◌≡◌, ℕ, Bool, true, false, List, [], ◌∷◌, length, Option, Some, None, option_map, Result, Ok, Err, bytes_eq, nat_lt, codes, if◌then◌else◌}
use Rattle.std.specs.List.{list_any}
use Rattle.std.specs.Option.{option_copied}
use Rattle.http_header.specs.FieldValue.{FieldValue}
use Rattle.http_header.specs.HeaderMap.{Entries, get, get_all}
use Rattle.http_uri.specs.Uri.{uri_path, uri_query}
use Rattle.http.specs.Request.{head_of, body_of}
use Rattle.http.specs.declared.request.Request.{Request}
use Rattle.cc_web.specs.declared.fault.WebFault.{WebFault}
use Rattle.cc_web.specs.declared.fault.WebFault.TheVariants as fault
use Rattle.cc_web.specs.declared.request.WebRequest.{WebRequest}
use Rattle.cc_web.specs.declared.request.WebSettings.{WebSettings}

abbrev pub stands_twice : Entries FieldValue → List ℕ → Bool
stands_twice headers name = nat_lt 1 (length (get_all headers name))

-- the fields that are looked at
abbrev pub read_names : List (List ℕ)
read_names = codes "accept" ∷ codes "content-type" ∷ codes "idempotency-key" ∷ codes "origin" ∷ codes "sec-fetch-site"
    ∷ codes "last-event-id" ∷ []

abbrev pub has_double : Entries FieldValue → Bool
has_double headers = list_any (stands_twice headers) read_names

abbrev pub value_under : Entries FieldValue → List ℕ → Option (List ℕ)
value_under headers name = option_map (λ v. v.bytes) (get headers name)

-- a path of an absolute form is what stands behind its host, and a fragment is no part of it
pub record IsRequest (sent : Request (List ℕ)) (r : WebRequest) : Type 0 where
  pub method : r.method.now ≡ (head_of sent).method
  pub path : r.path.now ≡ uri_path (head_of sent).uri
  pub query : option_copied r.query ≡ uri_query (head_of sent).uri
  pub accept : option_copied r.accept ≡ value_under (head_of sent).headers (codes "accept")
  pub content_type : option_copied r.content_type ≡ value_under (head_of sent).headers (codes "content-type")
  pub idempotency_key : option_copied r.idempotency_key ≡ value_under (head_of sent).headers (codes "idempotency-key")
  pub origin : option_copied r.origin ≡ value_under (head_of sent).headers (codes "origin")
  pub sec_fetch_site : option_copied r.sec_fetch_site ≡ value_under (head_of sent).headers (codes "sec-fetch-site")
  pub last_event_id : option_copied r.last_event_id ≡ value_under (head_of sent).headers (codes "last-event-id")
  pub body : r.body.now ≡ body_of sent

-- the one fault that is seen before cc_web sees the request
abbrev pub Reads : Request (List ℕ) → Result WebRequest WebFault → Type 0
Reads sent (Ok r) = IsRequest sent r × (has_double (head_of sent).headers ≡ false)
Reads sent (Err why) = (why ≡ fault.Twice) × (has_double (head_of sent).headers ≡ true)

-- one origin, and the allowed one
abbrev pub allowed_of : Option (List ℕ) → List FieldValue → Option (List ℕ)
allowed_of (Some allowed) (value ∷ []) = if bytes_eq value.bytes allowed then Some value.bytes else None
allowed_of _ _ = None

-- the origin of a page that may see the response
abbrev pub origin_of : WebSettings → Request (List ℕ) → Option (List ℕ)
origin_of settings sent = allowed_of (option_copied settings.allowed_origin) (get_all (head_of sent).headers (codes "origin"))
