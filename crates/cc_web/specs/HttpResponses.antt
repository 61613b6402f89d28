-- With which fields a response is sent.
--     sent_fields      those of a head, and, to a page of the allowed origin, those that let the page see the response
use Rattle.std.specs.Prelude.{ℕ, List, [], ◌∷◌, ◌++◌, Option, Some, None, codes}
use Rattle.http1.specs.Fields.{Header}
use Rattle.cc_web.specs.Responses.{form_value, field_name, field_value}
use Rattle.cc_web.specs.declared.response.WebField.{WebField}
use Rattle.cc_web.specs.declared.response.WebHead.{WebHead}

abbrev pub type_field : Option (List ℕ) → List Header
type_field None = []
type_field (Some value) = (codes "content-type", value) ∷ []

abbrev pub own_field : Option WebField → List Header
own_field None = []
own_field (Some field) = (field_name field, field_value field) ∷ []

-- nothing is kept, and nothing is taken for another type
abbrev pub common_fields : List Header
common_fields = (codes "cache-control", codes "no-store") ∷ (codes "x-content-type-options", codes "nosniff") ∷ []

-- the origin, where the request is one of a page of the allowed origin
abbrev pub origin_fields : Option (List ℕ) → List Header
origin_fields None = []
origin_fields (Some origin) =
    (codes "access-control-allow-origin", origin)
    ∷ (codes "access-control-allow-headers", codes "content-type, idempotency-key") ∷ (codes "vary", codes "origin") ∷ []

abbrev pub sent_fields : WebHead → Option (List ℕ) → List Header
sent_fields head origin = type_field (form_value head.form) ++ own_field head.field ++ common_fields ++ origin_fields origin
