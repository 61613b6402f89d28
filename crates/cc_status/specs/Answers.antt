-- What an answer is, by the grammar of HTTP/1.x.
use Rattle.std.specs.Prelude.{ℕ, Bool, true, false, List, [], ◌∷◌, ◌++◌, length, Some, codes, decimal}
use Rattle.httparse.specs.Ascii.{space}
use Rattle.httparse.specs.Grammar.{crlf, Field, ResponseHead, print_response}
use Rattle.cc_status.specs.declared.page.Page.{Page}
use Rattle.cc_status.specs.declared.page.Page.TheVariants.{Home, Status, View, Changes, Metrics, Health, Ready}
use Rattle.cc_status.specs.declared.answer.Outcome.{Outcome}
use Rattle.cc_status.specs.declared.answer.Outcome.TheVariants.{Served, NotReady}
use Rattle.cc_status.specs.declared.request.Wrong.{Wrong}
use Rattle.cc_status.specs.declared.request.Wrong.TheVariants.{Malformed, NoPage, Method, TooLong, Version}

-- a field with that name and value
abbrev pub field : List ℕ → List ℕ → Field
field name value = record { name = name; raw = space ∷ value; end = crlf }

-- an answer's head: its status, why, and its fields
abbrev pub head : List ℕ → List ℕ → List Field → ResponseHead
head digits reason fields = record {
  blank = [];
  minor = 1;
  digits = digits;
  reason = Some reason;
  line_end = crlf;
  fields = fields;
  last = crlf;
}

-- the status of an outcome
abbrev pub digits_of : Outcome → List ℕ
digits_of Served = codes "200"
digits_of NotReady = codes "503"

abbrev pub reason_of : Outcome → List ℕ
reason_of Served = codes "OK"
reason_of NotReady = codes "Service Unavailable"

-- in which form a page is written
abbrev pub form_of : Page → List ℕ
form_of Home = codes "text/html; charset=utf-8"
form_of Status = codes "application/json"
form_of View = codes "application/json"
form_of Changes = codes "text/event-stream"
form_of Metrics = codes "text/plain; version=0.0.4; charset=utf-8"
form_of Health = codes "text/plain; charset=utf-8"
form_of Ready = codes "text/plain; charset=utf-8"

-- what each answer says: it isn't kept, the connection ends with it, and it is what its form says
abbrev pub common_fields : List Field
common_fields =
    field (codes "Cache-Control") (codes "no-store")
    ∷ field (codes "Connection") (codes "close")
    ∷ field (codes "X-Content-Type-Options") (codes "nosniff")
    ∷ []

-- a page that a browser runs loads nothing but itself, and asks this node alone
abbrev pub policy_fields : Page → List Field
policy_fields Home =
    field (codes "Content-Security-Policy") (
    codes "default-src 'none'; style-src 'unsafe-inline'; script-src 'unsafe-inline'; connect-src 'self'; "
    ++ codes "img-src data:; base-uri 'none'; form-action 'none'; frame-ancestors 'none'") ∷ []
policy_fields Status = []
policy_fields View = []
policy_fields Changes = []
policy_fields Metrics = []
policy_fields Health = []
policy_fields Ready = []

-- how many bytes follow the head; a stream of events has no end that is known
abbrev pub length_fields : Bool → ℕ → List Field
length_fields true size = []
length_fields false size = field (codes "Content-Length") (decimal size) ∷ []

abbrev pub is_stream : Page → Bool
is_stream Home = false
is_stream Status = false
is_stream View = false
is_stream Changes = true
is_stream Metrics = false
is_stream Health = false
is_stream Ready = false

-- the head of an answer that gives a page of so many bytes
abbrev pub page_head : Page → Outcome → ℕ → ResponseHead
page_head page outcome size = head (digits_of outcome) (reason_of outcome)
    (field (codes "Content-Type") (form_of page)
    ∷ (common_fields ++ (policy_fields page ++ length_fields (is_stream page) size)))

-- an answer to HEAD has the head alone
abbrev pub body_spelling : Bool → List ℕ → List ℕ
body_spelling true body = []
body_spelling false body = body

abbrev pub answer_spelling : ResponseHead → Bool → List ℕ → List ℕ
answer_spelling h is_head body = print_response h ++ body_spelling is_head body

-- the answer that gives a page, or says why the node isn't ready
abbrev pub page_answer : Page → Outcome → Bool → List ℕ → List ℕ
page_answer page outcome is_head body = answer_spelling (page_head page outcome (length body)) is_head body

-- the status of what can't be served
abbrev pub wrong_digits : Wrong → List ℕ
wrong_digits Malformed = codes "400"
wrong_digits NoPage = codes "404"
wrong_digits Method = codes "405"
wrong_digits TooLong = codes "431"
wrong_digits Version = codes "505"

abbrev pub wrong_reason : Wrong → List ℕ
wrong_reason Malformed = codes "Bad Request"
wrong_reason NoPage = codes "Not Found"
wrong_reason Method = codes "Method Not Allowed"
wrong_reason TooLong = codes "Request Header Fields Too Large"
wrong_reason Version = codes "HTTP Version Not Supported"

-- which methods there are, where another was asked by
abbrev pub allow_fields : Wrong → List Field
allow_fields Malformed = []
allow_fields NoPage = []
allow_fields Method = field (codes "Allow") (codes "GET, HEAD") ∷ []
allow_fields TooLong = []
allow_fields Version = []

-- the head of an answer that says in so many bytes what is wrong
abbrev pub wrong_head : Wrong → ℕ → ResponseHead
wrong_head wrong size = head (wrong_digits wrong) (wrong_reason wrong)
    (field (codes "Content-Type") (form_of Health)
    ∷ (common_fields ++ (allow_fields wrong ++ length_fields false size)))

-- what is told of it, in a line
abbrev pub wrong_text : Wrong → List ℕ
wrong_text Malformed = codes "no request that is read here: GET or HEAD by HTTP/1.1, without a body\n"
wrong_text NoPage = codes "no such page: see /\n"
wrong_text Method = codes "no such method: GET and HEAD alone\n"
wrong_text TooLong = codes "the head of the request is too long\n"
wrong_text Version = codes "no such version: HTTP/1.0 and HTTP/1.1 alone\n"

-- the answer that says what is wrong
abbrev pub wrong_answer : Wrong → Bool → List ℕ
wrong_answer wrong is_head = answer_spelling (wrong_head wrong (length (wrong_text wrong))) is_head (wrong_text wrong)
