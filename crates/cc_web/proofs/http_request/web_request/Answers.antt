use Rattle.std.proofs.Common.{◌≡◌, ◌∙◌, ◌||◌, ℕ, List, Bool, true, false, Result, Ok, Err, sym, ap, refl, codes}
use Rattle.std.proofs.lemmas.Bool.{or_from}
use Rattle.std.specs.Result.{IsErrAnd}
use Rattle.http_uri.specs.Uri.{uri_path, uri_query}
use Rattle.http.specs.Request.{head_of}
use Rattle.cc_web.specs.Requests.{stands_twice, has_double, value_under}
use Rattle.cc_web.proofs.http_request.web_request.Goals as goal

pub returns : goal.returns
returns c =
    let same = c.headers-headers.ensures in (
      record {
        method = c.as_str.ensures.value ∙ c.method.ensures;
        path = c.path.ensures.value ∙ ap uri_path c.uri.ensures;
        query = c.query.ensures.value ∙ ap uri_query c.uri-2.ensures;
        accept = c.in_ok-accept.ensures.value ∙ ap (λ h. value_under h (codes "accept")) same;
        content_type = c.in_ok-content_type.ensures.value ∙ ap (λ h. value_under h (codes "content-type")) same;
        idempotency_key = c.in_ok-idempotency_key.ensures.value ∙ ap (λ h. value_under h (codes "idempotency-key")) same;
        origin = c.in_ok-origin.ensures.value ∙ ap (λ h. value_under h (codes "origin")) same;
        sec_fetch_site = c.in_ok-sec_fetch_site.ensures.value ∙ ap (λ h. value_under h (codes "sec-fetch-site")) same;
        last_event_id = c.in_ok-last_event_id.ensures.value ∙ ap (λ h. value_under h (codes "last-event-id")) same;
        body = c.as_slice.ensures ∙ c.body.ensures;
      },
      or_from _ _ (sym (ap (λ h. stands_twice h (codes "accept")) same) ∙ c.in_ok-accept.ensures.once)
          (or_from _ _ (sym (ap (λ h. stands_twice h (codes "content-type")) same) ∙ c.in_ok-content_type.ensures.once)
          (or_from _ _ (sym (ap (λ h. stands_twice h (codes "idempotency-key")) same) ∙ c.in_ok-idempotency_key.ensures.once)
          (or_from _ _ (sym (ap (λ h. stands_twice h (codes "origin")) same) ∙ c.in_ok-origin.ensures.once)
          (or_from _ _ (sym (ap (λ h. stands_twice h (codes "sec-fetch-site")) same) ∙ c.in_ok-sec_fetch_site.ensures.once)
          (or_from _ _ (sym (ap (λ h. stands_twice h (codes "last-event-id")) same) ∙ c.in_ok-last_event_id.ensures.once) refl))))),
    )

or_first : (x y : Bool) → x ≡ true → (x || y) ≡ true
or_first true y e = refl
or_first false y e = absurd cc

err_is : {T E : Type 0} {e : E} (r : Result T E) → IsErrAnd r (λ y. y ≡ e) → r ≡ Err e
err_is (Ok x) h = absurd h
err_is (Err y) h = ap Err h

or_last : (x y : Bool) → y ≡ true → (x || y) ≡ true
or_last true y e = refl
or_last false y e = e

pub returns-in_err-accept : goal.returns-in_err-accept
returns-in_err-accept c =
    let other : List ℕ → Bool = stands_twice (head_of c.args.request.now).headers in
    let twice : other (codes "accept") ≡ true =
    sym (ap (λ h. stands_twice h (codes "accept")) c.headers-headers.ensures) ∙ c.in_err-accept.ensures.twice in
    let double : has_double (head_of c.args.request.now).headers ≡ true =
    or_first (other (codes "accept")) _ twice in
    rw (err_is c.from_residual.result c.from_residual.ensures.1) (c.in_err-accept.ensures.fault, double)

pub returns-in_err-content_type : goal.returns-in_err-content_type
returns-in_err-content_type c =
    let other : List ℕ → Bool = stands_twice (head_of c.args.request.now).headers in
    let twice : other (codes "content-type") ≡ true =
    sym (ap (λ h. stands_twice h (codes "content-type")) c.headers-headers.ensures) ∙ c.in_err-content_type.ensures.twice in
    let double : has_double (head_of c.args.request.now).headers ≡ true =
    or_last (other (codes "accept")) _ (or_first (other (codes "content-type")) _ twice) in
    rw (err_is c.from_residual-in_err-content_type.result c.from_residual-in_err-content_type.ensures.1) (c.in_err-content_type.ensures.fault, double)

pub returns-in_err-idempotency_key : goal.returns-in_err-idempotency_key
returns-in_err-idempotency_key c =
    let other : List ℕ → Bool = stands_twice (head_of c.args.request.now).headers in
    let twice : other (codes "idempotency-key") ≡ true =
    sym (ap (λ h. stands_twice h (codes "idempotency-key")) c.headers-headers.ensures) ∙ c.in_err-idempotency_key.ensures.twice in
    let double : has_double (head_of c.args.request.now).headers ≡ true =
    or_last (other (codes "accept")) _ (or_last (other (codes "content-type")) _ (or_first (other (codes "idempotency-key")) _ twice)) in
    rw (err_is c.from_residual-in_err-idempotency_key.result c.from_residual-in_err-idempotency_key.ensures.1) (c.in_err-idempotency_key.ensures.fault, double)

pub returns-in_err-origin : goal.returns-in_err-origin
returns-in_err-origin c =
    let other : List ℕ → Bool = stands_twice (head_of c.args.request.now).headers in
    let twice : other (codes "origin") ≡ true =
    sym (ap (λ h. stands_twice h (codes "origin")) c.headers-headers.ensures) ∙ c.in_err-origin.ensures.twice in
    let double : has_double (head_of c.args.request.now).headers ≡ true =
    or_last (other (codes "accept")) _ (or_last (other (codes "content-type")) _ (or_last (other (codes "idempotency-key")) _ (or_first (other (codes "origin")) _ twice))) in
    rw (err_is c.from_residual-in_err-origin.result c.from_residual-in_err-origin.ensures.1) (c.in_err-origin.ensures.fault, double)

pub returns-in_err-sec_fetch_site : goal.returns-in_err-sec_fetch_site
returns-in_err-sec_fetch_site c =
    let other : List ℕ → Bool = stands_twice (head_of c.args.request.now).headers in
    let twice : other (codes "sec-fetch-site") ≡ true =
    sym (ap (λ h. stands_twice h (codes "sec-fetch-site")) c.headers-headers.ensures) ∙ c.in_err-sec_fetch_site.ensures.twice in
    let double : has_double (head_of c.args.request.now).headers ≡ true =
    or_last (other (codes "accept")) _ (or_last (other (codes "content-type")) _ (or_last (other (codes "idempotency-key")) _ (or_last (other (codes "origin")) _ (or_first (other (codes "sec-fetch-site")) _ twice)))) in
    rw (err_is c.from_residual-in_err-sec_fetch_site.result c.from_residual-in_err-sec_fetch_site.ensures.1) (c.in_err-sec_fetch_site.ensures.fault, double)

pub returns-in_err-last_event_id : goal.returns-in_err-last_event_id
returns-in_err-last_event_id c =
    let other : List ℕ → Bool = stands_twice (head_of c.args.request.now).headers in
    let twice : other (codes "last-event-id") ≡ true =
    sym (ap (λ h. stands_twice h (codes "last-event-id")) c.headers-headers.ensures) ∙ c.in_err-last_event_id.ensures.twice in
    let double : has_double (head_of c.args.request.now).headers ≡ true =
    or_last (other (codes "accept")) _ (or_last (other (codes "content-type")) _ (or_last (other (codes "idempotency-key")) _ (or_last (other (codes "origin")) _ (or_last (other (codes "sec-fetch-site")) _ (or_first (other (codes "last-event-id")) _ twice))))) in
    rw (err_is c.from_residual-in_err-last_event_id.result c.from_residual-in_err-last_event_id.ensures.1) (c.in_err-last_event_id.ensures.fault, double)
