-- The texts of fields are names and values of HTTP, and the codes are those of statuses.
use Rattle.std.proofs.Common.{◌≡◌, ℕ, Bool, true, List, Option, Some, None, refl, sym, subst, ◌≤◌, ◌<◌, lit≤, lit<}
use Rattle.std.specs.Bool.{IsTrue}
use Rattle.http.specs.StatusCode.{IsStatusCode}
use Rattle.http_header.specs.FieldName.{is_header_name}
use Rattle.http_header.specs.FieldValue.{is_visible_text}
use Rattle.cc_web.specs.Places.{methods_of}
use Rattle.cc_web.specs.Responses.{form_value, field_name, field_value}
use Rattle.cc_web.specs.Statuses.{code_of}
use Rattle.cc_web.specs.declared.place.Place.{Place}
use Rattle.cc_web.specs.declared.place.Place.TheVariants as place
use Rattle.cc_web.specs.declared.response.Form.{Form}
use Rattle.cc_web.specs.declared.response.Form.TheVariants as form
use Rattle.cc_web.specs.declared.response.WebField.{WebField}
use Rattle.cc_web.specs.declared.response.WebField.TheVariants as header
use Rattle.cc_web.specs.declared.status.Status.{Status}
use Rattle.cc_web.specs.declared.status.Status.TheVariants as status

abbrev visible_if_any : Option (List ℕ) → Bool
visible_if_any None = true
visible_if_any (Some value) = is_visible_text value

visible_form : (f : Form) → visible_if_any (form_value f) ≡ true
visible_form form.Json = refl
visible_form form.Problem = refl
visible_form form.Html = refl
visible_form form.Events = refl
visible_form form.Nothing = refl

pub form_is_visible : (f : Form) (value : List ℕ) → Some value ≡ form_value f → is_visible_text value ≡ true
form_is_visible f value same = subst (λ (o : Option (List ℕ)). visible_if_any o ≡ true) (sym same) (visible_form f)

pub name_is_name : (f : WebField) → is_header_name (field_name f) ≡ true
name_is_name (header.Allow p) = refl
name_is_name header.RetryAfter = refl
name_is_name header.Policy = refl
name_is_name (header.AllowMethods p) = refl

methods_are_visible : (p : Place) → is_visible_text (methods_of p) ≡ true
methods_are_visible place.Overview = refl
methods_are_visible place.Text = refl
methods_are_visible place.Max = refl
methods_are_visible place.Flag = refl
methods_are_visible place.Set = refl
methods_are_visible place.View = refl
methods_are_visible place.Snapshot = refl
methods_are_visible place.Changes = refl
methods_are_visible (place.Session session) = refl

pub value_is_visible : (f : WebField) → is_visible_text (field_value f) ≡ true
value_is_visible (header.Allow p) = methods_are_visible p
value_is_visible header.RetryAfter = refl
value_is_visible header.Policy = refl
value_is_visible (header.AllowMethods p) = methods_are_visible p

pub code_is_status : (s : Status) → IsStatusCode (code_of s)
code_is_status status.Ok = (lit≤ tt, lit< tt)
code_is_status status.NoContent = (lit≤ tt, lit< tt)
code_is_status status.BadRequest = (lit≤ tt, lit< tt)
code_is_status status.Forbidden = (lit≤ tt, lit< tt)
code_is_status status.NotFound = (lit≤ tt, lit< tt)
code_is_status status.NotAllowed = (lit≤ tt, lit< tt)
code_is_status status.Conflict = (lit≤ tt, lit< tt)
code_is_status status.Gone = (lit≤ tt, lit< tt)
code_is_status status.TooLarge = (lit≤ tt, lit< tt)
code_is_status status.Unsupported = (lit≤ tt, lit< tt)
code_is_status status.Fault = (lit≤ tt, lit< tt)
code_is_status status.Unavailable = (lit≤ tt, lit< tt)
code_is_status status.Late = (lit≤ tt, lit< tt)
