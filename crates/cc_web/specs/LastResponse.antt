-- How the last response of a connection says that it is.
--     Closes       a response is one that answers, or that with the field that says so
use Rattle.std.specs.Prelude.{◌≡◌, ◌⊎◌, ◌++◌, [], ◌∷◌, codes}
use Rattle.http_server.specs.Response.{fields_of}
use Rattle.http_server.specs.declared.response.Response.{Response}

pub record Closes {S : Type 0} (answers : Response → S → Type 0) (sent : Response) (after : S) : Type 0 where
  pub answer : Response
  pub answered : answers answer after
  pub status : sent.status ≡ answer.status
  pub body : sent.body.items ≡ answer.body.items
  pub fields : (fields_of sent ≡ fields_of answer) ⊎ (fields_of sent ≡ fields_of answer ++ (codes "connection", codes "close") ∷ [])
