-- What stands there once one more piece is appended.
--     one_more      after the pieces of one call, one more
--     where_ok      what stands there where it was appended
use Rattle.std.proofs.Common.{◌≡◌, ℕ, List, [], ◌∷◌, ◌++◌, ap, sym, ◌∙◌, append_assoc, append-nil, cond, Result, Ok, Err}
use Rattle.std.specs.List.{concat}
use Rattle.std.specs.Result.{OnOk, is_ok}

last_piece : (pieces : List (List ℕ)) (x : List ℕ) → concat pieces ++ x ≡ concat (pieces ++ x ∷ [])
last_piece [] x = sym (append-nil x)
last_piece (p ∷ pieces) x = append_assoc p (concat pieces) x ∙ ap (λ (ys : List ℕ). p ++ ys) (last_piece pieces x)

pub one_more : (old : List ℕ) (pieces : List (List ℕ)) (x : List ℕ) → (old ++ concat pieces) ++ x ≡ old ++ concat (pieces ++ x ∷ [])
one_more old pieces x = append_assoc old (concat pieces) x ∙ ap (λ (ys : List ℕ). old ++ ys) (last_piece pieces x)

pub where_ok : {T E : Type 0} (r : Result T E) (new more old : List ℕ) → new ≡ cond (is_ok r) more old → OnOk r (new ≡ more)
where_ok (Ok x) new more old e = e
where_ok (Err why) new more old e = tt
