-- Heads as they are written, line by line.
use Rattle.std.proofs.Common.{◌≡◌, ℕ, List, ◌∷◌, ◌++◌, refl, sym, ◌∙◌, ap, append_assoc, append-nil, Bool, true, false, decimal, codes}
use Rattle.std.proofs.lemmas.Grind.{flat_map-append}
use Rattle.httparse.specs.Ascii.{crlf_bytes, space}
use Rattle.httparse.specs.Grammar.{Field, crlf, print_field, print_section, print_response}
use Rattle.cc_status.specs.Answers.{head, length_fields}
use Rattle.cc_status.specs.Lines.{status_line, lines, length_lines}

-- what follows the status line, and what follows its digits
first_line : (digits reason rest : List ℕ)
    → ((digits ++ (space ∷ reason)) ++ crlf_bytes) ++ rest ≡ (digits ++ (space ∷ (reason ++ crlf_bytes))) ++ rest
first_line digits reason rest = ap (λ text. text ++ rest) (append_assoc digits (space ∷ reason) crlf_bytes)

length_line : (is_stream : Bool) (size : ℕ) → lines (length_fields is_stream size) ≡ length_lines is_stream size
length_line true size = refl
length_line false size = append-nil (codes "Content-Length: " ++ (decimal size ++ crlf_bytes))

-- the fields of some, of others and of a last kind, and the end of the head
section : (form : Field) (common other last : List Field)
    → print_section (form ∷ (common ++ (other ++ last))) crlf
    ≡ print_field form ++ (lines common ++ (lines other ++ (lines last ++ crlf_bytes)))
section form common other last =
    append_assoc (print_field form) (lines (common ++ (other ++ last))) crlf_bytes
    ∙ ap (λ text. print_field form ++ text)
    (ap (λ text. text ++ crlf_bytes)
    (flat_map-append print_field common (other ++ last)
    ∙ ap (λ text. lines common ++ text) (flat_map-append print_field other last))
    ∙ (append_assoc (lines common) (lines other ++ lines last) crlf_bytes
    ∙ ap (λ text. lines common ++ text) (append_assoc (lines other) (lines last) crlf_bytes)))

pub head-lines : (digits reason : List ℕ) (form : Field) (common other : List Field) (is_stream : Bool) (size : ℕ)
    → print_response (head digits reason (form ∷ (common ++ (other ++ length_fields is_stream size))))
    ≡ status_line digits reason ++ (print_field form ++ (lines common ++ (lines other ++ (length_lines is_stream size ++ crlf_bytes))))
unfolding print_response
head-lines digits reason form common other is_stream size =
    let rest = section form common other (length_fields is_stream size)
    ∙ ap (λ text. print_field form ++ (lines common ++ (lines other ++ (text ++ crlf_bytes)))) (length_line is_stream size) in
    ap (λ text. codes "HTTP/1.1 " ++ text)
    (ap (λ text. ((digits ++ (space ∷ reason)) ++ crlf_bytes) ++ text) rest
    ∙ first_line digits reason (print_field form ++ (lines common ++ (lines other ++ (length_lines is_stream size ++ crlf_bytes)))))

-- the same, as five texts
pub head-texts : (digits reason : List ℕ) (form : Field) (common other : List Field) (is_stream is_one : Bool) (size : ℕ)
    (t u v w : List ℕ)
    → t ≡ status_line digits reason → u ≡ print_field form → v ≡ lines common → w ≡ lines other → is_one ≡ is_stream
    → t ++ (u ++ (v ++ (w ++ (length_lines is_one size ++ crlf_bytes))))
    ≡ print_response (head digits reason (form ∷ (common ++ (other ++ length_fields is_stream size))))
head-texts digits reason form common other is_stream is_one size t u v w first second third fourth fifth =
    rw (first, second, third, fourth, fifth) (sym (head-lines digits reason form common other is_stream size))
