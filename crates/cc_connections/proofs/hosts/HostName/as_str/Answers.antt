use Rattle.std.proofs.Common.{◌≡◌, ◌∙◌, IsUtf8, List, ℕ, ap, arith, length, min, subst, sym, take}
use Rattle.std.proofs.lemmas.List.{take_min}
use Rattle.cc_connections.proofs.NameBytes.{name_is_text}
use Rattle.cc_connections.proofs.hosts.HostName.as_str.Goals as goal

take_to : (k n : ℕ) (xs : List ℕ) → k ≡ min n (length xs) → take k xs ≡ take n xs
take_to k n xs e = ap (λ (i : ℕ). take i xs) e ∙ take_min n xs

pub returns-in-Err : goal.returns-in-Err
returns-in-Err c is =
    let same = take_to c.min-len.result c.args.self.now.len c.args.self.now.bytes (omega arith) in
    absurd (c.in-Err.ensures.cases.0 (subst IsUtf8 (sym same) (name_is_text _ is)))
