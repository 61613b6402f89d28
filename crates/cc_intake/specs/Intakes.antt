-- An intake.
--     Accepting               the entries that it has accepted, how often it found the queue full, and how many shares it gave out
--     share_limit             how many it gives out at most
use Rattle.std.specs.Prelude.{ℕ, List, ◌^◌, refl}
use Rattle.std.specs.Coded.{Coded, code_by, coded×, coded_ℕ}
use Rattle.cc_journal.specs.declared.entry.Entry.{Entry}
use Rattle.cc_journal.specs.Codes.{entries_code}

pub record Accepting : Type 0 where
  pub entries : List Entry
  pub finds : ℕ
  pub issued : ℕ

abbrev pub accepting_code : Coded Accepting
accepting_code =
    code_by (List Entry × (ℕ × ℕ)) (coded× entries_code (coded× coded_ℕ coded_ℕ))
    (λ a. (a.entries, (a.finds, a.issued))) (λ p. record { entries = p.0; finds = p.1.0; issued = p.1.1 }) (λ _. refl)

abbrev pub share_limit : ℕ
share_limit = 2 ^ 20
