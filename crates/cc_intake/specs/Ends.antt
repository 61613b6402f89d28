-- The ends of the queue.
--     End                     what an end has pushed or popped, and how often it found the queue full or empty
--     queue_limit             how many entries the queue holds at most
use Rattle.std.specs.Prelude.{ℕ, List, refl}
use Rattle.std.specs.Coded.{Coded, code_by, coded×, coded_ℕ}
use Rattle.cc_journal.specs.declared.entry.Entry.{Entry}
use Rattle.cc_journal.specs.Codes.{entries_code}

pub record End : Type 0 where
  pub entries : List Entry
  pub finds : ℕ

abbrev pub end_code : Coded End
end_code = code_by (List Entry × ℕ) (coded× entries_code coded_ℕ) (λ e. (e.entries, e.finds)) (λ p. record { entries = p.0; finds = p.1 }) (λ _. refl)

abbrev pub queue_limit : ℕ
queue_limit = 256
