-- How a list of entries, and the position of a journal, are stored.
use Rattle.std.specs.Prelude.{ℕ, List, refl}
use Rattle.std.specs.Coded.{Coded, code_by, coded_list, coded×, coded_ℕ}
use Rattle.cc_site.specs.declared.site.Side.{Side}
use Rattle.cc_site.specs.contracts.site.Side as site_side
use Rattle.cc_journal.specs.Journals.{Position}
use Rattle.cc_journal.specs.declared.entry.Entry.{Entry}
use Rattle.cc_journal.specs.contracts.entry.Entry as entry

abbrev pub entries_code : Coded (List Entry)
entries_code = coded_list (entry.the_row).coded

abbrev pub position_code : Coded Position
position_code = code_by (Side × ℕ) (coded× (site_side.the_row).coded coded_ℕ) (λ p. (p.side, p.place)) (λ p. record { side = p.0; place = p.1 }) (λ _. refl)
