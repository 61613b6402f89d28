use Rattle.std.proofs.Common.{lit<}
use Rattle.std.proofs.lemmas.Str.Pattern.{strip_prefix_char, strip_suffix_char}
use Rattle.cc_command_line.proofs.AddressWords.{not_bracketed, not_closed, bracket_of_parse}
use Rattle.cc_command_line.proofs.addresses.bracketed.Goals as goal

pub returns-in_err-opened : goal.returns-in_err-opened
returns-in_err-opened c =
    let never = rw c.in_err-opened.was at (strip_prefix_char 91 c.args.word.now c.strip_prefix.result c.strip_prefix.ensures.cases (lit< tt)) in
    rw c.from_residual.ensures (not_bracketed c.args.word.now never)

pub returns-in_err-inside : goal.returns-in_err-inside
returns-in_err-inside c =
    let begins = rw c.in_ok-opened.was at (strip_prefix_char 91 c.args.word.now c.strip_prefix.result c.strip_prefix.ensures.cases (lit< tt)) in
    let never = rw c.in_err-inside.was at (strip_suffix_char 93 c.in_ok-opened.opened.now c.strip_suffix.result c.strip_suffix.ensures.cases (lit< tt)) in
    rw c.from_residual-in_err-inside.ensures (not_closed c.args.word.now c.in_ok-opened.opened.now begins never)

pub returns : goal.returns
returns c =
    let begins = rw c.in_ok-opened.was at (strip_prefix_char 91 c.args.word.now c.strip_prefix.result c.strip_prefix.ensures.cases (lit< tt)) in
    let ends = rw c.in_ok-inside.was at (strip_suffix_char 93 c.in_ok-opened.opened.now c.strip_suffix.result c.strip_suffix.ensures.cases (lit< tt)) in
    rw c.ok.ensures.value (bracket_of_parse c.args.word.now c.in_ok-opened.opened.now c.in_ok-inside.inside.now c.parse.result begins ends
    c.parse.ensures.value)
