use Rattle.std.proofs.Common.{sym, ◌∙◌}
use Rattle.std.proofs.lemmas.Bool.{false≢true}
use Rattle.std.proofs.lemmas.Slice.Eq.{bytes_eq-Decides}
use Rattle.cc_command_line.proofs.IdentityLines.{lacks_blank, no_blank, other_key, line_of}
use Rattle.cc_command_line.proofs.identities.line_in.Goals as goal

pub returns-in_err-found : goal.returns-in_err-found
returns-in_err-found c = rw c.from_residual.ensures (no_blank c.args.key.now c.args.text.now c.split_once.result c.split_once.ensures.cases
    (lacks_blank c.args.key.now c.requires) c.in_err-found.was)

pub returns-then-not-is_key : goal.returns-then-not-is_key
returns-then-not-is_key c =
    let same = bytes_eq-Decides c.in_ok-found.found.now c.args.key.now in
    other_key c.args.key.now c.args.text.now c.split_once.result c.split_once.ensures.cases (lacks_blank c.args.key.now c.requires)
    c.in_ok-found.found c.in_ok-found.behind c.in_ok-found.was (λ e. false≢true (c.if-not-is_key.ensures ∙ same.1 e))

pub returns : goal.returns
returns c =
    let same = bytes_eq-Decides c.in_ok-found.found.now c.args.key.now in
    line_of c.args.key.now c.args.text.now c.split_once.result c.split_once.ensures.cases (lacks_blank c.args.key.now c.requires)
    c.in_ok-found.found c.in_ok-found.behind c.in_ok-found.was c.split_once-2.result (same.0 (sym c.if-not-is_key.ensures)) c.split_once-2.ensures.cases
