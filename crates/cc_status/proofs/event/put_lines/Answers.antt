use Rattle.std.proofs.Common.{List, ℕ, subst}
use Rattle.cc_status.specs.Writers.{Writes}
use Rattle.cc_status.proofs.EventLines.{event-by-bytes}
use Rattle.cc_status.proofs.event.put_lines.Goals as goal

pub returns : goal.returns
returns c =
    subst (λ (text : List ℕ). Writes c.args.out.now c.put_bytewise.new.out text c.put_bytewise.result)
    (event-by-bytes c.args.name.now c.args.text.now) c.put_bytewise.ensures
