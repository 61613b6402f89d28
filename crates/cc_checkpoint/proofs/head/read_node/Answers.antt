use Rattle.std.proofs.Common.{◌≡◌, ℕ, List, take, drop, Ok, subst, sym, arith}
use Rattle.std.proofs.lemmas.Result.{err_from_is_err_and}
use Rattle.cc_wire.specs.Readers.{whole}
use Rattle.cc_wire.proofs.Spelled.{IsBytes-take, IsBytes-drop}
use Rattle.cc_node_state.specs.States.{state_at}
use Rattle.cc_node_state.specs.Fields.{state_in}
use Rattle.cc_checkpoint.specs.Heads.{NodeFound}
use Rattle.cc_checkpoint.specs.Windows.{Misses, CountsRead}
use Rattle.cc_checkpoint.proofs.StateReads.{ahead_all, missing_node, restored, still_counts}
use Rattle.cc_checkpoint.proofs.head.read_node.Goals as goal

pub returns-in_err-fields-clause-found : goal.returns-in_err-fields-clause-found
returns-in_err-fields-clause-found g c =
    let bytes = (g.S.Site.state c.args.site.now c.args.side).bytes in
    let fault = c.in_err-fields.field-0.0 in
    let p = err_from_is_err_and c.from_residual.result c.from_residual.ensures.1 in
    rw (p.1, p.2) (λ honest.
    missing_node c.args.layout (take c.args.size (drop 14 bytes)) fault
    (subst (λ (l : List ℕ). Misses fault (whole (state_at c.args.layout) l))
    (ahead_all c.clear.new.self bytes _ c.args.size c.clear.ensures (omega (arith, c.from.ensures))) (c.in_err-fields.ensures.exact honest)))

pub returns-clause-found : goal.returns-clause-found
returns-clause-found g c honest =
    let bytes = (g.S.Site.state c.args.site.now c.args.side).bytes in
    let state = take c.args.size (drop 14 bytes) in
    let fits = IsBytes-take c.args.size (drop 14 bytes) (IsBytes-drop 14 bytes (g.met.S.Site.are_bytes c.args.site.now honest c.args.side)) in
    let read = subst (λ (l : List ℕ). whole (state_at c.args.layout) l ≡ Ok (state_in c.in_ok-fields.fields))
    (ahead_all c.clear.new.self bytes _ c.args.size c.clear.ensures (omega (arith, c.from.ensures))) (c.in_ok-fields.ensures.exact honest) in
    subst (NodeFound c.args.layout state) (sym c.ok_or.ensures.value)
    (restored c.args.layout state (state_in c.in_ok-fields.fields) c.in_ok-node.node fits read c.in_ok-node.ensures.lawful c.in_ok-node.ensures.node)

pub returns-clause-fault : goal.returns-clause-fault
returns-clause-fault g c =
    let s = g.S.Site in
    subst (CountsRead c.args.side (s.failures c.args.site.now) (s.failures c.read_off.new.site)) (sym c.ok_or.ensures.value)
    (still_counts c.args.side (s.failures c.args.site.now) (s.failures c.read_off.new.site) c.in_ok-node.node c.in_ok-fields.ensures.run.fault)
