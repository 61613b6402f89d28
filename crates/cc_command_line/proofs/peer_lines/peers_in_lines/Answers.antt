use Rattle.std.proofs.Common.{lit<, ap, map, ◌∙◌}
use Rattle.std.proofs.lemmas.Iterator.Consumers.{map_from_collect}
use Rattle.std.proofs.lemmas.Iterator.Splits.{YieldsList-from_str_split}
use Rattle.cc_command_line.proofs.SaidLines.{peers_of_lines, list_of_peers, fault_of_lines}
use Rattle.cc_command_line.proofs.peer_lines.peers_in_lines.Goals as goal

pub returns-clause-peers : goal.returns-clause-peers
returns-clause-peers c =
    let parts = map_from_collect _ c.collect.ensures.ran (YieldsList-from_str_split 10 c.args.text.now (lit< tt) c.split.ensures.text
    c.split.ensures.has_more c.split.ensures.pattern) in
    peers_of_lines (λ v. v.items) c.args.text.now _ c.peers_on.result (ap (map (λ l. l.now)) c.deref.ensures.value ∙ (rw c.in_ok-lines.was at parts))
    c.peers_on.ensures.peers

pub returns-clause-list : goal.returns-clause-list
returns-clause-list c =
    let parts = map_from_collect _ c.collect.ensures.ran (YieldsList-from_str_split 10 c.args.text.now (lit< tt) c.split.ensures.text
    c.split.ensures.has_more c.split.ensures.pattern) in
    list_of_peers (λ v. v.items) c.args.text.now c.peers_on.result
    (peers_of_lines (λ v. v.items) c.args.text.now _ c.peers_on.result (ap (map (λ l. l.now)) c.deref.ensures.value ∙ (rw c.in_ok-lines.was at parts))
    c.peers_on.ensures.peers)

pub returns-clause-fault : goal.returns-clause-fault
returns-clause-fault c =
    let parts = map_from_collect _ c.collect.ensures.ran (YieldsList-from_str_split 10 c.args.text.now (lit< tt) c.split.ensures.text
    c.split.ensures.has_more c.split.ensures.pattern) in
    fault_of_lines c.args.text.now _ c.peers_on.result (ap (map (λ l. l.now)) c.deref.ensures.value ∙ (rw c.in_ok-lines.was at parts)) c.peers_on.ensures.fault
