use Rattle.std.proofs.Common.{[], map, sym, subst, add-one}
use Rattle.std.proofs.lemmas.List.{get_or-map, length-map}
use Rattle.cc_command_line.specs.Addresses.{NoPeer}
use Rattle.cc_command_line.proofs.AddressWords.{none_peers, peers_push}
use Rattle.cc_command_line.proofs.addresses.peers_in.Goals as goal

pub returns-in_default : goal.returns-in_default
returns-in_default c =
    let i = c.loop-word.word-index in
    let words = c.args.words.now in
    none_peers (map (λ w. w.now) words) i (rw length-map c.loop-word-test.true)
    (subst NoPeer (sym (get_or-map (λ w. w.now) words i _ [] c.loop-word-test.true)) c.in_default.ensures)

pub loop-word-preserved : goal.loop-word-preserved
loop-word-preserved c = rw (c.in_ok-push.ensures.items, add-one) (peers_push (λ w. w.now) c.args.words.now c.loop-word.word-index _
    c.loop-word.peers.items c.in-Some.peer c.loop-word-test.true c.loop-word.invariant c.in-Some.ensures)
