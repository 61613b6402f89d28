use Rattle.std.proofs.Common.{ℕ, ◌+◌, ◌-◌, ◌<◌, ◌≤◌, List, length, take, drop, refl, sym, ap, subst, ◌∙◌, arith}
use Rattle.std.proofs.lemmas.List.{length-drop, drop-drop}
use Rattle.cc_wire.proofs.Spelled.{IsBytes, IsBytes-take, IsBytes-drop}
use Rattle.cc_journal.proofs.BodyReads.{none_short, none_past, body_stands}
use Rattle.cc_journal.proofs.record_scan.read_body.Goals as goal

pub returns-then-len-place-lt4-clause-damaged : goal.returns-then-len-place-lt4-clause-damaged
returns-then-len-place-lt4-clause-damaged g c honest =
    let bytes = (g.S.Site.state c.args.site.now c.args.side).bytes in
    (refl, none_short (drop c.args.place bytes) (omega (arith, length-drop c.args.place bytes, c.requires.len honest, c.if-len-place-lt4.true)))

pub returns-then-len-place-clause-damaged : goal.returns-then-len-place-clause-damaged
returns-then-len-place-clause-damaged g c honest =
    let bytes = (g.S.Site.state c.args.site.now c.args.side).bytes in
    let rest = drop c.args.place bytes in
    let past : length rest - 4 < c.from_be_bytes-size.result =
    omega (arith, length-drop c.args.place bytes, c.requires.len honest, c.if-len-place.true, c.from.ensures) in
    (refl, none_past rest c.from_be_bytes-size.result c.read_into.new.into c.from_be_bytes-size.ensures (c.in_ok-read_into.ensures.value honest) past)

pub returns-clause-found : goal.returns-clause-found
returns-clause-found g c honest =
    let side = c.args.side in
    let place = c.args.place in
    let bytes = (g.S.Site.state c.args.site.now side).bytes in
    let rest = drop place bytes in
    let size = c.from_be_bytes-size.result in
    let number = c.in_ok-read_into.ensures.value honest in
    let are_bytes = subst IsBytes (sym number) (IsBytes-take 4 rest (IsBytes-drop place bytes (g.met.S.Site.are_bytes c.args.site.now honest side))) in
    let reads = c.read_into.ensures.reads in
    let long = length-drop place bytes in
    let some : 4 ≤ length rest = omega (arith, long, c.requires.len honest, c.if-len-place-lt4.false) in
    let within : size ≤ length rest - 4 = omega (arith, long, c.requires.len honest, c.if-len-place.false, c.from.ensures) in
    body_stands rest size c.read_into.new.into c.from_be_bytes-size.ensures number some are_bytes (omega (arith, c.if-size-gt-MAX_BYTES.false)) within
    c.fill_buffer.new.buffer.items (c.in_ok-fill_buffer.ensures.value (reads.keeps_honesty.0 honest)
    ∙ (λ i. take (c.in_ok-resize.ensures.len i) (drop (place + 4) (reads.keeps_state honest i side).bytes))
    ∙ ap (λ (l : List ℕ). take size l) (sym (drop-drop 4 place bytes)))
