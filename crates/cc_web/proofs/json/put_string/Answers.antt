use Rattle.std.proofs.Common.{◌≡◌, ℕ, ◌+◌, List, [], ◌∷◌, ◌++◌, take, get_or, ap, sym, ◌∙◌, append_assoc, arith}
use Rattle.std.specs.List.{flat_map}
use Rattle.std.proofs.lemmas.List.{take_more, take_all, flat_map_more}
use Rattle.std.proofs.lemmas.Result.{on_ok_weaker}
use Rattle.cc_web.specs.Json.{escaped}
use Rattle.cc_web.proofs.Pieces.{where_ok}
use Rattle.cc_web.proofs.json.put_string.Goals as goal

pub loop-byte-preserved : goal.loop-byte-preserved
loop-byte-preserved c =
    let old = c.extend_from_slice.new.self.items in
    let text = c.args.text.now in
    let i = c.loop-byte.byte-index in
    let byte = get_or text i 0 in
    c.in_ok-put_escaped.ensures ∙ ap (λ (ys : List ℕ). ys ++ escaped byte) c.loop-byte.invariant
    ∙ flat_map_more escaped old (take i text) byte ∙ ap (λ (bs : List ℕ). old ++ flat_map escaped bs) (sym (take_more text i 0 (omega arith)))

pub returns : goal.returns
returns c =
    let old = c.args.out.now.items in
    let text = c.args.text.now in
    let quote : List ℕ = 34 ∷ [] in
    let whole : flat_map escaped (take c.loop-byte.byte-index text) ≡ flat_map escaped text =
    ap (flat_map escaped) (take_all c.loop-byte.byte-index text (omega arith)) in
    let inside : c.loop-byte.out.items ≡ (old ++ quote) ++ flat_map escaped text =
    c.loop-byte.invariant ∙ ap (λ (ys : List ℕ). ys ++ flat_map escaped (take c.loop-byte.byte-index text)) c.in_ok-extend_from_slice.ensures.items
    ∙ ap (λ (ys : List ℕ). (old ++ quote) ++ ys) whole in
    on_ok_weaker c.extend_from_slice-2.result
    (λ e. e ∙ ap (λ (ys : List ℕ). ys ++ quote) inside ∙ append_assoc (old ++ quote) (flat_map escaped text) quote
    ∙ append_assoc old quote (flat_map escaped text ++ quote))
    (where_ok c.extend_from_slice-2.result _ _ _ c.extend_from_slice-2.ensures.items)
