-- What a node has is written in the layout of its share, and read in no other that is written.
use Rattle.std.proofs.Common.{◌≡◌, ◌⊎◌, inl, inr, sym, ap, ℕ, ◌<◌, ◌≤◌, Bool, true, false, eqb, List, length, refl, arith}
use Rattle.std.proofs.lemmas.Bool.{eqb-true, eqb-false, ne_eqb}
use Rattle.std.proofs.lemmas.List.{nil_from_length}
use Rattle.std.specs.Prelude.{if◌then◌else◌}
use Rattle.cc_ops.specs.declared.pending_operation.Asked.{Asked}
use Rattle.cc_node_state.specs.declared.layout.Layout.{Layout}
use Rattle.cc_node_state.specs.declared.layout.Layout.TheVariants.{Plain, Lined, Shared}
use Rattle.cc_node_state.specs.Layouts.{layout_for}
use Rattle.cc_messages.specs.Shares.{share_limit}
use Rattle.cc_node.specs.Node.{Node}
use Rattle.cc_node_state.specs.States.{SpellsNode, layout_of_node, AreAsks, IsLineOf, AreOthersOf}

pub line_written : (share : ℕ) (line : List Asked) → AreAsks line → IsLineOf (layout_for share) line
line_written share line are = in_either (eqb share 1)
  where
    in_either : (b : Bool) → IsLineOf (if b then Lined else Shared) line
    in_either true = are
    in_either false = are

pub others_written : (share : ℕ) (others : List Asked) → 1 ≤ share → share ≤ share_limit → length others < share → AreAsks others
    → AreOthersOf (layout_for share) share others
others_written share others some most few are = in_either (eqb share 1) refl
  where
    in_either : (b : Bool) → eqb share 1 ≡ b → AreOthersOf (if b then Lined else Shared) share others
    in_either true e = let one = eqb-true share 1 e in (one, nil_from_length others (omega (arith, few, one)))
    in_either false e = (record { several = omega (arith, some, eqb-false share 1 e); most = most }, are)

pub one_layout : (layout : Layout) (bytes : List ℕ) (n : Node) → SpellsNode layout bytes n → (layout ≡ Plain) ⊎ (layout ≡ layout_of_node n)
one_layout Plain bytes n is = inl refl
one_layout Lined bytes n is = inr (sym (ap layout_for is.state.fits.work.others.0))
one_layout Shared bytes n is =
    let several = is.state.fits.work.others.0.several in
    let apart : eqb n.core.ops.share 1 ≡ false = ne_eqb n.core.ops.share 1 (λ e. omega (arith, several, e)) in
    inr (sym (ap (λ (b : Bool). if b then Lined else Shared) apart))
