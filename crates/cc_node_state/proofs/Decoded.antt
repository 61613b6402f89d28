-- What a decoder of states answers is what the bytes are.
use Rattle.std.proofs.Common.{◌≡◌, ℕ, List, [], false, Some, None, Result, Ok, Err, refl, sym, ap, subst, ◌∙◌}
use Rattle.std.specs.Prelude.{◌↔◌, Option, IfSome, IsTrue, is_some}
use Rattle.std.specs.Option.{ok_or}
use Rattle.cc_wire.specs.declared.fault.WireFault.{WireFault}
use Rattle.cc_wire.specs.declared.fault.WireFault.TheVariants.{NoMemory}
use Rattle.cc_wire.specs.Readers.{Fails, whole}
use Rattle.cc_wire.proofs.Spelled.{IsBytes}
use Rattle.cc_wire.proofs.Whole.{whole_takes, whole_again}
use Rattle.cc_node.specs.Node.{Node}
use Rattle.cc_node.specs.Lawful.{IsLawfulNode}
use Rattle.cc_node_state.specs.declared.layout.Layout.{Layout}
use Rattle.cc_node_state.specs.States.{State, SpellsState, SpellsNode, state_at, node_of, state_of}
use Rattle.cc_node_state.specs.declared.fault.StateFault.{StateFault}
use Rattle.cc_node_state.specs.declared.fault.StateFault.TheVariants.{Wire, Unlawful}
use Rattle.cc_node_state.specs.Decoders.{SpellsUnlawful, Decodes, Is}
use Rattle.cc_node_state.proofs.StateFormat.{state_spelled}
use Rattle.cc_node_state.proofs.NodeStates.{state_of-node_of, node_of-state_of, one_spelling_of_state, one_spelling_of_node}

-- what is read is spelled so, and what is spelled so is read
pub state_is_found : (layout : Layout) (bytes : List ℕ) (s : State) → IsBytes bytes → whole (state_at layout) bytes ≡ Ok s → SpellsState layout bytes s
state_is_found layout bytes s fits read = let t = whole_takes (state_spelled layout) bytes s fits read in record { fits = t.0; spelled = t.1 }

pub state_is_read : (layout : Layout) (bytes : List ℕ) (s : State) → SpellsState layout bytes s → whole (state_at layout) bytes ≡ Ok s
state_is_read layout bytes s is = ap (whole (state_at layout)) is.spelled ∙ whole_again (state_spelled layout) s is.fits

-- the node of the state that was read, if that is lawful
pub decodes : (layout : Layout) (bytes : List ℕ) (s : State) (node : Option Node) → IsBytes bytes → whole (state_at layout) bytes ≡ Ok s
    → (IsTrue (is_some node) ↔ IsLawfulNode (node_of s)) → IfSome node (λ n. n ≡ node_of s) → Decodes layout bytes (ok_or node Unlawful)
decodes layout bytes s (Some n) fits read there is = record {
  lawful = subst IsLawfulNode (sym is) (there.0 refl);
  state = subst (SpellsState layout bytes) (sym (ap state_of is ∙ state_of-node_of s)) (state_is_found layout bytes s fits read);
}
decodes layout bytes s None fits read there is = record {
  state = s;
  spelled = state_is_found layout bytes s fits read;
  unlawful = λ lawful. let none : IsTrue false = there.1 lawful in absurd cc;
}

-- where a state is spelled, only want of memory keeps it from being read
state_is_told : (layout : Layout) (bytes : List ℕ) (s : State) → SpellsState layout bytes s → (e : WireFault) → Fails e (whole (state_at layout) bytes)
    → (answer : Result Node StateFault) → Is (Err (Wire e)) answer
state_is_told layout bytes s is NoMemory told answer = tt
state_is_told layout bytes s is e told answer = let read = state_is_read layout bytes s is in absurd cc

-- a lawful state and an unlawful one are two
pub not_unlawful : (layout : Layout) (bytes : List ℕ) (n : Node) → SpellsNode layout bytes n → SpellsUnlawful layout bytes → ⊥
not_unlawful layout bytes n is u =
    let one : u.state ≡ state_of n = (one_spelling_of_state layout bytes bytes [] [] u.state (state_of n) u.spelled is.state refl).0 in
    u.unlawful (subst IsLawfulNode (sym (ap node_of one ∙ node_of-state_of n is.lawful)) is.lawful)

pub node_is_told : (layout : Layout) (bytes : List ℕ) (r : Result Node StateFault) → Decodes layout bytes r → (n : Node) → SpellsNode layout bytes n
    → Is r (Ok n)
node_is_told layout bytes (Ok m) told n is = ap Ok (one_spelling_of_node layout bytes bytes [] [] m n told is refl).0
node_is_told layout bytes (Err (Wire e)) told n is = state_is_told layout bytes (state_of n) is.state e told (Ok n)
node_is_told layout bytes (Err Unlawful) told n is = absurd (not_unlawful layout bytes n is told)

pub unlawful_is_told : (layout : Layout) (bytes : List ℕ) (r : Result Node StateFault) → Decodes layout bytes r → SpellsUnlawful layout bytes
    → Is r (Err Unlawful)
unlawful_is_told layout bytes (Ok m) told u = absurd (not_unlawful layout bytes m told u)
unlawful_is_told layout bytes (Err (Wire e)) told u = state_is_told layout bytes u.state u.spelled e told (Err Unlawful)
unlawful_is_told layout bytes (Err Unlawful) told u = refl
