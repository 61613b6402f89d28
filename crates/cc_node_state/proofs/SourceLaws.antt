-- What a source of bytes answers, in the words of the wire.
--     wire_misses, wire_fails     a fault of the wire that is told, from a reader and for it
--     is_ended_at                 whether bytes are left
--     misses_along                rows up to one that is missing
use Rattle.std.proofs.Common.{◌≡◌, ℕ, suc, ◌+◌, ◌-◌, ◌<◌, eqb, cond, Bool, true, false, List, ◌∷◌, ◌++◌, length, Result, Ok, Err, refl, sym, ap, ◌∙◌, arith}
use Rattle.std.specs.Prelude.{is_ok, ◌==◌, ⊤}
use Rattle.cc_wire.specs.declared.fault.WireFault.{WireFault}
use Rattle.cc_wire.specs.declared.fault.WireFault.TheVariants.{NoMemory, Trailing}
use Rattle.cc_wire.specs.Readers.{◌>>=◌, Fails, Gives, TakesNoMemory, Reading, items_at, ended}
use Rattle.cc_wire.proofs.Items.{with_front}
use Rattle.cc_wire.proofs.Spelled.{bind_ok}
use Rattle.cc_node_state.specs.declared.source_fault.SourceFault.{SourceFault}
use Rattle.cc_node_state.specs.declared.source_fault.SourceFault.TheVariants.{Failed, Wire}
use Rattle.cc_node_state.specs.Sources.{Misses}

pub wire_misses : (F : Type 0) {Y : Type 0} (fault : WireFault) (read : Result Y WireFault) → Fails fault read → Misses {F = F} ⊤ (Wire fault) read
wire_misses F NoMemory read fails some = absurd (some refl)
wire_misses F fault read fails some = (λ y is. cc, λ _. fails)

pub wire_fails : (F : Type 0) {Y : Type 0} (fault : WireFault) (read : Result Y WireFault) → Misses {F = F} ⊤ (Wire fault) read → Fails fault read
wire_fails F NoMemory read misses = tt
wire_fails F fault read misses = (misses (λ e. cc)).1 tt

abbrev end_at : Bool → Result (Unit {0}) WireFault
end_at b = cond b (Ok tt) (Err Trailing)

is_all : (b : Bool) → end_at b ≡ Ok tt → true ≡ b
is_all true e = refl
is_all false e = absurd cc

is_some : (b : Bool) (fault : WireFault) → end_at b ≡ Err fault → false ≡ b
is_some true fault e = absurd cc
is_some false fault e = refl

pub is_ended_at : (bytes : List ℕ) (r : Result (Unit {0}) WireFault) → Gives (λ _. tt) r (ended bytes) → TakesNoMemory r → is_ok r ≡ (length bytes == 0)
unfolding ended
is_ended_at bytes (Ok u) gives free = is_all (eqb (length bytes) 0) gives
is_ended_at bytes (Err NoMemory) gives free = absurd (free refl)
is_ended_at bytes (Err fault) gives free = is_some (eqb (length bytes) 0) fault gives

-- what isn't read isn't read with what follows it
pub misses_then : {F A B : Type 0} (told : Type 0) (fault : SourceFault F) (r : Result A WireFault) (f : A → Result B WireFault)
    → Misses told fault r → Misses told fault (r >>= f)
misses_then told (Failed failure) r f misses = tt
misses_then told (Wire fault) (Ok x) f misses = λ some. absurd ((misses some).0 x refl)
misses_then told (Wire fault) (Err e) f misses = λ some. (λ y is. cc, λ t. let same = (misses some).1 t in cc)

module _ {F X : Type 0} (told : Type 0) (item : ℕ → Reading X) (key : X → ℕ) where
  pub misses_along : (fault : SourceFault F) (front : List X) (count i least : ℕ) (bytes : List ℕ) (total : Result (List X × List ℕ) WireFault)
      → i < count → Misses told fault (item least bytes) → with_front front (items_at item key (count - i) least bytes) ≡ total → Misses told fault total
  unfolding items_at
  misses_along (Failed failure) front count i least bytes total lt misses so_far = tt
  misses_along (Wire fault) front count i least bytes total lt misses so_far = λ some.
      let k : count - i ≡ suc (count - (i + 1)) = omega arith in
      let m = misses some in
      let along : with_front front (items_at item key (suc (count - (i + 1))) least bytes) ≡ total =
      ap (λ n. with_front front (items_at item key n least bytes)) (sym k) ∙ so_far in (
        λ y is.
            let all = bind_ok (items_at item key (suc (count - (i + 1))) least bytes) (λ x. Ok (front ++ x.0, x.1)) y (along ∙ is) in
            let first = bind_ok (item least bytes)
            (λ first. items_at item key (count - (i + 1)) (key first.0 + 1) first.1 >>= λ others. Ok (first.0 ∷ others.0, others.1)) all.0 all.1 in
            m.0 first.0 first.1,
        λ t. sym along ∙ rw (m.1 t) refl,
      )
