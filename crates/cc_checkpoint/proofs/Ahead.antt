-- What is read in a window is what is read of all that is ahead, element by element.
--     err_is                            what the exit of a `?` returns
--     bytes_of_both, ahead_bytes        all that is ahead are bytes
--     read_further                      reading on leaves what is ahead
--     used, taken                       what is read is so many bytes of the front, and leaves the others
--     runs_as, runs_stop, runs_quietly  what they answer in the end
--     no_refill                         nothing is told of what is ahead
--     element, no_element               an element is read in the window as it is read of all that is ahead
use Rattle.std.proofs.Common.{◌≡◌, ℕ, ◌+◌, ◌-◌, ◌<◌, ◌≤◌, ◌⊎◌, inl, inr, List, [], ◌++◌, length, take, drop}
use Rattle.std.proofs.Common.{Result, Ok, Err, refl, sym, ap, subst, ◌∙◌, append_assoc, take-add, arith}
use Rattle.std.specs.Prelude.{slice_index, IsErrAnd}
use Rattle.std.proofs.lemmas.Bool.{cases_lt}
use Rattle.std.proofs.lemmas.List.{take_at, drop_at, take-append-le, take-append-drop, drop-drop, append-nil}
use Rattle.std.proofs.lemmas.List.{length-append, get_or_append_left, get_or-append_right}
use Rattle.cc_wire.specs.declared.fault.WireFault.{WireFault}
use Rattle.cc_wire.specs.declared.fault.WireFault.TheVariants.{Short, BadKind, NotAscending, TooLarge, Trailing, NoMemory, Broken}
use Rattle.cc_wire.specs.Readers.{Fails, Reading}
use Rattle.cc_wire.proofs.Spelled.{IsBytes, IsBytes-take, IsBytes-drop, Spelled}
use Rattle.cc_site.specs.declared.site.Side.{Side}
use Rattle.cc_site.specs.declared.site.Site.{Ghosts}
use Rattle.cc_checkpoint.specs.declared.read_fault.ReadFault.{ReadFault}
use Rattle.cc_checkpoint.specs.declared.read_fault.ReadFault.TheVariants as faults
use Rattle.cc_checkpoint.specs.Windows.{of_wire, IsMissing, Misses, IsOfDevice, AreBytes, FaultRead, At, ahead, Runs, ReadsOff}

pub err_is : {T E : Type 0} {e : E} (r : Result T E) → IsErrAnd r (λ y. y ≡ e) → r ≡ Err e
err_is (Ok x) is = absurd is
err_is (Err y) is = cc

-- ---- bytes

pub bytes_of_both : (a b : List ℕ) → IsBytes a → IsBytes b → IsBytes (a ++ b)
bytes_of_both a b first second i =
    elim (cases_lt i (length a)) [
      | inl lt ↦ rw (get_or_append_left a b 0 i lt) (first i)
      | inr le ↦ rw (get_or-append_right a b (length a) i 0 refl le) (second (i - length a))
    ]

front_bytes : (a b : List ℕ) → IsBytes (a ++ b) → IsBytes a
front_bytes a b fits = subst IsBytes (take_at a b (length a) refl) (IsBytes-take (length a) (a ++ b) fits)

-- some of the bytes that are to be read, put behind those that are held
pub read_further : (held new bytes now : List ℕ) (place n end : ℕ)
    → now ≡ bytes → new ≡ held ++ take n (drop place bytes) → place + n ≤ end
    → new ++ take (end - (place + n)) (drop (place + n) now) ≡ held ++ take (end - place) (drop place bytes)
read_further held new bytes now place n end same put within =
    let more = end - (place + n) in
    let all : end - place ≡ n + more = omega (arith, within) in
    let behind : drop (place + n) now ≡ drop n (drop place bytes) = ap (drop (place + n)) same ∙ sym (drop-drop n place bytes) in
    ap (λ (l : List ℕ). l ++ take more (drop (place + n) now)) put
    ∙ ap (λ (l : List ℕ). (held ++ take n (drop place bytes)) ++ take more l) behind
    ∙ append_assoc held (take n (drop place bytes)) (take more (drop n (drop place bytes)))
    ∙ ap (λ (l : List ℕ). held ++ l) (sym (ap (λ (k : ℕ). take k (drop place bytes)) all ∙ take-add n more (drop place bytes)))

-- ---- what is missing

misses_of_device : {A : Type 0} (fault : ReadFault) (r : Result A WireFault) → IsOfDevice fault → Misses fault r
misses_of_device (faults.Device _) r is = tt
misses_of_device faults.NoMemory r is = absurd is
misses_of_device faults.NoState r is = absurd is

-- what isn't read under one fault is missing
misses_of_wire : {A B : Type 0} (e : WireFault) (r : Result A WireFault) (t : Result B WireFault)
    → ((f : WireFault) → r ≡ Err f → IsMissing t) → Fails e r → Misses (of_wire e) t
misses_of_wire Short r t along h = along Short h
misses_of_wire (BadKind k) r t along h = along (BadKind k) h
misses_of_wire NotAscending r t along h = along NotAscending h
misses_of_wire TooLarge r t along h = along TooLarge h
misses_of_wire Trailing r t along h = along Trailing h
misses_of_wire NoMemory r t along h = tt
misses_of_wire Broken r t along h = along Broken h

quiet : (side : Side) (before now : ℕ) (e : WireFault) → now ≡ before → FaultRead side before now (of_wire e)
quiet side before now Short same = same
quiet side before now (BadKind k) same = same
quiet side before now NotAscending same = same
quiet side before now TooLarge same = same
quiet side before now Trailing same = same
quiet side before now NoMemory same = same
quiet side before now Broken same = same

-- ---- an element in the window

module _ {X : Type 0} {read : Reading X} {Is : X → Type 0} {spelling : X → List ℕ} (spelled : Spelled read Is spelling) where
  -- what is read is so many bytes of the front
  pub used : {piece bytes : List ℕ} {x : X} {left : List ℕ} {n : ℕ}
      → bytes ≡ piece → IsBytes piece → read bytes ≡ Ok (x, left) → n ≡ length (spelling x) → n ≤ length piece
  used {piece} {x} {left} same fits e is =
      let t = spelled.takes piece x left fits (ap read (sym same) ∙ e) in
      omega (arith, is, ap length t.0.parts, length-append (spelling x) left)

  -- and leaves the others
  pub taken : {piece bytes : List ℕ} {x : X} {left new : List ℕ} {n : ℕ}
      → bytes ≡ piece → IsBytes piece → read bytes ≡ Ok (x, left) → n ≡ length (spelling x) → new ≡ drop n piece → read piece ≡ Ok (x, new)
  taken {piece} {x} {left} {new} {n} same fits e is rest =
      let t = spelled.takes piece x left fits (ap read (sym same) ∙ e) in
      let behind : left ≡ new = sym (rest ∙ ap (drop n) t.0.parts ∙ drop_at (spelling x) left n (sym is)) in
      ap read (sym same) ∙ e ∙ ap (λ (l : List ℕ). Ok (x, l)) behind

  found_ahead : (held rest : List ℕ) (x : X) (left : List ℕ) → IsBytes held → read held ≡ Ok (x, left) → read (held ++ rest) ≡ Ok (x, left ++ rest)
  found_ahead held rest x left fits e =
      let t = spelled.takes held x left fits e in
      ap (λ (l : List ℕ). read (l ++ rest)) t.0.parts ∙ ap read (append_assoc (spelling x) left rest) ∙ spelled.again x (left ++ rest) t.1

  module _ (most : ℕ) (small : (x : X) → Is x → length (spelling x) ≤ most) where
    -- what is read of all that is ahead lies within the window
    found_held : (held rest : List ℕ) (x : X) (left : List ℕ)
        → IsBytes (held ++ rest) → (most ≤ length held) ⊎ (rest ≡ []) → read (held ++ rest) ≡ Ok (x, left) → (y : X × List ℕ) × (read held ≡ Ok y)
    found_held held rest x left fits reach e =
        let t = spelled.takes (held ++ rest) x left fits e in
        let n = length (spelling x) in
        elim reach [
          | inl le ↦ (
              let front : spelling x ≡ take n held =
              sym (take_at (spelling x) left n refl) ∙ ap (take n) (sym t.0.parts) ∙ take-append-le n held rest (omega (arith, small x t.1, le)) in
              let parts : held ≡ spelling x ++ drop n held = sym (take-append-drop n held) ∙ ap (λ (l : List ℕ). l ++ drop n held) (sym front) in
              ((x, drop n held), ap read parts ∙ spelled.again x (drop n held) t.1))
          | inr none ↦ ((x, left), ap read (sym (append-nil held) ∙ ap (λ (l : List ℕ). held ++ l) (sym none)) ∙ e)
        ]

    none_ahead : (held rest : List ℕ) (e : WireFault)
        → IsBytes (held ++ rest) → (most ≤ length held) ⊎ (rest ≡ []) → read held ≡ Err e → IsMissing (read (held ++ rest))
    none_ahead held rest e fits reach h = by (read (held ++ rest)) refl
      where
        by : (r : Result (X × List ℕ) WireFault) → read (held ++ rest) ≡ r → IsMissing r
        by (Ok y) is = let found = found_held held rest y.0 y.1 fits reach is in absurd (let no : ⊥ = cc (found.1, h) in no)
        by (Err f) is = tt

-- ---- calls that only read

module _ {D : Type 0} (s : Ghosts D) where
  pub ahead_bytes : (a : At D) → IsBytes a.held → ((place : ℕ) → slice_index (s.state a.site a.unread.side).bytes place < 256) → AreBytes (ahead s a)
  ahead_bytes a held bytes = bytes_of_both a.held _ held (IsBytes-take (a.unread.end - a.unread.place) _ (IsBytes-drop a.unread.place _ bytes))

  pub runs_as : {T U : Type 0} {a m : At D} {held : List ℕ} {t : T} {u : U} → Runs s a m (Ok t) → Runs s a (record m { held = held }) (Ok u)
  runs_as run = record { side = run.side; lies = run.lies; reads = run.reads; fault = run.fault }

  pub runs_stop : {T U : Type 0} {a m : At D} {fault : ReadFault} → Runs s {T = T} a m (Err fault) → Runs s {T = U} a m (Err fault)
  runs_stop run = record { side = run.side; lies = run.lies; reads = run.reads; fault = run.fault }

  pub runs_quietly : {T U : Type 0} {a m : At D} {held : List ℕ} {t : T} (e : WireFault)
      → Runs s a m (Ok t) → Runs s {T = U} a (record m { held = held }) (Err (of_wire e))
  runs_quietly {a} {m} e run = record {
    side = run.side;
    lies = run.lies;
    reads = run.reads;
    fault = quiet a.unread.side (s.failures a.site) (s.failures m.site) e run.fault;
  }

  -- ---- elements

  pub no_refill : {X : Type 0} {read : Reading X} {a m : At D} {fault : ReadFault}
      → Runs s {T = Unit {0}} a m (Err fault) → IsOfDevice fault → ReadsOff s read a m (Err fault)
  no_refill {read} {a} {fault} run device = record { run = runs_stop run; exact = λ honest. misses_of_device fault (read (ahead s a)) device }

  abbrev behind : At D → List ℕ
  behind m = take (m.unread.end - m.unread.place) (drop m.unread.place (s.state m.site m.unread.side).bytes)

  reaches : (most : ℕ) (m : At D) → (most ≤ length m.held) ⊎ (m.unread.place ≡ m.unread.end) → (most ≤ length m.held) ⊎ (behind m ≡ [])
  reaches most m (inl le) = inl le
  reaches most m (inr all) = inr (let none : m.unread.end - m.unread.place ≡ 0 = omega (arith, all) in rw none refl)

  module _ {X : Type 0} {read : Reading X} {Is : X → Type 0} {spelling : X → List ℕ} (spelled : Spelled read Is spelling) where
    pub element : {a m : At D} {held : List ℕ} {x : X}
        → Runs s {T = Unit {0}} a m (Ok tt) → (s.honest a.site → ahead s m ≡ ahead s a) → (s.honest a.site → AreBytes (ahead s m))
        → read m.held ≡ Ok (x, held) → ReadsOff s read a (record m { held = held }) (Ok x)
    element {m} {held} {x} run same fits e = record {
      run = runs_as {m = m} run;
      exact = λ honest. ap read (sym (same honest)) ∙ found_ahead spelled m.held (behind m) x held (front_bytes m.held (behind m) (fits honest)) e;
    }

    pub no_element : (most : ℕ) → ((x : X) → Is x → length (spelling x) ≤ most) → {a m : At D} {held : List ℕ}
        → Runs s {T = Unit {0}} a m (Ok tt) → (s.honest a.site → ahead s m ≡ ahead s a) → (s.honest a.site → AreBytes (ahead s m))
        → (most ≤ length m.held) ⊎ (m.unread.place ≡ m.unread.end)
        → (e : WireFault) → Fails e (read m.held) → ReadsOff s read a (record m { held = held }) (Err (of_wire e))
    no_element most small {a} {m} run same fits reach e h = record {
      run = runs_quietly {m = m} e run;
      exact = λ honest. subst (λ l. Misses (of_wire e) (read l)) (same honest)
          (misses_of_wire e (read m.held) (read (ahead s m))
          (λ f is. none_ahead spelled most small m.held (behind m) f (fits honest) (reaches most m reach) is) h);
    }
