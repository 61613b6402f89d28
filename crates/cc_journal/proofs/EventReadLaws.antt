-- Events behind their sizes are read as they are spelled.
--     size_of, too_short, stand_behind        bytes behind their size
--     none_short, none_spelled, one_found     an event behind its size
--     IsRead, one_more, all_read              one event after another;  to the end
--     none_next, none_behind                  none that goes on, and none that ends there
--     one_list                                bytes spell one list of events
use Rattle.std.proofs.Common.{◌≡◌, ◌⊎◌, ⊎_elim, inl, inr, ℕ, suc, ◌+◌, ◌<◌, ◌≤◌, ◌^◌, List, [], ◌∷◌, ◌++◌, length, take, drop, get_or, refl, sym}
use Rattle.std.proofs.Common.{subst, ◌∙◌, ap, arith, length-append}
use Rattle.std.specs.Int.{to_be_bytes, from_be_bytes, w32}
use Rattle.std.specs.List.{flat_map, AllByRecursion}
use Rattle.std.proofs.lemmas.Nat.{from_be_bytes-to_be_bytes_4, be_bytes_4}
use Rattle.std.proofs.lemmas.List.Concat.{flat_map-append}
use Rattle.std.proofs.lemmas.List.{append_assoc, append-nil, take_at, take-append-drop, length-take, length-drop, drop-drop}
use Rattle.cc_messages.specs.declared.event.Event.{Event}
use Rattle.cc_wire.specs.Events.{event_spelling, IsEvent, SpellsEvent}
use Rattle.cc_wire.proofs.Lengths.{length-event}
use Rattle.cc_wire.proofs.Spelled.{IsBytes}
use Rattle.cc_node_state.specs.Sides.{sized_spelling}
use Rattle.cc_node_state.specs.RecordLaws.{one_sized, one_run}
use Rattle.cc_journal.specs.EventReads.{SpellsEvents, BeginsWith, NoEvent}

-- ---- a number of four bytes

pub four_bytes : (bytes : List ℕ) → 4 ≤ length bytes → take 4 bytes ≡ get_or bytes 0 0 ∷ get_or bytes 1 0 ∷ get_or bytes 2 0 ∷ get_or bytes 3 0 ∷ []
four_bytes (a ∷ b ∷ c ∷ d ∷ rest) long = refl
four_bytes bytes long = absurd (omega arith)

-- ---- bytes behind their size, which is the number that stands at the front

module _ (bytes number : List ℕ) (size : ℕ) (is_size : size ≡ from_be_bytes w32 number) (read : number ≡ take 4 bytes) where
  -- where some stand there, this is their size
  pub size_of : (body rest : List ℕ) → length body < 2 ^ 32 → bytes ≡ to_be_bytes w32 (length body) ++ body ++ rest
      → (size ≡ length body) × (drop 4 bytes ≡ body ++ rest)
  size_of body rest small parts = (
    is_size ∙ ap (λ (l : List ℕ). from_be_bytes w32 l) (read ∙ ap (λ (l : List ℕ). take 4 l) parts) ∙ from_be_bytes-to_be_bytes_4 (length body) small,
    ap (λ (l : List ℕ). drop 4 l) parts,
  )

  pub too_short : length (drop 4 bytes) < size → (body rest : List ℕ) → length body < 2 ^ 32 → bytes ≡ to_be_bytes w32 (length body) ++ body ++ rest → ⊥
  too_short short body rest small parts = let s = size_of body rest small parts in absurd (omega (arith, s.0, ap length s.1, length-append body rest))

  pub stand_behind : 4 ≤ length bytes → IsBytes number → size ≤ length (drop 4 bytes) → (body : List ℕ) → body ≡ take size (drop 4 bytes)
      → (length body ≡ size) × (bytes ≡ to_be_bytes w32 (length body) ++ body ++ drop size (drop 4 bytes))
  stand_behind long fits within body is =
      let tail = drop 4 bytes in
      let of_size : length body ≡ size = omega (arith, ap length is, length-take size tail) in
      let first : to_be_bytes w32 (length body) ≡ take 4 bytes =
      ap (λ (n : ℕ). to_be_bytes w32 n) of_size ∙ be_bytes_4 number size (omega (arith, ap length read, length-take 4 bytes)) fits is_size ∙ read in
      let second : body ++ drop size tail ≡ tail = ap (λ (l : List ℕ). l ++ drop size tail) is ∙ take-append-drop size tail in
      (of_size, sym (append_assoc (to_be_bytes w32 (length body)) body (drop size tail) ∙ (λ i. first i ++ second i) ∙ take-append-drop 4 bytes))

-- ---- an event behind its size

module _ (bytes : List ℕ) (size : ℕ) (is_size : size ≡ from_be_bytes w32 (take 4 bytes)) where
  pub none_short : length (drop 4 bytes) < size → NoEvent bytes
  none_short short e rest is-e = too_short bytes (take 4 bytes) size is_size refl short (event_spelling e) rest (omega (arith, length-event e is-e))

  pub none_spelled : ((e : Event) → SpellsEvent (take size (drop 4 bytes)) e → ⊥) → NoEvent bytes
  none_spelled none e rest is-e parts =
      let s = size_of bytes (take 4 bytes) size is_size refl (event_spelling e) rest (omega (arith, length-event e is-e)) parts in
      none e (record { lawful = is-e; spelled = ap (λ (l : List ℕ). take size l) s.1 ∙ take_at (event_spelling e) rest size (sym s.0) })

  pub one_found : 4 ≤ length bytes → IsBytes (take 4 bytes) → size ≤ length (drop 4 bytes) → (e : Event) → SpellsEvent (take size (drop 4 bytes)) e
      → BeginsWith bytes e (4 + size)
  one_found long fits within e spelled =
      let behind = stand_behind bytes (take 4 bytes) size is_size refl long fits within (event_spelling e) (sym spelled.spelled) in
      record {
        within = omega (arith, length-drop 4 bytes);
        is_event = spelled.lawful;
        parts = behind.1 ∙ ap (λ (l : List ℕ). sized_spelling e ++ l) (drop-drop size 4 bytes);
      }

-- ---- one event after another

-- from a list of events, so many were read, and the rest stands here
pub record IsRead (whole rest : List ℕ) (read : List Event) : Type 0 where
  pub parts : whole ≡ flat_map sized_spelling read ++ rest
  pub each : AllByRecursion IsEvent read

each_more : (read : List Event) (e : Event) → AllByRecursion IsEvent read → IsEvent e → AllByRecursion IsEvent (read ++ e ∷ [])
each_more [] e each is = (is, tt)
each_more (x ∷ read) e each is = (each.0, each_more read e each.1 is)

pub one_more : (whole rest : List ℕ) (read new : List Event) (e : Event) (size : ℕ)
    → IsRead whole rest read → BeginsWith rest e size → new ≡ read ++ e ∷ [] → IsRead whole (drop size rest) new
one_more whole rest read new e size so_far begins is = subst (IsRead whole (drop size rest)) (sym is) (record {
  parts = so_far.parts ∙ ap (λ (l : List ℕ). flat_map sized_spelling read ++ l) begins.parts
      ∙ sym (append_assoc (flat_map sized_spelling read) (sized_spelling e) (drop size rest))
      ∙ ap (λ (l : List ℕ). (flat_map sized_spelling read ++ l) ++ drop size rest) (sym (append-nil (sized_spelling e)))
      ∙ ap (λ (l : List ℕ). l ++ drop size rest) (sym (flat_map-append sized_spelling read (e ∷ [])));
  each = each_more read e so_far.each begins.is_event;
})

pub all_read : (bytes rest : List ℕ) (read : List Event) (count : ℕ)
    → bytes ≡ count ∷ drop 1 bytes → IsRead (drop 1 bytes) rest read → rest ≡ [] → length read ≡ count → 1 ≤ count → count ≤ 64 → SpellsEvents bytes read
all_read bytes rest read count split is_read none same some few = record {
  some = omega (arith, same, some);
  few = omega (arith, same, few);
  each = is_read.each;
  spelled = split
      ∙ ap (λ (l : List ℕ). count ∷ l)
      (is_read.parts ∙ ap (λ (l : List ℕ). flat_map sized_spelling read ++ l) none ∙ append-nil (flat_map sized_spelling read))
      ∙ ap (λ (n : ℕ). n ∷ flat_map sized_spelling read) (sym same);
}

-- so many of the events were read: all of them, and no byte is left, or fewer, and an event begins what is left
abbrev Left : ℕ → ℕ → List ℕ → Type 0
Left read count rest = ((read ≡ count) × (rest ≡ [])) ⊎ ((read < count) × ((e : Event) × (more : List ℕ) × IsEvent e × (rest ≡ sized_spelling e ++ more)))

left_over : (read events : List Event) (rest : List ℕ) → AllByRecursion IsEvent read → AllByRecursion IsEvent events
    → length read ≤ length events → flat_map sized_spelling read ++ rest ≡ flat_map sized_spelling events → Left (length read) (length events) rest
left_over [] [] rest all-r all-e le is = inl (refl, is)
left_over [] (e ∷ events) rest all-r all-e le is = inr (omega arith, (e, flat_map sized_spelling events, all-e.0, is))
left_over (x ∷ read) [] rest all-r all-e le is = absurd cc
left_over (x ∷ read) (y ∷ events) rest all-r all-e le is =
    let parts = sym (append_assoc (sized_spelling x) (flat_map sized_spelling read) rest) ∙ is in
    let first = one_sized x y (flat_map sized_spelling read ++ rest) (flat_map sized_spelling events) all-r.0 all-e.0 parts in
    ⊎_elim (λ all. inl (ap suc all.0, all.1)) (λ one. inr (omega (arith, one.0), one.1)) (left_over read events rest all-r.1 all-e.1 (omega arith) first.1)

module _ (bytes : List ℕ) (count : ℕ) (whole rest : List ℕ) (read : List Event) (split : bytes ≡ count ∷ whole)
    (is_read : IsRead whole rest read) where
  spelled_rest : (events : List Event) → SpellsEvents bytes events → length read ≤ count → Left (length read) count rest
  spelled_rest events spelled le =
      let all : count ∷ whole ≡ length events ∷ flat_map sized_spelling events = sym split ∙ spelled.spelled in
      let same : length events ≡ count = cc in
      subst (λ (n : ℕ). Left (length read) n rest) same
      (left_over read events rest is_read.each spelled.each (omega arith) (sym is_read.parts ∙ ap (λ (l : List ℕ). drop 1 l) all))

  pub none_next : length read < count → NoEvent rest → (events : List Event) → SpellsEvents bytes events → ⊥
  none_next lt none events spelled =
      ⊎_elim (λ all. absurd (omega (arith, all.0))) (λ one. none one.1.0 one.1.1 one.1.2 one.1.3) (spelled_rest events spelled (omega arith))

  pub none_behind : length read ≡ count → 1 ≤ length rest → (events : List Event) → SpellsEvents bytes events → ⊥
  none_behind same some events spelled =
      ⊎_elim (λ all. absurd (omega (arith, ap length all.1))) (λ one. absurd (omega (arith, one.0))) (spelled_rest events spelled (omega arith))

-- bytes spell one list of events
pub one_list : (bytes : List ℕ) (xs ys : List Event) → SpellsEvents bytes xs → SpellsEvents bytes ys → xs ≡ ys
one_list bytes xs ys p q =
    let all : length xs ∷ flat_map sized_spelling xs ≡ length ys ∷ flat_map sized_spelling ys = sym p.spelled ∙ q.spelled in
    let count : length xs ≡ length ys = cc in
    one_run xs ys [] [] p.each q.each count
    (append-nil (flat_map sized_spelling xs) ∙ ap (λ (l : List ℕ). drop 1 l) all ∙ sym (append-nil (flat_map sized_spelling ys)))
