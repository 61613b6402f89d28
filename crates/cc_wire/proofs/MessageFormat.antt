-- Messages are read as they are spelled.
use Rattle.std.proofs.Common.{◌≡◌, ℕ, cond, eqb, List, [], ◌∷◌, ◌++◌, Ok, refl}
use Rattle.cc_messages.specs.declared.message.Message.{Message}
use Rattle.cc_messages.specs.declared.message.Message.TheVariants.{Enter, EnterEcho, Join, JoinEcho, Leave, LeaveEcho, Query, QueryReply, Store}
use Rattle.cc_messages.specs.declared.message.Message.TheVariants.{StoreAck, Snapshot}
use Rattle.cc_wire.specs.Readers.{Reading, via}
use Rattle.cc_wire.specs.Messages.{call_spelling, IsCall, echo_spelling, IsEcho, message_spelling, IsMessage, snapshot_spelling, IsSnapshot, call_at}
use Rattle.cc_wire.specs.Messages.{echo_at, snapshot_at, fields_of, message_at}
use Rattle.cc_wire.proofs.Spelled.{IsBytes, Takes, Spelled, both, as_facts, kind_or, kinded_takes}
use Rattle.cc_wire.proofs.Formats.{u64_spelled, from_spelled, id_spelled, flag_spelled, view_spelled, changes_spelled}

call_spelled : Spelled call_at (λ p. IsCall p.0 p.1) (λ p. call_spelling p.0 p.1)
call_spelled = as_facts (λ p. IsCall p.0 p.1)
    (λ p h. record { tag_fits = h.0; is_id = h.1.1; node_fits = h.1.0 })
    (λ p h. (h.tag_fits, (h.node_fits, h.is_id)))
    (both u64_spelled (from_spelled 1))

echo_spelled : Spelled echo_at (λ f. IsEcho f.0 f.1.0 f.1.1.1) (λ f. echo_spelling f.0 f.1.0 f.1.1.0 f.1.1.1)
echo_spelled = as_facts (λ f. IsEcho f.0 f.1.0 f.1.1.1)
    (λ f h. record { changes_fit = h.0; view_fits = h.1.0; is_id = record { positive = h.1.1.1.1; fits = h.1.1.1.0 } })
    (λ f h. (h.changes_fit, (h.view_fits, (tt, (h.is_id.fits, h.is_id.positive)))))
    (both changes_spelled (both view_spelled (both flag_spelled (from_spelled 1))))

snapshot_spelled : Spelled snapshot_at (λ f. IsSnapshot f.0 f.1) (λ f. snapshot_spelling f.0 f.1)
snapshot_spelled = as_facts (λ f. IsSnapshot f.0 f.1)
    (λ f h. record { changes_fit = h.0; view_fits = h.1 })
    (λ f h. (h.changes_fit, h.view_fits))
    (both changes_spelled view_spelled)

module _ (bytes after : List ℕ) (k : ℕ) (m : Message) (rest : List ℕ) (fits : IsBytes after) (front : Takes bytes (k ∷ []) after) where
  abbrev case : {A : Type 0} {r : Reading A} {P : A → Type 0} {f : A → List ℕ} (spelled : Spelled r P f) (make : A → Message) (kind : ℕ)
      → ((a : A) → P a → IsMessage (make a)) → ((a : A) → message_spelling (make a) ≡ kind ∷ f a)
      → (other : Reading Message) → (other after ≡ Ok (m, rest) → Takes bytes (message_spelling m) rest × IsMessage m)
      → (cond (eqb k kind) (via make r) other) after ≡ Ok (m, rest) → Takes bytes (message_spelling m) rest × IsMessage m
  case = kind_or message_spelling IsMessage bytes after k m rest fits front

  fields_take : fields_of k after ≡ Ok (m, rest) → Takes bytes (message_spelling m) rest × IsMessage m
  fields_take =
      case id_spelled (λ node. Enter node) 1 (λ a h. h) (λ a. refl) _ (
      case echo_spelled (λ f. EnterEcho f.0 f.1.0 f.1.1.0 f.1.1.1) 2 (λ a h. h) (λ a. refl) _ (
      case id_spelled (λ node. Join node) 3 (λ a h. h) (λ a. refl) _ (
      case id_spelled (λ node. JoinEcho node) 4 (λ a h. h) (λ a. refl) _ (
      case id_spelled (λ node. Leave node) 5 (λ a h. h) (λ a. refl) _ (
      case id_spelled (λ node. LeaveEcho node) 6 (λ a h. h) (λ a. refl) _ (
      case call_spelled (λ f. Query f.0 f.1) 7 (λ a h. h) (λ a. refl) _ (
      case (both view_spelled call_spelled) (λ f. QueryReply f.0 f.1.0 f.1.1) 8 (λ a h. h) (λ a. refl) _ (
      case (both view_spelled call_spelled) (λ f. Store f.0 f.1.0 f.1.1) 9 (λ a h. h) (λ a. refl) _ (
      case call_spelled (λ f. StoreAck f.0 f.1) 10 (λ a h. h) (λ a. refl) _ (
      case snapshot_spelled (λ f. Snapshot f.0 f.1) 32 (λ a h. h) (λ a. refl) _ (
      λ e. absurd cc)))))))))))

message_again : (m : Message) (rest : List ℕ) → IsMessage m → message_at (message_spelling m ++ rest) ≡ Ok (m, rest)
unfolding message_at
message_again (Enter node) rest is = rw (id_spelled.again node rest is) refl
message_again (EnterEcho changes view is_joined node) rest is = rw (echo_spelled.again (changes, (view, (is_joined, node))) rest is) refl
message_again (Join node) rest is = rw (id_spelled.again node rest is) refl
message_again (JoinEcho node) rest is = rw (id_spelled.again node rest is) refl
message_again (Leave node) rest is = rw (id_spelled.again node rest is) refl
message_again (LeaveEcho node) rest is = rw (id_spelled.again node rest is) refl
message_again (Query tag node) rest is = rw (call_spelled.again (tag, node) rest is) refl
message_again (QueryReply view tag node) rest is = rw ((both view_spelled call_spelled).again (view, (tag, node)) rest is) refl
message_again (Store view tag node) rest is = rw ((both view_spelled call_spelled).again (view, (tag, node)) rest is) refl
message_again (StoreAck tag node) rest is = rw (call_spelled.again (tag, node) rest is) refl
message_again (Snapshot changes view) rest is = rw (snapshot_spelled.again (changes, view) rest is) refl

pub message_spelled : Spelled message_at IsMessage message_spelling
unfolding message_at
message_spelled = record { takes = kinded_takes fields_take; again = message_again }
