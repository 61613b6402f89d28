-- How a node comes, joins and goes: the events Enter and Leave, and the messages about other nodes' coming and going.
--     Churn                          who entered, joined and left, and how far the own entering has come
--     after_message me gamma m s     what a message makes of it
--     post_of me gamma m s view      what is posted in return
--     told me gamma s                what a snapshot makes of it that counts as an echo;  join_told: the Join that is then posted
use Rattle.std.specs.Prelude.{◌==◌, ℕ, ◌+◌, Bool, true, ◌&&◌, not, if◌then◌else◌, nat_le}
use Rattle.std.specs.Prelude.{Option, Some, None}
use Rattle.std.specs.Bool.{then_some}
use Rattle.std.specs.Prelude.{refl}
use Rattle.std.specs.Coded.{Coded, code_by, coded×, coded_ℕ}
use Rattle.cc_views.specs.NatSets as set
use Rattle.cc_views.specs.Rows.{ViewMap}
use Rattle.cc_changes.specs.ChangeSets.{ChangeSets, change_sets_code, nothing_known, present, members, add_enter, add_join, add_leave, union}
use Rattle.cc_changes.specs.Need.{needed}
use Rattle.cc_changes.specs.declared.fraction.Fraction.{Fraction}
use Rattle.cc_messages.specs.declared.message.Message.{Message}
use Rattle.cc_messages.specs.declared.message.Message.TheVariants as message

pub record Churn : Type 0 where
  pub changes : ChangeSets
  -- how many echoes came to the own Enter, and how many are needed to join, 0 as long as that isn't known
  pub echoes : ℕ
  pub need : ℕ

-- as the triple of its fields
abbrev pub churn_code : Coded Churn
churn_code =
    code_by (ChangeSets × (ℕ × ℕ)) (coded× change_sets_code (coded× coded_ℕ coded_ℕ))
    (λ s. (s.changes, (s.echoes, s.need))) (λ p. record { changes = p.0; echoes = p.1.0; need = p.1.1 }) (λ _. refl)

-- nobody entered, joined or left
abbrev pub nobody : Churn
nobody = record { changes = nothing_known; echoes = 0; need = 0 }

-- how many answers an operation needs that begins now
abbrev pub quorum : Fraction → Churn → ℕ
quorum beta s = needed beta (set.len (members s.changes))

abbrev pub with_entered : ℕ → Churn → Churn
with_entered q s = record s { changes = add_enter s.changes q }

abbrev pub with_left : ℕ → Churn → Churn
with_left q s = record s { changes = add_leave s.changes q }

abbrev pub has_entered : ℕ → Churn → Bool
has_entered me s = set.contains s.changes.entered me

abbrev pub has_joined : ℕ → Churn → Bool
has_joined me s = set.contains s.changes.joined me

abbrev pub has_left : ℕ → Churn → Bool
has_left me s = set.contains s.changes.left me

-- the first echo of a joined node says how many are needed
abbrev pub with_need : Fraction → Bool → Churn → Churn
with_need gamma from_joined s =
    if from_joined && (s.need == 0) then record s { need = needed gamma (set.len (present s.changes)) } else s

abbrev pub with_echo : Churn → Churn
with_echo s = record s { echoes = s.echoes + 1 }

-- whether enough echoes came
abbrev pub is_answered : Churn → Bool
is_answered s = not (s.need == 0) && nat_le s.need s.echoes

abbrev pub joined_if_answered : ℕ → Churn → Churn
joined_if_answered me s = if is_answered s then record s { changes = add_join s.changes me } else s

-- an echo that knows these changes, to the Enter of q
abbrev pub united : ChangeSets → Churn → Churn
united c s = record s { changes = union s.changes c }

-- whether an echo to q counts for this node: it answers its own Enter, and the node hasn't joined
abbrev pub counts_for : ℕ → ℕ → Churn → Bool
counts_for me q s = (q == me) && not (has_joined me s)

-- one more echo to the own Enter
abbrev pub echoed : ℕ → Fraction → Bool → Churn → Churn
echoed me gamma from_joined s = joined_if_answered me (with_echo (with_need gamma from_joined s))

abbrev pub counted : ℕ → Fraction → Bool → ℕ → Churn → Churn
counted me gamma from_joined q s = if counts_for me q s then echoed me gamma from_joined s else s

abbrev pub after_message : ℕ → Fraction → Message → Churn → Churn
after_message me gamma (message.Enter q) s = record s { changes = add_enter s.changes q }
after_message me gamma (message.EnterEcho c v from_joined q) s = counted me gamma from_joined q (united c s)
after_message me gamma (message.Join q) s = record s { changes = add_join s.changes q }
after_message me gamma (message.JoinEcho q) s = record s { changes = add_join s.changes q }
after_message me gamma (message.Leave q) s = record s { changes = add_leave s.changes q }
after_message me gamma (message.LeaveEcho q) s = record s { changes = add_leave s.changes q }
after_message me gamma (message.Snapshot c v) s = united c s
after_message me gamma _ s = s

-- what an Enter of q is answered with
abbrev pub echo_of : ℕ → Churn → ViewMap → ℕ → Message
echo_of me s view q = message.EnterEcho s.changes view (has_joined me s) q

-- the Join, where an echo makes the node join
abbrev pub join_of : ℕ → ChangeSets → Churn → Churn → Option Message
join_of me c before after = then_some (not (has_joined me (united c before)) && has_joined me after) (message.Join me)

-- whether the node joins with an echo to its Enter
abbrev pub joins_by : ℕ → Fraction → ChangeSets → Bool → Churn → Bool
joins_by me gamma c from_joined s =
    let known = united c s in not (has_joined me known) && is_answered (with_echo (with_need gamma from_joined known))

-- before and after are the states around the message; view is the node's
abbrev pub post_of : ℕ → ViewMap → Message → Churn → Churn → Option Message
post_of me view (message.Enter q) before after = Some (echo_of me after view q)
post_of me view (message.EnterEcho c v from_joined q) before after = join_of me c before after
post_of me view (message.Join q) before after = Some (message.JoinEcho q)
post_of me view (message.Leave q) before after = Some (message.LeaveEcho q)
post_of me view _ before after = None

-- a snapshot that tells what a lapsed echo told counts as the echo of a joined node, for a node that hasn't joined
abbrev pub told : ℕ → Fraction → Churn → Churn
told me gamma s = echoed me gamma true s

-- whether the node joins with it
abbrev pub joins_told : Fraction → Churn → Bool
joins_told gamma s = is_answered (with_echo (with_need gamma true s))

abbrev pub join_told : ℕ → Fraction → Churn → Option Message
join_told me gamma s = then_some (joins_told gamma s) (message.Join me)
