-- What a node knows, and posts, where nobody enters, leaves or is retired: the members that all began with, and messages of
-- rounds. A snapshot that comes tells these members alone.
--     fixed_changes, KnowsFixed          who entered, joined and left then;  a core that knows so, of a member
--     IsOfRound, IsQuiet                 the messages and the events of such a cluster
--     quiet_post                         what is posted then is of a round
--     fixed_next, fixed_along            and nobody else is known
--     fresh_fixed, quorum_next           from the start;  so a round needs as many answers as before
use Rattle.std.proofs.Common.{◌≡◌, ℕ, Bool, true, false, ◌&&◌, ◌||◌, not, nat_lt, ◌+◌, List, [], ◌∷◌, refl, sym, ap, subst, ◌∙◌}
use Rattle.std.specs.Prelude.{IsTrue, Option, None, IfSome, ⊤, if◌then◌else◌}
use Rattle.std.specs.List.{AllByRecursion}
use Rattle.std.proofs.lemmas.Bool.{cond_both}
use Rattle.cc_views.specs.NatSets as set
use Rattle.cc_views.specs.NatSets.{NatSet, same_ids, contains-union}
use Rattle.cc_views.specs.Rows.{ViewMap}
use Rattle.cc_changes.specs.ChangeSets as known
use Rattle.cc_changes.specs.ChangeSets.{ChangeSets}
use Rattle.cc_changes.specs.Need.{needed}
use Rattle.cc_messages.specs.declared.event.Event.{Event}
use Rattle.cc_messages.specs.declared.event.Event.TheVariants as event
use Rattle.cc_messages.specs.declared.message.Message.{Message}
use Rattle.cc_messages.specs.declared.message.Message.TheVariants as message
use Rattle.cc_ops.specs.declared.pending_operation.Asked.{Asked}
use Rattle.cc_ops.specs.Commands.{is_writing}
use Rattle.cc_churn.specs.Churn as churn
use Rattle.cc_links.specs.Links as links
use Rattle.cc_ops.specs.Ops as ops
use Rattle.cc_ops.specs.WaitingAsks.{first_in}
use Rattle.cc_ops.specs.Ops.{Ops, Phase, Idle}
use Rattle.cc_node.specs.Core.{Core, quorum, churned, churn_told, told_if, is_told_of, skips, links_heard, tells, asks_anew, join_told, question_if}
use Rattle.cc_node.specs.Core.{post_of_snapshot, begun, handled, next, post}
use Rattle.cc_node.specs.Node.{Node, step, after}
use Rattle.cc_node.specs.Openings.{Opening, fresh}
use Rattle.cc_laws.proofs.Lists.{some_if, some_or, some_mapped}
use Rattle.cc_laws.proofs.Steps.{me_next}

abbrev pub fixed_changes : List ℕ → ChangeSets
fixed_changes all = record { entered = set.from_list all; joined = set.from_list all; left = set.empty }

pub record KnowsFixed (all : List ℕ) (c : Core) : Type 0 where
  pub changes : c.churn.changes ≡ fixed_changes all
  pub me : IsTrue (set.contains (set.from_list all) c.me)

abbrev pub IsOfRound : List ℕ → Message → Type 0
IsOfRound all (message.Query tag q) = ⊤
IsOfRound all (message.QueryReply v tag q) = ⊤
IsOfRound all (message.Store v tag q) = ⊤
IsOfRound all (message.StoreAck tag q) = ⊤
IsOfRound all (message.Snapshot c v) = c ≡ fixed_changes all
IsOfRound all _ = ⊥

abbrev pub IsQuiet : List ℕ → Event → Type 0
IsQuiet all event.Enter = ⊥
IsQuiet all event.Leave = ⊥
IsQuiet all (event.Deliver from n m) = IsOfRound all m
IsQuiet all (event.Retire q) = ⊥
IsQuiet all _ = ⊤

-- ---- sets

or_itself : (b : Bool) → (b || b) ≡ b
or_itself true = refl
or_itself false = refl

union_itself : (s : NatSet) → set.union s s ≡ s
union_itself s = same_ids (set.union s s) s (λ q. contains-union s s q ∙ or_itself (set.contains s q))

fixed_union : (all : List ℕ) → known.union (fixed_changes all) (fixed_changes all) ≡ fixed_changes all
fixed_union all =
    let s = set.from_list all in
    let thrice : set.union s (set.union s s) ≡ s = ap (λ (t : NatSet). set.union s t) (union_itself s) ∙ union_itself s in
    λ i. record { entered = thrice i; joined = union_itself s i; left = union_itself set.empty i }

union_fixed : (all : List ℕ) (c d : ChangeSets) → c ≡ fixed_changes all → d ≡ fixed_changes all → known.union c d ≡ fixed_changes all
union_fixed all c d h k = (λ i. known.union (h i) (k i)) ∙ fixed_union all

-- ---- a member counts no snapshot as an echo

none_lacks : (a b joined less : Bool) → joined ≡ true → (a && (b && (not joined && less))) ≡ false
none_lacks false b joined less h = refl
none_lacks true false joined less h = refl
none_lacks true true true less h = refl
none_lacks true true false less h = cc

-- ---- posts

first_of_round : (all : List ℕ) (me : ℕ) (a : Asked) (s : Ops) → IsOfRound all (ops.first_post me a s)
first_of_round all me a s = cond_both (is_writing a.command) (message.Store s.view s.tag me) (message.Query s.tag me) (IsOfRound all) (λ _. tt) (λ _. tt)

ops_quiet : (all : List ℕ) (me : ℕ) (joined : Bool) (m : Message) (s t : Ops) → IfSome (ops.post_of me joined m s t) (IsOfRound all)
ops_quiet all me joined (message.Query tag q) s t = some_if (IsOfRound all) joined (message.QueryReply t.view tag q) tt
ops_quiet all me joined (message.QueryReply v tag q) s t = some_if (IsOfRound all) _ (message.Store t.view t.tag me) tt
ops_quiet all me joined (message.Store v tag q) s t = some_if (IsOfRound all) joined (message.StoreAck tag q) tt
ops_quiet all me joined (message.StoreAck tag q) s t =
    some_mapped (IsOfRound all) (λ a. ops.first_post me a t) (first_in (ops.begun_by me (message.StoreAck tag q) s)) (λ a. first_of_round all me a t)
ops_quiet all me joined _ s t = tt

-- the Join of a node that joins with a snapshot, where none does
none_joins : (P : Message → Type 0) (b : Bool) (o : Option Message) → b ≡ false → IfSome (if b then o else None) P
none_joins P true o h = cc
none_joins P false o h = tt

asked_again : (all : List ℕ) (me quorum tag : ℕ) (v : ViewMap) (phase : Phase) → IfSome (ops.question_in me v tag (ops.again quorum phase)) (IsOfRound all)
asked_again all me quorum tag v Idle = tt
asked_again all me quorum tag v _ = tt

question_quiet : (all : List ℕ) (b : Bool) (me quorum : ℕ) (s : Ops) → IfSome (question_if b me quorum s) (IsOfRound all)
question_quiet all true me quorum s = asked_again all me quorum (s.tag + 1) s.view s.phase
question_quiet all false me quorum s = tt

beta_next : (c : Core) (e : Event) → (next c e).beta ≡ c.beta
unfolding next
beta_next c event.Enter = refl
beta_next c _ = refl

-- ---- a node that knows just these members

module _ (all : List ℕ) (c : Core) (k : KnowsFixed all c) where
  still_joined : (d : ChangeSets) → set.contains (known.union c.churn.changes d).joined c.me ≡ true
  still_joined d =
      contains-union c.churn.changes.joined d.joined c.me
      ∙ ap (λ (s : ChangeSets). set.contains s.joined c.me || set.contains d.joined c.me) k.changes
      ∙ ap (λ b. b || set.contains d.joined c.me) k.me

  not_told : (from n : ℕ) (d : ChangeSets) (v : ViewMap) → tells c from n (message.Snapshot d v) ≡ false
  not_told from n d v =
      let m = message.Snapshot d v in
      none_lacks (is_told_of c.me m) (skips c from n) (set.contains (known.union c.churn.changes d).joined c.me)
      (nat_lt (churned c m).echoes (links.heard_of (links_heard c from n m))) (still_joined d)

  snapshot_quiet : (from n : ℕ) (d : ChangeSets) (v : ViewMap)
      → IfSome (post_of_snapshot c from n (message.Snapshot d v)) (IsOfRound all)
  snapshot_quiet from n d v =
      let m = message.Snapshot d v in
      let b = asks_anew c from n m in
      let need = churn.quorum c.beta (churn_told c from n m) in
      some_or (IsOfRound all) (join_told c from n m) (question_if b c.me need (ops.merged v c.ops))
      (none_joins (IsOfRound all) (tells c from n m) (churn.join_told c.me c.gamma (churned c m)) (not_told from n d v))
      (question_quiet all b c.me need (ops.merged v c.ops))

  message_quiet : (from n : ℕ) (m : Message) → IsOfRound all m → IfSome (post c (event.Deliver from n m)) (IsOfRound all)
  message_quiet from n (message.Query tag q) h = some_if (IsOfRound all) _ (message.QueryReply c.ops.view tag q) tt
  message_quiet from n (message.QueryReply v tag q) h =
      let d = handled c (event.Deliver from n (message.QueryReply v tag q)) in ops_quiet all c.me true (message.QueryReply v tag q) c.ops d.ops
  message_quiet from n (message.Store v tag q) h = some_if (IsOfRound all) _ (message.StoreAck tag q) tt
  message_quiet from n (message.StoreAck tag q) h =
      let d = handled c (event.Deliver from n (message.StoreAck tag q)) in ops_quiet all c.me true (message.StoreAck tag q) c.ops d.ops
  message_quiet from n (message.Snapshot d v) h =
      some_or (IsOfRound all) (post_of_snapshot c from n (message.Snapshot d v)) None (snapshot_quiet from n d v) tt
  message_quiet from n _ h = absurd h

  pub quiet_post : (e : Event) → IsQuiet all e → IfSome (post c e) (IsOfRound all)
  quiet_post (event.Deliver from n m) h = message_quiet from n m h
  quiet_post (event.Acked peer n) h = tt
  quiet_post (event.Ask s r command) h =
      some_mapped (IsOfRound all) (λ a. ops.first_post c.me a (handled c (event.Ask s r command)).ops) (first_in (begun c (event.Ask s r command)))
      (λ a. first_of_round all c.me a (handled c (event.Ask s r command)).ops)
  quiet_post (event.Lapse q) h = tt
  quiet_post event.Snapshot h = k.changes
  quiet_post (event.Skip from posts) h = tt
  quiet_post (event.Share share) h = tt
  quiet_post _ h = absurd h

  message_known : (from n : ℕ) (m : Message) → IsOfRound all m → (churn_told c from n m).changes ≡ fixed_changes all
  message_known from n (message.Query tag q) h = k.changes
  message_known from n (message.QueryReply v tag q) h = k.changes
  message_known from n (message.Store v tag q) h = k.changes
  message_known from n (message.StoreAck tag q) h = k.changes
  message_known from n (message.Snapshot d v) h =
      ap (λ b. (told_if b c.me c.gamma (churned c (message.Snapshot d v))).changes) (not_told from n d v) ∙ union_fixed all c.churn.changes d k.changes h
  message_known from n _ h = absurd h

  changes_next : (e : Event) → IsQuiet all e → (next c e).churn.changes ≡ fixed_changes all
  unfolding next
  changes_next event.Enter h = absurd h
  changes_next event.Leave h = absurd h
  changes_next (event.Deliver from n m) h = message_known from n m h
  changes_next (event.Retire q) h = absurd h
  changes_next _ h = k.changes

  pub fixed_next : (e : Event) → IsQuiet all e → KnowsFixed all (next c e)
  fixed_next e h = record {
    changes = changes_next e h;
    me = subst (λ (x : ℕ). IsTrue (set.contains (set.from_list all) x)) (sym (me_next c e)) k.me;
  }

  pub quorum_next : (e : Event) → IsQuiet all e → quorum (next c e) ≡ quorum c
  quorum_next e h =
      let same : (next c e).churn.changes ≡ c.churn.changes = changes_next e h ∙ sym k.changes in
      λ i. needed (beta_next c e i) (set.len (known.members (same i)))

pub fixed_along : (all : List ℕ) (n : Node) → KnowsFixed all n.core → (es : List Event) → AllByRecursion (IsQuiet all) es → KnowsFixed all (after n es).core
unfolding step
fixed_along all n k [] h = k
fixed_along all n k (e ∷ es) h = fixed_along all (step n e) (fixed_next all n.core k e h.0) es h.1

pub fresh_fixed : (all : List ℕ) (o : Opening) → o.initial ≡ all → IsTrue (set.contains (set.from_list all) o.me) → KnowsFixed all (fresh o).core
unfolding fresh
fresh_fixed all o is me = record { changes = ap fixed_changes is; me = me }
