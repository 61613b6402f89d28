-- The rule of the queue between the intake and the flusher.
--     IsOneLine               the rule: what was pushed is what was popped and then what the queue holds
--     pass_view, producer, consumer, nobody     what a pass may do, and what it has seen:  of any;  of each end;  of none
--     newcomer, both, found   the first pass;  the two ends together;  one find more
--     Pushed, Popped          what a push and a pop make of it
--     WasRest                 at that look the queue held these behind a taken list
--     unnamed                 the name of no queue
--     no_opening              a node that a life which isn't named begins with
use Rattle.std.specs.Prelude.{◌≡◌, ℕ, ◌+◌, ◌≤◌, Bool, true, false, List, [], ◌∷◌, ◌++◌, length}
use mathlib.Core.Option.{some}
use lib.ListN.{get_elem?}
use Rattle.atomic_table.specs.Seated.{TableId}
use Rattle.cc_node.specs.Node.{Node}
use Rattle.cc_node.specs.Openings.{fresh}
use Rattle.cc_journal.specs.declared.entry.Entry.{Entry}
use Rattle.cc_journal.specs.Batches.{AreLawful}
use Rattle.cc_intake.specs.declared.rule.PassView.{PassView}
use Rattle.cc_intake.specs.Histories.{life_limit}

abbrev pub unnamed : TableId
unnamed = record { words = 0; slots = 0; views_name = 0; atom = 0; block = 0; offset = 0; slot_names = [] }

abbrev pub no_opening : Node
no_opening = fresh (record { me = 1; initial = []; contacts = []; beta = record { num = 1; den = 1 }; gamma = record { num = 1; den = 1 }; share = 1 })

abbrev pub pass_view : Bool → Bool → List Entry → List Entry → ℕ → PassView
pass_view pushes pops sent got finds = record { pushes = pushes; pops = pops; sent = sent; got = got; finds = finds }

abbrev pub newcomer : PassView
newcomer = pass_view true true [] [] 0

abbrev pub producer : List Entry → ℕ → PassView
producer sent finds = pass_view true false sent [] finds

abbrev pub consumer : List Entry → ℕ → PassView
consumer got finds = pass_view false true [] got finds

abbrev pub nobody : PassView
nobody = pass_view false false [] [] 0

abbrev pub both : PassView → PassView → PassView
both v w = pass_view true true v.sent w.got 0

abbrev pub found : PassView → PassView
found v = pass_view v.pushes v.pops v.sent v.got (v.finds + 1)

-- what was pushed is the list that was taken at the look of this number, and then these
abbrev pub WasRest : (ℕ → List Entry → Type 0) → ℕ → List Entry → List Entry → Type 0
WasRest taken look sent items = (got : List Entry) × (sent ≡ got ++ items) × taken look got

abbrev pub Pushed : PassView → Entry → PassView → Type 0
Pushed v x w = w ≡ pass_view v.pushes v.pops (v.sent ++ x ∷ []) v.got v.finds

-- the popped entries are lawful from this node on
abbrev pub Popped : Node → PassView → Entry → PassView → Type 0
Popped opening v x w =
    (w ≡ pass_view v.pushes v.pops v.sent (v.got ++ x ∷ []) v.finds) × AreLawful opening (v.got ++ x ∷ []) × (length (v.got ++ x ∷ []) ≤ life_limit)

-- one pass at most may push, and has the list of what was pushed; one at most may pop, and has the list of what was popped
abbrev pub Knows : ℕ → ℕ → List Entry → List Entry → ℕ → PassView → Type 0
Knows pusher popper sent got port v = (v.pushes ≡ true → (port ≡ pusher) × (v.sent ≡ sent)) × (v.pops ≡ true → (port ≡ popper) × (v.got ≡ got))

-- What was pushed is what was popped and then what the queue holds. It is lawful from the node that was opened, there are at
-- most so many entries of one life, and whichever look comes next finds it reached, and what was popped taken.
pub record IsOneLine (opening : Node) (reached taken : ℕ → List Entry → Type 0) (items : List Entry) (views : List PassView) : Type 0 where
  pub pusher : ℕ
  pub popper : ℕ
  pub sent : List Entry
  pub got : List Entry
  pub whole : sent ≡ got ++ items
  pub lawful : AreLawful opening sent
  pub limit : length sent ≤ life_limit
  pub here : (look : ℕ) → reached look sent
  pub there : (look : ℕ) → taken look got
  pub knows : (port : ℕ) (v : PassView) → get_elem? views port ≡ some v → Knows pusher popper sent got port v
