-- The lives of a node, from one opening to the next. A life ends as a crash leaves it, or as a process does that ends.
--     Life                       its events, which of them are surely durable, and what its last moment left
--     IsLifeOf n l               the node lived so: its events weren't refused, and its last moment was good for them
--     LivesFrom n ls m           a node lived so, life after life, and opening what the last left gives m
--     put_by, put_along          the outputs that a life put;  that lives put
--     IsPut ls v                 a view that they put;  IsSeen ls m v: or that the node m shows
--     BeginsWithLife, AreParts   a life's first events, no fewer than were durable, as they were found again;  so life after life
--     IsHistoryOf n ls m es      one list of events is the history of all these lives
--     accepted_along             the events that the lives accepted, one after the other
--     durable_along              those of them that were surely durable
--     IsSubsequence xs ys        some of the events of ys, in their order
use Rattle.std.specs.Prelude.{◌≡◌, ◌⊎◌, ◌≤◌, ℕ, List, [], ◌∷◌, ◌++◌, length, take, drop, Some}
use Rattle.std.specs.List.{Contains}
use Rattle.cc_views.specs.Rows.{ViewMap}
use Rattle.cc_messages.specs.declared.event.Event.{Event}
use Rattle.cc_messages.specs.declared.output.Output.{Output}
use Rattle.cc_site.specs.declared.site.Side.TheVariants.{A, B}
use Rattle.cc_site.specs.Moments.{Contents}
use Rattle.cc_node.specs.Node.{Node, after, MayBeOut, IsLawful}
use Rattle.cc_node_state.specs.Sides.{Stands}
use Rattle.cc_node_state.specs.Good.{IsGoodAt}
use Rattle.cc_laws.specs.Shown.{in_output, Shows}

pub record Life : Type 0 where
  pub events : List Event
  -- the first so many events were said to be durable
  pub durable : ℕ
  -- how much the outlet had got when the life began
  pub opening : ℕ
  -- what the last moment left of both sides, and all that the outlet had got by then
  pub left : Contents
  pub told : List Output

-- each call's contract says of each moment that it is good, whatever a crash leaves then
pub record IsLifeOf (n : Node) (l : Life) : Type 0 where
  pub lawful : IsLawful n l.events
  pub good : IsGoodAt n l.events l.durable l.opening (l.left A) (l.left B) l.told

abbrev pub LivesFrom : Node → List Life → Node → Type 0
LivesFrom n [] m = m ≡ n
LivesFrom n (l ∷ ls) m = IsLifeOf n l × (next : Node) × Stands (l.left A) (l.left B) next × LivesFrom next ls m

abbrev pub put_by : Life → List Output
put_by l = drop l.opening l.told

abbrev pub put_along : List Life → List Output
put_along [] = []
put_along (l ∷ ls) = put_by l ++ put_along ls

abbrev pub IsPut : List Life → ViewMap → Type 0
IsPut ls v = (o : Output) × Contains (put_along ls) o × (in_output o ≡ Some v)

abbrev pub IsSeen : List Life → Node → ViewMap → Type 0
IsSeen ls m v = IsPut ls v ⊎ Shows m v

-- The first so many events of a life that began at n, no fewer than were durable, and then a rest of which that holds, at the
-- node after them. What the life left stands for that node.
pub record BeginsWithLife (n : Node) (l : Life) (Follows : Node → List Event → Type 0) (es : List Event) : Type 0 where
  pub kept : ℕ
  pub has_durable : l.durable ≤ kept
  pub within : kept ≤ length l.events
  pub opened : Stands (l.left A) (l.left B) (after n (take kept l.events))
  pub rest : List Event
  pub parts : es ≡ take kept l.events ++ rest
  pub follows : Follows (after n (take kept l.events)) rest

-- what was found again of each life's events, life after life
abbrev pub AreParts : Node → List Life → List Event → Type 0
AreParts n [] es = es ≡ []
AreParts n (l ∷ ls) es = BeginsWithLife n l (λ next rest. AreParts next ls rest) es

-- No event of it is refused, it leads from the first start to the last opening, and what the lives put was made along it. It
-- is what was found again of the events that each of them accepted, with all that was durable.
pub record IsHistoryOf (n : Node) (ls : List Life) (m : Node) (es : List Event) : Type 0 where
  pub lawful : IsLawful n es
  pub leads_to : m ≡ after n es
  pub made : (o : Output) → Contains (put_along ls) o → MayBeOut n es o
  pub parts : AreParts n ls es

abbrev pub accepted_along : List Life → List Event
accepted_along [] = []
accepted_along (l ∷ ls) = l.events ++ accepted_along ls

abbrev pub durable_along : List Life → List Event
durable_along [] = []
durable_along (l ∷ ls) = take l.durable l.events ++ durable_along ls

abbrev pub IsSubsequence : List Event → List Event → Type 0
IsSubsequence xs [] = xs ≡ []
IsSubsequence xs (y ∷ ys) = IsSubsequence xs ys ⊎ ((rest : List Event) × (xs ≡ y ∷ rest) × IsSubsequence rest ys)
