-- What a node's own state shows of the round that pends, whatever brings its answers.
--     round_in s             the pending round, if one pends, by its tag: each round has a tag of its own
--     GainsAnswer s t        from one state to the next the same round has one answer more
--     BeginsAnew s t         the pending phase begins anew: the same stage of the same asks, under the next tag, without an answer
--     EndsRound s t          the round that pends in the one state doesn't pend in the next, and its phase doesn't begin anew
--     IsFrom q e             the event is the delivery of a message of node q
use Rattle.std.specs.Prelude.{◌≡◌, ◌≢◌, ℕ, ◌+◌, true, Option, Some, None, is_some}
use Rattle.cc_messages.specs.declared.event.Event.{Event}
use Rattle.cc_messages.specs.declared.event.Event.TheVariants as event
use Rattle.cc_ops.specs.Ops.{Ops, Phase, Idle, Storing, Querying, StoringBack, pending, seen_in}
use Rattle.cc_laws.specs.Rounds.{awaits_views, answers_in}

abbrev pub round_under : ℕ → Phase → Option ℕ
round_under tag Idle = None
round_under tag (Storing p) = Some tag
round_under tag (Querying p) = Some tag
round_under tag (StoringBack p seen) = Some tag

abbrev pub round_in : Ops → Option ℕ
round_in s = round_under s.tag s.phase

pub record GainsAnswer (s t : Ops) : Type 0 where
  pub same : round_in t ≡ round_in s
  pub more : answers_in t.phase ≡ answers_in s.phase + 1

-- nothing is written, and what was asked, what is stored back and what is awaited stay; the old round stays unanswered
pub record BeginsAnew (s t : Ops) : Type 0 where
  pub pended : is_some (round_in s) ≡ true
  pub tag : t.tag ≡ s.tag + 1
  pub number : t.number ≡ s.number
  pub asked : pending t ≡ pending s
  pub seen : seen_in t.phase ≡ seen_in s.phase
  pub awaited : awaits_views t.phase ≡ awaits_views s.phase
  pub none : answers_in t.phase ≡ 0

pub record EndsRound (s t : Ops) : Type 0 where
  pub pended : is_some (round_in s) ≡ true
  pub over : round_in t ≢ round_in s
  pub for_good : ¬ (BeginsAnew s t)

abbrev pub IsFrom : ℕ → Event → Type 0
IsFrom q (event.Deliver from n m) = from ≡ q
IsFrom q _ = ⊥
