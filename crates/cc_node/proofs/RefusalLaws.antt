-- What is known of an event that isn't refused.
--     takes_delivery, takes_ack, takes_ask, takes_retire, takes_lapse, takes_skip, takes_share     what each check that passed says
--     takes_any                                no post is too many, and no counter goes past its limit
--     stays_within, none_overruns              a counter that isn't spent stays within its limit
use Rattle.std.proofs.Common.{◌≡◌, ℕ, ◌+◌, ◌-◌, ◌≤◌, Bool, true, false, not, ◌&&◌, ◌||◌, nat_lt, nat_le, List, [], ◌∷◌, length, refl, inl, inr, arith}
use Rattle.std.specs.Prelude.{Option, Some, None, is_some, ◌==◌}
use Rattle.std.specs.Option.{option_map_or}
use Rattle.std.specs.Bool.{then_some}
use Rattle.std.specs.List.{AllByRecursion}
use Rattle.std.specs.FinMap as table
use Rattle.std.proofs.lemmas.Bool.{or_parts, and_cases, eqb-false, ltb-false}
use Rattle.cc_views.specs.Limits.{counter_limit, known_limit, overruns}
use Rattle.cc_ops.specs.Refusals.{passes}
use Rattle.cc_messages.specs.declared.command.Command.{Command}
use Rattle.cc_messages.specs.Messages.{is_snapshot}
use Rattle.cc_messages.specs.Ranges.{Range}
use Rattle.cc_messages.specs.declared.event.Event.{Event}
use Rattle.cc_messages.specs.declared.event.Event.TheVariants as event
use Rattle.cc_messages.specs.declared.message.Message.{Message}
use Rattle.cc_messages.specs.declared.refusal.Refusal.{Refusal}
use Rattle.cc_messages.specs.declared.refusal.Refusal.TheVariants as refusal
use Rattle.cc_messages.specs.Refusals.{first_of}
use Rattle.cc_ops.specs.Commands.{finds_no_room}
use Rattle.cc_ops.specs.Ops.{is_idle, pending, unanswered, mine_at_last}
use Rattle.cc_ops.specs.WaitingAsks.{line_limit, has_session}
use Rattle.cc_churn.specs.Churn.{has_left}
use Rattle.cc_links.specs.Links.{heard_from, awaits_ack, awaits_any}
use Rattle.cc_sessions.specs.Sessions as requests
use Rattle.cc_sessions.specs.Sessions.{last_request, is_stale, is_skip}
use Rattle.cc_node.specs.Core.{Core, next, post, lowest, ids_of, with_links, skips}
use Rattle.cc_outbox.specs.Outbox.{post_limit}
use Rattle.cc_node.specs.Refusals.{busy, outbox_full, spent, any_overruns, row_overruns, reasons, decides, decides_within}

all_none : (rs : List (Option Refusal)) → first_of rs ≡ None → AllByRecursion (λ r. r ≡ None) rs
all_none [] h = tt
all_none (None ∷ rs) h = (refl, all_none rs h)
all_none (Some r ∷ rs) h = cc

-- a reason that doesn't hold
pub fails : (r : Refusal) (b : Bool) → then_some b r ≡ None → b ≡ false
fails r true h = cc
fails r false h = refl

-- neither a post too many, nor a counter past its limit
pub record Fits (c : Core) (e : Event) : Type 0 where
  pub posts : (is_some (post c e) && ((c.posts - lowest c) == post_limit)) ≡ false
  pub counts : any_overruns c (next c e) e ≡ false

pub record TakesDelivery (c : Core) (from n : ℕ) (m : Message) : Type 0 where
  pub new : nat_le n (heard_from from c.links) ≡ false
  pub next : (nat_lt (heard_from from c.links + 1) n && not (is_snapshot m)) ≡ false
  pub nodes : nat_lt known_limit (table.len (with_links (from ∷ ids_of m) c).links) ≡ false
  pub fits : Fits c (event.Deliver from n m)

pub record TakesAck (c : Core) (peer n : ℕ) : Type 0 where
  pub awaited : not (option_map_or (awaits_ack c.posts n) (table.get c.links peer) false) ≡ false
  pub fits : Fits c (event.Acked peer n)

pub record TakesAsk (c : Core) (s r : ℕ) (command : Command) : Type 0 where
  pub sessions : requests.finds_no_room c.sessions s ≡ false
  pub repeat : requests.is_repeat c.sessions s r ≡ false
  pub new : is_stale c.sessions s r ≡ false
  pub next : is_skip c.sessions s r ≡ false
  pub free : (not (is_idle c.ops.phase) && (nat_le line_limit (length c.ops.line) || has_session s (unanswered c.ops))) ≡ false
  pub room : finds_no_room (mine_at_last c.ops) command ≡ false
  pub fits : Fits c (event.Ask s r command)

pub record TakesRetire (c : Core) (q : ℕ) : Type 0 where
  pub nodes : nat_lt known_limit (table.len (with_links (q ∷ []) c).links) ≡ false
  pub fits : Fits c (event.Retire q)

pub record TakesLapse (c : Core) (q : ℕ) : Type 0 where
  pub awaited : (has_left q c.churn || not (option_map_or (awaits_any c.posts) (table.get c.links q) false)) ≡ false
  pub fits : Fits c (event.Lapse q)

pub record TakesSkip (c : Core) (from : ℕ) (posts : Range) : Type 0 where
  pub new : nat_le posts.last (heard_from from c.links) ≡ false
  pub next : skips c from posts.first ≡ false
  pub nodes : nat_lt known_limit (table.len (with_links (from ∷ []) c).links) ≡ false
  pub fits : Fits c (event.Skip from posts)

pub record TakesShare (c : Core) (share : ℕ) : Type 0 where
  pub other : (c.ops.share == share) ≡ false
  pub free : nat_lt share (length (pending c.ops)) ≡ false
  pub fits : Fits c (event.Share share)

-- where neither a full outbox nor a spent counter is a reason
fits_last : (c : Core) (e : Event) → AllByRecursion (λ r. r ≡ None) (outbox_full c e ∷ spent c e ∷ []) → Fits c e
fits_last c e all = record { posts = fails refusal.OutboxFull _ all.0; counts = fails refusal.Spent _ all.1.0 }

pub takes_delivery : (c : Core) (from n : ℕ) (m : Message) → decides c (event.Deliver from n m) ≡ None → TakesDelivery c from n m
unfolding decides decides_within
takes_delivery c from n m h =
    let e = event.Deliver from n m in
    let all = (all_none (reasons line_limit c e) h).1.1 in
    record {
      new = fails (refusal.Old (heard_from from c.links)) _ all.0;
      next = fails (refusal.Gap (heard_from from c.links)) _ all.1.0;
      nodes = fails refusal.TooManyNodes _ all.1.1.0;
      fits = fits_last c e all.1.1.1;
    }

pub takes_ack : (c : Core) (peer n : ℕ) → decides c (event.Acked peer n) ≡ None → TakesAck c peer n
unfolding decides decides_within
takes_ack c peer n h =
    let all = all_none (reasons line_limit c (event.Acked peer n)) h in
    record { awaited = fails refusal.NothingToAck _ all.0; fits = record { posts = refl; counts = fails refusal.Spent _ all.1.0 } }

pub takes_ask : (c : Core) (s r : ℕ) (command : Command) → decides c (event.Ask s r command) ≡ None → TakesAsk c s r command
unfolding decides decides_within
takes_ask c s r command h =
    let e = event.Ask s r command in
    let all = (all_none (reasons line_limit c e) h).1.1.1 in
    let rest = all.1.1 in
    record {
      sessions = fails refusal.TooManySessions _ all.0;
      repeat = fails refusal.Repeat _ all.1.0;
      new = fails (refusal.Stale (last_request c.sessions s)) _ rest.0;
      next = fails (refusal.Skip (last_request c.sessions s)) _ rest.1.0;
      free = fails refusal.Busy _ rest.1.1.0;
      room = fails refusal.SetFull _ rest.1.1.1.0;
      fits = fits_last c e rest.1.1.1.1;
    }

-- where no more than so many asks may wait, the node isn't busy
pub free_within : (limit : ℕ) (c : Core) (s r : ℕ) (command : Command) → decides_within limit c (event.Ask s r command) ≡ None → busy limit c s ≡ None
unfolding decides_within
free_within limit c s r command h = (all_none (reasons limit c (event.Ask s r command)) h).1.1.1.1.1.1.1.0

pub takes_retire : (c : Core) (q : ℕ) → decides c (event.Retire q) ≡ None → TakesRetire c q
unfolding decides decides_within
takes_retire c q h =
    let all = (all_none (reasons line_limit c (event.Retire q)) h).1.1.1 in
    record { nodes = fails refusal.TooManyNodes _ all.0; fits = record { posts = refl; counts = fails refusal.Spent _ all.1.0 } }

pub takes_lapse : (c : Core) (q : ℕ) → decides c (event.Lapse q) ≡ None → TakesLapse c q
unfolding decides decides_within
takes_lapse c q h =
    let all = (all_none (reasons line_limit c (event.Lapse q)) h).1.1.1 in
    record { awaited = fails refusal.NothingToAck _ all.0; fits = record { posts = refl; counts = fails refusal.Spent _ all.1.0 } }

pub takes_skip : (c : Core) (from : ℕ) (posts : Range) → decides c (event.Skip from posts) ≡ None → TakesSkip c from posts
unfolding decides decides_within
takes_skip c from posts h =
    let all = (all_none (reasons line_limit c (event.Skip from posts)) h).1.1 in
    record {
      new = fails (refusal.Old (heard_from from c.links)) _ all.0;
      next = fails (refusal.Gap (heard_from from c.links)) _ all.1.0;
      nodes = fails refusal.TooManyNodes _ all.1.1.0;
      fits = record { posts = refl; counts = fails refusal.Spent _ all.1.1.1.0 };
    }

pub takes_share : (c : Core) (share : ℕ) → decides c (event.Share share) ≡ None → TakesShare c share
unfolding decides decides_within
takes_share c share h =
    let all = (all_none (reasons line_limit c (event.Share share)) h).1.1 in
    record {
      other = fails refusal.NothingToAck _ all.0;
      free = fails refusal.Busy _ all.1.0;
      fits = record { posts = refl; counts = fails refusal.Spent _ all.1.1.0 };
    }

pub takes_any : (c : Core) (e : Event) → decides c e ≡ None → Fits c e
unfolding decides decides_within
takes_any c event.Enter h = fits_last c event.Enter (all_none (reasons line_limit c event.Enter) h).1.1
takes_any c event.Leave h = fits_last c event.Leave (all_none (reasons line_limit c event.Leave) h).1.1
takes_any c (event.Deliver from n m) h = (takes_delivery c from n m h).fits
takes_any c (event.Acked peer n) h = (takes_ack c peer n h).fits
takes_any c (event.Ask s r command) h = (takes_ask c s r command h).fits
takes_any c (event.Retire q) h = (takes_retire c q h).fits
takes_any c (event.Lapse q) h = (takes_lapse c q h).fits
takes_any c event.Snapshot h = fits_last c event.Snapshot (all_none (reasons line_limit c event.Snapshot) h).1.1.1
takes_any c (event.Skip from posts) h = (takes_skip c from posts h).fits
takes_any c (event.Share share) h = (takes_share c share h).fits

-- a counter that may not pass its limit
pub stays_within : (limit before after : ℕ) → ((before == limit) && nat_lt before after) ≡ false → before ≤ limit → after ≤ before + 1 → after ≤ limit
stays_within limit before after h a b =
    elim (and_cases (before == limit) (nat_lt before after) h) as (λ _. after ≤ limit) [
      | inl e ↦ let apart : before ≡ limit → ⊥ = eqb-false before limit e in omega (arith, apart)
      | inr e ↦ let down : after ≤ before = ltb-false before after e in omega arith
    ]

-- a counter that isn't raised past it, by however much
pub passes_within : (before after : ℕ) → passes before after ≡ false → before ≤ counter_limit → after ≤ counter_limit
passes_within before after h a =
    elim (and_cases (nat_lt before after) (nat_lt counter_limit after) h) as (λ _. after ≤ counter_limit) [
      | inl e ↦ let down : after ≤ before = ltb-false before after e in omega (arith, a)
      | inr e ↦ let down : after ≤ counter_limit = ltb-false counter_limit after e in omega arith
    ]

pub record NoneOverruns (c d : Core) (e : Event) : Type 0 where
  pub number : passes c.ops.number d.ops.number ≡ false
  pub tag : overruns c.ops.tag d.ops.tag ≡ false
  pub posts : overruns c.posts d.posts ≡ false
  pub echoes : overruns c.churn.echoes d.churn.echoes ≡ false
  pub row : row_overruns c d e ≡ false

pub none_overruns : (c d : Core) (e : Event) → any_overruns c d e ≡ false → NoneOverruns c d e
none_overruns c d e h =
    let a = or_parts _ _ h in
    let b = or_parts _ _ a.0 in
    let k = or_parts _ _ b.0 in
    let l = or_parts _ _ k.0 in
    record { number = l.0; tag = l.1; posts = k.1; echoes = b.1; row = a.1 }
