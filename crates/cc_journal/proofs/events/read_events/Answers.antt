use Rattle.std.proofs.Common.{drop-cons, ◌≡◌, ℕ, ◌-◌, List, [], ◌∷◌, ◌++◌, length, take, drop, get_or, ap, subst, ◌∙◌, arith, length-append}
use Rattle.std.proofs.lemmas.List.{length-drop, drop-drop, drop_all, take_all}
use Rattle.std.proofs.lemmas.Option.{MatchOption-at_some, MatchOption-at_none}
use Rattle.cc_journal.specs.EventReads.{NoEvent, BeginsWith}
use Rattle.cc_journal.proofs.EventReadLaws.{IsRead, one_more, all_read, none_next, none_behind}
use Rattle.cc_journal.proofs.events.read_events.Goals as goal

pub returns-in_default-2 : goal.returns-in_default-2
returns-in_default-2 c =
    let bytes = c.args.bytes.now in
    let rest = drop c.loop.place bytes in
    let inv = c.loop.invariant in
    let none = MatchOption-at_none (NoEvent (take (length bytes - c.loop.place) rest)) _ c.in_default-2.is c.in_ok-event.ensures in
    none_next bytes (get_or bytes 0 0) (drop 1 bytes) rest c.loop.events.items (drop-cons bytes 0 0 c.in-len1-up.len_at_least) inv.is_read
    (omega (arith, inv.count, c.loop-test.true))
    (subst NoEvent (take_all (length bytes - c.loop.place) rest (omega (arith, length-drop c.loop.place bytes))) none)

pub returns-then-place-bytes : goal.returns-then-place-bytes
returns-then-place-bytes c =
    let bytes = c.args.bytes.now in
    let inv = c.loop.invariant in
    none_behind bytes (get_or bytes 0 0) (drop 1 bytes) (drop c.loop.place bytes) c.loop.events.items (drop-cons bytes 0 0 c.in-len1-up.len_at_least)
    inv.is_read (omega (arith, inv.count, inv.within, c.loop-test.false)) (omega (arith, length-drop c.loop.place bytes, c.if-place-bytes.true))

pub loop-preserved : goal.loop-preserved
loop-preserved c =
    let bytes = c.args.bytes.now in
    let rest = drop c.loop.place bytes in
    let inv = c.loop.invariant in
    let found = c.in-Some.field-0 in
    let begins : BeginsWith rest found.event found.size =
    subst (λ (l : List ℕ). BeginsWith l found.event found.size)
    (take_all (length bytes - c.loop.place) rest (omega (arith, length-drop c.loop.place bytes)))
    (MatchOption-at_some _ (λ f. BeginsWith (take (length bytes - c.loop.place) rest) f.event f.size) found c.in-Some.is c.in_ok-event.ensures) in
    let pushed : c.push.new.self.items ≡ c.loop.events.items ++ found.event ∷ [] = (cc c.in_ok-push.ensures.items) in
    record {
      is_read = subst (λ (l : List ℕ). IsRead (drop 1 bytes) l c.push.new.self.items) (drop-drop found.size c.loop.place bytes)
          (one_more (drop 1 bytes) rest c.loop.events.items c.push.new.self.items found.event found.size inv.is_read begins pushed);
      count = ap length pushed ∙ omega (arith, length-append c.loop.events.items (found.event ∷ []), inv.count);
      within = omega (arith, c.loop-test.true);
      inside = omega (arith, begins.within, length-drop c.loop.place bytes, inv.inside);
    }

pub returns : goal.returns
returns c =
    let bytes = c.args.bytes.now in
    let inv = c.loop.invariant in
    all_read bytes (drop c.loop.place bytes) c.loop.events.items (get_or bytes 0 0) (drop-cons bytes 0 0 c.in-len1-up.len_at_least) inv.is_read
    (drop_all c.loop.place bytes (omega arith)) (omega (arith, inv.count, inv.within, c.loop-test.false))
    (omega arith) (omega arith)
