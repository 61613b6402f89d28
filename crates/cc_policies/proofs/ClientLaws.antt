-- A client reads until its command has a number, and then asks it under that one alone.
--     all_known      a client whose command has a number asks it under that one alone
--     any_number     every client reads, or asks its command under one number
--     fence_first    a command gets its number when the reading under the one before is answered
--     kind_of_step   a client is done by an answer of its command's kind
--     told_whole     a refusal is known by its number and what it carries
use Rattle.std.proofs.Common.{◌≡◌, ◌⊎◌, inl, inr, refl, sym, ap, subst, ◌∙◌, ℕ, ◌+◌, ◌^◌, ◌==◌, ◌&&◌, Bool, true, false, cond, List, [], ◌∷◌, Option, Some, None, if◌then◌else◌, arith}
use Rattle.std.specs.Prelude.{nat_lt}
use Rattle.std.specs.List.{AllByRecursion}
use Rattle.std.proofs.lemmas.Bool.Decides.{nat_tests}
use Rattle.cc_messages.specs.declared.answer.Answer.{Answer}
use Rattle.cc_messages.specs.declared.answer.Answer.TheVariants as answers
use Rattle.cc_messages.specs.declared.command.Command.{Command}
use Rattle.cc_connections.specs.declared.frame.Frame.{Frame}
use Rattle.cc_connections.specs.declared.frame.Frame.TheVariants as frame
use Rattle.cc_messages.specs.declared.refusal.Refusal.{Refusal}
use Rattle.cc_messages.specs.declared.refusal.Refusal.TheVariants as refusal
use Rattle.cc_messages.specs.Refusals.{number_of, value_of}
use Rattle.cc_policies.specs.declared.client.Client.{Client}
use Rattle.cc_policies.specs.declared.client.Heard.{Heard}
use Rattle.cc_policies.specs.declared.client.Heard.TheVariants as heard
use Rattle.cc_policies.specs.declared.client.Stage.{Stage}
use Rattle.cc_policies.specs.declared.client.Stage.TheVariants as stages
use Rattle.cc_policies.specs.declared.client.Step.{Step}
use Rattle.cc_policies.specs.declared.client.Step.TheVariants as step
use Rattle.cc_policies.specs.Clients.{fence, is_about, is_answer_to, refusal_told, number_after, fence_step, fence_client, command_step, command_client}
use Rattle.cc_policies.specs.Clients.{answered_step, answered_client, told_step, told_client, came_step, came_client, step_of, client_after, steps}
use Rattle.cc_policies.specs.Clients.{AsksUnder, Reads, IsAnswered, IsFenced}

-- the client in that stage
abbrev pub at : Client → Stage → Client
at c st = record c { stage = st }

-- ---- a command that has a number

-- it stays as it is, and asks under that number, if it does
abbrev pub Stays : Client → ℕ → Client → Step → Type 0
Stays c n d t = (d ≡ at c (stages.Asking n)) × AsksUnder c n t

stays_told : (c : Client) (n : ℕ) (told : Option Refusal) → Stays c n (told_client (at c (stages.Asking n)) told) (told_step (at c (stages.Asking n)) told)
stays_told c n None = (refl, tt)
stays_told c n (Some (refusal.Stale last)) = (refl, tt)
stays_told c n (Some why) = (refl, tt)

stays_either : (c : Client) (n : ℕ) (b : Bool) (d : Client) (t : Step) → Stays c n d t
    → Stays c n (if b then d else at c (stages.Asking n)) (if b then t else step.Wait)
stays_either c n true d t p = p
stays_either c n false d t p = (refl, tt)

done_or_in_use : (c : Client) (n : ℕ) (b : Bool) (answer : Answer) → AsksUnder c n (if b then step.Done answer else step.InUse)
done_or_in_use c n true answer = tt
done_or_in_use c n false answer = tt

stays_came : (c : Client) (n : ℕ) (f : Frame) → Stays c n (came_client (at c (stages.Asking n)) f) (came_step (at c (stages.Asking n)) f)
stays_came c n (frame.Reply session request answer) =
    stays_either c n (is_about (at c (stages.Asking n)) session request) (at c (stages.Asking n))
    (if is_answer_to c.command answer then step.Done answer else step.InUse) (refl, done_or_in_use c n (is_answer_to c.command answer) answer)
stays_came c n (frame.Refused session request number value) =
    stays_either c n (is_about (at c (stages.Asking n)) session request) _ _ (stays_told c n (refusal_told number value))
stays_came c n f = (refl, tt)

stays : (c : Client) (n : ℕ) (h : Heard) → Stays c n (client_after (at c (stages.Asking n)) h) (step_of (at c (stages.Asking n)) h)
stays c n heard.Ready = (refl, refl)
stays c n (heard.Came f) = stays_came c n f
stays c n heard.Broken = (refl, tt)

all_with : (c : Client) (n : ℕ) (hs : List Heard) → AllByRecursion (AsksUnder c n) (steps (at c (stages.Asking n)) hs)
all_with c n [] = tt
all_with c n (h ∷ hs) =
    let p = stays c n h in
    let Later : Client → Type 0 = λ d. AllByRecursion (AsksUnder c n) (steps d hs) in
    (p.1, subst Later (sym p.0) (all_with c n hs))

pub all_known : (c : Client) (n : ℕ) (hs : List Heard) → c.stage ≡ stages.Asking n → AllByRecursion (AsksUnder c n) (steps c hs)
all_known c n hs e =
    let P : Stage → Type 0 = λ st. AllByRecursion (AsksUnder c n) (steps (at c st) hs) in
    subst P (sym e) (all_with c n hs)

-- ---- any client

-- it goes on to that stage: by a reading, or by its command under the number of that stage
abbrev pub Goes : Client → Client → Step → Type 0
Goes c d t = (st : Stage) × ((d ≡ at c st) × (Reads c t ⊎ ((n : ℕ) × ((st ≡ stages.Asking n) × AsksUnder c n t))))

goes_if : (c : Client) (b : Bool) (d e : Client) (t u : Step) → Goes c d t → Goes c e u → Goes c (if b then d else e) (if b then t else u)
goes_if c true d e t u p q = p
goes_if c false d e t u p q = q

goes_fence : (c : Client) (st : Stage) (last : ℕ) (o : Option ℕ) → Goes c (fence_client (at c st) o) (fence_step (at c st) last o)
goes_fence c st last None = (st, (refl, inl tt))
goes_fence c st last (Some n) = (stages.Fencing n, (refl, inl (n, refl)))

goes_command : (c : Client) (st : Stage) (last : ℕ) (o : Option ℕ) → Goes c (command_client (at c st) o) (command_step (at c st) last o)
goes_command c st last None = (st, (refl, inl tt))
goes_command c st last (Some n) = (stages.Asking n, (refl, inr (n, (refl, refl))))

goes_learning_told : (c : Client) (told : Option Refusal) → Goes c (told_client (at c stages.Learning) told) (told_step (at c stages.Learning) told)
goes_learning_told c None = (stages.Learning, (refl, inl tt))
goes_learning_told c (Some (refusal.Stale last)) = goes_fence c stages.Learning last (number_after last)
goes_learning_told c (Some why) = (stages.Learning, (refl, inl tt))

goes_learning_came : (c : Client) (f : Frame) → Goes c (came_client (at c stages.Learning) f) (came_step (at c stages.Learning) f)
goes_learning_came c (frame.Reply session request answer) =
    goes_if c (is_about (at c stages.Learning) session request) (at c stages.Learning) (at c stages.Learning) step.Wait step.Wait
    (stages.Learning, (refl, inl tt)) (stages.Learning, (refl, inl tt))
goes_learning_came c (frame.Refused session request number value) =
    goes_if c (is_about (at c stages.Learning) session request) _ (at c stages.Learning) _ step.Wait
    (goes_learning_told c (refusal_told number value)) (stages.Learning, (refl, inl tt))
goes_learning_came c f = (stages.Learning, (refl, inl tt))

goes_fencing_told : (c : Client) (m : ℕ) (told : Option Refusal)
    → Goes c (told_client (at c (stages.Fencing m)) told) (told_step (at c (stages.Fencing m)) told)
goes_fencing_told c m None = (stages.Fencing m, (refl, inl tt))
goes_fencing_told c m (Some (refusal.Stale last)) = goes_fence c (stages.Fencing m) last (number_after last)
goes_fencing_told c m (Some why) = (stages.Fencing m, (refl, inl tt))

goes_fencing_answered : (c : Client) (m : ℕ) (answer : Answer)
    → Goes c (answered_client (at c (stages.Fencing m)) answer (stages.Fencing m)) (answered_step (at c (stages.Fencing m)) answer (stages.Fencing m))
goes_fencing_answered c m answer =
    goes_if c (is_answer_to fence answer) (command_client (at c (stages.Fencing m)) (number_after m)) (at c stages.Learning)
    (command_step (at c (stages.Fencing m)) m (number_after m)) (step.Send (frame.Ask c.session 0 fence))
    (goes_command c (stages.Fencing m) m (number_after m)) (stages.Learning, (refl, inl (0, refl)))

goes_fencing_came : (c : Client) (m : ℕ) (f : Frame) → Goes c (came_client (at c (stages.Fencing m)) f) (came_step (at c (stages.Fencing m)) f)
goes_fencing_came c m (frame.Reply session request answer) =
    goes_if c (is_about (at c (stages.Fencing m)) session request) _ (at c (stages.Fencing m)) _ step.Wait
    (goes_fencing_answered c m answer) (stages.Fencing m, (refl, inl tt))
goes_fencing_came c m (frame.Refused session request number value) =
    goes_if c (is_about (at c (stages.Fencing m)) session request) _ (at c (stages.Fencing m)) _ step.Wait
    (goes_fencing_told c m (refusal_told number value)) (stages.Fencing m, (refl, inl tt))
goes_fencing_came c m f = (stages.Fencing m, (refl, inl tt))

goes : (c : Client) (st : Stage) (h : Heard) → Goes c (client_after (at c st) h) (step_of (at c st) h)
goes c stages.Learning heard.Ready = (stages.Learning, (refl, inl (0, refl)))
goes c stages.Learning (heard.Came f) = goes_learning_came c f
goes c stages.Learning heard.Broken = (stages.Learning, (refl, inl tt))
goes c (stages.Fencing m) heard.Ready = (stages.Fencing m, (refl, inl (m, refl)))
goes c (stages.Fencing m) (heard.Came f) = goes_fencing_came c m f
goes c (stages.Fencing m) heard.Broken = (stages.Fencing m, (refl, inl tt))
goes c (stages.Asking n) h = let p = stays c n h in (stages.Asking n, (p.0, inr (n, (refl, p.1))))

-- it reads, or asks its command under that number
abbrev pub AsksEither : Client → ℕ → Step → Type 0
AsksEither c n t = Reads c t ⊎ AsksUnder c n t

all_either : (c : Client) (n : ℕ) (ts : List Step) → AllByRecursion (AsksUnder c n) ts → AllByRecursion (AsksEither c n) ts
all_either c n [] p = tt
all_either c n (t ∷ ts) p = (inr p.0, all_either c n ts p.1)

abbrev pub HasNumber : Client → Client → List Heard → Type 0
HasNumber c d hs = (n : ℕ) × AllByRecursion (AsksEither c n) (steps d hs)

number_at : (c : Client) (st : Stage) (hs : List Heard) → HasNumber c (at c st) hs
number_at c st [] = (0, tt)
number_at c st (h ∷ hs) =
    let g = goes c st h in
    let later = number_at c g.0 hs in
    elim g.1.1 as (λ _. HasNumber c (at c st) (h ∷ hs)) [
      | inl reads ↦
          let Later : Client → Type 0 = λ d. AllByRecursion (AsksEither c later.0) (steps d hs) in
          (later.0, (inl reads, subst Later (sym g.1.0) later.1))
      | inr p ↦
          let Later : Client → Type 0 = λ d. AllByRecursion (AsksEither c p.0) (steps d hs) in
          let Behind : Stage → Type 0 = λ s. Later (at c s) in
          (p.0, (inr p.1.1, subst Later (sym g.1.0) (subst Behind (sym p.1.0) (all_either c p.0 _ (all_with c p.0 hs)))))
    ]

pub any_number : (c : Client) (hs : List Heard) → HasNumber c c hs
any_number c hs = number_at c c.stage hs

-- ---- the reading comes first

some_number : (t : Bool) (m n : ℕ) → (if t then Some m else None) ≡ Some n → n ≡ m
some_number true m n e = cc
some_number false m n e = absurd cc

number_after_is : (m n : ℕ) → number_after m ≡ Some n → n ≡ m + 1
number_after_is m n e = some_number (nat_lt (m + 1) (2 ^ 64)) (m + 1) n e

-- what isn't asked in that stage isn't asked after a last request either
fence_asks_not : (c : Client) (st : Stage) (request : ℕ) (o : Option ℕ) → ¬ (st ≡ stages.Asking request)
    → ¬ ((fence_client (at c st) o).stage ≡ stages.Asking request)
fence_asks_not c st request None differs e = differs e
fence_asks_not c st request (Some n) differs e = absurd cc

asks_not_if : (request : ℕ) (b : Bool) (d e : Client) → ¬ (d.stage ≡ stages.Asking request) → ¬ (e.stage ≡ stages.Asking request)
    → ¬ ((if b then d else e).stage ≡ stages.Asking request)
asks_not_if request true d e p q = p
asks_not_if request false d e p q = q

learning_is_not : (request : ℕ) → ¬ (stages.Learning ≡ stages.Asking request)
learning_is_not request e = absurd cc

fencing_is_not : (m request : ℕ) → ¬ (stages.Fencing m ≡ stages.Asking request)
fencing_is_not m request e = absurd cc

told_asks_not : (c : Client) (request : ℕ) (told : Option Refusal) → ¬ ((told_client (at c stages.Learning) told).stage ≡ stages.Asking request)
told_asks_not c request None = learning_is_not request
told_asks_not c request (Some (refusal.Stale last)) = fence_asks_not c stages.Learning request (number_after last) (learning_is_not request)
told_asks_not c request (Some why) = learning_is_not request

fencing_told_asks_not : (c : Client) (m request : ℕ) (told : Option Refusal)
    → ¬ ((told_client (at c (stages.Fencing m)) told).stage ≡ stages.Asking request)
fencing_told_asks_not c m request None = fencing_is_not m request
fencing_told_asks_not c m request (Some (refusal.Stale last)) =
    fence_asks_not c (stages.Fencing m) request (number_after last) (fencing_is_not m request)
fencing_told_asks_not c m request (Some why) = fencing_is_not m request

learning_asks_not : (c : Client) (request : ℕ) (h : Heard) → ¬ ((client_after (at c stages.Learning) h).stage ≡ stages.Asking request)
learning_asks_not c request heard.Ready = learning_is_not request
learning_asks_not c request (heard.Came (frame.Reply s r answer)) =
    asks_not_if request (is_about (at c stages.Learning) s r) (at c stages.Learning) (at c stages.Learning) (learning_is_not request) (learning_is_not request)
learning_asks_not c request (heard.Came (frame.Refused s r number value)) =
    asks_not_if request (is_about (at c stages.Learning) s r) _ (at c stages.Learning) (told_asks_not c request (refusal_told number value)) (learning_is_not request)
learning_asks_not c request (heard.Came f) = learning_is_not request
learning_asks_not c request heard.Broken = learning_is_not request

both_hold : (s session r m : ℕ) → ((s == session) && (r == m)) ≡ true → (s ≡ session) × (r ≡ m)
both_hold s session r m e = (grind (arith, nat_tests), grind (arith, nat_tests))

commanded : (c : Client) (m request : ℕ) (o : Option ℕ) → number_after m ≡ o → (command_client (at c (stages.Fencing m)) o).stage ≡ stages.Asking request
    → request ≡ m + 1
commanded c m request None is e = absurd cc
commanded c m request (Some n) is e = let same : n ≡ request = cc in sym same ∙ number_after_is m n is

fenced_answer : (c : Client) (m request s r : ℕ) (answer : Answer) → s ≡ c.session → r ≡ m
    → (answered_client (at c (stages.Fencing m)) answer (stages.Fencing m)).stage ≡ stages.Asking request
    → IsFenced (at c (stages.Fencing m)) (heard.Came (frame.Reply s r answer)) request
fenced_answer c m request s r (answers.Flag flag) at_session at_number e =
    let came : heard.Came (frame.Reply s r (answers.Flag flag)) ≡ heard.Came (frame.Reply c.session m (answers.Flag flag)) = cc in
    (m, (flag, (refl, (commanded c m request (number_after m) refl e, came))))
fenced_answer c m request s r answer at_session at_number e = absurd (learning_is_not request e)

fenced_reply : (c : Client) (m request s r : ℕ) (answer : Answer) (b : Bool) → is_about (at c (stages.Fencing m)) s r ≡ b
    → (if b then answered_client (at c (stages.Fencing m)) answer (stages.Fencing m) else at c (stages.Fencing m)).stage ≡ stages.Asking request
    → IsFenced (at c (stages.Fencing m)) (heard.Came (frame.Reply s r answer)) request
fenced_reply c m request s r answer true about e =
    let same = both_hold s c.session r m about in
    fenced_answer c m request s r answer same.0 same.1 e
fenced_reply c m request s r answer false about e = absurd (fencing_is_not m request e)

fenced : (c : Client) (m request : ℕ) (h : Heard) → (client_after (at c (stages.Fencing m)) h).stage ≡ stages.Asking request
    → IsFenced (at c (stages.Fencing m)) h request
fenced c m request heard.Ready e = absurd (fencing_is_not m request e)
fenced c m request (heard.Came (frame.Reply s r answer)) e = fenced_reply c m request s r answer (is_about (at c (stages.Fencing m)) s r) refl e
fenced c m request (heard.Came (frame.Refused s r number value)) e =
    absurd (asks_not_if request (is_about (at c (stages.Fencing m)) s r) _ (at c (stages.Fencing m))
    (fencing_told_asks_not c m request (refusal_told number value)) (fencing_is_not m request) e)
fenced c m request (heard.Came f) e = absurd (fencing_is_not m request e)
fenced c m request heard.Broken e = absurd (fencing_is_not m request e)

fence_at : (c : Client) (st : Stage) (h : Heard) (request : ℕ) → (client_after (at c st) h).stage ≡ stages.Asking request
    → (st ≡ stages.Asking request) ⊎ IsFenced (at c st) h request
fence_at c stages.Learning h request e = absurd (learning_asks_not c request h e)
fence_at c (stages.Fencing m) h request e = inr (fenced c m request h e)
fence_at c (stages.Asking n) h request e = inl (ap (λ (d : Client). d.stage) (sym (stays c n h).0) ∙ e)

pub fence_first : (c : Client) (h : Heard) (request : ℕ) → (client_after c h).stage ≡ stages.Asking request
    → (c.stage ≡ stages.Asking request) ⊎ IsFenced c h request
fence_first c h request = fence_at c c.stage h request

-- ---- the kind of an answer

kind_if : (k : Command) (b : Bool) (t u : Step) → IsAnswered k t → IsAnswered k u → IsAnswered k (if b then t else u)
kind_if k true t u p q = p
kind_if k false t u p q = q

kind_finished : (k : Command) (answer : Answer) (b : Bool) → is_answer_to k answer ≡ b → IsAnswered k (if b then step.Done answer else step.InUse)
kind_finished k answer true e = e
kind_finished k answer false e = tt

kind_command : (c : Client) (k : Command) (last : ℕ) (o : Option ℕ) → IsAnswered k (command_step c last o)
kind_command c k last None = tt
kind_command c k last (Some n) = tt

kind_fence : (c : Client) (k : Command) (last : ℕ) (o : Option ℕ) → IsAnswered k (fence_step c last o)
kind_fence c k last None = tt
kind_fence c k last (Some n) = tt

kind_answered : (c : Client) (st : Stage) (answer : Answer) → IsAnswered c.command (answered_step c answer st)
kind_answered c stages.Learning answer = tt
kind_answered c (stages.Fencing m) answer = kind_if c.command (is_answer_to fence answer) _ _ (kind_command c c.command m (number_after m)) tt
kind_answered c (stages.Asking n) answer = kind_finished c.command answer (is_answer_to c.command answer) refl

kind_stale : (c : Client) (last : ℕ) (st : Stage) → IsAnswered c.command (told_step (at c st) (Some (refusal.Stale last)))
kind_stale c last stages.Learning = kind_fence (at c stages.Learning) c.command last (number_after last)
kind_stale c last (stages.Fencing m) = kind_fence (at c (stages.Fencing m)) c.command last (number_after last)
kind_stale c last (stages.Asking n) = tt

kind_told : (c : Client) (told : Option Refusal) → IsAnswered c.command (told_step c told)
kind_told c None = tt
kind_told c (Some (refusal.Stale last)) = kind_stale c last c.stage
kind_told c (Some why) = tt

kind_came : (c : Client) (f : Frame) → IsAnswered c.command (came_step c f)
kind_came c (frame.Reply s r answer) = kind_if c.command (is_about c s r) _ _ (kind_answered c c.stage answer) tt
kind_came c (frame.Refused s r number value) = kind_if c.command (is_about c s r) _ _ (kind_told c (refusal_told number value)) tt
kind_came c f = tt

pub kind_of_step : (c : Client) (h : Heard) → IsAnswered c.command (step_of c h)
kind_of_step c heard.Ready = tt
kind_of_step c (heard.Came f) = kind_came c f
kind_of_step c heard.Broken = tt

pub told_whole : (why : Refusal) → refusal_told (number_of why) (value_of why) ≡ Some why
told_whole refusal.Left = refl
told_whole why = refl
