-- How a client has one command done in its session, whatever breaks meanwhile.
--     learning_number      the number under which it learns the session's last request
--     fence                the reading that it gives the next number to, before its command gets one
--     number_in, command_in    the number that it asks under, and what it asks
--     ask_of               what it sends
--     is_about             whether an answer is to what it asks
--     is_answer_to         whether an answer is of the kind that a command has
--     refusal_told         the refusal with that number, which carries that value
--     answered_step, answered_client     what it does after an answer, and what it knows then
--     refused_step, refused_client     the same after a refusal
--     step_of, client_after            the same after anything that it hears
--     steps                the same along a list of these
--     next_client          the client that has the same command done once more
--     AsksUnder            it sends its command under that number, if anything
--     Reads                it sends a reading, if anything
--     IsAnswered           where it is done, its answer is of its command's kind
--     IsFenced             the reading under the number before that one is answered to it
use Rattle.std.specs.Prelude.{◌≡◌, ⊤, ℕ, ◌+◌, ◌^◌, ◌==◌, ◌&&◌, nat_lt, Bool, true, false, List, [], ◌∷◌, Option, Some, None, if◌then◌else◌}
use Rattle.cc_connections.specs.declared.frame.Frame.{Frame}
use Rattle.cc_connections.specs.declared.frame.Frame.TheVariants as frame
use Rattle.cc_messages.specs.declared.answer.Answer.{Answer}
use Rattle.cc_messages.specs.declared.answer.Answer.TheVariants as answers
use Rattle.cc_messages.specs.declared.command.Command.{Command}
use Rattle.cc_messages.specs.declared.command.Command.TheVariants as commands
use Rattle.cc_messages.specs.declared.refusal.Refusal.{Refusal}
use Rattle.cc_messages.specs.declared.refusal.Refusal.TheVariants as refusal
use Rattle.cc_policies.specs.declared.client.Client.{Client}
use Rattle.cc_policies.specs.declared.client.Heard.{Heard}
use Rattle.cc_policies.specs.declared.client.Heard.TheVariants as heard
use Rattle.cc_policies.specs.declared.client.Stage.{Stage}
use Rattle.cc_policies.specs.declared.client.Stage.TheVariants as stages
use Rattle.cc_policies.specs.declared.client.Step.{Step}
use Rattle.cc_policies.specs.declared.client.Step.TheVariants as step

-- no request has it, so a node refuses it, and tells the session's last one
abbrev pub learning_number : ℕ
learning_number = 0

-- a reading does no harm, whoever asked it; once it is done under a number, no other command will be
abbrev pub fence : Command
fence = commands.ReadFlag

abbrev pub number_in : Stage → ℕ
number_in stages.Learning = learning_number
number_in (stages.Fencing number) = number
number_in (stages.Asking number) = number

abbrev pub command_in : Command → Stage → Command
command_in command stages.Learning = fence
command_in command (stages.Fencing number) = fence
command_in command (stages.Asking number) = command

abbrev pub ask_of : Client → Frame
ask_of c = frame.Ask c.session (number_in c.stage) (command_in c.command c.stage)

abbrev pub is_about : Client → ℕ → ℕ → Bool
is_about c session request = (session == c.session) && (request == number_in c.stage)

abbrev pub is_answer_to : Command → Answer → Bool
is_answer_to (commands.Store text) answers.Stored = true
is_answer_to commands.Collect (answers.Seen view) = true
is_answer_to (commands.WriteMax number) answers.Stored = true
is_answer_to commands.ReadMax (answers.Max number) = true
is_answer_to commands.SetFlag answers.Stored = true
is_answer_to commands.ReadFlag (answers.Flag flag) = true
is_answer_to (commands.AddMember member) answers.Stored = true
is_answer_to commands.ReadSet (answers.Set members) = true
is_answer_to _ _ = false

-- the refusal with that number, as a node tells it
abbrev pub refusal_told : ℕ → ℕ → Option Refusal
refusal_told number value =
    if number == 1 then Some refusal.Left else (
    if number == 2 then Some refusal.NotEntered else (
    if number == 3 then Some refusal.AlreadyEntered else (
    if number == 4 then Some refusal.NotJoined else (
    if number == 5 then Some (refusal.Old value) else (
    if number == 6 then Some (refusal.Gap value) else (
    if number == 7 then Some refusal.NothingToAck else (
    if number == 8 then Some refusal.TooManyNodes else (
    if number == 9 then Some refusal.TooManySessions else (
    if number == 10 then Some refusal.Repeat else (
    if number == 11 then Some (refusal.Stale value) else (
    if number == 12 then Some (refusal.Skip value) else (
    if number == 13 then Some refusal.Busy else (
    if number == 14 then Some refusal.SetFull else (
    if number == 15 then Some refusal.OutboxFull else (
    if number == 16 then Some refusal.Spent else (
    if number == 17 then Some refusal.NoMemory else (
    if number == 18 then Some refusal.QueueFull else None)))))))))))))))))

-- the number after that one, where it has one
abbrev pub number_after : ℕ → Option ℕ
number_after last = if nat_lt (last + 1) (2 ^ 64) then Some (last + 1) else None

-- told a last request: the number after it goes to the reading
abbrev pub fence_step : Client → ℕ → Option ℕ → Step
fence_step c last None = step.Refused (refusal.Stale last)
fence_step c last (Some number) = step.Send (frame.Ask c.session number fence)

abbrev pub fence_client : Client → Option ℕ → Client
fence_client c None = c
fence_client c (Some number) = record c { stage = stages.Fencing number }

-- the reading is done: the number after it goes to the command
abbrev pub command_step : Client → ℕ → Option ℕ → Step
command_step c last None = step.Refused (refusal.Stale last)
command_step c last (Some number) = step.Send (frame.Ask c.session number c.command)

abbrev pub command_client : Client → Option ℕ → Client
command_client c None = c
command_client c (Some number) = record c { stage = stages.Asking number }

-- an answer of another kind than the reading's is that of an earlier ask, which took the number: it learns again;
-- one of another kind than the command's says that another client took it
abbrev pub answered_step : Client → Answer → Stage → Step
answered_step c answer stages.Learning = step.Wait
answered_step c answer (stages.Fencing number) =
    if is_answer_to fence answer then command_step c number (number_after number) else step.Send (frame.Ask c.session learning_number fence)
answered_step c answer (stages.Asking number) = if is_answer_to c.command answer then step.Done answer else step.InUse

abbrev pub answered_client : Client → Answer → Stage → Client
answered_client c answer stages.Learning = c
answered_client c answer (stages.Fencing number) =
    if is_answer_to fence answer then command_client c (number_after number) else record c { stage = stages.Learning }
answered_client c answer (stages.Asking number) = c

-- a client whose command has no number yet goes on behind the last request
abbrev pub stale_step : Client → ℕ → Stage → Step
stale_step c last stages.Learning = fence_step c last (number_after last)
stale_step c last (stages.Fencing number) = fence_step c last (number_after last)
stale_step c last (stages.Asking number) = step.Refused (refusal.Stale last)

abbrev pub stale_client : Client → ℕ → Stage → Client
stale_client c last stages.Learning = fence_client c (number_after last)
stale_client c last (stages.Fencing number) = fence_client c (number_after last)
stale_client c last (stages.Asking number) = c

-- three refusals pass; a request that was accepted before will be answered
abbrev pub refused_step : Client → Refusal → Step
refused_step c refusal.Busy = step.Retry (Some refusal.Busy)
refused_step c refusal.OutboxFull = step.Retry (Some refusal.OutboxFull)
refused_step c refusal.QueueFull = step.Retry (Some refusal.QueueFull)
refused_step c refusal.Repeat = step.Wait
refused_step c (refusal.Stale last) = stale_step c last c.stage
refused_step c why = step.Refused why

abbrev pub refused_client : Client → Refusal → Client
refused_client c (refusal.Stale last) = stale_client c last c.stage
refused_client c why = c

abbrev pub told_step : Client → Option Refusal → Step
told_step c None = step.Wait
told_step c (Some why) = refused_step c why

abbrev pub told_client : Client → Option Refusal → Client
told_client c None = c
told_client c (Some why) = refused_client c why

abbrev pub came_step : Client → Frame → Step
came_step c (frame.Reply session request answer) = if is_about c session request then answered_step c answer c.stage else step.Wait
came_step c (frame.Refused session request number value) = if is_about c session request then told_step c (refusal_told number value) else step.Wait
came_step c _ = step.Wait

abbrev pub came_client : Client → Frame → Client
came_client c (frame.Reply session request answer) = if is_about c session request then answered_client c answer c.stage else c
came_client c (frame.Refused session request number value) = if is_about c session request then told_client c (refusal_told number value) else c
came_client c _ = c

abbrev pub step_of : Client → Heard → Step
step_of c heard.Ready = step.Send (ask_of c)
step_of c (heard.Came f) = came_step c f
step_of c heard.Broken = step.Retry None

abbrev pub client_after : Client → Heard → Client
client_after c heard.Ready = c
client_after c (heard.Came f) = came_client c f
client_after c heard.Broken = c

abbrev pub steps : Client → List Heard → List Step
steps c [] = []
steps c (h ∷ hs) = step_of c h ∷ steps (client_after c h) hs

-- the number after its command's, where it has one; else it learns
abbrev pub asking_or_learning : Option ℕ → Stage
asking_or_learning None = stages.Learning
asking_or_learning (Some number) = stages.Asking number

abbrev pub next_stage : Stage → Stage
next_stage stages.Learning = stages.Learning
next_stage (stages.Fencing number) = stages.Learning
next_stage (stages.Asking number) = asking_or_learning (number_after number)

abbrev pub next_client : Client → Client
next_client c = record c { stage = next_stage c.stage }

-- what it sends in this step, if anything, is its command under that number
abbrev pub AsksUnder : Client → ℕ → Step → Type 0
AsksUnder c request (step.Send f) = f ≡ frame.Ask c.session request c.command
AsksUnder c request step.Wait = ⊤
AsksUnder c request (step.Retry why) = ⊤
AsksUnder c request (step.Done answer) = ⊤
AsksUnder c request step.InUse = ⊤
AsksUnder c request (step.Refused why) = ⊤

-- what it sends in this step, if anything, is a reading
abbrev pub Reads : Client → Step → Type 0
Reads c (step.Send f) = (number : ℕ) × (f ≡ frame.Ask c.session number fence)
Reads c step.Wait = ⊤
Reads c (step.Retry why) = ⊤
Reads c (step.Done answer) = ⊤
Reads c step.InUse = ⊤
Reads c (step.Refused why) = ⊤

abbrev pub IsAnswered : Command → Step → Type 0
IsAnswered command (step.Send f) = ⊤
IsAnswered command step.Wait = ⊤
IsAnswered command (step.Retry why) = ⊤
IsAnswered command (step.Done answer) = is_answer_to command answer ≡ true
IsAnswered command step.InUse = ⊤
IsAnswered command (step.Refused why) = ⊤

abbrev pub IsFenced : Client → Heard → ℕ → Type 0
IsFenced c h request =
    (number : ℕ) × ((flag : Bool) × ((c.stage ≡ stages.Fencing number) × ((request ≡ number + 1) × (h ≡ heard.Came (frame.Reply c.session number (answers.Flag flag))))))
