use Rattle.std.proofs.Common.{◌≡◌, sym, subst}
use Rattle.std.specs.Prelude.{IfOk}
use Rattle.cc_messages.specs.declared.message.Message.{Message}
use Rattle.cc_messages.proofs.message.Message.copy.Goals as goal

pub returns-in-Enter : goal.returns-in-Enter
returns-in-Enter c = sym c.in-Enter.is

pub returns-in-Join : goal.returns-in-Join
returns-in-Join c = sym c.in-Join.is

pub returns-in-JoinEcho : goal.returns-in-JoinEcho
returns-in-JoinEcho c = sym c.in-JoinEcho.is

pub returns-in-Leave : goal.returns-in-Leave
returns-in-Leave c = sym c.in-Leave.is

pub returns-in-LeaveEcho : goal.returns-in-LeaveEcho
returns-in-LeaveEcho c = sym c.in-LeaveEcho.is

pub returns-in-Query : goal.returns-in-Query
returns-in-Query c = sym c.in-Query.is

pub returns-in-StoreAck : goal.returns-in-StoreAck
returns-in-StoreAck c = sym c.in-StoreAck.is

pub returns-in-EnterEcho : goal.returns-in-EnterEcho
returns-in-EnterEcho c =
    subst (λ (m : Message). IfOk c.copy_echo.result (λ copy. copy ≡ m)) (sym c.in-EnterEcho.is) c.copy_echo.ensures
