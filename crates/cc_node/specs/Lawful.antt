-- Which states a node can be in.
--     IsLawfulCore, IsLawfulNode         a core, and a node with what it keeps
--     IsPhaseOf                          a round pends, whose first ask is its session's last request
--     IsBeside, IsRoundOf                its others are of the kind of that one, and fewer than the share
--     IsLineOf                           asks wait, each its session's last request, and no two of one session
--     SessionsWithin, CountsWithin       counters are within their limit
--     KeepsAnswers                       for which sessions an answer is kept
use Rattle.std.specs.Prelude.{◌≡◌, ℕ, ◌<◌, ◌≤◌, true, false, IsTrue, IsFalse, List, [], length, Some, ⊤, IfSome}
use Rattle.std.specs.List.{AllByRecursion}
use Rattle.std.specs.Ordering.{nat_cmp}
use Rattle.std.specs.FinMap as table
use Rattle.std.specs.FinMap.{FinMap}
use Rattle.cc_changes.specs.ChangeLaws.{IsAmong}
use Rattle.cc_views.specs.NatSets.{IsWithin}
use Rattle.cc_changes.specs.Need.{IsShare}
use Rattle.cc_messages.specs.declared.answer.Answer.{Answer}
use Rattle.cc_ops.specs.Commands.{is_writing}
use Rattle.cc_ops.specs.declared.pending_operation.Asked.{Asked}
use Rattle.cc_ops.specs.declared.pending_operation.Pending.{Pending}
use Rattle.cc_ops.specs.Ops.{Ops, Phase, Idle, Storing, Querying, StoringBack, unanswered}
use Rattle.cc_ops.specs.Stages.{stage_of, WaitsBehind, HasRoom}
use Rattle.cc_ops.specs.WaitingAsks.{line_limit, has_session, AreApart}
use Rattle.cc_links.specs.Links.{Links, LinksWithin}
use Rattle.cc_sessions.specs.Sessions.{Requests}
use Rattle.cc_views.specs.Limits.{counter_limit, known_limit, session_limit}
use Rattle.cc_node.specs.Core.{Core, lowest}
use Rattle.cc_messages.specs.Shares.{share_limit}
use Rattle.cc_outbox.specs.OutboxLaws.{KeepsPosts}
use Rattle.cc_node.specs.Node.{Node}

abbrev pub IsKnown : Links → ℕ → Type 0
IsKnown ls q = IsTrue (table.contains_key ls q)

-- an operation of its session's last request waits for more answers than it has
pub record IsPendingIn (sessions : Requests) (p : Pending) : Type 0 where
  pub session : table.get sessions p.asked.session ≡ Some p.asked.request
  pub need : p.need ≤ known_limit
  pub count : p.count < p.need

abbrev pub IsPhaseOf : Links → Requests → Phase → Type 0
IsPhaseOf ls sessions Idle = ⊤
IsPhaseOf ls sessions (Storing p) = IsPendingIn sessions p × IsTrue (is_writing p.asked.command)
IsPhaseOf ls sessions (Querying p) = IsPendingIn sessions p × IsFalse (is_writing p.asked.command)
IsPhaseOf ls sessions (StoringBack p seen) = IsPendingIn sessions p × IsFalse (is_writing p.asked.command) × IsWithin seen ls

-- an ask is its session's last request
abbrev pub IsLastOf : Requests → Asked → Type 0
IsLastOf sessions a = table.get sessions a.session ≡ Some a.request

-- the others of a round are of the kind of its first ask
abbrev pub IsBeside : Phase → List Asked → Type 0
IsBeside Idle others = others ≡ []
IsBeside (Storing p) others = AllByRecursion (λ a. is_writing a.command ≡ true) others
IsBeside (Querying p) others = AllByRecursion (λ a. is_writing a.command ≡ false) others
IsBeside (StoringBack p seen) others = AllByRecursion (λ a. is_writing a.command ≡ false) others

-- fewer others than the share, each its session's last request
pub record IsRoundOf (sessions : Requests) (share : ℕ) (phase : Phase) (others : List Asked) : Type 0 where
  pub some : 1 ≤ share
  pub most : share ≤ share_limit
  pub few : length others < share
  pub alike : IsBeside phase others
  pub last : AllByRecursion (IsLastOf sessions) others

-- asks wait only behind a pending round, and no two that aren't answered are of one session
pub record IsLineOf (sessions : Requests) (s : Ops) : Type 0 where
  pub behind : WaitsBehind (stage_of s.phase) s.line
  pub few : length s.line ≤ line_limit
  pub apart : AreApart (unanswered s)
  pub last : AllByRecursion (IsLastOf sessions) s.line
  pub round : IsRoundOf sessions s.share s.phase s.others

abbrev pub SessionsWithin : Requests → Type 0
SessionsWithin sessions = (s : ℕ) → IfSome (table.get sessions s) (λ last. (0 < last) × (last ≤ counter_limit))

pub record CountsWithin (c : Core) : Type 0 where
  pub number : c.ops.number ≤ counter_limit
  pub tag : c.ops.tag ≤ counter_limit
  pub posts : c.posts ≤ counter_limit
  pub echoes : c.churn.echoes ≤ counter_limit

pub record IsLawfulCore (c : Core) : Type 0 where
  pub beta : IsShare c.beta
  pub gamma : IsShare c.gamma
  pub me : IsKnown c.links c.me
  pub changes : IsAmong c.churn.changes c.links
  pub view : IsWithin c.ops.view c.links
  pub link_count : table.len c.links ≤ known_limit
  pub joined : IsWithin c.churn.changes.joined c.churn.changes.entered
  pub links : LinksWithin c.posts c.links
  pub phase : IsPhaseOf c.links c.sessions c.ops.phase
  pub line : IsLineOf c.sessions c.ops
  pub sessions : SessionsWithin c.sessions
  pub session_count : table.len c.sessions ≤ session_limit
  pub counts : CountsWithin c
  pub need : c.churn.need ≤ known_limit
  pub set : HasRoom c.ops.line c.ops.mine

-- kept answers are of sessions with a row, and of none that has an ask which isn't answered
abbrev pub KeepsAnswers : Requests → List Asked → FinMap nat_cmp Answer → Type 0
KeepsAnswers sessions asks kept =
    (s : ℕ) → IsTrue (table.contains_key kept s) → IsTrue (table.contains_key sessions s) × IsFalse (has_session s asks)

pub record IsLawfulNode (n : Node) : Type 0 where
  pub core : IsLawfulCore n.core
  pub last : n.outbox.last ≡ n.core.posts
  pub posts : KeepsPosts (lowest n.core) n.core.posts n.outbox.posts
  pub answers : KeepsAnswers n.core.sessions (unanswered n.core.ops) n.outbox.answers
