-- A core out of its parts, and tests of their rows.
--     core_of p                the core that has these parts
--     is_link_within           whether a link's counts fit so many posts
--     is_request_within        whether a request is one that a session can have
--     is_last_of               whether an ask is its session's last request
use Rattle.std.specs.Prelude.{ℕ, ◌-◌, ◌==◌, Bool, false, ◌&&◌, nat_le, nat_lt}
use Rattle.std.specs.Option.{option_map_or}
use Rattle.std.specs.FinMap as table
use Rattle.cc_views.specs.Limits.{counter_limit}
use Rattle.cc_links.specs.Links.{Link}
use Rattle.cc_ops.specs.declared.pending_operation.Asked.{Asked}
use Rattle.cc_sessions.specs.Sessions.{Requests}
use Rattle.cc_node.specs.Core.{Core}
use Rattle.cc_node.specs.declared.core_parts.CoreParts.{CoreParts}

abbrev pub core_of : CoreParts → Core
core_of p = record {
  me = p.me;
  beta = p.beta;
  gamma = p.gamma;
  churn = p.churn;
  ops = p.ops;
  posts = p.posts;
  links = p.links;
  sessions = p.sessions;
}

abbrev pub is_link_within : ℕ → Link → Bool
is_link_within posts l = nat_le l.start posts && (nat_le l.acked (posts - l.start) && nat_le l.heard counter_limit)

abbrev pub is_request_within : ℕ → Bool
is_request_within last = nat_lt 0 last && nat_le last counter_limit

abbrev pub is_last_of : Requests → Asked → Bool
is_last_of sessions a = option_map_or (λ last. last == a.request) (table.get sessions a.session) false
