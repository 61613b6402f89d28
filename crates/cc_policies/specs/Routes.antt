-- Which connections are open, and where the answers of sessions go.
--     Routing                      the open connections by their tickets, the routes of asks, newest first, and what was given
--     connection_limit_for, spare_limit  how many connections there are from each origin, and beside them for the operator
--     admitted, entered            what one more connection may do, and what is open then
--     may_route, routed            whether an ask over a connection can have a route, and where answers go then
--     taken, taken_back            the ask was taken by the node;  it was refused
--     ended, closed                without the routes to a connection;  without the connection too
--     connection_of                      the connection that an answer goes to
--     IsRouting                    how many there are, that routes lead to open connections, and that tickets and places were given
use Rattle.std.specs.Prelude.{◌≤◌, ℕ, ◌+◌, ◌^◌, ◌==◌, ◌&&◌, ◌||◌, nat_lt, not, Bool, List, [], ◌∷◌, ◌++◌, length, filter, find, Option, Some, None}
use Rattle.std.specs.Prelude.{if◌then◌else◌, option_map, IsTrue}
use Rattle.std.specs.List.{list_any, AllByRecursion}
use Rattle.cc_policies.specs.Access.{operator_alone}
use Rattle.cc_policies.specs.declared.origin.Access.{Access}
use Rattle.cc_policies.specs.declared.origin.Origin.{Origin}
use Rattle.cc_policies.specs.declared.origin.Origin.TheVariants as origin
use Rattle.cc_policies.specs.declared.origin.Admitted.{Admitted}
use Rattle.cc_policies.specs.declared.route.Route.{Route}

pub record Routing : Type 0 where
  pub connections : List ℕ
  -- connections beyond the bounds, which take the operator's requests alone
  pub spare : List ℕ
  pub routes : List Route
  -- the last ticket, and the last place of an ask
  pub issued : ℕ
  pub asked : ℕ

abbrev pub no_routing : Routing
no_routing = record { connections = []; spare = []; routes = []; issued = 0; asked = 0 }

abbrev pub connection_limit : ℕ
connection_limit = 1024

-- a part of the connections is kept for the addresses of peers, and a part of these for the machine itself; none of that is
-- for what comes over the port for clients
abbrev pub connection_limit_for : Origin → ℕ
connection_limit_for origin.Client = 768
connection_limit_for origin.Stranger = 768
connection_limit_for origin.Peer = 1016
connection_limit_for origin.Loopback = 1024

abbrev pub spare_limit : ℕ
spare_limit = 8

-- as many as a node has sessions, and one more for each connection, whose ask is being judged
abbrev pub route_limit : ℕ
route_limit = 1280

abbrev pub is_open : ℕ → List ℕ → Bool
is_open ticket connections = list_any (λ connection. connection == ticket) connections

abbrev pub has_ticket : Routing → Bool
has_ticket g = nat_lt (g.issued + 1) (2 ^ 64)

abbrev pub has_room : Origin → Routing → Bool
has_room from g = nat_lt (length g.connections) (connection_limit_for from)

-- one beyond the bounds is for the operator alone
abbrev pub has_spare : Access → Routing → Bool
has_spare access g = access.operators && nat_lt (length g.spare) spare_limit

abbrev pub admitted : Origin → Access → Routing → Option Admitted
admitted from access g =
    if has_ticket g && (has_room from g || has_spare access g)
    then Some (record { ticket = g.issued + 1; access = if has_room from g then access else operator_alone })
    else None

abbrev pub entered : Origin → Access → Routing → Routing
entered from access g =
    if has_ticket g && has_room from g then record g { connections = g.connections ++ (g.issued + 1) ∷ []; issued = g.issued + 1 } else (
    if has_ticket g && has_spare access g then record g { spare = g.spare ++ (g.issued + 1) ∷ []; issued = g.issued + 1 } else g
    )

abbrev pub is_ask : ℕ → ℕ → Route → Bool
is_ask session request r = (r.session == session) && (r.request == request)

abbrev pub ticket_of : Option Route → Option ℕ
ticket_of o = option_map (λ (r : Route). r.ticket) o

abbrev pub or_else : Option ℕ → Option ℕ → Option ℕ
or_else (Some ticket) other = Some ticket
or_else None other = other

-- to the connection over which that very request came last, else to the one over which its session asked last
abbrev pub connection_in : ℕ → ℕ → List Route → Option ℕ
connection_in session request routes =
    or_else (ticket_of (find (is_ask session request) routes)) (ticket_of (find (λ (r : Route). r.session == session) routes))

abbrev pub connection_of : ℕ → ℕ → Routing → Option ℕ
connection_of session request g = connection_in session request g.routes

abbrev pub may_route : ℕ → Routing → Bool
may_route ticket g = is_open ticket g.connections && nat_lt (length g.routes) route_limit && nat_lt (g.asked + 1) (2 ^ 64)

abbrev pub routed : ℕ → ℕ → ℕ → Routing → Routing
routed session request ticket g =
    if may_route ticket g
    then record g { routes = record { session = session; request = request; ticket = ticket; place = g.asked + 1 } ∷ g.routes; asked = g.asked + 1 }
    else g

-- of its session only those routes are left that are as new
abbrev pub is_passed : ℕ → ℕ → Route → Bool
is_passed session place r = (r.session == session) && nat_lt r.place place

abbrev pub taken : ℕ → ℕ → Routing → Routing
taken session place g = record g { routes = filter (λ r. not (is_passed session place r)) g.routes }

-- answers go where they went before it
abbrev pub taken_back : ℕ → Routing → Routing
taken_back place g = record g { routes = filter (λ (r : Route). not (r.place == place)) g.routes }

-- no answer goes there any more
abbrev pub ended : ℕ → Routing → Routing
ended ticket g = record g { routes = filter (λ (r : Route). not (r.ticket == ticket)) g.routes }

abbrev pub closed : ℕ → Routing → Routing
closed ticket g = record g {
  connections = filter (λ connection. not (connection == ticket)) g.connections;
  spare = filter (λ connection. not (connection == ticket)) g.spare;
  routes = filter (λ (r : Route). not (r.ticket == ticket)) g.routes;
}

pub record IsRouting (g : Routing) (connection_capacity spare_capacity route_capacity : ℕ) : Type 0 where
  pub connections_fit : length g.connections ≤ connection_limit
  pub connection_room : connection_limit ≤ connection_capacity
  pub spare_fits : length g.spare ≤ spare_limit
  pub spare_room : spare_limit ≤ spare_capacity
  pub routes_fit : length g.routes ≤ route_limit
  pub route_room : route_limit ≤ route_capacity
  pub placed : AllByRecursion (λ (r : Route). r.place ≤ g.asked) g.routes
  pub lead : AllByRecursion (λ (r : Route). IsTrue (is_open r.ticket g.connections)) g.routes
