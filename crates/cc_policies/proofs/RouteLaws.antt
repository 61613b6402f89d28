-- What a table of routes keeps, and where answers go.
--     connection_kept, routed_kept, kept_routes, closed_kept    each step keeps the bounds, and that routes lead to open connections
--     connection_open                                                       the connection that answers go to is open
-- connection_asked, connection_judged, connection_others, ask_refused, connection_closed  a look-up after a route, of
-- its request, of another one and of another session;
--                                                                     after a refusal;  and after a connection is gone
use Rattle.std.proofs.Common.{◌≡◌, ◌≢◌, ◌≤◌, ◌<◌, ◌+◌, ◌==◌, ◌||◌, not, ℕ, Bool, true, false, cond, List, [], ◌∷◌, ◌++◌, length, Option, Some, None}
use Rattle.std.proofs.Common.{refl, ap, ◌∙◌, arith}
use Rattle.std.specs.Prelude.{IsTrue, IfSome, IsSome, ◌&&◌, filter, find}
use Rattle.std.specs.List.{AllByRecursion}
use Rattle.std.proofs.lemmas.Bool.Decides.{nat_tests}
use Rattle.std.proofs.lemmas.List.Folds.{list_any-append}
use Rattle.std.proofs.lemmas.List.{length-append}
use Rattle.cc_policies.specs.declared.route.Route.{Route}
use Rattle.cc_policies.specs.Routes.{Routing, IsRouting, is_open, is_ask, ticket_of, or_else, connection_in, connection_of, may_route, routed}
use Rattle.cc_policies.specs.Routes.{taken_back, closed, connection_limit, route_limit}

-- ---- lists

module _ {X : Type 0} where
  shorter_if : (b : Bool) (x : X) (xs ys : List X) → length ys ≤ length xs → length (cond b (x ∷ ys) ys) ≤ length (x ∷ xs)
  shorter_if true x xs ys h = omega (arith, h)
  shorter_if false x xs ys h = omega (arith, h)

  pub shorter : (p : X → Bool) (xs : List X) → length (filter p xs) ≤ length xs
  shorter p [] = omega arith
  shorter p (x ∷ xs) = shorter_if (p x) x xs (filter p xs) (shorter p xs)

  each_if : (P : X → Type 0) (b : Bool) (x : X) (ys : List X) → (b ≡ true → P x) → AllByRecursion P ys → AllByRecursion P (cond b (x ∷ ys) ys)
  each_if P true x ys h each = (h refl, each)
  each_if P false x ys h each = each

  pub each_filter : (P Q : X → Type 0) (p : X → Bool) → ((x : X) → P x → p x ≡ true → Q x) → (xs : List X) → AllByRecursion P xs
      → AllByRecursion Q (filter p xs)
  each_filter P Q p to [] each = tt
  each_filter P Q p to (x ∷ xs) each = each_if Q (p x) x (filter p xs) (λ passes. to x each.0 passes) (each_filter P Q p to xs each.1)

  pub each_more : (P Q : X → Type 0) → ((x : X) → P x → Q x) → (xs : List X) → AllByRecursion P xs → AllByRecursion Q xs
  each_more P Q to [] each = tt
  each_more P Q to (x ∷ xs) each = (to x each.0, each_more P Q to xs each.1)

  found_if : (P : X → Type 0) (b : Bool) (x : X) (o : Option X) → P x → IfSome o P → IfSome (cond b (Some x) o) P
  found_if P true x o h rest = h
  found_if P false x o h rest = rest

  pub found_each : (P : X → Type 0) (p : X → Bool) (xs : List X) → AllByRecursion P xs → IfSome (find p xs) P
  found_each P p [] each = tt
  found_each P p (x ∷ xs) each = found_if P (p x) x (find p xs) each.0 (found_each P p xs each.1)

not_true : (b : Bool) → not b ≡ true → b ≡ false
not_true true h = cc
not_true false h = refl

-- ---- connections

pub open_push : (ticket : ℕ) (connections more : List ℕ) → is_open ticket connections ≡ true → is_open ticket (connections ++ more) ≡ true
open_push ticket connections more h = rw (list_any-append (λ connection. connection == ticket) connections more, h) refl

open_if : (ticket : ℕ) (b : Bool) (connection : ℕ) (connections : List ℕ) → is_open ticket (cond b (connection ∷ connections) connections) ≡ cond b
    ((connection == ticket) || is_open ticket connections) (is_open ticket connections)
open_if ticket true connection connections = refl
open_if ticket false connection connections = refl

still : (connection ticket gone : ℕ) (before after : Bool) → ((connection == ticket) || before) ≡ true → (ticket == gone) ≡ false
    → (before ≡ true → after ≡ true)
    → cond (not (connection == gone)) ((connection == ticket) || after) after ≡ true
still connection ticket gone before after h apart later = grind (arith, nat_tests)

pub open_without : (ticket gone : ℕ) (connections : List ℕ) → is_open ticket connections ≡ true → (ticket == gone) ≡ false
    → is_open ticket (filter (λ connection. not (connection == gone)) connections) ≡ true
open_without ticket gone [] h apart = cc
open_without ticket gone (connection ∷ connections) h apart =
    open_if ticket (not (connection == gone)) connection (filter (λ other. not (other == gone)) connections)
    ∙ still connection ticket gone (is_open ticket connections) _ h apart (λ there. open_without ticket gone connections there apart)

-- ---- the bounds

abbrev table : List ℕ → List ℕ → List Route → ℕ → ℕ → Routing
table connections spare routes issued asked = record { connections = connections; spare = spare; routes = routes; issued = issued; asked = asked }

module _ (connections spare : List ℕ) (routes : List Route) (issued asked room spare_room route_room : ℕ)
    (is : IsRouting (table connections spare routes issued asked) room spare_room route_room) where
  pub connection_kept : (ticket more : ℕ) → length connections < connection_limit → room ≤ more
      → IsRouting (table (connections ++ ticket ∷ []) spare routes ticket asked) more spare_room route_room
  connection_kept ticket more below le = record {
    connections_fit = omega (arith, length-append connections (ticket ∷ []), below);
    connection_room = omega (arith, is.connection_room, le);
    spare_fits = is.spare_fits;
    spare_room = is.spare_room;
    routes_fit = is.routes_fit;
    route_room = is.route_room;
    placed = is.placed;
    lead = all_open routes is.lead;
  }
    where
      all_open : (rs : List Route) → AllByRecursion (λ (r : Route). IsTrue (is_open r.ticket connections)) rs
          → AllByRecursion (λ (r : Route). IsTrue (is_open r.ticket (connections ++ ticket ∷ []))) rs
      all_open [] h = tt
      all_open (r ∷ rs) h = (open_push r.ticket connections (ticket ∷ []) h.0, all_open rs h.1)

  pub routed_kept : (session request ticket place more : ℕ) → is_open ticket connections ≡ true → length routes < route_limit → place ≡ asked + 1
      → route_room ≤ more
      → IsRouting (table connections spare (record { session = session; request = request; ticket = ticket; place = place } ∷ routes) issued place) room
      spare_room more
  routed_kept session request ticket place more open' below next le = record {
    connections_fit = is.connections_fit;
    connection_room = is.connection_room;
    spare_fits = is.spare_fits;
    spare_room = is.spare_room;
    routes_fit = omega (arith, below);
    route_room = omega (arith, is.route_room, le);
    placed = (
      omega arith,
      each_more (λ (r : Route). r.place ≤ asked) (λ (r : Route). r.place ≤ place) (λ (r : Route) h. omega (arith, h, next))
          routes is.placed,
    );
    lead = (open', is.lead);
  }

  pub kept_routes : (p : Route → Bool) → IsRouting (table connections spare (filter p routes) issued asked) room spare_room route_room
  kept_routes p =
      let P : Route → Type 0 = λ r. IsTrue (is_open r.ticket connections) in
      let Q : Route → Type 0 = λ r. r.place ≤ asked in
      record {
        connections_fit = is.connections_fit;
        connection_room = is.connection_room;
        spare_fits = is.spare_fits;
        spare_room = is.spare_room;
        routes_fit = omega (arith, shorter p routes, is.routes_fit);
        route_room = is.route_room;
        placed = each_filter Q Q p (λ r h passes. h) routes is.placed;
        lead = each_filter P P p (λ r h passes. h) routes is.lead;
      }

  pub closed_kept : (ticket : ℕ)
      → IsRouting (table (filter (λ connection. not (connection == ticket)) connections) (filter (λ connection. not (connection == ticket)) spare)
      (filter (λ (r : Route). not (r.ticket == ticket)) routes) issued asked) room spare_room route_room
  closed_kept ticket =
      let P : Route → Type 0 = λ r. IsTrue (is_open r.ticket connections) in
      let Q : Route → Type 0 = λ r. IsTrue (is_open r.ticket (filter (λ connection. not (connection == ticket)) connections)) in
      let T : Route → Type 0 = λ r. r.place ≤ asked in
      record {
        connections_fit = omega (arith, shorter (λ connection. not (connection == ticket)) connections, is.connections_fit);
        connection_room = is.connection_room;
        spare_fits = omega (arith, shorter (λ connection. not (connection == ticket)) spare, is.spare_fits);
        spare_room = is.spare_room;
        routes_fit = omega (arith, shorter (λ (r : Route). not (r.ticket == ticket)) routes, is.routes_fit);
        route_room = is.route_room;
        placed = each_filter T T _ (λ r h passes. h) routes is.placed;
        lead = each_filter P Q _ (λ r h passes. open_without r.ticket ticket connections h (not_true _ passes)) routes is.lead;
      }

-- ---- where answers go

some_ticket : (P : ℕ → Type 0) (o : Option Route) → IfSome o (λ (r : Route). P r.ticket) → IfSome (ticket_of o) P
some_ticket P None h = h
some_ticket P (Some r) h = h

one_of : (P : ℕ → Type 0) (a b : Option ℕ) → IfSome a P → IfSome b P → IfSome (or_else a b) P
one_of P None b h k = k
one_of P (Some n) b h k = h

each_connection : (P : ℕ → Type 0) (session request : ℕ) (routes : List Route) → AllByRecursion (λ (r : Route). P r.ticket) routes
    → IfSome (connection_in session request routes) P
each_connection P session request routes each =
    let found = λ (p : Route → Bool). some_ticket P (find p routes) (found_each (λ (r : Route). P r.ticket) p routes each) in
    one_of P (ticket_of (find (is_ask session request) routes)) (ticket_of (find (λ (r : Route). r.session == session) routes)) (found _) (found _)

pub connection_open : (session request : ℕ) (connections : List ℕ) (routes : List Route)
    → AllByRecursion (λ (r : Route). IsTrue (is_open r.ticket connections)) routes
    → IfSome (connection_in session request routes) (λ ticket. IsTrue (is_open ticket connections))
connection_open session request connections routes lead = each_connection (λ ticket. IsTrue (is_open ticket connections)) session request routes lead

same_number : (n : ℕ) → (n == n) ≡ true
same_number n = grind (arith, nat_tests)

other_number : (n k : ℕ) → k ≢ n → (n == k) ≡ false
other_number n k apart = grind (arith, nat_tests)

pub connection_asked : (session request ticket : ℕ) (g : Routing) → may_route ticket g ≡ true
    → connection_of session request (routed session request ticket g) ≡ Some ticket
connection_asked session request ticket g h = rw (h, same_number session, same_number request) refl

connection_if : (b : Bool) (session request place : ℕ) (g : Routing) (routes : List Route)
    → connection_in session request routes ≡ connection_in session request g.routes
    → connection_of session request (cond b (record g { routes = routes; asked = place }) g) ≡ connection_of session request g
connection_if true session request place g routes same = same
connection_if false session request place g routes same = refl

some_first : (o : Option Route) (a b : Option ℕ) → IsSome o → or_else (ticket_of o) a ≡ or_else (ticket_of o) b
some_first None a b h = cc
some_first (Some r) a b h = refl

not_this : (b c : Bool) → c ≡ false → (b && c) ≡ false
not_this true c h = h
not_this false c h = refl

pub connection_judged : (session request ticket other : ℕ) (g : Routing) → other ≢ request → IsSome (find (is_ask session other) g.routes)
    → connection_of session other (routed session request ticket g) ≡ connection_of session other g
connection_judged session request ticket other g apart there =
    let row : Route = record { session = session; request = request; ticket = ticket; place = g.asked + 1 } in
    connection_if (may_route ticket g) session other (g.asked + 1) g (row ∷ g.routes)
    (rw (not_this (session == session) (request == other) (other_number request other apart)) (some_first (find (is_ask session other) g.routes) _ _ there))

pub connection_others : (session request ticket other that : ℕ) (g : Routing) → other ≢ session
    → connection_of other that (routed session request ticket g) ≡ connection_of other that g
connection_others session request ticket other that g apart =
    let row : Route = record { session = session; request = request; ticket = ticket; place = g.asked + 1 } in
    connection_if (may_route ticket g) other that (g.asked + 1) g (row ∷ g.routes) (rw (other_number session other apart) refl)

later : (place asked : ℕ) → place ≤ asked → not (place == (asked + 1)) ≡ true
later place asked h = grind (arith, nat_tests)

none_at : (asked : ℕ) (routes : List Route) → AllByRecursion (λ (r : Route). r.place ≤ asked) routes
    → filter (λ (r : Route). not (r.place == (asked + 1))) routes ≡ routes
none_at asked [] placed = refl
none_at asked (r ∷ rs) placed = rw (later r.place asked placed.0) (ap (λ l. r ∷ l) (none_at asked rs placed.1))

pub ask_refused : (session request ticket : ℕ) (g : Routing) → AllByRecursion (λ (r : Route). r.place ≤ g.asked) g.routes → may_route ticket g ≡ true
    → (taken_back (g.asked + 1) (routed session request ticket g)).routes ≡ g.routes
ask_refused session request ticket g placed h = rw (h, same_number (g.asked + 1)) (none_at g.asked g.routes placed)

not_that : (ticket : ℕ) (o : Option ℕ) → IfSome o (λ n. (n == ticket) ≡ false) → o ≢ Some ticket
not_that ticket None h e = cc
not_that ticket (Some n) h e = grind (arith, nat_tests)

pub connection_closed : (session request ticket : ℕ) (g : Routing) → connection_of session request (closed ticket g) ≢ Some ticket
connection_closed session request ticket g =
    let P : ℕ → Type 0 = λ n. (n == ticket) ≡ false in
    let each = each_filter (λ r. Unit {0}) (λ (r : Route). P r.ticket) (λ (r : Route). not (r.ticket == ticket))
    (λ (r : Route) h passes. not_true _ passes) g.routes (any g.routes) in
    not_that ticket _ (each_connection P session request _ each)
  where
    any : (rs : List Route) → AllByRecursion (λ r. Unit {0}) rs
    any [] = tt
    any (r ∷ rs) = (tt, any rs)
