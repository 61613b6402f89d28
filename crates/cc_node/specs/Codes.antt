-- How the state of a core and of a node is stored.
use Rattle.std.specs.Prelude.{ℕ, refl}
use Rattle.std.specs.Coded.{Coded, code_by, coded×, coded_ℕ}
use Rattle.cc_changes.specs.declared.fraction.Fraction.{Fraction}
use Rattle.cc_changes.specs.contracts.fraction.Fraction as fraction
use Rattle.cc_churn.specs.Churn.{Churn, churn_code}
use Rattle.cc_links.specs.Links.{Links, links_code}
use Rattle.cc_ops.specs.Ops.{Ops}
use Rattle.cc_ops.specs.Codes.{ops_code}
use Rattle.cc_sessions.specs.Sessions.{Requests, requests_code}
use Rattle.cc_outbox.specs.Outbox.{Outbox, outbox_code}
use Rattle.cc_node.specs.Core.{Core}
use Rattle.cc_node.specs.Node.{Node}

abbrev pub core_code : Coded Core
core_code =
    code_by (ℕ × (Fraction × (Fraction × (Churn × (Ops × (ℕ × (Links × Requests)))))))
    (coded× coded_ℕ (coded× (fraction.the_row).coded (coded× (fraction.the_row).coded
    (coded× churn_code (coded× ops_code (coded× coded_ℕ (coded× links_code requests_code)))))))
    (λ c. (c.me, (c.beta, (c.gamma, (c.churn, (c.ops, (c.posts, (c.links, c.sessions))))))))
    (λ p. record {
      me = p.0;
      beta = p.1.0;
      gamma = p.1.1.0;
      churn = p.1.1.1.0;
      ops = p.1.1.1.1.0;
      posts = p.1.1.1.1.1.0;
      links = p.1.1.1.1.1.1.0;
      sessions = p.1.1.1.1.1.1.1;
    })
    (λ _. refl)

abbrev pub node_code : Coded Node
node_code = code_by (Core × Outbox) (coded× core_code outbox_code) (λ n. (n.core, n.outbox)) (λ p. record { core = p.0; outbox = p.1 }) (λ _. refl)
