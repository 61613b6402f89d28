-- What is to be written to a peer.
--     Unsent           the rest of a write that the socket took in part, and the parcels behind it, of which there are so many
--     nothing          nothing is to be written
--     with_one_more    with one parcel more, which finds no room behind 256
--     rest_alone       without the parcels
--     unsent_bytes     all bytes in their order, as the node `me` writes them
use Rattle.std.specs.Prelude.{ℕ, List, [], ◌++◌, ◌+◌, if◌then◌else◌, nat_lt}
use Rattle.cc_policies.specs.declared.bundle.Parcel.{Parcel}
use Rattle.cc_policies.specs.Bundles.{Bundled, no_parcel, with_parcel, bundle_bytes}

pub record Unsent : Type 0 where
  pub rest : List ℕ
  pub bundle : Bundled
  pub parcels : ℕ

abbrev pub nothing : Unsent
nothing = record { rest = []; bundle = no_parcel; parcels = 0 }

abbrev pub behind : Unsent → Parcel → Unsent
behind u p = record { rest = u.rest; bundle = with_parcel u.bundle p; parcels = u.parcels + 1 }

abbrev pub with_one_more : Unsent → Parcel → Unsent
with_one_more u p = if nat_lt u.parcels 256 then behind u p else u

abbrev pub rest_alone : Unsent → Unsent
rest_alone u = record { rest = u.rest; bundle = no_parcel; parcels = 0 }

abbrev pub unsent_bytes : ℕ → Unsent → List ℕ
unsent_bytes me u = u.rest ++ bundle_bytes me u.bundle
