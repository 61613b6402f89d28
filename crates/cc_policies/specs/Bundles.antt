-- What one write takes to a peer.
--     Bundled            posts as bytes, and the acknowledgement that came last
--     with_parcel        one parcel more
--     bundle_bytes       the bytes of the write of the node `me`
use Rattle.std.specs.Prelude.{ℕ, List, [], ◌++◌, Option, Some, None}
use Rattle.cc_connections.specs.declared.frame.Frame.TheVariants as frame
use Rattle.cc_connections.specs.Frames.{frame_spelling}
use Rattle.cc_policies.specs.declared.bundle.Parcel.{Parcel}
use Rattle.cc_policies.specs.declared.bundle.Parcel.TheVariants as parcel

pub record Bundled : Type 0 where
  pub bytes : List ℕ
  pub ack : Option ℕ

abbrev pub no_parcel : Bundled
no_parcel = record { bytes = []; ack = None }

-- an acknowledgement says all that an earlier one said
abbrev pub with_parcel : Bundled → Parcel → Bundled
with_parcel b (parcel.Post bytes) = record { bytes = b.bytes ++ bytes.items; ack = b.ack }
with_parcel b (parcel.Ack number) = record { bytes = b.bytes; ack = Some number }

abbrev pub ack_bytes : ℕ → Option ℕ → List ℕ
ack_bytes me None = []
ack_bytes me (Some number) = frame_spelling (frame.Ack me number)

abbrev pub bundle_bytes : ℕ → Bundled → List ℕ
bundle_bytes me b = b.bytes ++ ack_bytes me b.ack
