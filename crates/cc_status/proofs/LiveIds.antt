-- Who is there, of those who entered or joined.
--     live_members, live_present      they are those who haven't left
use Rattle.std.proofs.Common.{◌≡◌, not, sym}
use Rattle.std.specs.List.{filter}
use Rattle.cc_views.specs.NatSets as set
use Rattle.cc_views.specs.NatLists.{items-difference}
use Rattle.cc_changes.specs.ChangeSets.{ChangeSets, members, present}

pub live_members : (c : ChangeSets) → filter (λ q. not (set.contains c.left q)) (set.items c.joined) ≡ set.items (members c)
live_members c = sym (items-difference c.joined c.left)

pub live_present : (c : ChangeSets) → filter (λ q. not (set.contains c.left q)) (set.items c.entered) ≡ set.items (present c)
live_present c = sym (items-difference c.entered c.left)
