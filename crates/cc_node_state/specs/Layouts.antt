-- How the bytes of a state are laid out, version by version.
--     version_of l            the version of a layout
--     IsVersion, layout_of    one that is known, and its layout
--     layout_for share        in which the state of a node with this share is written
--     version_known, layout_back    the version of a layout is known, and has that layout
use Rattle.std.specs.Prelude.{◌≡◌, ◌⊎◌, ℕ, ◌==◌, if◌then◌else◌}
use Rattle.std.proofs.Common.{refl, inl, inr}
use Rattle.cc_node_state.specs.declared.layout.Layout.{Layout}
use Rattle.cc_node_state.specs.declared.layout.Layout.TheVariants.{Plain, Lined, Shared}

-- without a place for asks that wait; with one; and with one for the share and the others of the pending round too
abbrev pub version_of : Layout → ℕ
version_of Plain = 1
version_of Lined = 2
version_of Shared = 32

abbrev pub IsVersion : ℕ → Type 0
IsVersion version = (version ≡ 1) ⊎ (version ≡ 2) ⊎ (version ≡ 32)

abbrev pub layout_of : ℕ → Layout
layout_of version = if version == 1 then Plain else (if version == 2 then Lined else Shared)

-- a node whose rounds have one ask is written as before there were others
abbrev pub layout_for : ℕ → Layout
layout_for share = if share == 1 then Lined else Shared

pub version_known : (l : Layout) → IsVersion (version_of l)
version_known Plain = inl refl
version_known Lined = inr (inl refl)
version_known Shared = inr (inr refl)

pub layout_back : (l : Layout) → layout_of (version_of l) ≡ l
layout_back Plain = refl
layout_back Lined = refl
layout_back Shared = refl
