use Rattle.std.specs.Prelude.{◌≡◌, ◌<◌, ⊤, ℕ, Option, Some, MatchOption, replicate}
use Rattle.draid_spec.specs.declared.layout.Geometry.{Geometry}
use Rattle.draid_spec.specs.Geometry.{metaslab_sectors}
use Rattle.draid_rack.specs.Rack.{Shape, Told, HasJust, IsCalm, OnTold}

abbrev pub most_metaslabs : ℕ
most_metaslabs = 64

-- just the children's leaves are there, each with one metaslab's sectors
abbrev pub HasLeavesOf : Geometry → Shape → Type 0
HasLeavesOf geometry shape = HasJust shape geometry.spec.children (metaslab_sectors geometry) geometry.props.sector

-- the leaves are those that are known
abbrev pub IsKnown : Option Shape → Shape → Type 0
IsKnown known shape = MatchOption known ⊤ (λ s. shape ≡ s)

-- where it is told, each sector of these leaves reads zeros
abbrev pub TellsZeros : Option Told → Geometry → Type 0
TellsZeros told geometry =
    OnTold told (λ x. (l s : ℕ) → l < geometry.spec.children → s < metaslab_sectors geometry
    → x.reads l s ≡ Some (replicate geometry.props.sector 0))

-- where it is told, no sector is soft or harmed
abbrev pub TellsCalm : Option Told → Type 0
TellsCalm told = OnTold told IsCalm

-- every other metaslab is as it was
abbrev pub SameOthers : {A : Type 0} → ℕ → (ℕ → A) → (ℕ → A) → Type 0
SameOthers metaslab old new = (m : ℕ) → (m ≡ metaslab → ⊥) → new m ≡ old m
