use Rattle.std.specs.Prelude.{◌≡◌, ◌+◌, ◌-◌, ◌*◌, ◌/◌, ◌==◌, ◌||◌, ℕ, zero, suc, Bool, false, Option, None, Some, if◌then◌else◌}
use Rattle.std.specs.Option.{option_map_or}
use Rattle.draid_spec.specs.Geometry.{slice_at}
use Rattle.draid_spec.specs.declared.layout.Geometry.{Geometry}
use Rattle.draid_perm.specs.declared.perms.Perms.{Perms}
use Rattle.draid_perm.specs.Perms.{child_of, children_of}

-- the slot at a spare's position of a slice: the spares have the last positions
abbrev pub spare_slot : Perms → ℕ → ℕ → ℕ
spare_slot perms slice spare = child_of perms slice (children_of perms - 1 - spare)

-- whether a slot stands before a position of a slice
abbrev pub stands_before : Perms → ℕ → ℕ → ℕ → Bool
stands_before perms slice zero slot = false
stands_before perms slice (suc position) slot =
    (child_of perms slice position == slot) || stands_before perms slice position slot

-- The slot at which the chain of a spare ends, by the slot at each spare's position and each slot's first spare: the slot at
-- the spare's position or, where that has a spare arm, the slot at which the chain of its first one ends. At most so many
-- further spares are passed.
abbrev pub chain_end : (ℕ → ℕ) → (ℕ → Option ℕ) → ℕ → ℕ → ℕ
chain_end slot_at first zero spare = slot_at spare
chain_end slot_at first (suc most) spare =
    option_map_or (λ next. chain_end slot_at first most next) (first (slot_at spare)) (slot_at spare)

-- the links of that chain: the spares that it passes, this one counted
abbrev pub chain_links : (ℕ → ℕ) → (ℕ → Option ℕ) → ℕ → ℕ → ℕ
chain_links slot_at first zero spare = 1
chain_links slot_at first (suc most) spare =
    option_map_or (λ next. chain_links slot_at first most next + 1) (first (slot_at spare)) 1

-- the same as a relation, without a bound: behind so many further spares the chain of a spare ends at a slot, which has no
-- spare arm
abbrev pub EndsAt : (ℕ → ℕ) → (ℕ → Option ℕ) → ℕ → ℕ → ℕ → Type 0
EndsAt slot_at first spare zero slot = (slot_at spare ≡ slot) × (first slot ≡ None)
EndsAt slot_at first spare (suc further) slot =
    (next : ℕ) × (first (slot_at spare) ≡ Some next) × EndsAt slot_at first next further slot

-- the slot that keeps for a spare arm of a slot what the arm has in a slice
abbrev pub holder_in : Perms → ℕ → ℕ → (ℕ → Option ℕ) → ℕ → ℕ → ℕ
holder_in perms spares slice first slot spare =
    if stands_before perms slice (children_of perms - spares) slot then chain_end (spare_slot perms slice) first spares spare
    else spare_slot perms slice spare

-- the links of the chain from the arm to there
abbrev pub links_in : Perms → ℕ → ℕ → (ℕ → Option ℕ) → ℕ → ℕ → ℕ
links_in perms spares slice first slot spare =
    if stands_before perms slice (children_of perms - spares) slot then chain_links (spare_slot perms slice) first spares spare
    else 1

-- the same at a sector of the pool
abbrev pub holder_of : Geometry → Perms → (ℕ → Option ℕ) → ℕ → ℕ → ℕ → ℕ
holder_of geometry perms first slot spare sector =
    holder_in perms geometry.spec.spares (slice_at geometry sector) first slot spare

abbrev pub links_of : Geometry → Perms → (ℕ → Option ℕ) → ℕ → ℕ → ℕ → ℕ
links_of geometry perms first slot spare sector =
    links_in perms geometry.spec.spares (slice_at geometry sector) first slot spare
