-- Slots in which room was made.
use Rattle.std.proofs.Common.{if◌then◌else◌, ◌≡◌, ◌⊎◌, ◌+◌, ◌≤◌, ◌∙◌, ℕ, zero, suc, Bool, Option, true, false, arith, inl, inr}
use Rattle.draid_spec.specs.declared.layout.Geometry.{Geometry}
use Rattle.draid_perm.specs.declared.perms.Perms.{Perms}
use Rattle.draid_slots.specs.Changes.{HasRoom, IsOf, Keeps}
use Rattle.draid_slots.specs.Table.{SlotTable, is_logged}
use Rattle.draid_pass.specs.declared.pass.Pass.{Pass}
use Rattle.draid_shard.specs.Fits.{LogsHaveRoom, birth_groups, changes_for_end, is_rebuild, lacking}

-- what memory was made for changes nothing
pub still_of : (old new : SlotTable) (geometry : Geometry) (perms : Perms) (number : ℕ) → Keeps old new → IsOf old geometry perms number → IsOf new geometry perms number
still_of old new geometry perms number kept is = record {
  geometry_is = kept.same.geometry_is ∙ is.geometry_is;
  perms_are = kept.same.perms_are ∙ is.perms_are;
  metaslab_is = kept.same.metaslab_is ∙ is.metaslab_is;
}

-- a log lacks at most as many groups as are asked for
lacking_most : (log : ℕ → Bool) (from n : ℕ) → lacking log from n ≤ n
lacking_most log from zero = omega arith
lacking_most log from (suc n) = by (log (from + n)) (lacking_most log from n)
  where
    by : (b : Bool) → lacking log from n ≤ n → lacking log from n + (if b then 0 else 1) ≤ suc n
    by true few = omega (arith, few)
    by false few = omega (arith, few)

pub rooms_enough : (slots : SlotTable) (from groups more changes arms : ℕ) → groups + more ≤ changes → HasRoom slots changes arms → LogsHaveRoom slots from groups more
rooms_enough slots from groups more changes arms enough room at there =
    let few = lacking_most (is_logged slots at) from groups in
    let left = room.logs at there in
    omega (arith, few, left, enough)

-- at the end of a rebuild three groups are wanted again at most
pub changes_most : (pass : Option Pass) (closing : Option ℕ) → changes_for_end pass closing ≤ birth_groups closing
changes_most pass closing = by (is_rebuild pass) (birth_groups closing)
  where
    by : (b : Bool) (groups : ℕ) → (if b then groups else 0) ≤ groups
    by true groups = omega arith
    by false groups = omega arith

-- no other version is asked for
pub own_version : (version : ℕ) → (version ≡ 1) ⊎ (version ≡ 2) → (version ≤ version) × (version ≤ 2)
own_version version (inl one) = (omega arith, omega (arith, one))
own_version version (inr two) = (omega arith, omega (arith, two))
