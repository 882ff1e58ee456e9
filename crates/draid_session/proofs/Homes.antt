-- The columns of one stripe stand on slots apart, and so do the spares of these slots.
use Rattle.std.proofs.Common.{◌≡◌, ◌≢◌, ◌%◌, ◌<◌, ℕ, Option, None, arith, refl, subst, sym, ap, ◌∙◌}
use Rattle.std.proofs.Math.Nat.{mod-lt}
use Rattle.draid_names.specs.Spares.{AreOfOne, AreSpares, AreUsed, IsArm}
use Rattle.draid_spec.specs.declared.layout.Geometry.{Geometry}
use Rattle.draid_perm.specs.declared.perms.Perms.{Perms}
use Rattle.draid_perm.specs.Perms.{children_of}
use Rattle.draid_map.specs.Place as place
use Rattle.draid_map.proofs.Apart.{has_some}
use Rattle.draid_map.proofs.Distinct.{columns_apart, index_in}
use Rattle.draid_chain.specs.Chain.{holder_in}
use Rattle.draid_chain.specs.Used.{HasColumn}
use Rattle.draid_chain.proofs.Holders.{holder_free, holder_is, holder_no_column, holders_same}
use Rattle.draid_layouts.specs.Layout.{pool_stripe, slice_of, layout_of}

module _ (geometry : Geometry) (perms : Perms) (metaslab : ℕ) (lay : place.IsLayout geometry perms) where
  all : children_of perms ≡ geometry.spec.children
  all = lay.perms_are.children

  -- a column's slot has a column in the slice
  has_column : (x c : ℕ) → HasColumn perms geometry.spec.spares (slice_of geometry (pool_stripe geometry metaslab x)) ((layout_of geometry perms metaslab).slot_of x c)
  has_column x c =
      let some = has_some geometry lay.geometry_is in
      let disks = lay.geometry_is.disks in
      let low : index_in geometry (pool_stripe geometry metaslab x) c % geometry.ndisks < geometry.ndisks = mod-lt (index_in geometry (pool_stripe geometry metaslab x) c) some.disks in
      let same = all in
      record { position = index_in geometry (pool_stripe geometry metaslab x) c % geometry.ndisks; before = omega (arith, disks, low, same); stands = refl }

  home_is : (first : ℕ → Option ℕ) (x c t : ℕ)
      → holder_in perms geometry.spec.spares (slice_of geometry (pool_stripe geometry metaslab x)) first ((layout_of geometry perms metaslab).slot_of x c) t ≡ (layout_of geometry perms metaslab).home first t x
  home_is first x c t = holder_is perms geometry.spec.spares (slice_of geometry (pool_stripe geometry metaslab x)) ((layout_of geometry perms metaslab).slot_of x c) t first (has_column x c)

  -- they stand on slots apart
  pub slots_apart : (x c d : ℕ) → c < geometry.g → d < geometry.g → (layout_of geometry perms metaslab).slot_of x c ≡ (layout_of geometry perms metaslab).slot_of x d → c ≡ d
  slots_apart x c d column other same = columns_apart geometry perms (pool_stripe geometry metaslab x) c d lay column other same

  -- no spare keeps one of them on a slot that has a column of the stripe
  pub home_alone : (first : ℕ → Option ℕ) (x c d t : ℕ) → AreSpares geometry.spec.children geometry.spec.spares first → t < geometry.spec.spares
      → (layout_of geometry perms metaslab).home first t x ≢ (layout_of geometry perms metaslab).slot_of x d
  home_alone first x c d t are spare e =
      holder_no_column perms geometry.spec.spares (slice_of geometry (pool_stripe geometry metaslab x)) ((layout_of geometry perms metaslab).slot_of x c) t ((layout_of geometry perms metaslab).slot_of x d) first
      (subst (λ n. AreSpares n geometry.spec.spares first) (sym all) are) spare (has_column x d) (home_is first x c t ∙ e)

  -- spares of their slots keep two of them on two slots
  pub homes_apart : (first : ℕ → Option ℕ) (x c d t u : ℕ) → AreUsed geometry.spec.children geometry.spec.spares first
      → IsArm geometry.spec.children geometry.spec.spares first ((layout_of geometry perms metaslab).slot_of x c) t
      → IsArm geometry.spec.children geometry.spec.spares first ((layout_of geometry perms metaslab).slot_of x d) u
      → (layout_of geometry perms metaslab).home first t x ≡ (layout_of geometry perms metaslab).home first u x → t ≡ u
  homes_apart first x c d t u used arm arm' e =
      let are = subst (λ n. AreSpares n geometry.spec.spares first) (sym all) used.below in
      holders_same perms geometry.spec.spares (slice_of geometry (pool_stripe geometry metaslab x)) ((layout_of geometry perms metaslab).slot_of x c) ((layout_of geometry perms metaslab).slot_of x d) t u first first are are
      (subst (λ n. AreOfOne n first first) (sym all) used.apart)
      (has_column x c) (subst (λ n. IsArm n geometry.spec.spares first ((layout_of geometry perms metaslab).slot_of x c) t) (sym all) arm)
      (has_column x d) (subst (λ n. IsArm n geometry.spec.spares first ((layout_of geometry perms metaslab).slot_of x d) u) (sym all) arm')
      (home_is first x c t ∙ e ∙ sym (home_is first x d u))

  -- and none of those has a spare itself
  pub home_free : (first : ℕ → Option ℕ) (x c t : ℕ) → AreUsed geometry.spec.children geometry.spec.spares first
      → IsArm geometry.spec.children geometry.spec.spares first ((layout_of geometry perms metaslab).slot_of x c) t → first ((layout_of geometry perms metaslab).home first t x) ≡ None
  home_free first x c t used arm =
      ap first (sym (home_is first x c t))
      ∙ holder_free perms geometry.spec.spares (slice_of geometry (pool_stripe geometry metaslab x)) ((layout_of geometry perms metaslab).slot_of x c) t first
      (subst (λ n. AreUsed n geometry.spec.spares first) (sym all) used) (has_column x c)
      (subst (λ n. IsArm n geometry.spec.spares first ((layout_of geometry perms metaslab).slot_of x c) t) (sym all) arm)
