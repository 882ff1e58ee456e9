use Rattle.std.proofs.Common.{◌≡◌, ◌*◌, ◌/◌, ◌<◌, ℕ, zero, suc, Some, refl, ap, subst, ◌∙◌, arith}
use Rattle.std.proofs.Math.Nat.{mul_assoc}
use Rattle.std.proofs.lemmas.Nat.{div_below}
use Rattle.draid_names.specs.declared.arm.Arm.{Arm}
use Rattle.draid_spec.specs.Geometry.{slice_sectors}
use Rattle.draid_slots.specs.Reading.{holder}
use Rattle.draid_slots.specs.Table.{SlotTable}
use Rattle.draid_slots.proofs.slots.Slots.place.Goals as goal

some_of : (n m d : ℕ) → n < m * d → 0 < d
some_of n m zero below = absurd (omega arith)
some_of n m (suc d) below = omega arith

-- a sector of the metaslab lies in one of its slices
slice_below : (sector slices rows height size : ℕ) → size ≡ rows * height → sector < slices * rows * height → sector / size < slices
slice_below sector slices rows height size is few =
    let whole = mul_assoc slices rows height in
    let below : sector < slices * (rows * height) = omega (arith, few, whole) in
    rw is (div_below sector (rows * height) slices (some_of sector slices (rows * height) below) below)

pub holder-requires : goal.holder-requires
holder-requires c =
    let t : SlotTable = c.args.self.now in
    let size = c.slice_sectors.ensures.value ∙ ap (λ (t : SlotTable). slice_sectors t.geometry) c.self.view_is in
    record {
      there = c.requires.there;
      slice = slice_below c.args.sector t.geometry.props.slices t.geometry.rows t.geometry.props.height _ size c.requires.sector;
    }

pub returns : goal.returns
returns c =
    let size = c.slice_sectors.ensures.value ∙ ap (λ (t : SlotTable). slice_sectors t.geometry) c.self.view_is in
    let found : Arm = c.holder.result in
    let D : ℕ → Type 0 = λ n. holder c.args.self.now c.args.at (c.args.sector / n) ≡ Some found in
    let is = subst D size c.holder.ensures in
    record { leaf = rw is refl; sector = refl }
