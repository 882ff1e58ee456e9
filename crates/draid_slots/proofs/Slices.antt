-- The slice of a sector, counted in the metaslab and through the pool.
use Rattle.std.proofs.Common.{◌≡◌, ℕ, ◌+◌, ◌*◌, ◌/◌, ◌<◌, ◌≤◌, ap, ◌∙◌, arith}
use Rattle.std.proofs.Math.Nat.{add_comm, add-mul-div_right, mul-le-mul}
use Rattle.draid_chain.specs.Chain.{holder_in, holder_of}
use Rattle.draid_spec.specs.Geometry.{IsGeometry, metaslab_sectors, slice_at}
use Rattle.draid_slots.specs.Reading.{spare_slot}
use Rattle.draid_slots.specs.Table.{SlotTable, first_spares}

pub layout_slot : (table : SlotTable) (slot spare sector : ℕ) → IsGeometry table.geometry → sector < metaslab_sectors table.geometry
    → holder_of table.geometry table.perms (first_spares table) slot spare (table.metaslab * metaslab_sectors table.geometry + sector) ≡ spare_slot table slot spare (slice_at table.geometry sector)
layout_slot table slot spare sector is below =
    let d = table.geometry.rows * table.geometry.props.height in
    let rows = is.slice.some_rows in
    let least = is.props.least_height in
    let height : 1 ≤ table.geometry.props.height = omega arith in
    let product : 1 * 1 ≤ d = mul-le-mul rows height in
    let some : 0 < d = omega arith in
    let n = table.metaslab * table.geometry.props.slices in
    let whole : table.metaslab * metaslab_sectors table.geometry ≡ n * d = grind arith in
    ap (λ q. holder_in table.perms table.geometry.spec.spares q (first_spares table) slot spare)
    (ap (λ x. (x + sector) / d) whole ∙ ap (λ x. x / d) (add_comm (n * d) sector) ∙ add-mul-div_right sector n some ∙ add_comm (sector / d) n)
