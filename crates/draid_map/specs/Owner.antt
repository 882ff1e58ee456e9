use Rattle.std.specs.Prelude.{◌≡◌, ◌<◌, ◌≤◌, ℕ}
use Rattle.draid_spec.specs.Geometry.{pool_stripes, child_sectors}
use Rattle.draid_spec.specs.declared.layout.Geometry.{Geometry}
use Rattle.draid_perm.specs.declared.perms.Perms.{Perms}
use Rattle.draid_map.specs.declared.sectors.Owner.{Owner}
use Rattle.draid_map.specs.declared.sectors.Owner.TheVariants.{Column, Spare, Past}
use Rattle.draid_map.specs.Place.{place_of, spare_child_of}

-- a sector of a child belongs to a column of the pool that has its place there, to a spare that keeps it
-- there, or lies behind the last slice
abbrev pub Owns : Geometry → Perms → ℕ → ℕ → Owner → Type 0
Owns geometry perms child sector (Column stripe column) =
    (stripe < pool_stripes geometry) × (column < geometry.g)
    × (place_of geometry perms stripe column ≡ record { child = child; sector = sector })
Owns geometry perms child sector (Spare spare) =
    (spare < geometry.spec.spares) × (sector < child_sectors geometry)
    × (spare_child_of geometry perms spare sector ≡ child)
Owns geometry perms child sector Past = child_sectors geometry ≤ sector
