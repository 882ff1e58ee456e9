-- An image that outlasts each crash of its metaslab's devices.
use Rattle.std.specs.Prelude.{ℕ, Bool}
use Rattle.draid_machine.specs.declared.names.Segment.{Segment}
use Rattle.draid_machine.specs.State.{Image, Layout}
use Rattle.draid_segments.specs.Segments.{Firm, Pieces}
use Rattle.draid_shelf.specs.Kits.{KitTold}
use Rattle.draid_spec.specs.declared.layout.Geometry.{Geometry}
use Rattle.draid_stable.specs.Stable.{HasRecord, area_of}

-- its record stands in the area of its group, and what it claims is firm on the rack, but for what is in doubt
pub record IsStable (geometry : Geometry) (metaslab : ℕ) (layout : Layout) (pieces : Pieces) (image : Image) (doubt : Segment → Bool) (kit : KitTold) : Type 0 where
  pub recorded : HasRecord geometry metaslab image (area_of image.group kit.even kit.odd)
  pub firm : Firm layout pieces image doubt kit.rack
