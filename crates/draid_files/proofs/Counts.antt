-- No call on devices that were just made has failed.
use Rattle.std.proofs.Common.{◌<◌, ℕ, Option, Some, None}
use Rattle.std.specs.Prelude.{IsSomeAnd}
use Rattle.draid_spec.specs.declared.layout.Geometry.{Geometry}
use Rattle.draid_shelf.specs.Kits.{IsUncounted}
use Rattle.draid_files.specs.declared.devices.Devices.{Devices}
use Rattle.draid_files.specs.Shelves.{FileKit, IsMadeKit, MakesAll, counts_at, kit_at, kit_counts}

of_kit : (geometry : Geometry) (kit : Option FileKit) → IsSomeAnd kit (IsMadeKit geometry) → IsUncounted (kit_counts kit)
of_kit geometry None is = absurd is
of_kit geometry (Some kit) is = record { no_rack = is.rack.counts; no_even = is.even.count; no_odd = is.odd.count }

pub uncounted : (geometry : Geometry) (devices : Devices) → MakesAll geometry devices → (m : ℕ) → m < geometry.props.metaslabs → IsUncounted (counts_at devices m)
uncounted geometry devices made m below = of_kit geometry (kit_at devices m) (made.kits_are m below)
