-- For which metaslab of an open pool a shard stands.
use Rattle.std.specs.Prelude.{◌≡◌, ℕ, Bool, Option, option_map}
use Rattle.draid_rack.specs.Rack.{Told}
use Rattle.draid_rack.specs.declared.Rack as racks
use Rattle.draid_area.specs.declared.Area as areas
use Rattle.draid_machine.specs.Step.{Run}
use Rattle.draid_segments.specs.Segments.{Pieces}
use Rattle.draid_entries.specs.History.{limit_in, reserved_of}
use Rattle.draid_shard.specs.Fits.{Valid}
use Rattle.draid_shard.specs.Part.{Part, layout_in}
use Rattle.draid_shard.specs.Stands.{StandsFor}
use Rattle.draid_shard.specs.States.{part_of, stored_in}
use Rattle.draid_shard.specs.declared.shard.Shard.{Shard}
use Rattle.draid_pool.specs.Bytes.{KnowsBlocks}
use Rattle.draid_pool.specs.Records.{HasRecords}
use Rattle.draid_session.specs.State.{Counts, Metaslab, limit_of}

-- which sectors are harmed, where the rack tells it
abbrev pub harm_of : Option Told → Option (ℕ → ℕ → Bool)
harm_of told = option_map (λ x. x.harmed) told

-- how often calls on the devices have failed
abbrev pub counts_of : {R A : Type 0} → racks.Ghosts R → areas.Ghosts A → Shard R A → Counts
counts_of rack area shard = record { rack = rack.faults shard.rack; even = area.faults shard.even; odd = area.faults shard.odd }

-- The shard is this metaslab of a pool's layout, and stands for its state, to which the events led that it stores since it was opened. Its rack has what
-- that state says of the blocks with these pieces, and its areas have the records of the images that an import may take. Where something is known of the bytes of a block, its
-- pieces are those of bytes that have its length and digest.
pub record IsMetaslab {R A : Type 0} (rack : racks.Ghosts R) (area : areas.Ghosts A) (part : Part) (pieces : Pieces) (shard : Shard R A) (x : Metaslab) : Type 0 where
  pub valid : Valid rack shard
  pub part_is : part_of shard ≡ part
  pub stands : StandsFor rack shard x.world pieces
  pub run : Run (layout_in part) x.opened x.events x.world
  pub events : x.events ≡ stored_in shard
  pub limit : limit_in shard.history ≡ limit_of part.geometry
  pub reserved : x.reserved ≡ reserved_of shard.history
  pub counts : x.counts ≡ counts_of rack area shard
  pub harm : x.harm ≡ harm_of (rack.told shard.rack)
  pub records : HasRecords part x.world (area.told shard.even) (area.told shard.odd)
  pub bytes : KnowsBlocks part.geometry pieces x.world.core.held
