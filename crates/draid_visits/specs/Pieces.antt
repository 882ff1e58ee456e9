-- Holds of one metaslab behind which its blocks may have other pieces, of the same length and digest.
use Rattle.std.specs.Prelude.{◌≡◌, ◌⊎◌, List, Some}
use Rattle.draid_rack.specs.declared.Rack as racks
use Rattle.draid_area.specs.declared.Area as areas
use Rattle.draid_machine.specs.declared.names.Held.{Held}
use Rattle.draid_machine.specs.declared.names.Key.{Key}
use Rattle.draid_segments.specs.Segments.{Pieces}
use Rattle.draid_shard.specs.Part.{Part, layout_in}
use Rattle.draid_shard.specs.declared.shard.Shard.{Shard}
use Rattle.draid_session.specs.Holds.{Hold}
use Rattle.draid_session.specs.State.{Metaslab}
use Rattle.draid_pool.specs.Bytes.{HasBytes}
use Rattle.draid_pool.specs.Metaslabs.{IsMetaslab}
use Rattle.draid_pool.specs.Shards.{FollowsIn, KeepsImages}

-- those of each block stayed, or are of such bytes
abbrev pub SameContents : Part → Metaslab → Pieces → Pieces → Type 0
SameContents part x pieces later = (k : Key) (h : Held) → x.world.core.held k ≡ Some h → (later k ≡ pieces k) ⊎ HasBytes part.geometry h k later

-- Holds of a metaslab led to one for which the shard stands, where its blocks have these pieces or later ones.
pub record GoesTo {R A : Type 0} (rack : racks.Ghosts R) (area : areas.Ghosts A) (part : Part) (pieces : Pieces) (x : Metaslab) (new : Shard R A) (does : List Hold → Metaslab → Type 0) : Type 0 where
  pub holds : List Hold
  pub reached : Metaslab
  pub follows : FollowsIn (layout_in part) part.number holds x reached
  pub images : KeepsImages x.world reached.world
  pub done : does holds reached
  pub later : Pieces
  pub contents : SameContents part x pieces later
  pub is : IsMetaslab rack area part later new reached
