-- What others leave of a metaslab to who has its groups.
use Rattle.std.proofs.Common.{◌≡◌, ◌∙◌, ℕ, Bool, true, sym}
use Rattle.draid_rack.specs.declared.Rack as racks
use Rattle.draid_area.specs.declared.Area as areas
use Rattle.draid_machine.specs.State as machine
use Rattle.draid_segments.specs.Segments.{Pieces}
use Rattle.draid_session.specs.State.{Metaslab}
use Rattle.draid_shard.specs.Part.{Part}
use Rattle.draid_shard.specs.declared.shard.Shard.{Shard}
use Rattle.draid_pool.specs.Drifts.{Drifts, GoesOn, groups_number}
use Rattle.draid_pool.specs.Metaslabs.{IsMetaslab}
use Rattle.draid_pool.specs.Shards.{KeepsImages}

-- The images are as they were, and so are the arms, the version of the next image and the groups that are committed and closing; no leaf came.
pub record KeepsGoverned (old new : machine.State) : Type 0 where
  pub images : KeepsImages old new
  pub committed : new.committed ≡ old.committed
  pub closing : new.closing ≡ old.closing

module _ {R A : Type 0} (rack : racks.Ghosts R) (area : areas.Ghosts A) (shared : Bool) (owns : ℕ → Bool) (own : owns groups_number ≡ true) (old now : Shard R A) (d : Drifts rack area shared owns old now) where
  -- whatever the metaslab stood for, what it stands for keeps that
  pub drift_governed : (part : Part) (pieces : Pieces) (y : Metaslab) (is : IsMetaslab rack area part pieces old y) → KeepsGoverned y.world (d.state part pieces y is).reached.world
  drift_governed part pieces y is =
      let g : GoesOn rack area owns part pieces y now = d.state part pieces y is in
      let same = (d.groups own).groups in
      record {
        images = g.images own;
        committed = g.is.stands.is_in.committed ∙ (same.committed ∙ sym is.stands.is_in.committed);
        closing = g.is.stands.is_in.closing ∙ (same.closing ∙ sym is.stands.is_in.closing);
      }
