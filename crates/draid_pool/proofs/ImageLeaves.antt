-- The racks of an open pool have the leaves of what an import may find.
use Rattle.std.proofs.Common.{◌≡◌, ◌∙◌, Option, Some, None, refl, sym, subst}
use Rattle.std.specs.Prelude.{IsSome}
use Rattle.draid_rack.specs.declared.Rack as racks
use Rattle.draid_area.specs.declared.Area as areas
use Rattle.draid_spec.specs.Geometry.{metaslab_sectors}
use Rattle.draid_machine.specs.declared.names.ArmName.TheVariants.{Leaf}
use Rattle.draid_machine.specs.Images.{IsImage}
use Rattle.draid_machine.specs.State as machine
use Rattle.draid_machine.proofs.Standing.{every_image}
use Rattle.draid_segments.specs.Segments.{Pieces}
use Rattle.draid_shard.specs.Part.{Part}
use Rattle.draid_shard.specs.States.{layout_by, part_of}
use Rattle.draid_shard.specs.declared.shard.Shard.{Shard}
use Rattle.draid_shard.proofs.Standing.{has_layout}
use Rattle.draid_session.specs.State.{Metaslab}
use Rattle.draid_pool.specs.Importable.{HasImageLeaves}
use Rattle.draid_pool.specs.Metaslabs.{IsMetaslab}
use Rattle.draid_pool.proofs.Imaged.{leaf_in}

-- the rack of a metaslab's shard has the leaves of each image that an import may find
pub leaves_there : {R A : Type 0} (rack : racks.Ghosts R) (area : areas.Ghosts A) (part : Part) (pieces : Pieces) (shard : Shard R A) (y : Metaslab) (image : machine.Image)
    → IsMetaslab rack area part pieces shard y → IsImage y.world image → HasImageLeaves part.geometry image (rack.shape shard.rack)
leaves_there rack area part pieces shard y image is of leaf some = by (image.core.arm (Leaf leaf)) refl some
  where
    arms : (a : machine.Arm) → image.core.arm (Leaf leaf) ≡ Some a → (b : machine.Arm) × (y.world.core.arm (Leaf leaf) ≡ Some b)
    arms a at = (let z = ((every_image (layout_by shard) y.world (has_layout (part_of shard) is.valid.part) is.stands.reached).each image of).arms (Leaf leaf) a at in (z.0, z.1))

    by : (o : Option machine.Arm) → image.core.arm (Leaf leaf) ≡ o → IsSome o → (rack.shape shard.rack).leaves leaf ≡ Some (metaslab_sectors part.geometry)
    by None at none = absurd (cc)
    by (Some a) at here =
        let b = arms a at in
        subst (λ (p : Part). (rack.shape shard.rack).leaves leaf ≡ Some (metaslab_sectors p.geometry)) is.part_is
        (is.valid.leaves.leaves leaf (leaf_in shard.slots y.world.core leaf is.stands.is_in.slots (λ none. (let both = sym none ∙ b.1 in absurd (cc)))))
