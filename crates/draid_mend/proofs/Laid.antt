-- A shard whose slots are those of its metaslab, and whose rack has their leaves.
use Rattle.std.proofs.Common.{◌≡◌, subst, sym}
use Rattle.draid_rack.specs.declared.Rack.{Ghosts}
use Rattle.draid_shard.specs.Fits.{HasLeaves, Valid}
use Rattle.draid_shard.specs.declared.shard.Shard.{Shard}
use Rattle.draid_mend.specs.Lands.{IsLaid}

pub laid_rack : {R A : Type 0} (rack : Ghosts R) (old new : Shard R A) → new ≡ record old { rack = new.rack } → rack.shape new.rack ≡ rack.shape old.rack → IsLaid rack old → IsLaid rack new
laid_rack rack old new after shape is = subst (IsLaid rack) (sym after) (record {
  part = is.part;
  slots = is.slots;
  leaves = subst (λ shape. HasLeaves shape old.geometry old.slots) (sym shape) is.leaves;
})

pub laid_valid : {R A : Type 0} (rack : Ghosts R) (shard : Shard R A) → Valid rack shard → IsLaid rack shard
laid_valid rack shard v = record { part = v.part; slots = v.slots; leaves = v.leaves }
