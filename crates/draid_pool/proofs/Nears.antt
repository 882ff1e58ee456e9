-- What a floor is near stays so.
use Rattle.std.proofs.Common.{◌≡◌, ◌≤◌, ◌+◌, arith, ℕ, Bool, Option, Some, None}
use Rattle.draid_shard.specs.Fits.{AreGroups}
use Rattle.draid_shard.specs.declared.shard.Shard.{Shard}
use Rattle.draid_pool.specs.Threads.{IsNear}

-- the open group is one of the next two behind the committed one
pub open_upto : (o : ℕ) (closing : Option ℕ) (c : ℕ) (sealed : Bool) → AreGroups o closing c sealed → o ≤ c + 2
open_upto o None c sealed groups = (let is = groups.0 in omega (arith, is))
open_upto o (Some t) c sealed groups = (let is = groups.0 in let closing = groups.1 in omega (arith, is, closing))

-- a floor that isn't above one which was is near where no open group fell
pub near_kept : {R A : Type 0} (floor then_floor : ℕ) (last now : ℕ → Option (Shard R A)) → then_floor ≤ floor
    → ((m : ℕ) (shard : Shard R A) → last m ≡ Some shard → (after : Shard R A) × (now m ≡ Some after) × (shard.open_group ≤ after.open_group)) → IsNear floor last → IsNear then_floor now
near_kept floor then_floor last now less each was =
    let z = each was.metaslab was.shard was.there in
    let up = was.near in
    let opens = z.2 in
    record { metaslab = was.metaslab; shard = z.0; there = z.1; near = omega (arith, less, up, opens) }
