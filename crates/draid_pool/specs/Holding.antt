-- One hold of a metaslab, in which an operation is run.
use Rattle.std.specs.Prelude.{◌≡◌, ◌==◌, ℕ, Bool, true, Option, Some, if◌then◌else◌}
use Rattle.draid_rack.specs.declared.Rack as racks
use Rattle.draid_area.specs.declared.Area as areas
use Rattle.draid_shard.specs.Fits.{Valid}
use Rattle.draid_shard.specs.declared.shard.Shard.{Shard}
use Rattle.draid_pool.specs.Drifts.{Drifts, KeepsTo}

module _ {R A O : Type 0} (rack : racks.Ghosts R) (area : areas.Ghosts A) where
  module _ (needs : O → Shard R A → Type 0) (relates : O → Shard R A → O → Shard R A → Type 0) (concerns : O → Option ℕ) where
    -- an operation may be run in a hold of a metaslab, whatever others did since
    pub record MayHold (shared : Bool) (owns : ℕ → Bool) (last : ℕ → Option (Shard R A)) (m : ℕ) (op : O) : Type 0 where
      pub shard : Shard R A
      pub there : last m ≡ Some shard
      pub valid : Valid rack shard
      pub ready : (x : Shard R A) → Drifts rack area shared owns shard x → needs op x
      pub keeps : (x y : Shard R A) (after : O) → needs op x → relates op x after y → KeepsTo rack area x y (concerns op)
      pub own : (n : ℕ) → concerns op ≡ Some n → owns n ≡ true

  module _ (relates : O → Shard R A → O → Shard R A → Type 0) (concerns : O → Option ℕ) where
    -- it was run in a hold, behind what others did since
    pub record Holds (goes : Shard R A → Shard R A → Type 0) (shared : Bool) (owns : ℕ → Bool) (last : ℕ → Option (Shard R A)) (m : ℕ) (op done : O) (new : ℕ → Option (Shard R A)) : Type 0 where
      pub shard : Shard R A
      pub there : last m ≡ Some shard
      pub before : Shard R A
      pub after : Shard R A
      pub drifts : Drifts rack area shared owns shard before
      pub related : relates op before done after
      pub keeps : KeepsTo rack area before after (concerns op)
      pub is : (k : ℕ) → new k ≡ (if k == m then Some after else last k)
      pub went : goes before after
