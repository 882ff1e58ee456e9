-- The count of failed calls on the uberblock's areas doesn't fall where a leaf is switched.
use Rattle.std.proofs.Common.{◌≤◌, inl, inr, ℕ, zero, suc, Bool, Option, Some, None, Ok, Err}
use Rattle.std.specs.Prelude.{Result}
use Rattle.draid_rack.specs.declared.Rack as racks
use Rattle.draid_area.specs.declared.Area as areas
use Rattle.draid_shard.specs.declared.shard.Shard.{Shard}
use Rattle.draid_uber.specs.declared.uber.Uber.{Uber}
use Rattle.draid_changes.specs.Switching.{SwitchesIn}
use Rattle.draid_changes.specs.declared.fault.ArmFault.{ArmFault}
use Rattle.draid_lanes.proofs.UberLater.{finish_later, later_then, own_count, still_later}
use Rattle.draid_works.specs.Switched.{SwitchesThrough, TriedOn}

module _ {R A S : Type 0} (rack : racks.Ghosts R) (area : areas.Ghosts A) (last : S → ℕ → Option (Shard R A)) (went : S → ℕ → Shard R A → Shard R A → S → Type 0) (shared : Bool) (owns : ℕ → Bool) (count leaf : ℕ) (offline : Bool) where
  switch_later : (a b : S) (u v : Uber A) (out : Option (Result Unit ArmFault)) → SwitchesIn rack area last went shared owns count leaf offline a u out b v → own_count area u ≤ own_count area v
  switch_later a b u v (Some (Ok done)) (mid, finishes, switches) = finish_later rack area last went shared owns count a mid u v (Some (Ok tt)) finishes
  switch_later a b u v (Some (Err why)) (inl (stop, finishes, is)) = finish_later rack area last went shared owns count a b u v (Some (Err stop)) finishes
  switch_later a b u v (Some (Err why)) (inr (mid, finishes, switches)) = finish_later rack area last went shared owns count a mid u v (Some (Ok tt)) finishes
  switch_later a b u v None finishes = finish_later rack area last went shared owns count a b u v None finishes

  tried_later : (n : ℕ) (a b : S) (u v : Uber A) → TriedOn rack area last went shared owns count leaf offline n a u b v → own_count area u ≤ own_count area v
  tried_later zero a b u v (at, same) = still_later area u v same
  tried_later (suc n) a b u v (mid, w, front, tries) = later_then area u w v (tried_later n a mid u w front) (switch_later mid b w v None tries)

  pub switched_later : (a b : S) (u v : Uber A) (result : Result Unit ArmFault) → SwitchesThrough rack area last went shared owns count leaf offline a u result b v → own_count area u ≤ own_count area v
  switched_later a b u v result t = later_then area u t.w v (tried_later t.waits a t.mid u t.w t.front) (switch_later t.mid b t.w v (Some result) t.switches)
