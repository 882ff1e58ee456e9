-- The beginning of a visit keeps to what every hold keeps to, and a thread that has the passes may do it.
use Rattle.std.proofs.Common.{◌≡◌, arith, inl, ℕ, Bool, true, Option, Some, None, MatchOption}
use Rattle.std.specs.Prelude.{Result, Ok, Err}
use Rattle.draid_names.specs.declared.pass_kind.PassKind.{PassKind}
use Rattle.draid_rack.specs.declared.Rack as racks
use Rattle.draid_area.specs.declared.Area as areas
use Rattle.draid_shard.specs.declared.shard.Shard.{Shard}
use Rattle.draid_passing.specs.declared.fault.PlanFault.{PlanFault}
use Rattle.draid_passing.specs.declared.fault.PlanFault.TheVariants as plan
use Rattle.draid_pool.specs.Drifts.{Drifts, KeepsTo, is_other, passes_number}
use Rattle.draid_pool.proofs.Rises.{records_same}
use Rattle.draid_pool.proofs.ShardSteps.{state_goes}
use Rattle.draid_visits.specs.Starts.{IsNotRunning, MayStartIn, StartsIn}
use Rattle.draid_visits.proofs.CancelHolds.{pass_may_go}
use Rattle.draid_visits.proofs.Idle.{kind_kept}
use Rattle.draid_visits.proofs.Visited.{not_running}

module _ {R A : Type 0} (rack : racks.Ghosts R) (area : areas.Ghosts A) (kind : PassKind) where
  starts_keep : (x y : Shard R A) (result : Result ℕ PlanFault) → StartsIn rack area kind x result y → KeepsTo rack area x y (Some passes_number)
  starts_keep x y result s = record {
    valid = s.valid;
    part = s.part;
    later = (let same = s.blocks.groups.committed in omega (arith, same));
    opens = (let same = s.blocks.groups.open_group_is in omega (arith, same));
    groups = λ other. s.groups;
    passes = λ is. pass_may_go is;
    others = record { each = λ key own. inl (s.blocks.entries.held key) };
    areas = records_same area.faults x y s.areas_are;
    state = state_goes rack area (is_other (Some passes_number)) x y _ s.goes;
  }

  pub start_keeps : (x y : Shard R A) (out : Option (Result ℕ PlanFault)) → MatchOption out ⊥ (λ result. StartsIn rack area kind x result y) → KeepsTo rack area x y (Some passes_number)
  start_keeps x y None did = absurd did
  start_keeps x y (Some result) did = starts_keep x y result did

  pub start_ready : (shared : Bool) (owns : ℕ → Bool) → owns passes_number ≡ true → (shard x : Shard R A) → Drifts rack area shared owns shard x → MayStartIn rack kind shard → MayStartIn rack kind x
  start_ready shared owns own shard x d may = record { valid = d.valid; alone = kind_kept kind shard.pass x.pass (d.passes own) may.alone }

  pub not_running_by : (x y : Shard R A) (result : Result ℕ PlanFault) → StartsIn rack area kind x result y → IsNotRunning result
  not_running_by x y (Ok at) s = tt
  not_running_by x y (Err plan.Nothing) s = tt
  not_running_by x y (Err (plan.PassRunning number)) s = not_running kind x number s.refused s.idle
  not_running_by x y (Err (plan.Worn events)) s = tt
  not_running_by x y (Err plan.Last) s = tt
  not_running_by x y (Err plan.NoMemory) s = tt
