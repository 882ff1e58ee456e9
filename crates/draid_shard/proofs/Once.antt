-- No name stands twice among the arms of a metaslab's slots and those whose detachment isn't committed.
use Rattle.std.proofs.Common.{◌≡◌, ◌∙◌, List, [], Some, sym, ap, subst, slice_get}
use Rattle.std.specs.Prelude.{Contains, slice_index_or}
use Rattle.draid_names.specs.declared.arm.Arm.{Arm}
use Rattle.draid_names.specs.declared.arm.ArmAt.{ArmAt}
use Rattle.draid_slots.specs.declared.slot.Detached.{Detached}
use Rattle.draid_slots.specs.Table.{SlotTable, arm_at}
use Rattle.draid_shard.specs.Fits.{NamesOnce}

-- where arms stay, and no more are detached
pub once_fewer : (old new : SlotTable) → new.arms ≡ old.arms → ((gone : Detached) → Contains new.detached gone → Contains old.detached gone) → NamesOnce old → NamesOnce new
once_fewer old new same fewer once = record {
  arms = λ at other a b there also name. once.arms at other a b (was at a there) (was other b also) name;
  detached = λ gone other among also name. once.detached gone other (fewer gone among) (fewer other also) name;
  apart = λ at a gone there among name. once.apart at a gone (was at a there) (fewer gone among) name;
} where
  was : (at : ArmAt) (a : Arm) → arm_at new at ≡ Some a → arm_at old at ≡ Some a
  was at a there = ap (λ arms. slice_get (slice_index_or arms at.slot []) at.arm) (sym same) ∙ there

pub once_kept : (old new : SlotTable) → new.arms ≡ old.arms → new.detached ≡ old.detached → NamesOnce old → NamesOnce new
once_kept old new same detached once = once_fewer old new same (λ gone among. subst (λ (list : List Detached). Contains list gone) detached among) once
