-- The targets of a rebuild, by the slots and in a state that has them.
use Rattle.std.proofs.Common.{◌≡◌, ◌∙◌, ◌∷◌, [], List, ap, arith, length, refl, subst, sym}
use Rattle.draid_names.specs.declared.arm.ArmAt.{ArmAt}
use Rattle.draid_names.specs.declared.pass_kind.PassKind.TheVariants.{Rebuild}
use Rattle.draid_rack.specs.declared.Rack.{Ghosts}
use Rattle.draid_layouts.specs.Layout.{layout_of}
use Rattle.draid_machine.specs.Arms as arms
use Rattle.draid_machine.specs.State as machine
use Rattle.draid_plans.specs.Targets as plans
use Rattle.draid_plans.proofs.States.{none_there, some_there}
use Rattle.draid_shard.specs.Fits.{Valid}
use Rattle.draid_shard.specs.States.{IsIn, layout_by}
use Rattle.draid_shard.specs.declared.shard.Shard.{Shard}
use Rattle.draid_marks.specs.Layout.{layout_with}
use Rattle.draid_passing.specs.Passing.{LacksTarget}

module _ {R A : Type 0} (rack : Ghosts R) (shard : Shard R A) (v : Valid rack shard) (w : machine.State) (at : IsIn shard w) where
  layout_is : layout_with shard.slots ≡ layout_by shard
  layout_is = λ i. layout_of (v.slots.geometry_is i) (v.slots.perms_are i) (v.slots.metaslab_is i)

  pub none_told : LacksTarget shard.slots Rebuild → arms.targets_of (layout_by shard) w.core Rebuild ≡ []
  none_told lacks = subst (λ (l : machine.Layout). arms.targets_of l w.core Rebuild ≡ []) layout_is (none_there shard.slots w at.slots [] Rebuild tt lacks.1)

  by_list : (ats : List ArmAt) → plans.targets_of shard.slots [] Rebuild ≡ ats → arms.targets_of (layout_with shard.slots) w.core Rebuild ≡ [] → ats ≡ []
  by_list [] e none = refl
  by_list (x ∷ xs) e none =
      absurd (some_there shard.slots w at.slots [] Rebuild tt (λ is. (let count : length (x ∷ xs) ≡ 0 = ap length (sym e ∙ is) in omega (arith, count))) none)

  pub told_none : arms.targets_of (layout_by shard) w.core Rebuild ≡ [] → LacksTarget shard.slots Rebuild
  told_none none = (refl, by_list (plans.targets_of shard.slots [] Rebuild) refl (subst (λ (l : machine.Layout). arms.targets_of l w.core Rebuild ≡ []) (sym layout_is) none))
