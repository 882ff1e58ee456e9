-- Arms that are renewed, and states after a change of arms.
use Rattle.std.proofs.Common.{◌≡◌, [], ◌||◌, ℕ, Bool, true, false, List, Option, Some, None, Result, Ok, ◌<◌, refl}
use Rattle.draid_names.specs.declared.pass_kind.PassKind.TheVariants.{Rebuild}
use Rattle.draid_machine.specs.declared.names.ArmName.{ArmName}
use Rattle.draid_machine.specs.Names.{up_to}
use Rattle.draid_machine.specs.State.{Layout, Arm, State}
use Rattle.draid_machine.specs.Arms.{targets_of}
use Rattle.draid_machine.specs.Step.{PlanStep}
use Rattle.draid_names.specs.declared.numbers.TheConstants.{LAST_NUMBER}
use Rattle.draid_machine.specs.After.{plan_state, renew_if, map_arm, each_arm, kept_after, aside_left, rearranged_state}
use Rattle.draid_arms.proofs.Moved.{moved_by_order}

always : (b c : Bool) → ((b || c) || true) ≡ (b || true)
always true c = refl
always false true = refl
always false false = refl

pub renewed_twice : (b : Bool) (last : ℕ) (a : Arm) → renew_if true last (renew_if b last a) ≡ renew_if true last a
renewed_twice b last a = λ i. record a { log = up_to last; fresh = always a.fresh b i }

pub renewed_none : (last : ℕ) (o : Option Arm) → map_arm (renew_if false last) o ≡ o
renewed_none last None = refl
renewed_none last (Some a) = λ i. Some (record a { fresh = or_none a.fresh i })
  where
    or_none : (b : Bool) → (b || false) ≡ b
    or_none true = refl
    or_none false = refl

-- the state before counts by its orders alone
pub rearranged_same : (l : Layout) (w : State) (last : ℕ) (arm' : ArmName → Option Arm) (order' : ℕ → List ArmName)
    → (let q = record w.core { arm = arm'; order = order' } in rearranged_state l (record w { core = record q { order = w.core.order } }) last q ≡ rearranged_state l w last q)
rearranged_same l w last arm' order' =
    let q = record w.core { arm = arm'; order = order' } in
    λ i. record w {
      core = record q { arm = each_arm (λ n. renew_if (moved_by_order l (record q { order = w.core.order }) w.core q n refl i) last) arm' };
      loan = None;
      kept = kept_after l w q;
      aside = aside_left l w q;
    }

-- a rebuild that has a target and numbers left is planned
pub planned : (l : Layout) (w new : State) {E : Type 0} (r : Result Bool E) (b : Bool) → r ≡ Ok b → (r ≡ Ok true → PlanStep l w Rebuild new)
    → (r ≡ Ok false → (other : State) → PlanStep l w Rebuild other → ⊥) → w.core.pass ≡ None → w.core.last < LAST_NUMBER → w.open_group < LAST_NUMBER → (targets_of l w.core Rebuild ≡ [] → ⊥)
    → new ≡ plan_state w Rebuild (targets_of l w.core Rebuild)
planned l w new r true is legal illegal idle last opens some = (legal is).made
planned l w new r false is legal illegal idle last opens some =
    absurd (illegal is (plan_state w Rebuild (targets_of l w.core Rebuild)) (record { idle = idle; last = last; may = (some, opens); made = refl }))
