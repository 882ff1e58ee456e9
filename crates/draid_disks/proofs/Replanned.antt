-- A pass that goes on where an arm has come, and the state that has it.
use Rattle.std.proofs.Common.{◌≡◌, ◌≤◌, ◌+◌, ◌∙◌, not, ℕ, Bool, true, false, List, Some, None, All, arith, refl, sym, ap, subst, if◌then◌else◌}
use Rattle.std.proofs.lemmas.List.Elements.{All-filter}
use Rattle.draid_names.specs.declared.arm.ArmAt.{ArmAt}
use Rattle.draid_names.specs.declared.pass_kind.PassKind.TheVariants.{Rebuild, Heal}
use Rattle.draid_machine.specs.After.{lose_some, lose_targets, lost_errors, replan, replan_kind}
use Rattle.draid_machine.specs.State as machine
use Rattle.draid_pass.specs.declared.pass.Pass.{Pass}
use Rattle.draid_plans.specs.Ends.{Loses, LosesAll, is_lost}
use Rattle.draid_plans.specs.Layout.{layout_with}
use Rattle.draid_plans.specs.Logs.{Fills}
use Rattle.draid_plans.specs.Plans.{IsPlanned, PlansAll}
use Rattle.draid_plans.proofs.Order.{kept_ascend}
use Rattle.draid_shard.specs.Fits.{is_rebuild, owed_for_pass}
use Rattle.draid_slots.specs.declared.moved.Moved.{Moved}
use Rattle.draid_slots.specs.States.{AscendBehind, HoldsPass, pass_in}
use Rattle.draid_slots.specs.Table.{SlotTable, IsThere, room_at}
use Rattle.draid_disks.specs.Replanning.{HasPass, MarksMoved, Relogs, ReplansAll, attach_events}

-- ---- the slots
pub relogs_none : (slots : SlotTable) → Relogs slots slots
relogs_none slots = record {
  same = record { geometry_is = refl; perms_are = refl; metaslab_is = refl };
  arms_stay = refl;
  detached_stay = refl;
  room = λ at. omega arith;
}

pub relogs_filled : (old new : SlotTable) (filled : ArmAt → Bool) (upto : ℕ) → Fills old new filled upto → Relogs old new
relogs_filled old new filled upto fills = record {
  same = fills.same;
  arms_stay = fills.arms_stay;
  detached_stay = fills.detached_stay;
  room = λ at. one_at_most (filled at) (room_at old at) (room_at new at) (fills.room at);
} where
  one_at_most : (b : Bool) (x y : ℕ) → x ≤ y + (if b then 1 else 0) → x ≤ y + 1
  one_at_most true x y less = less
  one_at_most false x y less = omega (arith, less)

-- ---- a rebuild
pub rebuild_is : (pass : Pass) → pass.kind ≡ Rebuild → is_rebuild (Some pass) ≡ true
rebuild_is pass e = ap (λ k. elim k as (λ k. Bool) [ Rebuild ↦ true | Heal ↦ false ]) e

planned_owed : (p q : Pass) → p.kind ≡ Rebuild → q.kind ≡ Rebuild → q.running ≡ false → owed_for_pass (Some q) + 1 ≡ owed_for_pass (Some p) + attach_events (Some p)
planned_owed p q e f stops =
    ap (λ k. elim k as (λ k. ℕ) [ Rebuild ↦ if q.running then 1 else 2 | Heal ↦ 2 ] + 1) f
    ∙ ap (λ (b : Bool). (if b then 1 else 2) + 1) stops
    ∙ sums p.running
    ∙ sym (ap (λ k. elim k as (λ k. ℕ) [ Rebuild ↦ if p.running then 1 else 2 | Heal ↦ 2 ] + elim k as (λ k. ℕ) [ Rebuild ↦ if p.running then 2 else 1 | Heal ↦ 1 ]) e)
  where
    sums : (b : Bool) → 3 ≡ (if b then 1 else 2) + (if b then 2 else 1)
    sums true = refl
    sums false = refl

pub planned_owes : (old : SlotTable) (marks : List (List Bool)) (number max : ℕ) (p q : Pass) → p.kind ≡ Rebuild → IsPlanned old marks Rebuild number max q
    → owed_for_pass (Some q) + 1 ≡ owed_for_pass (Some p) + attach_events (Some p)
planned_owes old marks number max p q e planned = planned_owed p q e planned.kind_is planned.running_is

module _ (moved : Moved) (open_group : ℕ) (old new : SlotTable) (marks : List (List Bool)) (before now : Pass) where
  pub replans_rebuild : before.kind ≡ Rebuild → IsPlanned old marks Rebuild (before.number + 1) (open_group + 1) now → PlansAll old new marks Rebuild now
      → ReplansAll moved open_group old (Some before) before.number new (Some now) now.number
  replans_rebuild e planned plans w test once opens passes has =
      let made = plans w once has.slots_are tt (planned.number_is ∙ ap (λ n. n + 1) (sym has.last_is)) (planned.max_is ∙ ap (λ n. n + 1) (sym opens)) in
      subst (λ (v : machine.State). HasPass new (Some now) now.number v.core) (sym path) (record {
        slots_are = made.slots_are;
        pass_is = made.pass_is;
        last_is = ap (λ n. n + 1) has.last_is ∙ sym planned.number_is;
      })
    where
      path : replan (layout_with old) w test w.core.pass ≡ replan_kind (layout_with old) w test (pass_in old before) Rebuild
      path = ap (replan (layout_with old) w test) has.pass_is ∙ ap (replan_kind (layout_with old) w test (pass_in old before)) e

-- ---- a scrub
pub scrub_owes : (marks : List (List Bool)) (p q : Pass) → p.kind ≡ Heal → Loses marks p q → owed_for_pass (Some q) + 1 ≡ owed_for_pass (Some p) + attach_events (Some p)
scrub_owes marks p q e loses =
    ap (λ k. elim k as (λ k. ℕ) [ Rebuild ↦ if q.running then 1 else 2 | Heal ↦ 2 ] + 1) (loses.kind_stays ∙ e)
    ∙ sym (ap (λ k. elim k as (λ k. ℕ) [ Rebuild ↦ if p.running then 1 else 2 | Heal ↦ 2 ] + elim k as (λ k. ℕ) [ Rebuild ↦ if p.running then 2 else 1 | Heal ↦ 1 ]) e)

pub scrub_holds : (slots : SlotTable) (marks : List (List Bool)) (before now : Pass) → HoldsPass slots before.number before → Loses marks before now → HoldsPass slots now.number now
scrub_holds slots marks before now held loses = record {
  current = record {
    number = refl;
    targets = subst (All (IsThere slots)) (sym loses.targets_are) (All-filter (λ place. not (is_lost marks place)) (IsThere slots) before.targets.items held.current.targets);
  };
  ascending = subst (λ ts. AscendBehind None ts) (sym loses.targets_are) (kept_ascend (λ place. not (is_lost marks place)) before.targets.items None held.ascending);
  some_max = subst (λ n. 1 ≤ n) (sym loses.max_stays) held.some_max;
}

module _ (moved : Moved) (open_group : ℕ) (slots : SlotTable) (marks : List (List Bool)) (before now : Pass) where
  pub replans_scrub : before.kind ≡ Heal → HoldsPass slots before.number before → MarksMoved slots moved marks → Loses marks before now → LosesAll marks before now
      → ReplansAll moved open_group slots (Some before) before.number slots (Some now) now.number
  replans_scrub e held marked loses all w test once opens passes has =
      subst (λ (v : machine.State). HasPass slots (Some now) now.number v.core) (sym path) (record {
        slots_are = record { order = has.slots_are.order; arms = has.slots_are.arms; detached = has.slots_are.detached; only = has.slots_are.only };
        pass_is = ap Some (sym (lost ∙ ap (λ k. lose_targets test (lost_errors k test (pass_in slots before).targets) (pass_in slots before)) e));
        last_is = has.last_is ∙ sym loses.number_stays;
      })
    where
      path : replan (layout_with slots) w test w.core.pass ≡ replan_kind (layout_with slots) w test (pass_in slots before) Heal
      path = ap (replan (layout_with slots) w test) has.pass_is ∙ ap (replan_kind (layout_with slots) w test (pass_in slots before)) e

      lost : pass_in slots now ≡ lose_some test (pass_in slots before)
      lost = all slots test (λ at a there. marked at a there ∙ sym (passes at a there)) held.current.targets

-- ---- none, or some
pub replans_none : (moved : Moved) (open_group : ℕ) (slots : SlotTable) (last : ℕ) → ReplansAll moved open_group slots None last slots None last
replans_none moved open_group slots last w test once opens passes has =
    subst (λ (v : machine.State). HasPass slots None last v.core) (sym (ap (replan (layout_with slots) w test) has.pass_is)) has
