use Rattle.std.proofs.Common.{◌≡◌, ◌+◌, ◌<◌, ◌≤◌, ◌^◌, ℕ, Bool, Option, None, Some, arith, refl, inl, inr}
use Rattle.std.proofs.lemmas.Bool.{cases_eq}
use Rattle.draid_names.specs.declared.numbers.TheConstants.{LAST_NUMBER}
use Rattle.draid_shard.specs.Fits.{AreGroups}
use Rattle.draid_names.specs.declared.pass_kind.PassKind.{PassKind}
use Rattle.draid_names.specs.declared.pass_kind.PassKind.TheVariants.{Rebuild, Heal}
use Rattle.draid_plans.specs.Plans.{HasLogRoom}
use Rattle.draid_slots.specs.Table.{SlotTable}
use Rattle.draid_slots.specs.Changes.{HasRoom}
use Rattle.draid_shard.proofs.Kept.{stored_more}
use Rattle.draid_passing.specs.Passing.{IsMaxFor}
use Rattle.draid_passing.proofs.Planned.{plan_in, plan_step, plan_valid, state_after}
use Rattle.draid_passing.proofs.planning.plan_with.Goals as goal

-- the committed group is behind the open one
before_open : (open_group committed : ℕ) (closing : Option ℕ) (sealed : Bool) → AreGroups open_group closing committed sealed → committed + 1 ≤ open_group
before_open open_group committed None sealed are = let same = are.0 in omega (arith, same)
before_open open_group committed (Some t) sealed are = let a = are.0 in let b = are.1 in omega (arith, a, b)

max_low : (kind : PassKind) (open_group committed max : ℕ) → IsMaxFor kind open_group committed max → committed + 1 ≤ open_group → open_group ≤ LAST_NUMBER → (kind ≡ Rebuild → open_group ≡ LAST_NUMBER → ⊥)
    → max < 2 ^ 48
max_low Heal open_group committed max is before low not_last = let upto = is.1 in omega (arith, upto, before, low)
max_low Rebuild open_group committed max is before low not_last = elim (cases_eq open_group LAST_NUMBER) [
  | inl last ↦ absurd (not_last refl last)
  | inr other ↦ omega (arith, is, low, other)
]

pub plan-pass-requires-clause-range : goal.plan-pass-requires-clause-range
plan-pass-requires-clause-range g c =
    let old = c.args.shard.now in
    let v = c.requires.valid in
    max_low c.args.kind old.open_group old.committed c.max_for-max.result c.max_for-max.ensures (before_open old.open_group old.committed old.closing old.sealed v.groups) v.low
    (λ is last. c.requires.last (inr (is, last)))

log_room : (slots : SlotTable) (kind : PassKind) → HasRoom slots 7 0 → HasLogRoom slots kind
log_room slots Rebuild room = λ at there. (let more = room.logs at there in omega (arith, more))
log_room slots Heal room = tt

pub plan-pass-requires-clause-logs : goal.plan-pass-requires-clause-logs
plan-pass-requires-clause-logs g c = log_room c.args.shard.now.slots c.args.kind c.requires.logs

pub returns-clause-valid : goal.returns-clause-valid
returns-clause-valid g c =
    let old = c.args.shard.now in
    let p = c.plan-pass.ensures in
    let e = c.add_asked.ensures in
    plan_valid g.R.Rack old c.requires.valid c.requires.none c.args.kind c.silent_marks-marks.result c.plan-pass.new.slots c.shut_for.new.space c.plan-pass.result c.max_for-max.result c.args.lists.flushed c.add_asked.new.self
    p.pass p.logs p.holds c.shut_for.ensures c.requires.logs c.requires.lists.flushed e.owed e.reserved (stored_more old.history c.add_asked.new.self _ e.stored)

pub returns-clause-event : goal.returns-clause-event
returns-clause-event g c =
    let old = c.args.shard.now in
    let p = c.plan-pass.ensures in
    let e = c.add_asked.ensures in
    record {
      part = refl;
      stored = e.stored;
      leads = λ w reached at. record {
        state = state_after g.R.Rack old c.requires.valid c.requires.none c.args.kind c.silent_marks-marks.result c.plan-pass.new.slots c.shut_for.new.space c.plan-pass.result c.max_for-max.result c.args.lists.flushed c.add_asked.new.self
            p.pass p.logs p.holds p.state c.silent_marks-marks.ensures.silent c.max_for-max.ensures w reached at;
        step = plan_step g.R.Rack old c.requires.valid c.requires.none c.args.kind c.silent_marks-marks.result c.plan-pass.new.slots c.shut_for.new.space c.plan-pass.result c.max_for-max.result c.args.lists.flushed c.add_asked.new.self
            p.pass p.logs p.holds p.state c.silent_marks-marks.ensures.silent c.max_for-max.ensures w reached at c.requires.target c.requires.last;
        is_in = plan_in g.R.Rack old c.requires.valid c.requires.none c.args.kind c.silent_marks-marks.result c.plan-pass.new.slots c.shut_for.new.space c.plan-pass.result c.max_for-max.result c.args.lists.flushed c.add_asked.new.self
            p.pass p.logs p.holds p.state c.silent_marks-marks.ensures.silent c.max_for-max.ensures w reached at;
      };
    }
