use Rattle.std.proofs.Common.{refl, subst, sym}
use Rattle.draid_plans.specs.Logs.{Fills}
use Rattle.draid_plans.specs.Plans.{HasLogRoom, is_filled}
use Rattle.draid_plans.proofs.Changes.{fills_none}
use Rattle.draid_plans.proofs.plans.fill_for.Goals as goal

pub fill_logs-requires-clause-room : goal.fill_logs-requires-clause-room
fill_logs-requires-clause-room c = subst (HasLogRoom c.args.slots.now) c.in-Rebuild.is c.requires.logs

pub returns-in-Rebuild : goal.returns-in-Rebuild
returns-in-Rebuild c = subst (λ kind. Fills c.args.slots.now c.fill_logs.new.slots (is_filled kind c.args.targets.now) c.args.max) (sym c.in-Rebuild.is) c.fill_logs.ensures

pub returns-in-Heal : goal.returns-in-Heal
returns-in-Heal c = subst (λ kind. Fills c.args.slots.now c.args.slots.now (is_filled kind c.args.targets.now) c.args.max) (sym c.in-Heal.is) (fills_none c.args.slots.now _ c.args.max (λ at. refl))
