use Rattle.std.proofs.Common.{ℕ, List, [], Option, subst, sym}
use Rattle.draid_names.specs.declared.arm.ArmAt.{ArmAt}
use Rattle.draid_names.specs.declared.pointer.Pointer.{Pointer}
use Rattle.draid_rack.specs.Rack.{OnBothTold}
use Rattle.draid_shard.specs.Calls.{CountsFailed}
use Rattle.draid_shard.specs.States.{part_of}
use Rattle.draid_shard.specs.declared.loan.Source.{Source}
use Rattle.draid_shard.proofs.Counts.{counts_none}
use Rattle.draid_mend.specs.Losing.{LosesMissed}
use Rattle.draid_mend.specs.Stripes.{AnswerBelow, FailsColumns, LandsBelow}
use Rattle.draid_mend.proofs.landing.land_solved.Goals as goal

pub lose_missed-requires-clause-answered : goal.lose_missed-requires-clause-answered
lose_missed-requires-clause-answered g c is =
    let old = c.args.shard.now in
    let e = c.land_columns-answered.ensures in
    subst (λ s. AnswerBelow (part_of s) s.slots c.unit_of-unit.result c.args.pass.now.targets.items s.geometry.g) (sym e.rack)
    (subst (λ (ts : List ArmAt). AnswerBelow (part_of old) old.slots c.unit_of-unit.result ts old.geometry.g) c.deref.ensures.value (e.answered is))

pub returns-clause-lands : goal.returns-clause-lands
returns-clause-lands g c =
    let old = c.args.shard.now in
    let kept = c.args.kept.now in
    let unit = c.unit_of-unit.ensures in
    let e = c.land_columns-answered.ensures in
    let new = c.land_columns-answered.new.shard in
    let failed = c.land_columns-answered.new.failed.items in
    record {
      only = e.rack;
      shape = e.shape;
      counts = e.counts (g.R.Rack.faults old.rack) (subst (λ (xs : List ℕ). CountsFailed xs (g.R.Rack.faults old.rack) (g.R.Rack.faults old.rack)) (sym c.requires.none) (counts_none (g.R.Rack.faults old.rack)));
      lands = subst (λ (u : Pointer). OnBothTold (g.R.Rack.told old.rack) (g.R.Rack.told new.rack) (LandsBelow (part_of old) old.slots u c.args.pass.now.targets.items old.geometry.g kept.columns.columns kept.chosen.items failed)) unit
          (subst (λ (ts : List ArmAt). OnBothTold (g.R.Rack.told old.rack) (g.R.Rack.told new.rack) (LandsBelow (part_of old) old.slots c.unit_of-unit.result ts old.geometry.g kept.columns.columns kept.chosen.items failed)) c.deref.ensures.value
          (subst (λ (xs : List (Option Source)). OnBothTold (g.R.Rack.told old.rack) (g.R.Rack.told new.rack) (LandsBelow (part_of old) old.slots c.unit_of-unit.result c.deref.result.now old.geometry.g kept.columns.columns xs failed))
          c.deref-2.ensures.value e.lands));
      fails = subst (λ (u : Pointer). FailsColumns (part_of old) old.slots u c.args.pass.now.targets.items old.geometry.g [] failed) unit
          (subst (λ (ts : List ArmAt). FailsColumns (part_of old) old.slots c.unit_of-unit.result ts old.geometry.g [] failed) c.deref.ensures.value
          (subst (λ (xs : List ℕ). FailsColumns (part_of old) old.slots c.unit_of-unit.result c.deref.result.now old.geometry.g xs failed) c.requires.none e.fails));
      loses = subst (λ (u : Pointer). LosesMissed (part_of old) old.slots u failed old.geometry.g c.args.pass.now c.lose_missed.new.pass) unit
          (subst (λ (xs : List ℕ). LosesMissed (part_of old) old.slots c.unit_of-unit.result xs old.geometry.g c.args.pass.now c.lose_missed.new.pass) c.deref-3.ensures.value
          (subst (λ s. LosesMissed (part_of s) s.slots c.unit_of-unit.result c.deref-3.result.now s.geometry.g c.args.pass.now c.lose_missed.new.pass) e.rack c.lose_missed.ensures));
    }
