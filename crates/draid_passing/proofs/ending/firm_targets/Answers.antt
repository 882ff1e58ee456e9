use Rattle.std.proofs.Common.{ℕ, List, refl, subst, sym}
use Rattle.draid_names.specs.declared.arm.ArmAt.{ArmAt}
use Rattle.draid_rack.specs.Rack.{OnBothTold}
use Rattle.draid_columns.specs.Flushes.{CountsFailed, FlushesBut}
use Rattle.draid_marks.specs.Silent.{AreSilent}
use Rattle.draid_passing.specs.Flushing.{due_leaves}
use Rattle.draid_names.specs.declared.pass_kind.PassKind.{PassKind}
use Rattle.draid_passing.specs.Ending.{FirmsBy}
use Rattle.draid_passing.proofs.ending.firm_targets.Goals as goal

pub returns-in-Rebuild : goal.returns-in-Rebuild
returns-in-Rebuild g c = record {
  firms = subst (λ (k : PassKind). FirmsBy k g.R.Rack c.args.slots.now c.args.pass.now c.lose_marked.new.pass c.flush_targets.new.failed.items c.args.rack.now c.flush_targets.new.rack) (sym c.in-Rebuild.is) (record {
    told = subst (λ (ts : List ArmAt). OnBothTold (g.R.Rack.told c.args.rack.now) (g.R.Rack.told c.flush_targets.new.rack) (FlushesBut (due_leaves c.args.slots.now ts) c.flush_targets.new.failed.items))
        c.deref.ensures.value c.flush_targets.ensures.told;
    cause = subst (λ (ts : List ArmAt). CountsFailed (due_leaves c.args.slots.now ts) c.flush_targets.new.failed.items (g.R.Rack.faults c.args.rack.now) (g.R.Rack.faults c.flush_targets.new.rack))
        c.deref.ensures.value c.flush_targets.ensures.cause;
    shape = c.flush_targets.ensures.shape;
    marks = c.silent_marks-marks.result;
    silent = subst (λ (failed : List ℕ). AreSilent c.args.slots.now failed c.silent_marks-marks.result) c.deref-in-Rebuild.ensures.value c.silent_marks-marks.ensures.silent;
    loses = c.lose_marked.ensures.lost;
    loses_all = c.lose_marked.ensures.state;
  });
}

pub returns-in-Heal : goal.returns-in-Heal
returns-in-Heal g c = record {
  firms = subst (λ (k : PassKind). FirmsBy k g.R.Rack c.args.slots.now c.args.pass.now c.args.pass.now c.args.failed.now.items c.args.rack.now c.args.rack.now) (sym c.in-Heal.is) (refl, c.requires.none, refl);
}
