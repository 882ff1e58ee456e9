use Rattle.std.proofs.Common.{◌≡◌, ◌∙◌, ℕ, Option, None, Some, arith, refl, subst, sym}
use Rattle.draid_machine.specs.After.{done_state, ended_pass}
use Rattle.draid_pass.specs.declared.pass.Pass.{Pass}
use Rattle.draid_slots.specs.States.{pass_in}
use Rattle.draid_shard.specs.Fits.{Valid}
use Rattle.draid_shard.specs.States.{layout_by}
use Rattle.draid_shard.proofs.Kept.{stored_more}
use Rattle.draid_plans.specs.Ends.{EndsAll, is_good}
use Rattle.draid_plans.specs.Logs.{Excises}
use Rattle.draid_passing.specs.Ending.{Ends, last_good}
use Rattle.draid_passing.proofs.Does.{counts_are, done_acts, done_in, done_step, errors_are, excised_are, good_same, mid_kind, mid_there, shape_stays}
use Rattle.draid_passing.proofs.Finished.{arms_shared, done_valid, leaf_before}
use Rattle.draid_passing.proofs.ending.done.Given as given
use Rattle.draid_passing.proofs.ending.done.Goals as goal
use Rattle.draid_passing.proofs.ending.done.Goals.{After-drop-pass}

-- the pass that there was
there : (g : given.Over) (c : After-drop-pass g) → c.args.shard.now.pass ≡ Some c.in-Some.pass
there g c = sym c.take.ensures.value ∙ c.in-Some.is

-- as it ends
abbrev ended_pass_of : (g : given.Over) (c : After-drop-pass g) → Pass
ended_pass_of g c = record c.firm_targets.new.pass { max = last_good c.firm_targets.new.pass c.args.shard.now.committed }

excises : (g : given.Over) (c : After-drop-pass g) → Excises c.args.shard.now.slots c.end.new.slots (is_good (ended_pass_of g c)) (ended_pass_of g c).max
excises g c = subst (λ (m : ℕ). Excises c.args.shard.now.slots c.end.new.slots (is_good (record c.firm_targets.new.pass { max = m })) m) c.last_good.ensures c.end.ensures.logs

state : (g : given.Over) (c : After-drop-pass g) → EndsAll c.args.shard.now.slots c.end.new.slots (ended_pass_of g c)
state g c = subst (λ (m : ℕ). EndsAll c.args.shard.now.slots c.end.new.slots (record c.firm_targets.new.pass { max = m })) c.last_good.ensures c.end.ensures.state

pub end-requires-clause-there : goal.end-requires-clause-there
end-requires-clause-there g c =
    mid_there g.R.Rack c.args.shard.now c.requires.valid c.in-Some.pass c.firm_targets.new.pass (sym c.take.ensures.value ∙ c.in-Some.is) c.firm_targets.new.rack c.firm_targets.new.failed c.firm_targets.ensures.firms

pub returns-clause-valid : goal.returns-clause-valid
returns-clause-valid g c =
    let old = c.args.shard.now in
    let v = c.requires.valid in
    let e = c.add.ensures in
    let pass = c.in-Some.pass in
    let mid = c.firm_targets.new.pass in
    let firms = c.firm_targets.ensures.firms in
    subst (λ (o : Option Pass). Valid g.R.Rack (record old { rack = c.firm_targets.new.rack; slots = c.end.new.slots; space = c.enable.new.self; pass = o; kept = None; flushed = c.replace-failed.new.dest; history = c.add.new.self }))
    (sym c.take.ensures.after)
    (done_valid g.R.Rack old v pass (there g c) (ended_pass_of g c) (mid_kind g.R.Rack old v pass mid (there g c) c.firm_targets.new.rack c.firm_targets.new.failed firms)
    (good_same g.R.Rack old v pass mid (there g c) c.firm_targets.new.rack c.firm_targets.new.failed firms) c.firm_targets.new.rack
    (shape_stays g.R.Rack old v pass mid (there g c) c.firm_targets.new.rack c.firm_targets.new.failed firms) c.end.new.slots (excises g c) c.enable.new.self c.replace-failed.new.dest c.add.new.self
    c.enable.ensures (let owed = e.owed in let used = c.owed_for_pass.ensures in let loan = c.owed_for_loan.ensures in omega (arith, owed, used, loan)) e.reserved (stored_more old.history c.add.new.self _ e.stored))

pub returns-clause-ends : goal.returns-clause-ends
returns-clause-ends g c =
    let old = c.args.shard.now in
    let v = c.requires.valid in
    let pass = c.in-Some.pass in
    let mid = c.firm_targets.new.pass in
    let r = c.firm_targets.new.rack in
    let failed = c.firm_targets.new.failed in
    let firms = c.firm_targets.ensures.firms in
    let is = there g c in
    subst (λ (o : Option Pass). Ends g.R.Rack old (record old { rack = r; slots = c.end.new.slots; space = c.enable.new.self; pass = o; kept = None; flushed = c.replace-failed.new.dest; history = c.add.new.self }) c.ended_by-ended.result)
    (sym c.take.ensures.after) (record {
      failed = failed;
      does = record {
        part = refl;
        stored = c.add.ensures.stored;
        leads = λ w reached at. record {
          state = done_state w (ended_pass (layout_by old) w.core (pass_in old.slots pass) failed.items);
          step = done_step g.R.Rack old v pass mid is r failed firms w reached at c.requires.running c.requires.left;
          is_in = done_in g.R.Rack old v pass mid is r failed firms c.end.new.slots (state g c) c.enable.new.self c.replace-failed.new.dest c.add.new.self c.requires.left w reached at;
        };
      };
      acts = λ pieces w after step reached at. done_acts g.R.Rack old v pass mid is r failed firms w reached at step.p step.pass;
      counts = counts_are g.R.Rack old v pass mid is r failed firms;
      errors = λ w p reached at pass_is. errors_are g.R.Rack old v pass mid is r failed firms w reached at c.ended_by-ended.result p c.ended_by-ended.ensures pass_is;
      excised = λ w p reached at pass_is. excised_are g.R.Rack old v pass mid is r failed firms w reached at c.ended_by-ended.result p c.ended_by-ended.ensures pass_is;
    })

pub returns-clause-arms : goal.returns-clause-arms
returns-clause-arms g c = arms_shared c.args.shard.now.slots c.end.new.slots (is_good (ended_pass_of g c)) (ended_pass_of g c).max (excises g c)

pub returns-clause-leaves : goal.returns-clause-leaves
returns-clause-leaves g c = leaf_before c.args.shard.now.slots c.end.new.slots (is_good (ended_pass_of g c)) (ended_pass_of g c).max (excises g c)
