use Rattle.std.proofs.Common.{◌≡◌, ◌+◌, ◌-◌, ◌∙◌, List, false, subst, sym, arith}
use Rattle.std.specs.Prelude.{is_err}
use Rattle.draid_ranges.specs.declared.run.Run.{Run}
use Rattle.draid_record.specs.Grammar.{many}
use Rattle.draid_record.specs.Reader.{state_of}
use Rattle.draid_record.specs.Record as spec
use Rattle.draid_record.proofs.Loop.{Still, begins, ends, goes_on, is_done}
use Rattle.draid_record.proofs.block.space_runs.Goals as goal

pub loop-init : goal.loop-init
loop-init c = record {
  still = rw c.new-runs.ensures.items (begins spec.space_run spec.same_state 0 c.args.count (state_of c.args.reader.now));
  few = rw c.new-runs.ensures.items (omega arith);
}

pub returns-then-has_failed-clause-runs : goal.returns-then-has_failed-clause-runs
returns-then-has_failed-clause-runs c =
    ends spec.space_run spec.same_state 0 c.loop.runs.items c.loop.runs.items c.args.count c.loop.counter (state_of c.args.reader.now) (state_of c.loop.reader) (state_of c.space_run-run.new.reader) c.space_run-run.result (spec.space_runs c.args.count)
    c.loop-test.true c.space_run-run.ensures (sym c.has_failed.ensures ∙ c.if-has_failed.true) c.loop.invariant.still

pub loop-preserved : goal.loop-preserved
loop-preserved c =
    let r : Run = c.space_run-run.result in
    let b = state_of c.space_run-run.new.reader in
    let ok : is_err b ≡ false = sym c.has_failed.ensures ∙ c.if-has_failed.false in
    let S : List Run → Type 0 = λ rs. Still (state_of c.args.reader.now) (spec.space_runs c.args.count) rs b (many (c.args.count - (c.loop.counter + 1)) spec.space_run spec.same_state 0) in
    record {
      still = subst S (sym c.in_ok-push.ensures.items) (goes_on spec.space_run spec.same_state 0 c.loop.runs.items c.args.count c.loop.counter (state_of c.args.reader.now) (state_of c.loop.reader) b r (spec.space_runs c.args.count) c.loop-test.true c.space_run-run.ensures ok c.loop.invariant.still);
      few = (let few = c.loop.invariant.few in let one = c.in_ok-push.ensures.len in omega arith);
    }

pub returns-clause-runs : goal.returns-clause-runs
returns-clause-runs c = is_done spec.space_run spec.same_state 0 c.loop.runs.items c.args.count c.loop.counter (state_of c.args.reader.now) (state_of c.loop.reader) (spec.space_runs c.args.count) c.loop-test.false c.loop.invariant.still
