use Rattle.std.proofs.Common.{◌≡◌, ◌+◌, ◌-◌, ◌∙◌, List, false, subst, sym, arith}
use Rattle.std.specs.Prelude.{is_err}
use Rattle.draid_ranges.specs.declared.run.Run.{Run}
use Rattle.draid_ranges.specs.Runs.{AreWithin}
use Rattle.draid_record.specs.Grammar.{many}
use Rattle.draid_record.specs.Reader.{state_of}
use Rattle.draid_record.specs.Record.{behind, run, runs}
use Rattle.draid_record.proofs.Loop.{Still, begins, ends, goes_on, is_done}
use Rattle.draid_record.proofs.Steps.{of_ok}
use Rattle.draid_record.proofs.Within.{within_more, within_wide}
use Rattle.draid_record.proofs.log.runs.Goals as goal

pub loop-init : goal.loop-init
loop-init c = record {
  still = rw c.new-runs.ensures.items (begins run behind 1 c.args.count (state_of c.args.reader.now));
  apart = rw c.new-runs.ensures.items (omega arith);
  low = omega arith;
}

pub returns-then-has_failed-clause-runs : goal.returns-then-has_failed-clause-runs
returns-then-has_failed-clause-runs c =
    ends run behind c.loop.low c.loop.runs.items c.loop.runs.items c.args.count c.loop.counter (state_of c.args.reader.now) (state_of c.loop.reader) (state_of c.run-run.new.reader) c.run-run.result (runs c.args.count)
    c.loop-test.true c.run-run.ensures.run (sym c.has_failed.ensures ∙ c.if-has_failed.true) c.loop.invariant.still

pub returns-then-has_failed-clause-apart : goal.returns-then-has_failed-clause-apart
returns-then-has_failed-clause-apart c = within_wide 0 c.loop.runs.items c.loop.low 281474976710657 c.loop.invariant.apart c.loop.invariant.low

pub loop-preserved : goal.loop-preserved
loop-preserved c =
    let r : Run = c.run-run.result in
    let b = state_of c.run-run.new.reader in
    let items = c.loop.runs.items in
    let ok : is_err b ≡ false = sym c.has_failed.ensures ∙ c.if-has_failed.false in
    let S : List Run → Type 0 = λ rs. Still (state_of c.args.reader.now) (runs c.args.count) rs b (many (c.args.count - (c.loop.counter + 1)) run behind (r.first + r.len + 1)) in
    let W : List Run → Type 0 = λ rs. AreWithin 0 rs (r.first + r.len + 1) in
    let range = of_ok _ b ok c.run-run.ensures.range in
    record {
      still = subst S (sym c.in_ok-push.ensures.items) (goes_on run behind c.loop.low items c.args.count c.loop.counter (state_of c.args.reader.now) (state_of c.loop.reader) b r (runs c.args.count) c.loop-test.true c.run-run.ensures.run ok c.loop.invariant.still);
      apart = subst W (sym c.in_ok-push.ensures.items) (within_more 0 items c.loop.low r c.loop.invariant.apart range.0 range.1);
      low = (let end = c.run-run.ensures.end in omega arith);
    }

pub returns-clause-runs : goal.returns-clause-runs
returns-clause-runs c = is_done run behind c.loop.low c.loop.runs.items c.args.count c.loop.counter (state_of c.args.reader.now) (state_of c.loop.reader) (runs c.args.count) c.loop-test.false c.loop.invariant.still

pub returns-clause-apart : goal.returns-clause-apart
returns-clause-apart c = within_wide 0 c.loop.runs.items c.loop.low 281474976710657 c.loop.invariant.apart c.loop.invariant.low
