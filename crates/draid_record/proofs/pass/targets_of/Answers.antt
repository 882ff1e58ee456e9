use Rattle.std.proofs.Common.{◌≡◌, ◌+◌, ◌-◌, ◌∙◌, List, Some, None, false, subst, sym}
use Rattle.std.specs.Prelude.{is_err}
use Rattle.draid_names.specs.declared.arm.ArmAt.{ArmAt}
use Rattle.draid_record.specs.Grammar.{many}
use Rattle.draid_record.specs.Reader.{state_of}
use Rattle.draid_record.specs.Record as spec
use Rattle.draid_record.specs.Record.{told_slots}
use Rattle.draid_record.proofs.Loop.{Still, begins, ends, goes_on, is_done}
use Rattle.draid_record.proofs.pass.targets_of.Goals as goal

pub loop-init : goal.loop-init
loop-init c = record { still = rw c.new-targets.ensures.items (begins (spec.target (told_slots c.args.all.now)) spec.some_target None c.args.count (state_of c.args.reader.now)) }

pub returns-then-has_failed : goal.returns-then-has_failed
returns-then-has_failed c =
    ends (spec.target (told_slots c.args.all.now)) spec.some_target c.loop.before c.loop.targets.items c.loop.targets.items c.args.count c.loop.counter (state_of c.args.reader.now) (state_of c.loop.reader) (state_of c.target-found.new.reader) c.target-found.result (spec.targets_of (told_slots c.args.all.now) c.args.count)
    c.loop-test.true c.target-found.ensures (sym c.has_failed.ensures ∙ c.if-has_failed.true) c.loop.invariant.still

pub loop-preserved : goal.loop-preserved
loop-preserved c =
    let b = state_of c.target-found.new.reader in
    let ok : is_err b ≡ false = sym c.has_failed.ensures ∙ c.if-has_failed.false in
    let whole = spec.targets_of (told_slots c.args.all.now) c.args.count in
    let S : List ArmAt → Type 0 = λ ts. Still (state_of c.args.reader.now) whole ts b (many (c.args.count - (c.loop.counter + 1)) (spec.target (told_slots c.args.all.now)) spec.some_target (Some c.target-found.result)) in
    record {
      still = subst S (sym c.in_ok-push.ensures.items)
          (goes_on (spec.target (told_slots c.args.all.now)) spec.some_target c.loop.before c.loop.targets.items c.args.count c.loop.counter (state_of c.args.reader.now) (state_of c.loop.reader) b c.target-found.result whole c.loop-test.true c.target-found.ensures ok c.loop.invariant.still);
    }

pub returns : goal.returns
returns c = is_done (spec.target (told_slots c.args.all.now)) spec.some_target c.loop.before c.loop.targets.items c.args.count c.loop.counter (state_of c.args.reader.now) (state_of c.loop.reader) (spec.targets_of (told_slots c.args.all.now) c.args.count) c.loop-test.false c.loop.invariant.still
