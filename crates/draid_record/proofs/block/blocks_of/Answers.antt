use Rattle.std.proofs.Common.{◌≡◌, ◌≤◌, ◌+◌, ◌-◌, ◌^◌, ◌∙◌, ◌∷◌, ◌++◌, [], ℕ, List, false, subst, sym, arith, rules}
use Rattle.std.specs.Prelude.{All, is_err}
use Rattle.std.proofs.lemmas.List.Elements.{All-append}
use Rattle.draid_names.specs.declared.pointer.Pointer.{Pointer}
use Rattle.draid_record.specs.Grammar.{many}
use Rattle.draid_record.specs.Reader.{state_of}
use Rattle.draid_record.specs.Record as spec
use Rattle.draid_record.proofs.Loop.{Still, begins, ends, goes_on, is_done}
use Rattle.draid_record.proofs.Within.{one}
use Rattle.draid_record.proofs.block.blocks_of.Goals as goal

pub loop-init : goal.loop-init
loop-init c = record {
  still = rw c.new-list.ensures.items (begins (spec.block c.args.limits.now) spec.end_of 0 c.args.count (state_of c.args.reader.now));
  range = rw c.new-list.ensures.items (search rules);
  few = rw c.new-list.ensures.items (omega arith);
}

pub returns-then-has_failed-clause-blocks : goal.returns-then-has_failed-clause-blocks
returns-then-has_failed-clause-blocks c =
    ends (spec.block c.args.limits.now) spec.end_of c.loop.low c.loop.list.items c.loop.list.items c.args.count c.loop.counter (state_of c.args.reader.now) (state_of c.loop.reader) (state_of c.block-block.new.reader) c.block-block.result (spec.blocks_of c.args.limits.now c.args.count)
    c.loop-test.true c.block-block.ensures.block (sym c.has_failed.ensures ∙ c.if-has_failed.true) c.loop.invariant.still

pub loop-preserved : goal.loop-preserved
loop-preserved c =
    let x : Pointer = c.block-block.result in
    let items = c.loop.list.items in
    let b = state_of c.block-block.new.reader in
    let ok : is_err b ≡ false = sym c.has_failed.ensures ∙ c.if-has_failed.false in
    let whole = spec.blocks_of c.args.limits.now c.args.count in
    let S : List Pointer → Type 0 = λ bs. Still (state_of c.args.reader.now) whole bs b (many (c.args.count - (c.loop.counter + 1)) (spec.block c.args.limits.now) spec.end_of (x.first + c.from.result)) in
    let M : ℕ → Type 0 = λ m. Still (state_of c.args.reader.now) whole (items ++ x ∷ []) b (many (c.args.count - (c.loop.counter + 1)) (spec.block c.args.limits.now) spec.end_of (x.first + m)) in
    let P : Pointer → Type 0 = λ b. b.first + b.stripes ≤ 2 ^ 49 in
    let R : List Pointer → Type 0 = λ bs. All P bs in
    record {
      still = subst S (sym c.in_ok-push.ensures.items) (subst M (sym c.from.ensures)
          (goes_on (spec.block c.args.limits.now) spec.end_of c.loop.low items c.args.count c.loop.counter (state_of c.args.reader.now) (state_of c.loop.reader) b x whole c.loop-test.true c.block-block.ensures.block ok c.loop.invariant.still));
      range = subst R (sym c.in_ok-push.ensures.items) (All-append P items (x ∷ []) c.loop.invariant.range (one P x c.block-block.ensures.range));
      few = (let few = c.loop.invariant.few in let one = c.in_ok-push.ensures.len in omega arith);
    }

pub returns-clause-blocks : goal.returns-clause-blocks
returns-clause-blocks c = is_done (spec.block c.args.limits.now) spec.end_of c.loop.low c.loop.list.items c.args.count c.loop.counter (state_of c.args.reader.now) (state_of c.loop.reader) (spec.blocks_of c.args.limits.now c.args.count) c.loop-test.false c.loop.invariant.still
