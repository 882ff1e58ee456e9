use Rattle.std.proofs.Common.{refl, sym, ap, ◌∙◌, ◌+◌, length, not, ◌&&◌, subst, arith}
use Rattle.draid_turn.specs.Calls.{newcomer}
use Rattle.draid_turn.specs.Numbers.{HoldsOther, holds}
use Rattle.draid_holds.proofs.Splits.{Splitting, all_left, all_split, splitting_held, splitting_more, splitting_other, splitting_start}
use Rattle.draid_holds.proofs.passes.split_each.Goals as goal

pub lists-init : goal.lists-init
lists-init g c =
    let none = c.requires.none in (
      subst (λ ps. Splitting c.args.first.now c.args.numbers.now 0 ps c.args.first.now) (sym none) (splitting_start c.args.first.now c.args.numbers.now),
      c.args.passes.ok.0 ∙ ap length none,
      refl,
    )

pub split-requires-clause-own : goal.split-requires-clause-own
split-requires-clause-own g c = c.lists.invariant.0.table ∙ c.requires.own

pub split-requires-clause-held : goal.split-requires-clause-held
split-requires-clause-held g c n h = splitting_held c.args.first.now c.args.numbers.now c.lists.list-index c.lists.passes.items c.lists.first c.lists.invariant.0 c.list-item.result c.lists-test.true c.list-item.is
    c.requires.apart n (ap (holds n) (sym c.deref.ensures.value) ∙ h)

pub split-requires-clause-other : goal.split-requires-clause-other
split-requires-clause-other g c = subst (HoldsOther c.lists.first.numbers) (sym c.deref.ensures.value)
    (splitting_other c.args.first.now c.args.numbers.now c.lists.list-index c.lists.passes.items c.lists.first c.lists.invariant.0 c.list-item.result c.lists-test.true c.list-item.is c.requires.other)

pub push_reserved-requires : goal.push_reserved-requires
push_reserved-requires g c =
    let len = c.lists.invariant.1 in
    let capacity = c.lists.invariant.2 in
    let lt = c.lists-test.true in
    let room = c.requires.room in omega (arith, len, capacity, lt, room)

pub lists-preserved : goal.lists-preserved
lists-preserved g c =
    let new = c.split.ensures.new ∙ ap (newcomer c.lists.first.table c.lists.first.seen) c.deref.ensures.value in
    let same = c.split.ensures.same in
    let len = c.push_reserved.ensures.len in
    let was = c.lists.invariant.1 in (
      subst (λ ps. Splitting c.args.first.now c.args.numbers.now (c.lists.list-index + 1) ps c.split.new.pass) (sym c.push_reserved.ensures.items)
          (splitting_more c.args.first.now c.args.numbers.now c.lists.list-index c.lists.passes.items c.lists.first c.lists.invariant.0 c.list-item.result c.lists-test.true c.list-item.is
          c.requires.apart c.split.new.pass c.split.result same.0 same.1 same.2 (λ n. c.split.ensures.left n ∙ (λ k. holds n c.lists.first.numbers && not (holds n (c.deref.ensures.value k)))) new),
      omega (arith, len, was),
      c.push_reserved.ensures.capacity ∙ c.lists.invariant.2,
    )

pub returns-clause-new : goal.returns-clause-new
returns-clause-new g c = all_split c.args.first.now c.args.numbers.now c.lists.list-index c.lists.passes.items c.lists.first c.lists.invariant.0 (let out = c.lists-test.false in omega (arith, out))

pub returns-clause-left : goal.returns-clause-left
returns-clause-left g c n = all_left c.args.first.now c.args.numbers.now c.lists.list-index c.lists.passes.items c.lists.first c.lists.invariant.0 (let out = c.lists-test.false in omega (arith, out)) n

pub returns-clause-same : goal.returns-clause-same
returns-clause-same g c = (c.lists.invariant.0.table, c.lists.invariant.0.seen, c.lists.invariant.0.own)
