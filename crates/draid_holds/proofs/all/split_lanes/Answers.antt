use Rattle.std.proofs.Common.{rules, refl, sym, ap, ◌≡◌, ◌∙◌, ◌&&◌, not, [], ◌++◌, ℕ, List, length, map, get_or, subst, arith, vec_len}
use Rattle.std.specs.Vec.Iter.{into_iter_items}
use Rattle.draid_turn.specs.declared.past.Past.{Past}
use Rattle.draid_turn.specs.Calls.{Caller, newcomer}
use Rattle.std.specs.declared.vec.Vec.{Vec}
use Rattle.std.specs.declared.alloc.Global.{Global}
use Rattle.draid_turn.specs.declared.span.Span.{Span}
use Rattle.draid_turn.specs.Numbers.{HoldsOther, HoldsSome, holds}
use Rattle.draid_holds.specs.Lanes.{pass_of, work_of}
use Rattle.draid_holds.proofs.Parts.{all_lists, empty_of, passes_more, work_within, works_all, works_more}
use Rattle.draid_holds.proofs.Splits.{Splitting, all_left, all_split, splitting_held, splitting_more, splitting_other, splitting_start}
use Rattle.draid_holds.proofs.all.split_lanes.Goals as goal

pub works-init : goal.works-init
works-init g c =
    let none = c.requires.none in (
      tt,
      tt,
      subst (λ (z : ℕ × List (Caller (Past g.row.T.Denot))). Splitting c.args.first.now c.args.numbers.now z.0 z.1 c.args.first.now) (λ k. (sym (c.args.lanes.ok.0 ∙ ap length none) k, sym (ap (map pass_of) none) k))
          (splitting_start c.args.first.now c.args.numbers.now),
      sym c.into_iter-work-iterator.ensures.into_iter_gives.0 ∙ ap (λ ls. map work_of ls ++ into_iter_items c.into_iter-work-iterator.result) (sym none),
      refl,
    )

pub bounds-numbers-len : goal.bounds-numbers-len
bounds-numbers-len g c =
    let lt = work_within c.args.works.items c.works.lanes.items (into_iter_items c.works.work-iterator) (into_iter_items c.next.new.self) c.in-Some.work (length c.args.numbers.now) (vec_len c.works.lanes) c.works.invariant.3
    c.in-Some.ensures.steps.0 c.requires.count c.works.lanes.ok.0 in
    let len = c.len.ensures in omega (arith, lt, len)

pub split-pass-requires-clause-held : goal.split-pass-requires-clause-held
split-pass-requires-clause-held g c n h =
    let lt = work_within c.args.works.items c.works.lanes.items (into_iter_items c.works.work-iterator) (into_iter_items c.next.new.self) c.in-Some.work (length c.args.numbers.now) (vec_len c.works.lanes) c.works.invariant.3
    c.in-Some.ensures.steps.0 c.requires.count c.works.lanes.ok.0 in
    let is = c.index-numbers-len.is ∙ ap (λ k. get_or c.args.numbers.now k c.index-numbers-len.result) c.len.ensures in
    splitting_held c.args.first.now c.args.numbers.now (vec_len c.works.lanes) (map pass_of c.works.lanes.items) c.works.first c.works.invariant.2 c.index-numbers-len.result lt is c.requires.apart n
    (ap (holds n) (sym c.deref.ensures.value) ∙ h)

pub split-pass-requires-clause-other : goal.split-pass-requires-clause-other
split-pass-requires-clause-other g c =
    let lt = work_within c.args.works.items c.works.lanes.items (into_iter_items c.works.work-iterator) (into_iter_items c.next.new.self) c.in-Some.work (length c.args.numbers.now) (vec_len c.works.lanes) c.works.invariant.3
    c.in-Some.ensures.steps.0 c.requires.count c.works.lanes.ok.0 in
    let is = c.index-numbers-len.is ∙ ap (λ k. get_or c.args.numbers.now k c.index-numbers-len.result) c.len.ensures in
    subst (HoldsOther c.works.first.numbers) (sym c.deref.ensures.value)
    (splitting_other c.args.first.now c.args.numbers.now (vec_len c.works.lanes) (map pass_of c.works.lanes.items) c.works.first c.works.invariant.2 c.index-numbers-len.result lt is c.requires.other)

pub push_reserved-requires : goal.push_reserved-requires
push_reserved-requires g c =
    let lt = work_within c.args.works.items c.works.lanes.items (into_iter_items c.works.work-iterator) (into_iter_items c.next.new.self) c.in-Some.work (length c.args.numbers.now) (vec_len c.works.lanes) c.works.invariant.3
    c.in-Some.ensures.steps.0 c.requires.count c.works.lanes.ok.0 in
    let room = c.requires.room in
    let capacity = c.works.invariant.4 in omega (arith, lt, room, capacity)

pub works-preserved : goal.works-preserved
works-preserved g c =
    let is_next = c.in-Some.ensures.steps.0 in
    let lt = work_within c.args.works.items c.works.lanes.items (into_iter_items c.works.work-iterator) (into_iter_items c.next.new.self) c.in-Some.work (length c.args.numbers.now) (vec_len c.works.lanes) c.works.invariant.3
    is_next c.requires.count c.works.lanes.ok.0 in
    let is = c.index-numbers-len.is ∙ ap (λ k. get_or c.args.numbers.now k c.index-numbers-len.result) c.len.ensures in
    let new = c.split-pass.ensures.new ∙ ap (newcomer c.works.first.table c.works.first.seen) c.deref.ensures.value in
    let same = c.split-pass.ensures.same in
    let pushed = c.push_reserved.ensures in
    let more = splitting_more c.args.first.now c.args.numbers.now (vec_len c.works.lanes) (map pass_of c.works.lanes.items) c.works.first c.works.invariant.2 c.index-numbers-len.result lt is c.requires.apart
    c.split-pass.new.pass c.split-pass.result same.0 same.1 same.2 (λ n. c.split-pass.ensures.left n ∙ (λ k. holds n c.works.first.numbers && not (holds n (c.deref.ensures.value k)))) new in (
      tt,
      tt,
      subst (λ (z : ℕ × List (Caller (Past g.row.T.Denot))). Splitting c.args.first.now c.args.numbers.now z.0 z.1 c.split-pass.new.pass)
          (λ k. (sym pushed.len k, sym (passes_more c.works.lanes.items c.push_reserved.new.self.items record { pass = c.split-pass.result; work = c.in-Some.work } pushed.items) k)) more,
      works_more c.args.works.items c.works.lanes.items c.push_reserved.new.self.items record { pass = c.split-pass.result; work = c.in-Some.work } (into_iter_items c.works.work-iterator) (into_iter_items c.next.new.self)
          c.in-Some.work c.works.invariant.3 is_next pushed.items refl,
      pushed.capacity ∙ c.works.invariant.4,
    )

pub returns-clause-works : goal.returns-clause-works
returns-clause-works g c =
    let none : into_iter_items c.works.work-iterator ≡ [] = empty_of (into_iter_items c.works.work-iterator) (search rules) in
    works_all c.args.works.items c.works.lanes.items (into_iter_items c.works.work-iterator) c.works.invariant.3 none

pub returns-clause-passes : goal.returns-clause-passes
returns-clause-passes g c =
    let none : into_iter_items c.works.work-iterator ≡ [] = empty_of (into_iter_items c.works.work-iterator) (search rules) in
    let all = works_all c.args.works.items c.works.lanes.items (into_iter_items c.works.work-iterator) c.works.invariant.3 none in
    all_split c.args.first.now c.args.numbers.now (vec_len c.works.lanes) (map pass_of c.works.lanes.items) c.works.first c.works.invariant.2
    (all_lists c.args.works.items c.works.lanes.items (length c.args.numbers.now) (vec_len c.works.lanes) all c.requires.count c.works.lanes.ok.0)

pub returns-clause-left : goal.returns-clause-left
returns-clause-left g c n =
    let none : into_iter_items c.works.work-iterator ≡ [] = empty_of (into_iter_items c.works.work-iterator) (search rules) in
    let all = works_all c.args.works.items c.works.lanes.items (into_iter_items c.works.work-iterator) c.works.invariant.3 none in
    all_left c.args.first.now c.args.numbers.now (vec_len c.works.lanes) (map pass_of c.works.lanes.items) c.works.first c.works.invariant.2
    (all_lists c.args.works.items c.works.lanes.items (length c.args.numbers.now) (vec_len c.works.lanes) all c.requires.count c.works.lanes.ok.0) n

pub split-pass-requires-clause-own : goal.split-pass-requires-clause-own
split-pass-requires-clause-own g c = c.works.invariant.2.table ∙ c.requires.own

pub returns-clause-own : goal.returns-clause-own
returns-clause-own g c = (c.works.invariant.2.table, c.works.invariant.2.own)

pub split-pass-requires-clause-some : goal.split-pass-requires-clause-some
split-pass-requires-clause-some g c =
    let lt = work_within c.args.works.items c.works.lanes.items (into_iter_items c.works.work-iterator) (into_iter_items c.next.new.self) c.in-Some.work (length c.args.numbers.now) (vec_len c.works.lanes) c.works.invariant.3
    c.in-Some.ensures.steps.0 c.requires.count c.works.lanes.ok.0 in
    let is = c.index-numbers-len.is ∙ ap (λ k. get_or c.args.numbers.now k c.index-numbers-len.result) c.len.ensures in
    subst HoldsSome (sym (c.deref.ensures.value ∙ ap (λ (l : Vec Span Global). l.items) is)) (c.requires.some (vec_len c.works.lanes) c.index-numbers-len.result lt)
