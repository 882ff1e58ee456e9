use Rattle.std.proofs.Common.{◌∙◌, ◌++◌, ◌∷◌, ◌≤◌, [], List, ℕ, ap, length, refl, subst, sym, take}
use Rattle.std.specs.HashMap.{spare}
use Rattle.std.specs.declared.vec.Vec.{Vec}
use Rattle.std.specs.declared.alloc.Global.{Global}
use Rattle.draid_turn.specs.Lists.{one_if}
use Rattle.draid_turn.specs.Numbers.{all_numbers, holds}
use Rattle.draid_turn.specs.declared.span.Span.{Span}
use Rattle.draid_holds.specs.Passes.{EachHoldsSome, KeepsOne, shares}
use Rattle.draid_uber.specs.declared.uber.Uber.{Uber}
use Rattle.draid_shard.specs.declared.shard.Shard.{Shard}
use Rattle.draid_pool.specs.declared.own.Own.{Own}
use Rattle.draid_tables.specs.Owns.{AllWithin, HaveTableRoom, TakesAll, most_objects}
use Rattle.draid_section.specs.Section.{EndWithGroups, MayRunLocked, RunsLocked}
use Rattle.draid_section.proofs.Gathering.{all_inside, apart_all, ends, gathered_whole, governs_first, may_locked, other_all, some_each, tables_fit}
use Rattle.draid_section.proofs.Idle.{err_of, ok_of}
use Rattle.draid_section.proofs.Sameness.{made_same, take_front, takes_same, under_locked, whole_same}
use Rattle.draid_section.proofs.lanes.run_in_lanes.Goals as goal

pub returns-in_default-clause-refused : goal.returns-in_default-clause-refused
returns-in_default-clause-refused g c = made_same c.args.pool c.pool_of.result c.args.pool.geometry c.args.pool.metaslabs.shards c.args.pool.uber c.make_plan.new.own c.pool_of.ensures refl refl refl c.make_plan.ensures.same

pub returns-in_default-clause-whole : goal.returns-in_default-clause-whole
returns-in_default-clause-whole g c =
    whole_same c.args.pool c.pool_of.result g.R.Rack g.A.Area c.requires.whole
    (made_same c.args.pool c.pool_of.result c.args.pool.geometry c.args.pool.metaslabs.shards c.args.pool.uber c.make_plan.new.own c.pool_of.ensures refl refl refl c.make_plan.ensures.same)

pub returns-in-Err-clause-refused : goal.returns-in-Err-clause-refused
returns-in-Err-clause-refused g c = made_same c.args.pool c.pool_of-in-Err.result c.args.pool.geometry c.in-Err.left.shards c.args.pool.uber c.make_plan.new.own c.pool_of-in-Err.ensures refl c.in-Err.ensures.refused refl c.make_plan.ensures.same

pub returns-in-Err-clause-whole : goal.returns-in-Err-clause-whole
returns-in-Err-clause-whole g c =
    whole_same c.args.pool c.pool_of-in-Err.result g.R.Rack g.A.Area c.requires.whole
    (made_same c.args.pool c.pool_of-in-Err.result c.args.pool.geometry c.in-Err.left.shards c.args.pool.uber c.make_plan.new.own c.pool_of-in-Err.ensures refl c.in-Err.ensures.refused refl c.make_plan.ensures.same)

pub run_locked-behind-requires-clause-groups : goal.run_locked-behind-requires-clause-groups
run_locked-behind-requires-clause-groups g c κs within =
    let all = c.deref.ensures.value ∙ c.in-Ok.ensures.planned.lists_are in
    let many = c.in-Ok.ensures.planned.dealt.many in
    subst (λ (z : List (Vec Span Global) × ℕ). EndWithGroups z.0 z.1) (λ k. (sym all k, sym many k)) (ends c.args.numbers.items c.requires.lanes c.in-Ok.ensures.planned.groups c.in-Ok.ensures.planned.alone)

pub run_locked-behind-requires-clause-some : goal.run_locked-behind-requires-clause-some
run_locked-behind-requires-clause-some g c κs within =
    let all = c.deref.ensures.value ∙ c.in-Ok.ensures.planned.lists_are in
    subst EachHoldsSome (sym all) (some_each c.args.numbers.items c.requires.lanes c.in-Ok.ensures.planned.groups c.in-Ok.ensures.planned.alone)

pub run_locked-behind-requires-clause-apart : goal.run_locked-behind-requires-clause-apart
run_locked-behind-requires-clause-apart g c κs within n =
    let all = c.deref.ensures.value ∙ c.in-Ok.ensures.planned.lists_are in
    subst (λ ls. shares n ls ≤ one_if (holds n all_numbers)) (sym all) (apart_all c.args.numbers.items c.requires.lanes c.in-Ok.ensures.planned.groups c.in-Ok.ensures.planned.alone n)

pub run_locked-behind-requires-clause-other : goal.run_locked-behind-requires-clause-other
run_locked-behind-requires-clause-other g c κs within =
    let all = c.deref.ensures.value ∙ c.in-Ok.ensures.planned.lists_are in
    subst (KeepsOne all_numbers) (sym all) (other_all c.args.numbers.items c.requires.lanes c.in-Ok.ensures.planned.groups c.in-Ok.ensures.planned.alone)

pub run_locked-behind-requires-clause-governs : goal.run_locked-behind-requires-clause-governs
run_locked-behind-requires-clause-governs g c κs within = governs_first g.R.Rack g.A.Area g.J.LaneJob.needs g.J.LaneJob.relates c.args.pool c.requires.whole c.args.numbers.items c.requires.lanes c.args.jobs c.requires.may c.requires.keeps c.in-Ok-lock_each.made.turns.items c.in-Ok-lock_each.made.firsts.items c.in-Ok-lock_each.ensures.locked c.in-Ok.ensures.planned.groups c.in-Ok.ensures.planned.alone c.in-Ok.plan.owns c.in-Ok.ensures.planned.dealt

pub run_locked-behind-requires-clause-may : goal.run_locked-behind-requires-clause-may
run_locked-behind-requires-clause-may g c κs within =
    let all = c.deref.ensures.value ∙ c.in-Ok.ensures.planned.lists_are in
    subst (λ ls. MayRunLocked g.R.Rack g.A.Area g.J.LaneJob.needs c.args.pool.geometry c.in-Ok-lock_each.made.turns.items c.args.pool.uber ls c.in-Ok.plan.owns c.args.jobs) (sym all) (may_locked g.R.Rack g.A.Area g.J.LaneJob.needs g.J.LaneJob.relates c.args.pool c.requires.whole c.args.numbers.items c.requires.lanes c.args.jobs c.requires.may c.requires.keeps c.in-Ok-lock_each.made.turns.items c.in-Ok-lock_each.made.firsts.items c.in-Ok-lock_each.ensures.locked c.in-Ok.ensures.planned.groups c.in-Ok.ensures.planned.alone c.in-Ok.plan.owns c.in-Ok.ensures.planned.dealt)

pub slice_bounds-take_each-end : goal.slice_bounds-take_each-end
slice_bounds-take_each-end g c =
    let all = c.deref.ensures.value ∙ c.in-Ok.ensures.planned.lists_are in
    let ran = subst (λ ls. RunsLocked g.R.Rack g.A.Area g.J.LaneJob.relates c.args.pool.geometry c.in-Ok-lock_each.made.turns.items c.args.pool.uber ls c.in-Ok.plan.owns c.args.jobs c.run_locked-behind.result.uber c.run_locked-behind.result.shards.items c.run_locked-behind.result.owns c.run_locked-behind.result.jobs) all (ok_of c.run_locked-behind.result.ran c.in-Ok-ran.field-0 c.in-Ok-ran.is c.run_locked-behind.ensures.ran) in
    let inside = all_inside g.R.Rack g.A.Area g.J.LaneJob.needs g.J.LaneJob.relates c.args.pool c.requires.whole c.args.numbers.items c.requires.lanes c.args.jobs c.requires.may c.requires.keeps c.in-Ok-lock_each.made.turns.items c.in-Ok-lock_each.made.firsts.items c.in-Ok-lock_each.ensures.locked c.in-Ok.ensures.planned.groups c.in-Ok.ensures.planned.alone c.in-Ok.plan.owns c.in-Ok.ensures.planned.dealt c.run_locked-behind.result.uber c.run_locked-behind.result.shards.items c.run_locked-behind.result.owns c.run_locked-behind.result.jobs ran in
    let many = c.len-in-Ok-ran.ensures ∙ (c.run_locked-behind.result.owns.ok.0 ∙ inside.many) in
    let front = ap (take c.len-in-Ok-ran.result) (c.deref-in-Ok-ran.ensures.value ∙ c.in-Ok.ensures.planned.lists_are) ∙ take_front c.len-in-Ok-ran.result c.args.numbers.items (c.in-Ok.ensures.planned.groups ∷ []) many in
    many ∙ sym (ap length front)

pub take_each-requires-clause-within : goal.take_each-requires-clause-within
take_each-requires-clause-within g c =
    let all = c.deref.ensures.value ∙ c.in-Ok.ensures.planned.lists_are in
    let ran = subst (λ ls. RunsLocked g.R.Rack g.A.Area g.J.LaneJob.relates c.args.pool.geometry c.in-Ok-lock_each.made.turns.items c.args.pool.uber ls c.in-Ok.plan.owns c.args.jobs c.run_locked-behind.result.uber c.run_locked-behind.result.shards.items c.run_locked-behind.result.owns c.run_locked-behind.result.jobs) all (ok_of c.run_locked-behind.result.ran c.in-Ok-ran.field-0 c.in-Ok-ran.is c.run_locked-behind.ensures.ran) in
    let inside = all_inside g.R.Rack g.A.Area g.J.LaneJob.needs g.J.LaneJob.relates c.args.pool c.requires.whole c.args.numbers.items c.requires.lanes c.args.jobs c.requires.may c.requires.keeps c.in-Ok-lock_each.made.turns.items c.in-Ok-lock_each.made.firsts.items c.in-Ok-lock_each.ensures.locked c.in-Ok.ensures.planned.groups c.in-Ok.ensures.planned.alone c.in-Ok.plan.owns c.in-Ok.ensures.planned.dealt c.run_locked-behind.result.uber c.run_locked-behind.result.shards.items c.run_locked-behind.result.owns c.run_locked-behind.result.jobs ran in
    let many = c.len-in-Ok-ran.ensures ∙ (c.run_locked-behind.result.owns.ok.0 ∙ inside.many) in
    let front = ap (take c.len-in-Ok-ran.result) (c.deref-in-Ok-ran.ensures.value ∙ c.in-Ok.ensures.planned.lists_are) ∙ take_front c.len-in-Ok-ran.result c.args.numbers.items (c.in-Ok.ensures.planned.groups ∷ []) many in
    let owns = c.deref-in-Ok-ran-2.ensures.value in
    subst (λ (z : List (Vec Span Global) × List Own). AllWithin z.0 z.1) (λ k. (sym front k, sym owns k)) inside

pub take_each-requires-clause-apart : goal.take_each-requires-clause-apart
take_each-requires-clause-apart g c n =
    let all = c.deref.ensures.value ∙ c.in-Ok.ensures.planned.lists_are in
    let ran = subst (λ ls. RunsLocked g.R.Rack g.A.Area g.J.LaneJob.relates c.args.pool.geometry c.in-Ok-lock_each.made.turns.items c.args.pool.uber ls c.in-Ok.plan.owns c.args.jobs c.run_locked-behind.result.uber c.run_locked-behind.result.shards.items c.run_locked-behind.result.owns c.run_locked-behind.result.jobs) all (ok_of c.run_locked-behind.result.ran c.in-Ok-ran.field-0 c.in-Ok-ran.is c.run_locked-behind.ensures.ran) in
    let inside = all_inside g.R.Rack g.A.Area g.J.LaneJob.needs g.J.LaneJob.relates c.args.pool c.requires.whole c.args.numbers.items c.requires.lanes c.args.jobs c.requires.may c.requires.keeps c.in-Ok-lock_each.made.turns.items c.in-Ok-lock_each.made.firsts.items c.in-Ok-lock_each.ensures.locked c.in-Ok.ensures.planned.groups c.in-Ok.ensures.planned.alone c.in-Ok.plan.owns c.in-Ok.ensures.planned.dealt c.run_locked-behind.result.uber c.run_locked-behind.result.shards.items c.run_locked-behind.result.owns c.run_locked-behind.result.jobs ran in
    let many = c.len-in-Ok-ran.ensures ∙ (c.run_locked-behind.result.owns.ok.0 ∙ inside.many) in
    let front = ap (take c.len-in-Ok-ran.result) (c.deref-in-Ok-ran.ensures.value ∙ c.in-Ok.ensures.planned.lists_are) ∙ take_front c.len-in-Ok-ran.result c.args.numbers.items (c.in-Ok.ensures.planned.groups ∷ []) many in
    subst (λ ls. shares n ls ≤ 1) (sym front) (c.requires.lanes.apart n)

pub take_each-requires-clause-room : goal.take_each-requires-clause-room
take_each-requires-clause-room g c =
    let all = c.deref.ensures.value ∙ c.in-Ok.ensures.planned.lists_are in
    let ran = subst (λ ls. RunsLocked g.R.Rack g.A.Area g.J.LaneJob.relates c.args.pool.geometry c.in-Ok-lock_each.made.turns.items c.args.pool.uber ls c.in-Ok.plan.owns c.args.jobs c.run_locked-behind.result.uber c.run_locked-behind.result.shards.items c.run_locked-behind.result.owns c.run_locked-behind.result.jobs) all (ok_of c.run_locked-behind.result.ran c.in-Ok-ran.field-0 c.in-Ok-ran.is c.run_locked-behind.ensures.ran) in
    let inside = all_inside g.R.Rack g.A.Area g.J.LaneJob.needs g.J.LaneJob.relates c.args.pool c.requires.whole c.args.numbers.items c.requires.lanes c.args.jobs c.requires.may c.requires.keeps c.in-Ok-lock_each.made.turns.items c.in-Ok-lock_each.made.firsts.items c.in-Ok-lock_each.ensures.locked c.in-Ok.ensures.planned.groups c.in-Ok.ensures.planned.alone c.in-Ok.plan.owns c.in-Ok.ensures.planned.dealt c.run_locked-behind.result.uber c.run_locked-behind.result.shards.items c.run_locked-behind.result.owns c.run_locked-behind.result.jobs ran in
    let long = c.len.ensures ∙ c.args.pool.metaslabs.shards.ok.0 in
    subst (HaveTableRoom (spare c.make_plan.new.own.objects)) (sym c.deref-in-Ok-ran-2.ensures.value)
    (tables_fit g.R.Rack g.A.Area g.J.LaneJob.needs g.J.LaneJob.relates c.args.pool c.requires.whole c.args.numbers.items c.requires.lanes c.args.jobs c.requires.may c.requires.keeps c.in-Ok-lock_each.made.turns.items c.in-Ok-lock_each.made.firsts.items c.in-Ok-lock_each.ensures.locked c.in-Ok.ensures.planned.groups c.in-Ok.ensures.planned.alone c.in-Ok.plan.owns c.in-Ok.ensures.planned.dealt c.run_locked-behind.result.uber c.run_locked-behind.result.shards.items c.run_locked-behind.result.owns c.run_locked-behind.result.jobs ran (spare c.make_plan.new.own.objects) (subst (λ n. most_objects c.args.numbers.items n ≤ spare c.make_plan.new.own.objects) long c.in-Ok.ensures.planned.room))

pub returns-in-Ok-ran-clause-whole : goal.returns-in-Ok-ran-clause-whole
returns-in-Ok-ran-clause-whole g c =
    let all = c.deref.ensures.value ∙ c.in-Ok.ensures.planned.lists_are in
    let ran = subst (λ ls. RunsLocked g.R.Rack g.A.Area g.J.LaneJob.relates c.args.pool.geometry c.in-Ok-lock_each.made.turns.items c.args.pool.uber ls c.in-Ok.plan.owns c.args.jobs c.run_locked-behind.result.uber c.run_locked-behind.result.shards.items c.run_locked-behind.result.owns c.run_locked-behind.result.jobs) all (ok_of c.run_locked-behind.result.ran c.in-Ok-ran.field-0 c.in-Ok-ran.is c.run_locked-behind.ensures.ran) in
    let inside = all_inside g.R.Rack g.A.Area g.J.LaneJob.needs g.J.LaneJob.relates c.args.pool c.requires.whole c.args.numbers.items c.requires.lanes c.args.jobs c.requires.may c.requires.keeps c.in-Ok-lock_each.made.turns.items c.in-Ok-lock_each.made.firsts.items c.in-Ok-lock_each.ensures.locked c.in-Ok.ensures.planned.groups c.in-Ok.ensures.planned.alone c.in-Ok.plan.owns c.in-Ok.ensures.planned.dealt c.run_locked-behind.result.uber c.run_locked-behind.result.shards.items c.run_locked-behind.result.owns c.run_locked-behind.result.jobs ran in
    let many = c.len-in-Ok-ran.ensures ∙ (c.run_locked-behind.result.owns.ok.0 ∙ inside.many) in
    let front = ap (take c.len-in-Ok-ran.result) (c.deref-in-Ok-ran.ensures.value ∙ c.in-Ok.ensures.planned.lists_are) ∙ take_front c.len-in-Ok-ran.result c.args.numbers.items (c.in-Ok.ensures.planned.groups ∷ []) many in
    let owns = c.deref-in-Ok-ran-2.ensures.value in
    let own_is = c.pool_of-in-Ok-ran.ensures.own_is in
    let takes = subst (λ (z : List (Vec Span Global) × List Own × Own). TakesAll z.0 z.1 c.make_plan.new.own z.2) (λ k. (front k, owns k, sym own_is k)) c.take_each.ensures in
    let shards_are = ap (λ (v : Vec (Shard g.row.R.Denot g.row.A.Denot) Global). v.items) c.pool_of-in-Ok-ran.ensures.shards_are in
    let same = c.make_plan.ensures.same in
    gathered_whole g.R.Rack g.A.Area g.J.LaneJob.needs g.J.LaneJob.relates c.args.pool c.requires.whole c.args.numbers.items c.requires.lanes c.args.jobs c.requires.may c.requires.keeps c.in-Ok-lock_each.made.turns.items c.in-Ok-lock_each.made.firsts.items c.in-Ok-lock_each.ensures.locked c.in-Ok.ensures.planned.groups c.in-Ok.ensures.planned.alone c.in-Ok.plan.owns c.in-Ok.ensures.planned.dealt c.run_locked-behind.result.uber c.run_locked-behind.result.shards.items c.run_locked-behind.result.owns c.run_locked-behind.result.jobs ran c.pool_of-in-Ok-ran.result c.make_plan.new.own same.objects same.seq same.floor c.pool_of-in-Ok-ran.ensures.geometry_is shards_are c.pool_of-in-Ok-ran.ensures.uber_is takes

pub returns-in-Ok-ran-clause-ran : goal.returns-in-Ok-ran-clause-ran
returns-in-Ok-ran-clause-ran g c =
    let all = c.deref.ensures.value ∙ c.in-Ok.ensures.planned.lists_are in
    let ran = subst (λ ls. RunsLocked g.R.Rack g.A.Area g.J.LaneJob.relates c.args.pool.geometry c.in-Ok-lock_each.made.turns.items c.args.pool.uber ls c.in-Ok.plan.owns c.args.jobs c.run_locked-behind.result.uber c.run_locked-behind.result.shards.items c.run_locked-behind.result.owns c.run_locked-behind.result.jobs) all (ok_of c.run_locked-behind.result.ran c.in-Ok-ran.field-0 c.in-Ok-ran.is c.run_locked-behind.ensures.ran) in
    let inside = all_inside g.R.Rack g.A.Area g.J.LaneJob.needs g.J.LaneJob.relates c.args.pool c.requires.whole c.args.numbers.items c.requires.lanes c.args.jobs c.requires.may c.requires.keeps c.in-Ok-lock_each.made.turns.items c.in-Ok-lock_each.made.firsts.items c.in-Ok-lock_each.ensures.locked c.in-Ok.ensures.planned.groups c.in-Ok.ensures.planned.alone c.in-Ok.plan.owns c.in-Ok.ensures.planned.dealt c.run_locked-behind.result.uber c.run_locked-behind.result.shards.items c.run_locked-behind.result.owns c.run_locked-behind.result.jobs ran in
    let many = c.len-in-Ok-ran.ensures ∙ (c.run_locked-behind.result.owns.ok.0 ∙ inside.many) in
    let front = ap (take c.len-in-Ok-ran.result) (c.deref-in-Ok-ran.ensures.value ∙ c.in-Ok.ensures.planned.lists_are) ∙ take_front c.len-in-Ok-ran.result c.args.numbers.items (c.in-Ok.ensures.planned.groups ∷ []) many in
    let owns = c.deref-in-Ok-ran-2.ensures.value in
    let own_is = c.pool_of-in-Ok-ran.ensures.own_is in
    let takes = subst (λ (z : List (Vec Span Global) × List Own × Own). TakesAll z.0 z.1 c.make_plan.new.own z.2) (λ k. (front k, owns k, sym own_is k)) c.take_each.ensures in
    let shards_are = ap (λ (v : Vec (Shard g.row.R.Denot g.row.A.Denot) Global). v.items) c.pool_of-in-Ok-ran.ensures.shards_are in
    record {
      geometry = c.pool_of-in-Ok-ran.ensures.geometry_is;
      locks = c.in-Ok-lock_each.made.turns.items;
      firsts = c.in-Ok-lock_each.made.firsts.items;
      locked = c.in-Ok-lock_each.ensures.locked;
      groups = c.in-Ok.ensures.planned.groups;
      alone = c.in-Ok.ensures.planned.alone;
      owns = c.in-Ok.plan.owns;
      dealt = c.in-Ok.ensures.planned.dealt;
      owns' = c.run_locked-behind.result.owns;
      ran = subst (λ (z : Uber g.row.A.Denot × List (Shard g.row.R.Denot g.row.A.Denot)). RunsLocked g.R.Rack g.A.Area g.J.LaneJob.relates c.args.pool.geometry c.in-Ok-lock_each.made.turns.items c.args.pool.uber (c.args.numbers.items ++ c.in-Ok.ensures.planned.groups ∷ []) c.in-Ok.plan.owns c.args.jobs z.0 z.1
          c.run_locked-behind.result.owns c.run_locked-behind.result.jobs) (λ k. (sym c.pool_of-in-Ok-ran.ensures.uber_is k, sym shards_are k)) ran;
      takes = takes_same c.args.numbers.items c.run_locked-behind.result.owns.items c.args.pool.own c.make_plan.new.own c.pool_of-in-Ok-ran.result.own c.make_plan.ensures.same takes;
    }

pub returns-clause-refused : goal.returns-clause-refused
returns-clause-refused g c =
    let same = err_of c.run_locked-behind.result.ran _ c.in-Err-ran.is c.run_locked-behind.ensures.refused in
    let shards = same.1 ∙ under_locked c.args.pool.metaslabs.shards.items c.in-Ok-lock_each.made.turns.items c.in-Ok-lock_each.made.firsts.items c.in-Ok-lock_each.ensures.locked in
    made_same c.args.pool c.pool_of-in-Err-ran.result c.args.pool.geometry c.run_locked-behind.result.shards c.run_locked-behind.result.uber c.make_plan.new.own c.pool_of-in-Err-ran.ensures refl shards same.0 c.make_plan.ensures.same

pub returns-clause-whole : goal.returns-clause-whole
returns-clause-whole g c =
    let same = err_of c.run_locked-behind.result.ran _ c.in-Err-ran.is c.run_locked-behind.ensures.refused in
    let shards = same.1 ∙ under_locked c.args.pool.metaslabs.shards.items c.in-Ok-lock_each.made.turns.items c.in-Ok-lock_each.made.firsts.items c.in-Ok-lock_each.ensures.locked in
    whole_same c.args.pool c.pool_of-in-Err-ran.result g.R.Rack g.A.Area c.requires.whole (made_same c.args.pool c.pool_of-in-Err-ran.result c.args.pool.geometry c.run_locked-behind.result.shards c.run_locked-behind.result.uber c.make_plan.new.own c.pool_of-in-Err-ran.ensures refl shards same.0 c.make_plan.ensures.same)
