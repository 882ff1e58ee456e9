use Rattle.std.proofs.Common.{arith}
use Rattle.std.specs.Prelude.{nat_eq}
use Rattle.std.specs.HashMap.{get}
use Rattle.draid_found.proofs.Noted.{next_low}
use Rattle.draid_rewinds.proofs.Others.{one_at_most, sweeping_all, sweeping_more, sweeping_none}
use Rattle.draid_rewinds.proofs.sweeping.free_others_in.Goals as goal

pub loop-pointer-init : goal.loop-pointer-init
loop-pointer-init g c = sweeping_none g.R.Rack g.A.Area (get nat_eq c.args.objects.now) c.args.group c.args.shard.now c.requires.ready

pub overflow_add-from : goal.overflow_add-from
overflow_add-from g c = (let low = next_low g.R.Rack c.loop-pointer.shard c.loop-pointer.from c.in-Some.pointer c.in-Some.ensures.some in omega (arith, low))

pub overflow_add-freed : goal.overflow_add-freed
overflow_add-freed g c =
    let few = c.loop-pointer.invariant.few in
    let bound = c.loop-pointer.invariant.bound in
    let one = one_at_most g.R.Rack g.A.Area (get nat_eq c.args.objects.now) c.in-Some.pointer c.args.group c.loop-pointer.shard c.free_if_other-freed.result c.free_if_other-freed.new.shard c.free_if_other-freed.ensures.frees in
    omega (arith, few, bound, one)

pub loop-pointer-smaller : goal.loop-pointer-smaller
loop-pointer-smaller g c =
    let next = c.in-Some.ensures.some in
    let low = next_low g.R.Rack c.loop-pointer.shard c.loop-pointer.from c.in-Some.pointer next in
    let behind = next.behind in
    omega (arith, low, behind)

pub loop-pointer-preserved : goal.loop-pointer-preserved
loop-pointer-preserved g c =
    let l = c.loop-pointer in
    let p = c.in-Some.pointer in
    let next = c.in-Some.ensures.some in
    sweeping_more g.R.Rack g.A.Area (get nat_eq c.args.objects.now) c.args.group l.from l.freed c.free_if_other-freed.result c.args.shard.now l.shard c.free_if_other-freed.new.shard p next (next_low g.R.Rack l.shard l.from p next) l.invariant
    c.free_if_other-freed.ensures.frees

pub free_if_other-freed-requires : goal.free_if_other-freed-requires
free_if_other-freed-requires g c = record { ready = c.loop-pointer.invariant.open_ }

pub returns : goal.returns
returns g c =
    let l = c.loop-pointer in
    record { frees = sweeping_all g.R.Rack g.A.Area (get nat_eq c.args.objects.now) c.args.group l.from l.freed c.args.shard.now l.shard c.in_default.ensures.none l.invariant }
