use Rattle.std.proofs.Common.{arith, ◌∙◌, ap, refl}
use Rattle.std.specs.Prelude.{nat_eq}
use Rattle.std.specs.HashMap.{get}
use Rattle.draid_spec.specs.Geometry.{metaslab_stripes}
use Rattle.draid_shard.specs.Part.{Part}
use Rattle.draid_uber.specs.Uber.{point_of}
use Rattle.draid_import.proofs.ImportFreed.{keeps_none, keeps_step, only_all, only_step}
use Rattle.draid_found.proofs.Noted.{next_inside, next_live, next_low}
use Rattle.draid_import.proofs.Found.{frees_none, frees_step, left_behind}
use Rattle.draid_import.proofs.importing.free_older.Goals as goal

pub loop-pointer-init : goal.loop-pointer-init
loop-pointer-init g c =
    let newest = get nat_eq c.args.newest.now in
    record {
      frees = frees_none g.R.Rack newest (point_of c.args.uber.now).group c.args.shard.now c.requires.valid c.requires.live;
      open_group = refl;
      left = λ first e past there. c.requires.live first e there;
      bound = omega arith;
      keeps = keeps_none g.R.Rack g.A.Area newest (point_of c.args.uber.now).group c.args.floor c.args.shard.now;
      only = λ first e below there is. absurd (omega (arith, below));
    }

pub overflow_add-from : goal.overflow_add-from
overflow_add-from g c = (let low = next_low g.R.Rack c.loop-pointer.shard c.loop-pointer.from c.in-Some.pointer c.in-Some.ensures.some in omega (arith, low))

pub loop-pointer-smaller : goal.loop-pointer-smaller
loop-pointer-smaller g c =
    let next = c.in-Some.ensures.some in
    let frees = c.loop-pointer.invariant.frees in
    let inside = next_inside g.R.Rack c.loop-pointer.shard c.loop-pointer.from c.in-Some.pointer frees.valid next in
    let same = ap (λ (p : Part). metaslab_stripes p.geometry) frees.part in
    let behind = next.behind in
    omega (arith, inside, behind, same)

pub loop-pointer-preserved : goal.loop-pointer-preserved
loop-pointer-preserved g c =
    let next = c.in-Some.ensures.some in
    let i = c.loop-pointer.invariant in
    let newest = get nat_eq c.args.newest.now in
    let inside = next_inside g.R.Rack c.loop-pointer.shard c.loop-pointer.from c.in-Some.pointer i.frees.valid next in
    let same = ap (λ (p : Part). metaslab_stripes p.geometry) i.frees.part in
    let live = next_live g.R.Rack c.loop-pointer.shard c.loop-pointer.from c.in-Some.pointer i.left next in
    record {
      frees = frees_step g.R.Rack newest (point_of c.args.uber.now).group g.A.Area c.args.shard.now c.loop-pointer.shard c.free_if_older.new.shard c.in-Some.pointer c.args.floor i.frees live c.free_if_older.ensures.frees;
      open_group = c.free_if_older.ensures.frees.open_group_is ∙ i.open_group;
      left = left_behind g.R.Rack newest (point_of c.args.uber.now).group g.A.Area c.loop-pointer.shard c.free_if_older.new.shard c.in-Some.pointer c.args.floor c.loop-pointer.from next.behind c.free_if_older.ensures.frees i.left;
      bound = omega (arith, inside, same);
      keeps = keeps_step g.R.Rack g.A.Area newest (point_of c.args.uber.now).group c.args.floor c.args.shard.now c.loop-pointer.shard c.free_if_older.new.shard c.in-Some.pointer i.keeps live c.free_if_older.ensures.frees;
      only = only_step g.R.Rack g.A.Area newest (point_of c.args.uber.now).group c.args.floor c.loop-pointer.from c.loop-pointer.shard c.free_if_older.new.shard c.in-Some.pointer next c.free_if_older.ensures.frees i.only;
    }

pub free_if_older-requires : goal.free_if_older-requires
free_if_older-requires g c =
    record {
      valid = c.loop-pointer.invariant.frees.valid;
      live = next_live g.R.Rack c.loop-pointer.shard c.loop-pointer.from c.in-Some.pointer c.loop-pointer.invariant.left c.in-Some.ensures.some;
      floor = (let floor = c.requires.floor in let same = c.loop-pointer.invariant.open_group in omega (arith, floor, same));
      last = c.requires.last;
    }

pub returns : goal.returns
returns g c =
    record {
      frees = c.loop-pointer.invariant.frees;
      only = only_all g.R.Rack g.A.Area (get nat_eq c.args.newest.now) (point_of c.args.uber.now).group c.args.floor c.loop-pointer.from c.loop-pointer.shard c.in_default.ensures.none c.loop-pointer.invariant.only;
      keeps = c.loop-pointer.invariant.keeps;
    }
