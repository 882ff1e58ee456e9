use Rattle.std.proofs.Common.{arith, ◌≡◌, ◌+◌, ◌*◌, ◌∙◌, refl, subst, length}
use Rattle.draid_columns.proofs.Written.{rows_kept}
use Rattle.draid_shard.proofs.Counts.{counts_none}
use Rattle.draid_rack.specs.Rack.{OnBothTold}
use Rattle.draid_heal.specs.Arms.{HealsArms, ListsArms}
use Rattle.draid_shard.specs.Spots.{rows_for}
use Rattle.draid_heal.proofs.Armed.{spot_there, arms_lists, arms_none, arms_told, lists_none, more_calls}
use Rattle.draid_heal.proofs.arms.heal_arms.Goals as goal

pub loop-i-init : goal.loop-i-init
loop-i-init g c = let p = c.requires.room.empty in let f = c.requires.room.none in record {
  shape = refl;
  heals = arms_none c.args.extent.count c.args.extent.size c.args.room.now.spots.items c.args.room.now.patched.items c.args.block.now.columns c.args.room.now.failed.items (g.R.Rack.told c.args.rack.now);
  lists = rw p (rw f (lists_none c.args.extent.count c.args.extent.size c.args.room.now.spots.items));
  counts = rw f (counts_none (g.R.Rack.faults c.args.rack.now));
  spots = refl;
  into = refl;
  rooms = c.requires.room.parts;
  left = omega arith;
  patched_room = refl;
  failed_room = refl;
  few = rw f (omega arith);
}

pub heal_next-requires-clause-there : goal.heal_next-requires-clause-there
heal_next-requires-clause-there g c =
    let spot = c.index-spot.result.now in
    let there = spot_there c.args.room.now.spots c.loop-i.room.spots c.loop-i.i c.len-i-end.result c.index-spot.result.now c.loop-i.invariant.spots c.len-i-end.ensures c.loop-i-test.true c.index-spot.ensures in
    rows_kept (g.R.Rack.shape c.args.rack.now) (g.R.Rack.shape c.loop-i.rack) (rows_for c.args.extent.count c.args.extent.size spot) c.loop-i.invariant.shape (c.requires.spots.there c.loop-i.i spot there)

pub heal_next-requires-clause-column : goal.heal_next-requires-clause-column
heal_next-requires-clause-column g c =
    let there = spot_there c.args.room.now.spots c.loop-i.room.spots c.loop-i.i c.len-i-end.result c.index-spot.result.now c.loop-i.invariant.spots c.len-i-end.ensures c.loop-i-test.true c.index-spot.ensures in
    c.requires.spots.column c.loop-i.i c.index-spot.result.now there

pub loop-i-preserved : goal.loop-i-preserved
loop-i-preserved g c =
    let i = c.loop-i.i in
    let was = c.loop-i.invariant in
    let spot = c.index-spot.result.now in
    let there = spot_there c.args.room.now.spots c.loop-i.room.spots c.loop-i.i c.len-i-end.result c.index-spot.result.now c.loop-i.invariant.spots c.len-i-end.ensures c.loop-i-test.true c.index-spot.ensures in
    let puts = c.heal_next.ensures.puts in
    let part = puts.0 in
    let items = puts.1 in
    let put = puts.2 in
    let patched = c.loop-i.room.patched.items in
    let failed = c.loop-i.room.failed.items in
    let more = c.heal_next.new.room.failed.items in
    record {
      shape = c.heal_next.ensures.shape ∙ was.shape;
      heals = rw items (arms_told c.args.extent.count c.args.extent.size c.args.room.now.spots.items patched c.args.block.now.columns i failed more spot part c.requires.spots.apart there was.lists.many put.fails
          (g.R.Rack.told c.args.rack.now) (g.R.Rack.told c.loop-i.rack) (g.R.Rack.told c.heal_next.new.rack) was.heals put.heals put.needed);
      lists = rw items (arms_lists c.args.extent.count c.args.extent.size c.args.room.now.spots.items patched c.args.block.now.columns i failed more spot part c.requires.spots.apart there was.lists.many put.fails was.lists put.lists);
      counts = c.heal_next.ensures.counts (g.R.Rack.faults c.args.rack.now) was.counts;
      spots = c.heal_next.ensures.spots ∙ was.spots;
      into = c.heal_next.ensures.into ∙ was.into;
      rooms = c.heal_next.ensures.rooms;
      left = (let a = c.heal_next.ensures.left in let b = was.left in omega (arith, a, b));
      patched_room = c.heal_next.ensures.room.1 ∙ was.patched_room;
      failed_room = c.heal_next.ensures.room.0 ∙ was.failed_room;
      few = more_calls i (2 * c.args.extent.count + 1) (length failed) (length more) was.few c.heal_next.ensures.few;
    }

pub returns : goal.returns
returns g c =
    let past = c.loop-i-test.false in
    let upto = c.loop-i.auto.i-end in
    let len = c.len-i-end.ensures in
    let all : c.loop-i.i ≡ length c.args.room.now.spots.items = omega (arith, past, upto, len) in
    let is = c.loop-i.invariant in
    record {
      heals = subst (λ n. OnBothTold (g.R.Rack.told c.args.rack.now) (g.R.Rack.told c.loop-i.rack) (HealsArms c.args.extent.count c.args.extent.size c.args.room.now.spots.items c.loop-i.room.patched.items c.args.block.now.columns n c.loop-i.room.failed.items)) all is.heals;
      lists = subst (λ n. ListsArms c.args.extent.count c.args.extent.size c.args.room.now.spots.items c.loop-i.room.patched.items n c.loop-i.room.failed.items) all is.lists;
      counts = is.counts;
      shape = is.shape;
      spots = is.spots;
    }
