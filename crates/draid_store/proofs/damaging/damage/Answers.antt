use Rattle.std.proofs.Common.{◌/◌, refl, arith}
use Rattle.draid_store.proofs.DamageSteps.{damage_done, damage_none, damage_shard, sector_below}
use Rattle.draid_pool.proofs.Lifted.{sets_shard, with_shard}
use Rattle.draid_pool.proofs.Wholes.{Replaces, whole_kept, whole_valid}
use Rattle.draid_store.proofs.damaging.damage.Goals as goal

pub returns-then-metaslab-from : goal.returns-then-metaslab-from
returns-then-metaslab-from g c = record {
  whole = c.requires.whole;
  same = λ o. refl;
  step = λ x is.
      damage_none g.R.Rack g.A.Area c.args.pool.now x c.args.leaf c.args.sector c.metaslab_sectors-sectors.result c.from.result is c.metaslab_sectors-sectors.ensures.value c.from.ensures
      c.if-metaslab-from.true;
}

pub damage_sector-requires : goal.damage_sector-requires
damage_sector-requires g c =
    let k = c.args.sector / c.metaslab_sectors-sectors.result in
    let shard = c.index_mut.result.now in
    let there = damage_shard g.R.Rack g.A.Area c.args.pool.now k c.from.result shard c.requires.whole c.from.ensures c.if-metaslab-from.false c.index_mut.ensures.value in
    record {
      valid = whole_valid g.R.Rack g.A.Area c.args.pool.now k shard c.requires.whole there;
      sector = sector_below g.R.Rack g.A.Area c.args.pool.now k c.args.sector c.metaslab_sectors-sectors.result shard c.requires.whole there c.metaslab_sectors-sectors.ensures.value
          c.metaslab_sectors-sectors.ensures.some;
    }

pub returns : goal.returns
returns g c =
    let old = c.args.pool.now in
    let k = c.args.sector / c.metaslab_sectors-sectors.result in
    let before = c.index_mut.result.now in
    let after = c.damage_sector.new.shard in
    let there = damage_shard g.R.Rack g.A.Area old k c.from.result before c.requires.whole c.from.ensures c.if-metaslab-from.false c.index_mut.ensures.value in
    let e = c.damage_sector.ensures in
    let new = with_shard old k after in
    let r : Replaces g.R.Rack g.A.Area k old new before after
    = record { there = there; sets = refl; geometry = refl; uber = refl; valid = e.valid; part = e.part; committed = e.keeps.groups.committed; opens = (let same = e.keeps.groups.open_group_is in omega (arith, same)); slots = e.slots } in
    let set = sets_shard g.R.Rack g.A.Area old k before after there in
    record {
      whole = whole_kept g.R.Rack g.A.Area k old new before after c.requires.whole r e.keeps refl refl (λ q. refl);
      same = λ o. refl;
      step = λ x is.
          damage_done g.R.Rack g.A.Area old new before after x c.args.leaf c.args.sector c.metaslab_sectors-sectors.result c.from.result c.damage_sector.result is set
          c.metaslab_sectors-sectors.ensures.value c.from.ensures c.if-metaslab-from.false e.damages;
    }
