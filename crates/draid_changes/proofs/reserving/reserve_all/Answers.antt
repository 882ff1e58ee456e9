use Rattle.std.proofs.Common.{◌≡◌, ◌∙◌, ℕ, Err, arith, refl, sym, subst}
use Rattle.std.proofs.lemmas.List.{length-set}
use Rattle.draid_rack.specs.declared.Rack as racks
use Rattle.draid_area.specs.declared.Area as areas
use Rattle.draid_shard.specs.declared.shard.Shard.{Shard}
use Rattle.draid_shard.proofs.Changed.{arms_kept}
use Rattle.draid_disks.specs.Disks.{HasRoomFor}
use Rattle.draid_session.specs.Arms as arms
use Rattle.draid_pool.proofs.Lifted.{sets_shard, with_shard}
use Rattle.draid_pool.proofs.Rises.{areas_on, areas_set, areas_still, records_same}
use Rattle.draid_pool.proofs.SyncSteps.{borrowed_at, came_none, whole_on}
use Rattle.draid_pool.proofs.Wholes.{whole_valid}
use Rattle.draid_changes.specs.declared.need.Need.{Need}
use Rattle.draid_changes.specs.Walks.{Reserves, end_of_reserving, events_at, events_in}
use Rattle.draid_changes.proofs.Phases.{phase_more, phase_stops, phase_went}
use Rattle.draid_changes.proofs.Reserved.{AsksFor, asks_for, not_through, passes_set, passes_still, reserve_stops, reserve_turns, same_need}
use Rattle.draid_changes.proofs.Walk.{changed_more, changed_none}
use Rattle.draid_changes.proofs.reserving.reserve_all.Goals as goal

-- the events that the shard says are asked for
asked : {R A : Type 0} (rack : racks.Ghosts R) (area : areas.Ghosts A) (need : Need) (shard : Shard R A) (events : ℕ) → events ≡ events_in need shard → AsksFor rack area (events_at need) shard events
asked rack area need shard events is = subst (AsksFor rack area (events_at need) shard) (sym is) (asks_for rack area need shard)

pub loop-metaslab-init : goal.loop-metaslab-init
loop-metaslab-init g c = record {
  whole = c.requires.whole;
  carries = λ x is. came_none g.R.Rack g.A.Area (arms.Reserves x.geometry x.perms (events_at c.args.need)) c.args.pool.now x is;
  reserves = changed_none (Reserves c.args.need) c.args.pool.now.metaslabs.shards.items;
  objects = refl;
  uber = refl;
  passes = passes_still c.args.pool.now;
  later = areas_still g.A.Area.faults c.args.pool.now;
  many = refl;
}

pub reserve_for-requires : goal.reserve_for-requires
reserve_for-requires g c =
    let l = c.loop-metaslab in
    let i = l.invariant in
    let shard = c.index_mut-shard.result.now in
    let below = c.loop-metaslab-test.true in
    let len = c.len-metaslab-end.ensures in
    let vec = c.args.pool.now.metaslabs.shards.ok.0 in
    let many = i.many in
    let there = borrowed_at l.pool.metaslabs.shards.items l.metaslab shard (omega (arith, below, len, vec, many)) c.index_mut-shard.ensures.value in
    record { valid = whole_valid g.R.Rack g.A.Area l.pool l.metaslab shard i.whole there }

pub returns-in-Err : goal.returns-in-Err
returns-in-Err g c =
    let l = c.loop-metaslab in
    let i = l.invariant in
    let shard = c.index_mut-shard.result.now in
    let below = c.loop-metaslab-test.true in
    let len = c.len-metaslab-end.ensures in
    let vec = c.args.pool.now.metaslabs.shards.ok.0 in
    let many = i.many in
    let there = borrowed_at l.pool.metaslabs.shards.items l.metaslab shard (omega (arith, below, len, vec, many)) c.index_mut-shard.ensures.value in
    let after = c.reserve_for.new.shard in
    let new = with_shard l.pool l.metaslab after in
    let set = sets_shard g.R.Rack g.A.Area l.pool l.metaslab shard after there in
    let e = c.in-Err.ensures in
    record {
      whole = whole_on g.R.Rack g.A.Area l.metaslab l.pool new shard after i.whole set e.valid
          (record { part = e.none.part; entries = e.keeps.entries; committed = e.keeps.groups.committed; opens = (let same = e.keeps.groups.open_group_is in omega (arith, same)); slots = arms_kept shard.slots after.slots e.arms });
      objects = i.objects;
      uber = i.uber;
      passes = passes_set g.R.Rack g.A.Area l.metaslab c.args.pool.now l.pool new shard after i.passes set e.pass;
      later = areas_on g.A.Area.faults c.args.pool.now l.pool new i.later (areas_set g.R.Rack g.A.Area l.metaslab l.pool new shard after set (records_same g.A.Area.faults shard after e.kit.areas));
      reserves = tt;
      carries = λ x is. (let all = i.whole.many in
          phase_stops g.R.Rack g.A.Area (λ g p. arms.Reserves g p (events_at c.args.need)) (λ g p. arms.ReserveStops g p (events_at c.args.need)) l.metaslab l.pool new shard after x
          (end_of_reserving (Err c.in-Err.fault)) (i.carries x is) set (omega (arith, below, len, vec, many, all)) (not_through c.in-Err.fault)
          (reserve_stops g.R.Rack g.A.Area (events_at c.args.need) c.events_in-events.result shard after c.in-Err.fault (asked g.R.Rack g.A.Area c.args.need shard c.events_in-events.result c.events_in-events.ensures) (record { valid = e.valid; none = e.none; kit = e.kit; limit = e.limit }) e.answer e.same));
    }

pub loop-metaslab-preserved : goal.loop-metaslab-preserved
loop-metaslab-preserved g c =
    let l = c.loop-metaslab in
    let i = l.invariant in
    let shard = c.index_mut-shard.result.now in
    let below = c.loop-metaslab-test.true in
    let len = c.len-metaslab-end.ensures in
    let vec = c.args.pool.now.metaslabs.shards.ok.0 in
    let many = i.many in
    let there = borrowed_at l.pool.metaslabs.shards.items l.metaslab shard (omega (arith, below, len, vec, many)) c.index_mut-shard.ensures.value in
    let after = c.reserve_for.new.shard in
    let new = with_shard l.pool l.metaslab after in
    let set = sets_shard g.R.Rack g.A.Area l.pool l.metaslab shard after there in
    let e = c.in-Ok.ensures in
    let reserved = e.reserved in
    record {
      whole = whole_on g.R.Rack g.A.Area l.metaslab l.pool new shard after i.whole set e.valid
          (record { part = e.none.part; entries = e.keeps.entries; committed = e.keeps.groups.committed; opens = (let same = e.keeps.groups.open_group_is in omega (arith, same)); slots = arms_kept shard.slots after.slots e.arms });
      carries = λ x is. phase_more g.R.Rack g.A.Area (λ g p. arms.Reserves g p (events_at c.args.need)) (λ g p. arms.ReserveStops g p (events_at c.args.need)) l.metaslab l.pool new shard after x (i.carries x is) set
          (reserve_turns g.R.Rack g.A.Area (events_at c.args.need) c.events_in-events.result shard after (asked g.R.Rack g.A.Area c.args.need shard c.events_in-events.result c.events_in-events.ensures) (record { valid = e.valid; none = e.none; kit = e.kit; limit = e.limit }) e.answer e.reserved);
      reserves = changed_more (Reserves c.args.need) l.metaslab c.args.pool.now.metaslabs.shards.items l.pool.metaslabs.shards.items shard after i.reserves there
          (record {
            reserved = (let used = c.events_in-events.ensures in let same = same_need c.args.need shard after e.pass in omega (arith, reserved, used, same));
            room = subst (λ n. HasRoomFor n after) c.arms_in.ensures e.room;
            slots = arms_kept shard.slots after.slots e.arms;
            logs = e.arms;
            sound = e.sound;
            pass = e.pass;
            last = e.last;
            groups = e.keeps.groups;
            kit = e.kit;
          });
      objects = i.objects;
      uber = i.uber;
      passes = passes_set g.R.Rack g.A.Area l.metaslab c.args.pool.now l.pool new shard after i.passes set e.pass;
      later = areas_on g.A.Area.faults c.args.pool.now l.pool new i.later (areas_set g.R.Rack g.A.Area l.metaslab l.pool new shard after set (records_same g.A.Area.faults shard after e.kit.areas));
      many = length-set l.pool.metaslabs.shards.items l.metaslab after ∙ i.many;
    }

pub returns : goal.returns
returns g c =
    let l = c.loop-metaslab in
    let i = l.invariant in
    let end = c.loop-metaslab-test.false in
    let len = c.len-metaslab-end.ensures in
    let vec = c.args.pool.now.metaslabs.shards.ok.0 in
    let many = i.many in
    let upto = l.auto.metaslab-end in
    record {
      whole = i.whole;
      objects = i.objects;
      uber = i.uber;
      passes = i.passes;
      later = i.later;
      reserves = record {
        many = i.reserves.many;
        below = λ k x less. i.reserves.below k x (omega (arith, less, end, len, vec, many));
        others = λ k from. i.reserves.others k (omega (arith, from, upto, len, vec, many));
      };
      carries = λ x is. (let all = i.whole.many in
          phase_went g.R.Rack g.A.Area (λ g p. arms.Reserves g p (events_at c.args.need)) (λ g p. arms.ReserveStops g p (events_at c.args.need)) l.metaslab l.pool x (i.carries x is)
          (omega (arith, end, len, vec, many, all, upto)));
    }
