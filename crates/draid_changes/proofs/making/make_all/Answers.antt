use Rattle.std.proofs.Common.{◌≡◌, ◌≤◌, ◌∙◌, ℕ, Some, Err, arith, refl, sym, ap, slice_get}
use Rattle.std.proofs.lemmas.List.{length-set}
use Rattle.draid_rack.specs.declared.Rack as racks
use Rattle.draid_area.specs.declared.Area as areas
use Rattle.draid_spec.specs.Geometry.{metaslab_sectors}
use Rattle.draid_shard.specs.Fits.{IsLeaf}
use Rattle.draid_shard.specs.declared.shard.Shard.{Shard}
use Rattle.draid_uber.specs.Uber.{next_leaf_of}
use Rattle.draid_session.specs.Arms as arms
use Rattle.draid_pool.specs.Whole.{IsWhole}
use Rattle.draid_pool.specs.declared.pool.Pool.{Pool}
use Rattle.draid_pool.proofs.Lifted.{sets_shard, with_shard}
use Rattle.draid_pool.proofs.Lists.{get_set_same}
use Rattle.draid_pool.proofs.Rises.{areas_on, areas_set, areas_still, records_same}
use Rattle.draid_pool.proofs.SyncSteps.{borrowed_at, came_none, whole_on}
use Rattle.draid_pool.proofs.Wholes.{whole_valid}
use Rattle.draid_changes.specs.Making.{Makes, end_of_making}
use Rattle.draid_changes.proofs.Made.{make_stops, make_turns, not_made}
use Rattle.draid_changes.proofs.Phases.{phase_more, phase_stops, phase_went}
use Rattle.draid_changes.proofs.Walk.{changed_more, changed_none}
use Rattle.draid_changes.proofs.making.make_all.Goals as goal

-- no metaslab has the leaf
unused : {R A : Type 0} (rack : racks.Ghosts R) (area : areas.Ghosts A) (pool old : Pool R A) (m leaf : ℕ) (shard : Shard R A) → IsWhole rack area pool → pool.uber ≡ old.uber → next_leaf_of old.uber ≤ leaf
    → slice_get pool.metaslabs.shards.items m ≡ Some shard → IsLeaf shard.slots leaf → ⊥
unused rack area pool old m leaf shard w same low there is = (let less = (w.shards m shard there).leaves leaf is in let next = ap next_leaf_of same in omega (arith, less, next, low))

pub loop-metaslab-init : goal.loop-metaslab-init
loop-metaslab-init g c = record {
  whole = c.requires.whole;
  carries = λ x is. came_none g.R.Rack g.A.Area (arms.Makes x.geometry x.perms c.args.leaf) c.args.pool.now x is;
  makes = changed_none (Makes g.R.Rack c.args.leaf) c.args.pool.now.metaslabs.shards.items;
  objects = refl;
  uber = refl;
  later = areas_still g.A.Area.faults c.args.pool.now;
  many = refl;
}

pub make_leaf-requires : goal.make_leaf-requires
make_leaf-requires g c =
    let l = c.loop-metaslab in
    let i = l.invariant in
    let shard = c.index_mut.result.now in
    let below = c.loop-metaslab-test.true in
    let len = c.len-metaslab-end.ensures in
    let vec = c.args.pool.now.metaslabs.shards.ok.0 in
    let many = i.many in
    let there = borrowed_at l.pool.metaslabs.shards.items l.metaslab shard (omega (arith, below, len, vec, many)) c.index_mut.ensures.value in
    record {
      valid = whole_valid g.R.Rack g.A.Area l.pool l.metaslab shard i.whole there;
      none = unused g.R.Rack g.A.Area l.pool c.args.pool.now l.metaslab c.args.leaf shard i.whole i.uber c.requires.unused there;
    }

pub returns-in-Err : goal.returns-in-Err
returns-in-Err g c =
    let l = c.loop-metaslab in
    let i = l.invariant in
    let shard = c.index_mut.result.now in
    let below = c.loop-metaslab-test.true in
    let len = c.len-metaslab-end.ensures in
    let vec = c.args.pool.now.metaslabs.shards.ok.0 in
    let many = i.many in
    let there = borrowed_at l.pool.metaslabs.shards.items l.metaslab shard (omega (arith, below, len, vec, many)) c.index_mut.ensures.value in
    let after = c.make_leaf.new.shard in
    let new = with_shard l.pool l.metaslab after in
    let set = sets_shard g.R.Rack g.A.Area l.pool l.metaslab shard after there in
    let e = c.in-Err.ensures in
    let own = unused g.R.Rack g.A.Area l.pool c.args.pool.now l.metaslab c.args.leaf shard i.whole i.uber c.requires.unused there in
    record {
      whole = whole_on g.R.Rack g.A.Area l.metaslab l.pool new shard after i.whole set e.valid (record { part = e.none.none.part; entries = e.none.keeps.entries; committed = e.none.keeps.groups.committed; opens = (let same = e.none.keeps.groups.open_group_is in omega (arith, same)); slots = e.none.slots });
      objects = i.objects;
      uber = i.uber;
      later = areas_on g.A.Area.faults c.args.pool.now l.pool new i.later (areas_set g.R.Rack g.A.Area l.metaslab l.pool new shard after set (records_same g.A.Area.faults shard after e.areas));
      cause = λ failed. (l.metaslab, shard, after, sym (i.makes.others l.metaslab (omega arith)) ∙ there, get_set_same l.pool.metaslabs.shards.items l.metaslab shard after there, e.cause failed);
      makes = tt;
      carries = λ x is. (let all = i.whole.many in
          phase_stops g.R.Rack g.A.Area (λ g p. arms.Makes g p c.args.leaf) (λ g p. arms.MakeStops g p) l.metaslab l.pool new shard after x
          (end_of_making (Err c.in-Err.fault)) (i.carries x is) set (omega (arith, below, len, vec, many, all)) (not_made c.in-Err.fault)
          (make_stops g.R.Rack g.A.Area c.args.leaf shard after c.in-Err.fault (record { valid = e.valid; areas = e.areas; none = e.none; later = e.later; reserve = e.reserve }) own e.same (λ failed. e.cause (ap Err failed))));
    }

pub loop-metaslab-preserved : goal.loop-metaslab-preserved
loop-metaslab-preserved g c =
    let l = c.loop-metaslab in
    let i = l.invariant in
    let shard = c.index_mut.result.now in
    let below = c.loop-metaslab-test.true in
    let len = c.len-metaslab-end.ensures in
    let vec = c.args.pool.now.metaslabs.shards.ok.0 in
    let many = i.many in
    let there = borrowed_at l.pool.metaslabs.shards.items l.metaslab shard (omega (arith, below, len, vec, many)) c.index_mut.ensures.value in
    let after = c.make_leaf.new.shard in
    let new = with_shard l.pool l.metaslab after in
    let set = sets_shard g.R.Rack g.A.Area l.pool l.metaslab shard after there in
    let e = c.in-Ok.ensures in
    let own = unused g.R.Rack g.A.Area l.pool c.args.pool.now l.metaslab c.args.leaf shard i.whole i.uber c.requires.unused there in
    record {
      whole = whole_on g.R.Rack g.A.Area l.metaslab l.pool new shard after i.whole set e.valid (record { part = e.none.none.part; entries = e.none.keeps.entries; committed = e.none.keeps.groups.committed; opens = (let same = e.none.keeps.groups.open_group_is in omega (arith, same)); slots = e.none.slots });
      carries = λ x is. phase_more g.R.Rack g.A.Area (λ g p. arms.Makes g p c.args.leaf) (λ g p. arms.MakeStops g p) l.metaslab l.pool new shard after x (i.carries x is) set
          (make_turns g.R.Rack g.A.Area c.args.leaf (g.R.Rack.shape shard.rack).bytes (metaslab_sectors shard.geometry) shard after
          (record { valid = e.valid; areas = e.areas; none = e.none; later = e.later; reserve = e.reserve }) own e.told);
      makes = changed_more (Makes g.R.Rack c.args.leaf) l.metaslab c.args.pool.now.metaslabs.shards.items l.pool.metaslabs.shards.items shard after i.makes there
          (record { rest = e.rest; made = e.made ∙ ap (λ (s : Shard g.row.R.Denot g.row.A.Denot). Some (metaslab_sectors s.geometry)) (sym e.rest) });
      objects = i.objects;
      uber = i.uber;
      later = areas_on g.A.Area.faults c.args.pool.now l.pool new i.later (areas_set g.R.Rack g.A.Area l.metaslab l.pool new shard after set (records_same g.A.Area.faults shard after e.areas));
      many = length-set l.pool.metaslabs.shards.items l.metaslab after ∙ i.many;
    }

pub returns : goal.returns
returns g c =
    let l = c.loop-metaslab in
    let i = l.invariant in
    let end = c.loop-metaslab-test.false in
    let len = c.len-metaslab-end.ensures in
    let vec = c.args.pool.now.metaslabs.shards.ok.0 in
    let many = i.many in
    let upto = l.auto.metaslab-end in
    record {
      whole = i.whole;
      objects = i.objects;
      uber = i.uber;
      later = i.later;
      cause = λ failed. absurd (cc);
      makes = record {
        many = i.makes.many;
        below = λ k x less. i.makes.below k x (omega (arith, less, end, len, vec, many));
        others = λ k from. i.makes.others k (omega (arith, from, upto, len, vec, many));
      };
      carries = λ x is. (let all = i.whole.many in
          phase_went g.R.Rack g.A.Area (λ g p. arms.Makes g p c.args.leaf) (λ g p. arms.MakeStops g p) l.metaslab l.pool x (i.carries x is)
          (omega (arith, end, len, vec, many, all, upto)));
    }
