use Rattle.std.proofs.Common.{arith, ◌+◌, ◌∙◌, ap, refl}
use Rattle.std.specs.Prelude.{nat_eq}
use Rattle.std.specs.HashMap.{get}
use Rattle.draid_uber.specs.Slots.{group_of}
use Rattle.draid_uber.specs.Uber.{kept_of, layout_of}
use Rattle.draid_pool.proofs.Wholes.{open_high}
use Rattle.draid_import.proofs.ImportEnd.{found_imports}
use Rattle.draid_import.proofs.ImportFreed.{found_group}
use Rattle.draid_import.proofs.Found.{all_ready, imported_whole}
use Rattle.draid_import.proofs.importing.pool_of.Goals as goal

pub free_all-requires : goal.free_all-requires
free_all-requires g c =
    record {
      ready = all_ready g.R.Rack (layout_of c.args.uber) (group_of (kept_of c.args.uber)) c.args.shards.items c.requires.shards;
      floor = λ m shard there. (let is = c.requires.shards.each m shard there in
          let high = open_high shard.open_group shard.closing shard.committed shard.sealed is.valid.groups in
          let committed = is.committed in
          let group = c.committed-floor.ensures in
          omega (arith, high, committed, group));
      last = (let low = c.requires.uber.low in let group = c.committed-floor.ensures in omega (arith, low, group));
    }

pub returns : goal.returns
returns g c = record {
  whole = imported_whole g.R.Rack g.A.Area _ (layout_of c.args.uber) c.args.shards.items (get nat_eq c.args.found.newest) c.requires.uber refl c.geometry.ensures c.requires.shards c.requires.pointers c.requires.last c.requires.fits c.requires.early c.requires.together c.requires.low c.free_all.ensures.freed
      (λ object. refl) (ap (λ n. n + 1) c.committed-floor.ensures);
  made = record {
    uber_is = refl;
    layout = c.geometry.ensures;
    objects = λ object. refl;
    seq_is = refl;
    floor = ap (λ n. n + 1) c.committed-floor.ensures;
    freed = c.free_all.ensures.freed;
    only = c.free_all.ensures.only;
  };
  imports = λ x pieces f.
      (let newest = get nat_eq c.args.found.newest in
      let floor = ap (λ n. n + 1) c.committed-floor.ensures in
      let freed = c.free_all.ensures.keeps x c.args.uber pieces c.args.found.seq refl floor f in
      found_imports g.R.Rack g.A.Area x pieces c.args.uber newest c.args.found.seq _ freed _ c.free_all.ensures.only refl refl c.geometry.ensures refl
      (floor ∙ ap (λ n. n + 1) (found_group g.R.Rack g.A.Area x c.args.uber pieces newest c.args.found.seq _ freed)) (λ object. refl));
}

pub overflow_add-floor : goal.overflow_add-floor
overflow_add-floor g c = (let low = c.requires.uber.low in let group = c.committed-floor.ensures in omega (arith, low, group))
