use Rattle.std.proofs.Common.{◌+◌, ◌∙◌, arith, refl, sym, subst, ap}
use Rattle.std.specs.Prelude.{nat_eq}
use Rattle.std.specs.HashMap.{get}
use Rattle.draid_rewinds.specs.Sweeps.{FreesOthers, IsOpenIn}
use Rattle.draid_rewinds.proofs.giving.give_up.Goals as goal

pub overflow_add-group : goal.overflow_add-group
overflow_add-group g c = (let low = c.requires.may.low in let same = c.committed-group.ensures in omega (arith, low, same))

pub free_others-freed-requires : goal.free_others-freed-requires
free_others-freed-requires g c = record {
  ready = λ m shard there. subst (λ n. IsOpenIn g.R.Rack (n + 1) shard) (sym c.committed-group.ensures) (c.requires.may.each m shard there);
  few = c.requires.may.few;
}

pub returns : goal.returns
returns g c =
    let u = c.give_up_point.ensures in
    let same = c.committed-group.ensures in
    record {
      gives = record {
        frees = subst (λ n. FreesOthers g.R.Rack g.A.Area (get nat_eq c.args.pool.now.own.objects) (n + 1) c.args.pool.now.metaslabs.shards.items c.free_others-freed.result c.free_others-freed.new.shards.items) same c.free_others-freed.ensures.frees;
        uber = record {
          sets = record { valid = u.valid; changed = u.changed ∙ ap (λ n. n + 1) same; areas_are = u.areas; kept = u.kept; layout = u.layout; version = u.version; leaf = u.leaf };
          point = u.point;
          drops = u.drops;
          told = u.told;
        };
        geometry = refl;
        objects = refl;
        seq = refl;
        floor = (let most = c.max-pool.ensures in omega (arith, most, same));
      };
    }
