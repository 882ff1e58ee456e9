use Rattle.std.proofs.Common.{◌≡◌, ◌<◌, ◌≤◌, List, length, subst, sym}
use Rattle.std.specs.Prelude.{All}
use Rattle.draid_shard.specs.Fits.{Valid}
use Rattle.draid_shard.specs.declared.shard.Shard.{Shard}
use Rattle.draid_status.proofs.Viewed.{all_laid, pool_told, some_shards}
use Rattle.draid_pool.proofs.Wholes.{all_whole, few_whole}
use Rattle.draid_status.proofs.viewing.view.Goals as goal

pub slot_views-requires : goal.slot_views-requires
slot_views-requires g c = record {
  some = subst (λ (xs : List (Shard g.row.R.Denot g.row.A.Denot)). 0 < length xs) (sym c.as_slice-shards.ensures.value) (some_shards g.R.Rack g.A.Area c.args.pool.now c.requires.whole);
  few = subst (λ (xs : List (Shard g.row.R.Denot g.row.A.Denot)). length xs ≤ 64) (sym c.as_slice-shards.ensures.value) (few_whole g.R.Rack g.A.Area c.args.pool.now c.requires.whole);
  valid = subst (λ (xs : List (Shard g.row.R.Denot g.row.A.Denot)). All (Valid g.R.Rack) xs) (sym c.as_slice-shards.ensures.value) (all_whole g.R.Rack g.A.Area c.args.pool.now c.requires.whole);
  layout = subst (λ (xs : List (Shard g.row.R.Denot g.row.A.Denot)). All (λ (shard : Shard g.row.R.Denot g.row.A.Denot). shard.geometry ≡ c.args.pool.now.geometry) xs) (sym c.as_slice-shards.ensures.value)
      (all_laid g.R.Rack g.A.Area c.args.pool.now c.requires.whole);
}

pub metaslab_views-requires : goal.metaslab_views-requires
metaslab_views-requires g c =
    subst (λ (xs : List (Shard g.row.R.Denot g.row.A.Denot)). All (Valid g.R.Rack) xs) (sym c.as_slice-shards.ensures.value) (all_whole g.R.Rack g.A.Area c.args.pool.now c.requires.whole)

pub last_open_group-requires : goal.last_open_group-requires
last_open_group-requires g c = record {
  some = subst (λ (xs : List (Shard g.row.R.Denot g.row.A.Denot)). 0 < length xs) (sym c.as_slice-shards.ensures.value) (some_shards g.R.Rack g.A.Area c.args.pool.now c.requires.whole);
}

pub returns : goal.returns
returns g c = record {
  view = λ x represents.
      pool_told g.R.Rack g.A.Area c.args.pool.now x represents c.as_slice-shards.result.now c.as_slice-shards.ensures.value
      (record {
        name = c.in_ok-name.name;
        group = c.committed.result;
        open_group = c.last_open_group.result;
        objects = c.objects.result;
        slots = c.in_ok-slots.slots;
        metaslabs = c.in_ok-metaslabs.metaslabs;
      })
      c.in_ok-name.ensures (c.committed.ensures.state x represents) c.last_open_group.ensures (c.objects.ensures.state x represents) c.in_ok-slots.ensures.many c.in_ok-slots.ensures.slots
      c.in_ok-metaslabs.ensures;
}
