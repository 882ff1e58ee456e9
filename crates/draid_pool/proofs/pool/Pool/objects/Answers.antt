use Rattle.draid_pool.proofs.Counted.{has_names, has_objects}
use Rattle.draid_pool.proofs.pool.Pool.objects.Goals as goal

pub returns : goal.returns
returns g c = record {
  names = has_names c.args.self.now.own.objects c.len.result c.len.ensures.unique c.len.ensures.len;
  state = λ x represents. has_objects c.args.self.now.metaslabs.shards.items c.args.self.now.own.objects x.store.changes c.len.result c.len.ensures.unique c.len.ensures.len represents.stands.objects;
}
