use Rattle.std.proofs.Common.{rules}
use Rattle.draid_world.proofs.Sizes.{few_stripes}
use Rattle.draid_world.proofs.site.Site.pool_number.Goals as goal

pub overflow_mul-result : goal.overflow_mul-result
overflow_mul-result c =
    let few = few_stripes c.args.self.now.geometry c.args.self.now.metaslab c.args.self.now.laid.geometry_is c.args.self.now.there in
    search (rules, few)

pub overflow_add-result : goal.overflow_add-result
overflow_add-result c =
    let few = few_stripes c.args.self.now.geometry c.args.self.now.metaslab c.args.self.now.laid.geometry_is c.args.self.now.there in
    search (rules, few)
