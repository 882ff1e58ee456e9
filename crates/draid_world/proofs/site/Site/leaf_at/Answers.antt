use Rattle.std.proofs.Common.{◌∙◌, ap, sym, rules}
use Rattle.draid_machine.specs.Arms as arms
use Rattle.draid_world.specs.World.{names_at, site_layout}
use Rattle.draid_world.proofs.Sizes.{spare_leaf}
use Rattle.draid_world.proofs.site.Site.leaf_at.Goals as goal

pub returns-else-spare-self : goal.returns-else-spare-self
returns-else-spare-self c =
    c.first_leaf.ensures
    ∙ spare_leaf (site_layout c.args.self.now) (names_at c.args.order.now) c.in-Spare.spare c.args.stripe c.home.result c.names_of.result.now (search rules) c.home.ensures (sym c.names_of.ensures)
    ∙ ap (λ n. arms.leaf_at (site_layout c.args.self.now) (names_at c.args.order.now) n c.args.stripe) (sym c.in-Spare.is)
