use Rattle.std.proofs.Common.{Some, ap, refl}
use Rattle.std.specs.Prelude.{option_map}
use Rattle.draid_rack.specs.Memory.{shape_of_memory}
use Rattle.draid_shelf.specs.Memory.{area_count, counts_by}
use Rattle.draid_shelf.proofs.Holdings.{held_set, set_here}
use Rattle.draid_shelf.proofs.kits.MemoryShelfShelf.give.Goals as goal

pub returns-clause-told : goal.returns-clause-told
returns-clause-told c = held_set c.args.metaslab (Some c.args.kit.rack) (Some c.args.kit.even) (Some c.args.kit.odd) c.args.self.now.devices _ c.put_on.ensures c.put_on-2.ensures c.put_on-3.ensures refl refl refl

pub returns-clause-rack_count : goal.returns-clause-rack_count
returns-clause-rack_count c = λ who. ap (λ x. counts_by x who) (set_here _ _ (Some c.args.kit.rack) c.args.metaslab (c.put_on.ensures c.args.metaslab))

pub returns-clause-even_count : goal.returns-clause-even_count
returns-clause-even_count c = ap (λ x. area_count x) (set_here _ _ (Some c.args.kit.even) c.args.metaslab (c.put_on-2.ensures c.args.metaslab))

pub returns-clause-odd_count : goal.returns-clause-odd_count
returns-clause-odd_count c = ap (λ x. area_count x) (set_here _ _ (Some c.args.kit.odd) c.args.metaslab (c.put_on-3.ensures c.args.metaslab))

pub returns-clause-leaves : goal.returns-clause-leaves
returns-clause-leaves c = ap (option_map shape_of_memory) (set_here _ _ (Some c.args.kit.rack) c.args.metaslab (c.put_on.ensures c.args.metaslab))
