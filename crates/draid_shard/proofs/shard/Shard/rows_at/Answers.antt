use Rattle.std.proofs.Common.{◌<◌, ◌∙◌, arith, refl}
use Rattle.draid_spec.specs.Geometry.{metaslab_stripes}
use Rattle.draid_shard.specs.States.{part_of}
use Rattle.draid_shard.proofs.Placed.{sector_at, sector_low, slice_at_first, slot_at}
use Rattle.draid_shard.proofs.shard.Shard.rows_at.Goals as goal

pub overflow_add-result : goal.overflow_add-result
overflow_add-result g c =
    let some = c.requires.run.some in
    let inside = c.requires.run.inside in
    let less : c.args.pointer.now.first < metaslab_stripes c.args.self.now.geometry = omega (arith, some, inside) in
    let low = sector_low (part_of c.args.self.now) c.requires.part c.args.pointer.now.first c.args.place.now c.requires.place c.args.column less c.requires.column _ _ c.from-row.ensures c.from.ensures in
    omega (arith, low)

pub returns : goal.returns
returns g c =
    let part = part_of c.args.self.now in
    let at = c.requires.place in
    let first = sector_at part c.requires.part c.args.pointer.now.first c.args.place.now at c.args.column _ _ c.from-row.ensures c.from.ensures in
    record {
      slot_is = c.child.ensures.formula ∙ slot_at part c.requires.part c.args.pointer.now.first c.args.place.now at c.args.column;
      first_is = first;
      count_is = c.from-2.ensures;
      size_is = refl;
      birth_is = refl;
      slice_is = slice_at_first part c.requires.part c.args.pointer.now.first c.args.place.now at c.args.column c.requires.column _ first;
    }
