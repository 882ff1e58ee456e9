use Rattle.std.proofs.Common.{◌<◌, ◌≤◌, length}
use Rattle.draid_machine.specs.declared.names.ArmName.TheVariants.{Leaf}
use Rattle.draid_world.specs.World.{core_of, site_layout}
use Rattle.draid_passes.proofs.Grown.{names_all, names_more, names_none}
use Rattle.draid_passes.proofs.blocks.add_names.Goals as goal

pub loop-name-init : goal.loop-name-init
loop-name-init c =
    let part = c.args.part in
    names_none (site_layout c.args.site.now) (core_of c.args.tables.now).order part.key part.held part.column c.args.out.now.items

pub loop-name-preserved : goal.loop-name-preserved
loop-name-preserved c =
    let part = c.args.part in
    let less : c.loop-name.name-index < length c.args.names.now = c.loop-name-test.true in
    names_more (site_layout c.args.site.now) (core_of c.args.tables.now).order part.key part.held part.column c.args.names.now c.loop-name.name-index (Leaf 0) c.args.out.now.items c.loop-name.out.items
    c.add_rows.new.out.items less c.loop-name.invariant c.in_ok-add_rows.ensures

pub returns : goal.returns
returns c =
    let part = c.args.part in
    let past : length c.args.names.now ≤ c.loop-name.name-index = c.loop-name-test.false in
    names_all (site_layout c.args.site.now) (core_of c.args.tables.now).order part.key part.held part.column c.args.names.now c.loop-name.name-index c.args.out.now.items c.loop-name.out.items past c.loop-name.invariant
