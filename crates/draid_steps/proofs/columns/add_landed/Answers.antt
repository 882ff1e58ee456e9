use Rattle.std.proofs.Common.{◌||◌, ◌∙◌, Bool, ap, refl, sym}
use Rattle.std.specs.List.{list_any}
use Rattle.std.proofs.lemmas.List.{drop_all}
use Rattle.draid_machine.specs.Names.{has_segment}
use Rattle.draid_machine.specs.declared.names.ArmName.{ArmName}
use Rattle.draid_machine.specs.declared.names.ArmName.TheVariants.{Leaf}
use Rattle.draid_world.specs.World.{names_at, site_layout}
use Rattle.draid_world.proofs.SegmentLists.{or_false}
use Rattle.draid_steps.specs.Columns.{is_row}
use Rattle.draid_steps.proofs.Lists.{joins_any}
use Rattle.draid_steps.proofs.columns.add_landed.Goals as goal

pub loop-name-preserved : goal.loop-name-preserved
loop-name-preserved c = λ s.
    let h = c.args.held.now in
    let test : ArmName → Bool = λ n. is_row (site_layout c.args.site.now) (names_at c.args.order.now) c.args.key h c.args.column n h.stripes s in
    joins_any test c.args.landed.now c.loop-name.name-index (Leaf 0) (has_segment c.loop-name.segments.keys s) (has_segment c.add_rows.new.segments.keys s) c.loop-name-test.true (c.in_ok-add_rows.ensures s)
    ∙ c.loop-name.invariant s

pub loop-name-init : goal.loop-name-init
loop-name-init c = λ s. refl

pub returns : goal.returns
returns c = λ s.
    let h = c.args.held.now in
    let test : ArmName → Bool = λ n. is_row (site_layout c.args.site.now) (names_at c.args.order.now) c.args.key h c.args.column n h.stripes s in
    sym (or_false (has_segment c.loop-name.segments.keys s))
    ∙ ap (λ ns. has_segment c.loop-name.segments.keys s || list_any test ns) (sym (drop_all c.loop-name.name-index c.args.landed.now c.loop-name-test.false))
    ∙ c.loop-name.invariant s
