use Rattle.std.proofs.Common.{◌∙◌, Bool, ap, inl, inr, arith}
use Rattle.std.specs.List.{list_any}
use Rattle.std.proofs.lemmas.Bool.{cases_eq}
use Rattle.draid_machine.specs.declared.names.Segment.{Segment}
use Rattle.draid_machine.specs.Names.{has_segment}
use Rattle.draid_machine.proofs.Small.{true_left, true_right}
use Rattle.draid_world.specs.World.{names_at, site_layout}
use Rattle.draid_steps.specs.Columns.{is_row}
use Rattle.draid_images.proofs.Claiming.{on_row}
use Rattle.draid_images.proofs.openings.add_block.Goals as goal

pub loop-column-preserved : goal.loop-column-preserved
loop-column-preserved c =
    let l = site_layout c.args.site.now in
    let order = names_at c.args.order.now in
    let h = c.args.held.now in
    let ns = c.names_of-names.result.now in
    let rows : Segment → Bool = λ s. list_any (λ n. is_row l order c.args.key h c.loop-column.column n h.stripes s) ns in (
      (λ s has. c.in_ok-add_landed.ensures s ∙ true_left (has_segment c.loop-column.set.keys s) (rows s) (c.loop-column.invariant.0 s has)),
      (λ s key less on. elim (cases_eq s.column c.loop-column.column) [
        | inl at ↦
            c.in_ok-add_landed.ensures s
            ∙ true_right (has_segment c.loop-column.set.keys s) (rows s)
            (on_row l order c.args.key h c.loop-column.column ns s key at (c.names_of-names.ensures ∙ ap order c.slot_of.ensures) on)
        | inr other ↦
            c.in_ok-add_landed.ensures s
            ∙ true_left (has_segment c.loop-column.set.keys s) (rows s) (c.loop-column.invariant.1 s key (omega (arith, less, other)) on)
      ]),
    )
