use Rattle.std.proofs.Common.{◌&&◌, ◌||◌, ◌∙◌, not, ap}
use Rattle.std.specs.List.{list_any}
use Rattle.draid_machine.specs.After.{each_arm, log_if}
use Rattle.draid_machine.specs.Names.{has_name, has_segment}
use Rattle.draid_world.specs.World.{arm_in, core_of, names_at, site_layout}
use Rattle.draid_world.specs.declared.world.Tables.{Tables}
use Rattle.draid_steps.specs.Columns.{is_row}
use Rattle.draid_steps.proofs.Written.{put_made, rows_landed}
use Rattle.draid_steps.proofs.columns.write_column.Goals as goal

pub returns : goal.returns
returns c =
    let l = site_layout c.args.site.now in
    let w = c.args.world.now in
    let h = c.args.held.now in
    let landed = c.args.landed.now in
    let column = c.args.stage.0 in
    put_made l w c.log_slot.new.tables c.change.new.held c.add_landed.new.segments c.args.key h column c.args.stage.1 c.count_missed-missed.result landed c.log_slot.ensures.rest
    c.count_missed-missed.ensures
    (λ n. c.in_ok-log_slot.ensures.logs n
    ∙ ap (λ x. each_arm (λ m. log_if (has_name (names_at w.tables.order.items x) m && not (has_name landed m)) h.birth) (arm_in w.tables.arms.entries) n) c.slot_of-slot.ensures)
    c.change.ensures
    (λ s. c.in_ok-add_landed.ensures s
    ∙ ap (λ vs. has_segment w.present.keys s || list_any (λ n. is_row l (names_at vs) c.args.key h column n h.stripes s) landed)
    (c.deref.ensures.value ∙ ap (λ (t : Tables). t.order.items) c.log_slot.ensures.rest)
    ∙ ap (λ b. has_segment w.present.keys s || b) (rows_landed l (core_of w.tables) c.args.key h column landed s c.requires.column c.requires.listed))
