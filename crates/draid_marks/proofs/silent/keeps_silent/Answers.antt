use Rattle.std.proofs.Common.{◌<◌, ◌&&◌, ◌∙◌, ℕ, sym, subst, ap}
use Rattle.draid_machine.proofs.Small.{any_at, true_both}
use Rattle.draid_spec.specs.declared.layout.Geometry.{Geometry}
use Rattle.draid_marks.specs.Silent.{has_column_in, is_silent_in}
use Rattle.draid_marks.proofs.silent.keeps_silent.Goals as goal

pub returns-then-is_silent : goal.returns-then-is_silent
returns-then-is_silent c =
    let slots = c.args.slots.now in
    let inside : c.loop-slice.slice < slots.geometry.props.slices = subst (λ (n : ℕ). c.loop-slice.slice < n) (c.from-slice-end.ensures ∙ ap (λ (x : Geometry). x.props.slices) c.geometry.ensures.geometry) c.loop-slice-test.true in
    sym (any_at slots.geometry.props.slices (λ slice. has_column_in slots c.args.at.slot slice && is_silent_in slots c.args.failed.now c.args.at slice) c.loop-slice.slice inside
    (true_both (has_column_in slots c.args.at.slot c.loop-slice.slice) (is_silent_in slots c.args.failed.now c.args.at c.loop-slice.slice)
    (sym c.has_column_in_slice.ensures ∙ c.if-has_column_in_slice.true) (sym c.is_silent.ensures ∙ c.if-is_silent.true)))
