use Rattle.std.proofs.Common.{◌<◌, ◌&&◌, ◌∙◌, ℕ, sym, subst, ap}
use Rattle.draid_machine.proofs.Small.{any_at, true_both}
use Rattle.draid_spec.specs.declared.layout.Geometry.{Geometry}
use Rattle.draid_marks.specs.Lying.{keeps_in}
use Rattle.draid_marks.specs.Silent.{has_column_in}
use Rattle.draid_marks.proofs.lying.keeps.Goals as goal

pub returns-then-keeps_slice : goal.returns-then-keeps_slice
returns-then-keeps_slice c =
    let slots = c.args.slots.now in
    let inside : c.loop-slice.slice < slots.geometry.props.slices = subst (λ (n : ℕ). c.loop-slice.slice < n) (c.from-slice-end.ensures ∙ ap (λ (x : Geometry). x.props.slices) c.geometry.ensures.geometry) c.loop-slice-test.true in
    sym (any_at slots.geometry.props.slices (λ slice. has_column_in slots c.args.at.slot slice && keeps_in slots c.args.leaf c.args.at slice) c.loop-slice.slice inside
    (true_both (has_column_in slots c.args.at.slot c.loop-slice.slice) (keeps_in slots c.args.leaf c.args.at c.loop-slice.slice)
    (sym c.has_column_in_slice.ensures ∙ c.if-has_column_in_slice.true) (sym c.keeps_slice.ensures ∙ c.if-keeps_slice.true)))
