use Rattle.std.proofs.Common.{◌==◌, ◌||◌, ◌∙◌, not, ap, sym}
use Rattle.std.specs.List.{list_any}
use Rattle.draid_spec.specs.Geometry.{slice_sectors}
use Rattle.draid_marks.proofs.Silence.{front_inside, silent_by, slice_front}
use Rattle.draid_marks.proofs.silent.is_silent.Goals as goal

pub returns-then-not-answers : goal.returns-then-not-answers
returns-then-not-answers c =
    let slots = c.args.slots.now in
    let size = c.slice_sectors.ensures.value ∙ ap slice_sectors c.geometry-geometry.ensures.geometry in
    ap not c.if-not-answers.true
    ∙ sym (ap (λ b. not b || list_any (λ y. y == c.place-leaf.result.leaf) c.args.failed.now) (sym c.answers.ensures ∙ c.if-not-answers.true))
    ∙ silent_by slots c.args.failed.now c.args.at c.args.slice _ c.place-leaf.result.leaf
    (slice_front slots c.geometry-geometry.ensures.sound.layout c.args.slice c.slice_sectors.result size) c.place-leaf.ensures.leaf

pub returns-else-not-answers : goal.returns-else-not-answers
returns-else-not-answers c =
    let slots = c.args.slots.now in
    let size = c.slice_sectors.ensures.value ∙ ap slice_sectors c.geometry-geometry.ensures.geometry in
    c.is_among.ensures
    ∙ sym (ap (λ b. not b || list_any (λ y. y == c.place-leaf.result.leaf) c.args.failed.now) (sym c.answers.ensures ∙ c.if-not-answers.false))
    ∙ silent_by slots c.args.failed.now c.args.at c.args.slice _ c.place-leaf.result.leaf
    (slice_front slots c.geometry-geometry.ensures.sound.layout c.args.slice c.slice_sectors.result size) c.place-leaf.ensures.leaf

pub place-leaf-requires : goal.place-leaf-requires
place-leaf-requires c =
    let slots = c.args.slots.now in
    let size = c.slice_sectors.ensures.value ∙ ap slice_sectors c.geometry-geometry.ensures.geometry in
    record {
      there = c.requires.there;
      sector = front_inside slots c.geometry-geometry.ensures.sound.layout c.args.slice c.slice_sectors.result size c.requires.slice;
    }

pub answers-requires : goal.answers-requires
answers-requires c = record { there = c.requires.there; slice = c.requires.slice }
