use Rattle.std.proofs.Common.{◌∙◌}
use Rattle.draid_marks.proofs.Places.{slice_by, slice_fits, slot_by, stripe_fits}
use Rattle.draid_marks.proofs.Thinning.{read_none, silent_none}
use Rattle.draid_marks.proofs.counts.has_no_clean.Goals as goal

pub place-slot-requires-clause-stripe : goal.place-slot-requires-clause-stripe
place-slot-requires-clause-stripe c =
    let geometry = c.geometry-geometry in
    stripe_fits c.args.slots.now geometry.result.now c.from.result c.metaslab_stripes.result c.args.pointer.now.first geometry.ensures.geometry geometry.ensures.sound (c.from.ensures ∙ c.metaslab.ensures)
    c.metaslab_stripes.ensures.value c.requires.begins

pub reading_arm-requires-clause-slice : goal.reading_arm-requires-clause-slice
reading_arm-requires-clause-slice c =
    let geometry = c.geometry-geometry in
    slice_fits c.args.slots.now geometry.result.now c.from-2.result c.from-3.result c.args.pointer.now.first geometry.ensures.geometry geometry.ensures.sound c.from-2.ensures c.from-3.ensures c.requires.begins

pub returns-in-Some : goal.returns-in-Some
returns-in-Some c =
    let geometry = c.geometry-geometry in
    read_none c.args.slots.now c.args.pointer.now c.args.column c.place-slot.result.child _
    (slot_by c.args.slots.now geometry.result.now c.perms.result.now c.place-slot.result c.from.result c.metaslab_stripes.result c.args.pointer.now.first c.args.column c.place-slot.ensures geometry.ensures.geometry c.perms.ensures
    (c.from.ensures ∙ c.metaslab.ensures) c.metaslab_stripes.ensures.value)
    (slice_by c.args.slots.now geometry.result.now c.from-2.result c.from-3.result c.args.pointer.now.first geometry.ensures.geometry c.from-2.ensures c.from-3.ensures) c.in-Some.read c.in-Some.ensures.read

pub returns-in-None : goal.returns-in-None
returns-in-None c =
    let geometry = c.geometry-geometry in
    silent_none c.args.slots.now c.args.pointer.now c.args.column c.place-slot.result.child _
    (slot_by c.args.slots.now geometry.result.now c.perms.result.now c.place-slot.result c.from.result c.metaslab_stripes.result c.args.pointer.now.first c.args.column c.place-slot.ensures geometry.ensures.geometry c.perms.ensures
    (c.from.ensures ∙ c.metaslab.ensures) c.metaslab_stripes.ensures.value)
    (slice_by c.args.slots.now geometry.result.now c.from-2.result c.from-3.result c.args.pointer.now.first geometry.ensures.geometry c.from-2.ensures c.from-3.ensures) c.in-None.ensures.none
