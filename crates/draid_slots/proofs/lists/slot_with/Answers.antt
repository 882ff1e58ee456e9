use Rattle.std.proofs.Common.{[], map, arith, ap, sym, ◌∙◌, inl, inr}
use Rattle.std.specs.Prelude.{slice_index_or}
use Rattle.std.proofs.lemmas.Bool.{cases_eq}
use Rattle.draid_slots.specs.Table.{arms_in, has_spare}
use Rattle.std.proofs.lemmas.List.{get_or-map}
use Rattle.draid_slots.proofs.lists.slot_with.Goals as goal

pub loop-slot-preserved : goal.loop-slot-preserved
loop-slot-preserved c slot below = elim (cases_eq slot c.loop-slot.slot) [
  | inl same ↦
      ap (λ k. has_spare (slice_index_or (map arms_in c.args.slots.now) k []) c.args.spare) same
      ∙ ap (λ arms. has_spare arms c.args.spare) (get_or-map arms_in c.args.slots.now c.loop-slot.slot c.index-slots-slot.result [] (omega arith))
      ∙ ap (λ arms. has_spare arms c.args.spare) (sym c.deref.ensures.value)
      ∙ sym c.has_spare.ensures ∙ c.if-has_spare.false
  | inr differs ↦ c.loop-slot.invariant slot (omega arith)
]

pub offset_bounds-slots-slot : goal.offset_bounds-slots-slot
offset_bounds-slots-slot c = omega arith

pub bounds-slots-slot : goal.bounds-slots-slot
bounds-slots-slot c = omega arith

pub overflow_cast-result : goal.overflow_cast-result
overflow_cast-result c = omega arith
