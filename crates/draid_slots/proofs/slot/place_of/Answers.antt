use Rattle.std.proofs.Common.{length, arith, sym, ◌∙◌, inl, inr}
use Rattle.std.proofs.lemmas.Bool.{cases_lt}
use Rattle.std.proofs.lemmas.Option.{slice_get_past}
use Rattle.draid_slots.proofs.Settled.{none_some}
use Rattle.draid_slots.proofs.slot.place_of.Goals as goal

pub returns-clause-none : goal.returns-clause-none
returns-clause-none c = λ at h. elim (cases_lt at (length c.args.arms.now)) [
  | inl below ↦ c.loop-at.invariant at (omega arith) h
  | inr past ↦ none_some _ h.0 (sym (slice_get_past c.args.arms.now at past) ∙ h.1)
]

pub offset_bounds-arms-at : goal.offset_bounds-arms-at
offset_bounds-arms-at c = omega arith

pub bounds-arms-at : goal.bounds-arms-at
bounds-arms-at c = omega arith

pub offset_bounds-arms-at-then-arms-at : goal.offset_bounds-arms-at-then-arms-at
offset_bounds-arms-at-then-arms-at c = omega arith

pub bounds-arms-at-then-arms-at : goal.bounds-arms-at-then-arms-at
bounds-arms-at-then-arms-at c = omega arith

pub overflow_cast-result : goal.overflow_cast-result
overflow_cast-result c = omega arith
