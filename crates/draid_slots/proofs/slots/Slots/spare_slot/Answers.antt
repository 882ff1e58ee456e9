use Rattle.std.proofs.Common.{◌<◌, arith, ◌≡◌, ◌≤◌, ◌+◌, ◌*◌, ℕ, List, Option, None, take, ap₂, sym, ◌∙◌, subst, inl, inr}
use Rattle.std.proofs.lemmas.Bool.{cases_lt}
use Rattle.std.proofs.lemmas.List.{get_or-take, get_or_past, length-take}
use Rattle.draid_chain.specs.Chain.{holder_in}
use Rattle.draid_chain.specs.Used.{first_in}
use Rattle.draid_names.specs.Spares.{AreUsed, IsArm}
use Rattle.draid_slots.specs.Reading.{pool_slice}
use Rattle.draid_slots.specs.Table.{SlotTable}
use Rattle.draid_slots.proofs.slots.Slots.spare_slot.Goals as goal

-- past the first n slots no spare is first
first_at : (n : ℕ) (used : List (Option ℕ)) → ((k : ℕ) → n ≤ k → first_in used k ≡ None) → (k : ℕ) → first_in (take n used) k ≡ first_in used k
first_at n used past k = elim (cases_lt k n) [
  | inl lt ↦ get_or-take n used k None lt
  | inr ge ↦ get_or_past (take n used) k None (omega (arith, length-take n used, ge)) ∙ sym (past k ge)
]

first_kept : (n : ℕ) (used : List (Option ℕ)) → ((k : ℕ) → n ≤ k → first_in used k ≡ None) → first_in (take n used) ≡ first_in used
first_kept n used past = λ i k. first_at n used past k i

pub slice_holder-requires-clause-used : goal.slice_holder-requires-clause-used
slice_holder-requires-clause-used c =
    let used : List (Option ℕ) = c.args.places.now.used in
    subst (λ (t : SlotTable). AreUsed t.geometry.spec.children t.geometry.spec.spares (first_in (take t.geometry.spec.children used))) (sym c.self.view_is)
    (subst (λ (first : ℕ → Option ℕ). AreUsed c.args.self.now.geometry.spec.children c.args.self.now.geometry.spec.spares first) (sym (first_kept _ used c.requires.past)) c.requires.used)

pub slice_holder-requires-clause-arm : goal.slice_holder-requires-clause-arm
slice_holder-requires-clause-arm c =
    let used : List (Option ℕ) = c.args.places.now.used in
    subst (λ (t : SlotTable). IsArm t.geometry.spec.children t.geometry.spec.spares (first_in (take t.geometry.spec.children used)) c.args.slot c.args.spare) (sym c.self.view_is)
    (subst (λ (first : ℕ → Option ℕ). IsArm c.args.self.now.geometry.spec.children c.args.self.now.geometry.spec.spares first c.args.slot c.args.spare) (sym (first_kept _ used c.requires.past)) c.requires.arm)

pub returns-clause-slot : goal.returns-clause-slot
returns-clause-slot c =
    let used : List (Option ℕ) = c.args.places.now.used in
    let past = subst (λ (t : SlotTable). (k : ℕ) → t.geometry.spec.children ≤ k → first_in used k ≡ None) (sym c.self.view_is) c.requires.past in
    let slice = ap₂ (λ (m n : ℕ). m * n + c.args.slice) c.from.ensures c.from-2.ensures in
    subst (λ (t : SlotTable). c.slice_holder.result ≡ holder_in t.perms t.geometry.spec.spares (pool_slice t c.args.slice) (first_in used) c.args.slot c.args.spare) c.self.view_is
    (c.slice_holder.ensures.slot
    ∙ ap₂ (λ (n : ℕ) (first : ℕ → Option ℕ). holder_in c.self.inside.perms c.self.inside.geometry.spec.spares n first c.args.slot c.args.spare) slice (first_kept _ used past))

pub slice_holder-requires-clause-geometry : goal.slice_holder-requires-clause-geometry
slice_holder-requires-clause-geometry c = c.self.invariant.sound.layout.geometry_is

pub slice_holder-requires-clause-children : goal.slice_holder-requires-clause-children
slice_holder-requires-clause-children c = c.self.invariant.sound.layout.perms_are.children

pub returns-clause-below : goal.returns-clause-below
returns-clause-below c =
    let B : SlotTable → Type 0 = λ t. c.slice_holder.result < t.geometry.spec.children in
    subst B c.self.view_is c.slice_holder.ensures.below

pub shared_ref_as_front-slice_holder : goal.shared_ref_as_front-slice_holder
shared_ref_as_front-slice_holder c = omega arith
