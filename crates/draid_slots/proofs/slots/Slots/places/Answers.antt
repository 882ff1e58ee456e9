use Rattle.std.proofs.Common.{◌≡◌, ◌<◌, ◌≤◌, ◌^◌, ℕ, None, true, List, map, arith, sym, subst}
use Rattle.std.specs.Prelude.{All}
use Rattle.draid_names.specs.declared.arm.Arm.{Arm}
use Rattle.draid_names.specs.Spares.{AreUsed, IsArm}
use Rattle.draid_chain.specs.Used.{first_in}
use Rattle.draid_slots.specs.declared.slot.Slot.{Slot}
use Rattle.draid_slots.specs.Table.{SlotTable, arms_in, arms_of, has_leaf, has_spare, is_spare_kind}
use Rattle.draid_slots.proofs.Settled.{AreFirst, arm_settled, each_slot, past_settled, used_settled}
use Rattle.draid_slots.proofs.Spares.{held_left}
use Rattle.draid_slots.proofs.slots.Slots.places.Goals as goal

pub places_of-requires-clause-numbers : goal.places_of-requires-clause-numbers
places_of-requires-clause-numbers c =
    let A : List Slot → Type 0 = λ slots. All (λ (slot : Slot). All (λ (arm : Arm). is_spare_kind arm.kind ≡ true → arm.number < 2 ^ 32) (arms_in slot)) slots in
    subst A (sym c.deref.ensures.value) (λ k d below k' d' below' kind.
    let low = (each_slot c.self.inside.geometry c.self.inside.slots.items c.self.inside.detached.items k d c.self.invariant.sound.slots below).pooled k' d' below' kind in
    let few = c.self.invariant.sound.layout.geometry_is.spec.most_spares in
    omega arith)

pub places_of-requires-clause-leaves : goal.places_of-requires-clause-leaves
places_of-requires-clause-leaves c =
    let A : List Slot → Type 0 = λ slots. All (λ (slot : Slot). has_leaf (arms_in slot) ≡ true) slots in
    subst A (sym c.deref.ensures.value) (λ k d below. (each_slot c.self.inside.geometry c.self.inside.slots.items c.self.inside.detached.items k d c.self.invariant.sound.slots below).leaf)

pub returns-clause-used : goal.returns-clause-used
returns-clause-used c =
    let s = c.self.inside in
    let F : List Slot → Type 0 = λ slots. AreFirst (first_in c.places_of.result.used) (map arms_in slots) in
    let T : SlotTable → Type 0 = λ t. AreUsed t.geometry.spec.children t.geometry.spec.spares (first_in c.places_of.result.used) in
    subst T c.self.view_is
    (used_settled s.geometry (map arms_in s.slots.items) s.detached.items (first_in c.places_of.result.used) c.self.invariant.sound.slots (subst F c.deref.ensures.value c.places_of.ensures.used))

pub returns-clause-arms : goal.returns-clause-arms
returns-clause-arms c =
    let s = c.self.inside in
    let arms = map arms_in s.slots.items in
    let are = c.self.invariant.sound.slots in
    let F : List Slot → Type 0 = λ slots. AreFirst (first_in c.places_of.result.used) (map arms_in slots) in
    let T : SlotTable → Type 0 = λ t. (slot spare : ℕ) → has_spare (arms_of t slot) spare ≡ true → IsArm t.geometry.spec.children t.geometry.spec.spares (first_in c.places_of.result.used) slot spare in
    subst T c.self.view_is (λ slot spare h.
    arm_settled s.geometry arms arms s.detached.items (first_in c.places_of.result.used) slot spare are (subst F c.deref.ensures.value c.places_of.ensures.used)
    (λ other there. are.once spare other slot (held_left arms s.detached.items spare other there) (held_left arms s.detached.items spare slot h)) h)

pub returns-clause-past : goal.returns-clause-past
returns-clause-past c =
    let s = c.self.inside in
    let F : List Slot → Type 0 = λ slots. AreFirst (first_in c.places_of.result.used) (map arms_in slots) in
    let T : SlotTable → Type 0 = λ t. (k : ℕ) → t.geometry.spec.children ≤ k → first_in c.places_of.result.used k ≡ None in
    subst T c.self.view_is
    (past_settled (map arms_in s.slots.items) (first_in c.places_of.result.used) s.geometry.spec.children (subst F c.deref.ensures.value c.places_of.ensures.used) c.self.invariant.sound.slots.children)
