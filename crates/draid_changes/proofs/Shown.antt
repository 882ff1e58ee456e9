-- What metaslabs show of the slots, one after another.
use Rattle.std.proofs.Common.{◌≡◌, ◌<◌, ◌+◌, ◌++◌, ◌∙◌, [], ◌∷◌, ℕ, zero, suc, true, List, Some, arith, ap, refl, length}
use Rattle.std.specs.Prelude.{slice_get}
use Rattle.draid_names.specs.declared.arm.Arm.{Arm}
use Rattle.draid_machine.proofs.Small.{absurd_test}
use Rattle.draid_slots.specs.Table.{IsTable, SlotTable, arms_of, has_leaf}
use Rattle.draid_shard.specs.declared.shard.Shard.{Shard}
use Rattle.draid_agent.specs.declared.states.SlotState.{SlotState}
use Rattle.draid_disks.specs.Checks.{AreAlike}
use Rattle.draid_changes.specs.Dues.{shown_from, shown_of}

-- one slot more
pub shown_more : {R A : Type 0} (slots : SlotTable) (shards : List (Shard R A)) (slot n : ℕ) → shown_from slots shards slot (suc n) ≡ shown_from slots shards slot n ++ shown_of slots shards (slot + n) ∷ []
shown_more {R} {A} slots shards slot zero = ap (λ k. shown_of {R = R} {A = A} slots shards k ∷ []) (let same : slot ≡ slot + 0 = omega arith in same)
shown_more {R} {A} slots shards slot (suc n) =
    ap (λ (states : List SlotState). shown_of slots shards slot ∷ states)
    (shown_more slots shards (slot + 1) n ∙ ap (λ k. shown_from slots shards (slot + 1) n ++ shown_of {R = R} {A = A} slots shards k ∷ []) (let same : slot + 1 + n ≡ slot + suc n = omega arith in same))

-- each slot has an arm
some_arm : (arms : List Arm) → has_leaf arms ≡ true → 0 < length arms
some_arm [] has = absurd_test (has_leaf []) has refl
some_arm (a ∷ arms) has = omega arith

pub has_arm : (slots : SlotTable) (slot : ℕ) → IsTable slots → slot < slots.geometry.spec.children → 0 < length (arms_of slots slot)
has_arm slots slot sound low =
    let children = sound.slots.children in
    some_arm (arms_of slots slot) (sound.slots.each slot [] (omega (arith, children, low))).leaf

pub has_arm_there : {R A : Type 0} (slots : SlotTable) (shards : List (Shard R A)) (slot : ℕ) → IsTable slots → slot < slots.geometry.spec.children → AreAlike slots shards → (m : ℕ) (shard : Shard R A) → slice_get shards m ≡ Some shard
    → 0 < length (arms_of shard.slots slot)
has_arm_there slots shards slot sound low alike m shard there =
    let some = has_arm slots slot sound low in
    let many = ((alike m shard there).slots slot low).many in
    omega (arith, some, many)
