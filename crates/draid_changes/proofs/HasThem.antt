-- Whether the last arm of a slot is a leaf that missed nothing, and has others beside it: as it is looked up.
use Rattle.std.proofs.Common.{◌≡◌, ◌<◌, ◌≤◌, ◌+◌, ◌-◌, ◌^◌, ◌∙◌, inl, inr, ℕ, true, false, List, Some, arith, refl, sym, ap, subst, length, [], ◌==◌}
use Rattle.std.specs.Prelude.{slice_get, slice_index_or, All, IsTrue, ◌↔◌}
use Rattle.std.proofs.lemmas.Bool.{cases_lt}
use Rattle.std.proofs.lemmas.Option.{slice_get-get_or, slice_get_within}
use Rattle.draid_names.specs.declared.arm.Arm.{Arm}
use Rattle.draid_names.specs.declared.arm.ArmKind.TheVariants as kind
use Rattle.draid_machine.specs.declared.names.ArmName.{ArmName}
use Rattle.draid_machine.proofs.Small.{equal, is_equal, some_same}
use Rattle.draid_ranges.specs.Numbers.{Numbers, has}
use Rattle.draid_slots.specs.States.{name_of}
use Rattle.draid_slots.specs.Table.{IsTable, SlotTable, arm_at, arms_of, count_of, is_spare_kind, log_at}
use Rattle.draid_slots.proofs.Refusals.{none_below}
use Rattle.draid_shard.specs.declared.shard.Shard.{Shard}
use Rattle.draid_disks.specs.Checks.{Each}
use Rattle.draid_disks.specs.Disks.{IsNamed}
use Rattle.draid_pool.proofs.Lists.{some_of}
use Rattle.draid_changes.specs.Balancing.{HasOthers, last_place}
use Rattle.draid_changes.proofs.Staying.{none_counted}

-- ---- the metaslabs, one after another

abbrev pub Below : {R A : Type 0} → (Shard R A → Type 0) → List (Shard R A) → ℕ → Type 0
Below {R} {A} P shards k = (m : ℕ) (shard : Shard R A) → m < k → slice_get shards m ≡ Some shard → P shard

pub below_more : {R A : Type 0} (P : Shard R A → Type 0) (shards : List (Shard R A)) (k : ℕ) (shard : Shard R A) → slice_get shards k ≡ Some shard → P shard → Below P shards k → Below P shards (k + 1)
below_more P shards k shard there is below m other less at = elim (cases_lt m k) [
  | inl before ↦ below m other before at
  | inr past ↦ (let here : m ≡ k = omega (arith, less, past) in subst P (some_of (slice_get shards k) shard other there (ap (slice_get shards) (sym here) ∙ at)) is)
]

pub below_all : {R A : Type 0} (P : Shard R A → Type 0) (shards : List (Shard R A)) (k : ℕ) → length shards ≤ k → Below P shards k → Each P shards
below_all P shards k end below m shard at = (let within = slice_get_within shards m shard at in below m shard (omega (arith, end, within)) at)

-- ---- a log

none_logged : (log : Numbers) → count_of log ≡ 0 → ((x : ℕ) → 2 ^ 48 ≤ x → has log x ≡ false) → (x : ℕ) → has log x ≡ false
none_logged log none high x = elim (cases_lt x (2 ^ 48)) [
  | inl low ↦ none_below (has log) (2 ^ 48) none x low
  | inr past ↦ high x past
]

-- ---- a slot

-- there is one arm at most
pub too_few : (slots : SlotTable) (slot : ℕ) → length (arms_of slots slot) < 2 → HasOthers slots slot → ⊥
too_few slots slot few h = (let more = h.others in omega (arith, few, more))

-- the last is a spare
spare_last : (slots : SlotTable) (slot : ℕ) (a : Arm) → arm_at slots (last_place slots slot) ≡ Some a → a.kind ≡ kind.Spare → HasOthers slots slot → ⊥
spare_last slots slot a there is h =
    let leaf = h.leaf.1 in
    let one = some_same (arm_at slots (last_place slots slot)) a leaf.0 there leaf.1 in
    let both : kind.Spare ≡ kind.Leaf = sym is ∙ (ap (λ (b : Arm). b.kind) one ∙ leaf.2) in
    absurd (cc)

-- it is a leaf: by the number of groups in its log
leaf_last : (slots : SlotTable) (slot : ℕ) (a : Arm) (log : Numbers) → 1 < length (arms_of slots slot) → arm_at slots (last_place slots slot) ≡ Some a → a.kind ≡ kind.Leaf → log ≡ log_at slots (last_place slots slot)
    → ((x : ℕ) → 2 ^ 48 ≤ x → has log x ≡ false) → (count : ℕ) → count ≡ count_of log → IsTrue (count == 0) ↔ HasOthers slots slot
leaf_last slots slot a log more there is log_is high count counted = (whole, empty)
  where
    whole : IsTrue (count == 0) → HasOthers slots slot
    whole none = record {
      others = more;
      leaf = (a.number, (a, there, is, refl));
      empty = λ group. subst (λ l. has l group ≡ false) log_is (none_logged log (sym counted ∙ is_equal count 0 none) high group);
    }

    empty : HasOthers slots slot → IsTrue (count == 0)
    empty h = equal count 0 (counted ∙ none_counted (has log) (2 ^ 48) (λ group. subst (λ l. has l group ≡ false) (sym log_is) (h.empty group)))

-- so it is looked up
module _ (slots : SlotTable) (slot : ℕ) (xs : List Arm) (other : Arm) (same : xs ≡ arms_of slots slot) (more : 2 ≤ length xs) where
  place_is : record { slot = slot; arm = length xs - 1 } ≡ last_place slots slot
  place_is = ap (λ (ys : List Arm). record { slot = slot; arm = length ys - 1 }) same

  last_there : arm_at slots (last_place slots slot) ≡ Some (slice_index_or xs (length xs - 1) other)
  last_there = subst (λ (ys : List Arm). slice_get ys (length ys - 1) ≡ Some (slice_index_or xs (length xs - 1) other)) same (slice_get-get_or xs (length xs - 1) other (omega (arith, more)))

  pub spare_looked : (slice_index_or xs (length xs - 1) other).kind ≡ kind.Spare → HasOthers slots slot → ⊥
  spare_looked is = spare_last slots slot (slice_index_or xs (length xs - 1) other) last_there is

  pub leaf_looked : (log : Numbers) → (slice_index_or xs (length xs - 1) other).kind ≡ kind.Leaf → log ≡ log_at slots (record { slot = slot; arm = length xs - 1 }) → ((x : ℕ) → 2 ^ 48 ≤ x → has log x ≡ false)
      → (count : ℕ) → count ≡ count_of log → IsTrue (count == 0) ↔ HasOthers slots slot
  leaf_looked log is log_is high count counted =
      leaf_last slots slot (slice_index_or xs (length xs - 1) other) log (let long = ap length same in omega (arith, more, long)) last_there is (log_is ∙ ap (log_at slots) place_is) high count counted

-- the first arm, by its name
pub first_is : (slots : SlotTable) (slot : ℕ) (xs : List Arm) (other : Arm) (n : ArmName) → IsTable slots → slot < slots.geometry.spec.children → xs ≡ arms_of slots slot → 0 < length xs
    → (((slice_index_or xs 0 other).kind ≡ kind.Spare → (slice_index_or xs 0 other).number < 2 ^ 32) → n ≡ name_of (slice_index_or xs 0 other)) → IsNamed slots (record { slot = slot; arm = 0 }) n
first_is slots slot xs other n sound low same some called =
    (slice_index_or xs 0 other, ap (λ (ys : List Arm). slice_get ys 0) (sym same) ∙ slice_get-get_or xs 0 other some, sym (called small))
  where
    small : (slice_index_or xs 0 other).kind ≡ kind.Spare → (slice_index_or xs 0 other).number < 2 ^ 32
    small spare =
        let children = sound.slots.children in
        let here = sound.slots.each slot [] (omega (arith, low, children)) in
        let pooled = subst (λ (ys : List Arm). All (λ (arm : Arm). is_spare_kind arm.kind ≡ true → arm.number < slots.geometry.spec.spares) ys) (sym same) here.pooled in
        let less = pooled 0 other some (ap is_spare_kind spare) in
        let few = sound.layout.geometry_is.spec.most_spares in
        omega (arith, less, few)
