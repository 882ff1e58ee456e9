-- The slots that are due by the shards of a pool are those that are seen to be due.
use Rattle.std.proofs.Common.{◌≡◌, ◌==◌, ◌&&◌, ◌<◌, ◌≤◌, ◌∙◌, not, [], ◌∷◌, ℕ, suc, Bool, true, false, nat_le, List, Option, Some, None, arith, refl, sym, ap, subst, length, map, if◌then◌else◌}
use Rattle.std.specs.Prelude.{slice_get, slice_index_or}
use Rattle.draid_names.specs.declared.arm.Arm.{Arm}
use Rattle.draid_names.specs.declared.arm.ArmKind.{ArmKind}
use Rattle.draid_names.specs.declared.arm.ArmKind.TheVariants as kind
use Rattle.draid_names.specs.declared.journal.Cause.{Cause}
use Rattle.draid_names.specs.declared.journal.Cause.TheVariants.{Logged, Offline}
use Rattle.draid_rack.specs.declared.Rack as racks
use Rattle.draid_area.specs.declared.Area as areas
use Rattle.draid_machine.specs.Names.{named}
use Rattle.draid_machine.specs.State as machine
use Rattle.draid_machine.specs.declared.names.ArmName.{ArmName}
use Rattle.draid_machine.specs.declared.names.ArmName.TheVariants.{Leaf, Spare}
use Rattle.draid_machine.proofs.Small.{absurd_test, is_equal, is_low, low, some_same}
use Rattle.draid_slots.specs.Changes.{new_arm}
use Rattle.draid_slots.specs.States.{arm_in, name_of}
use Rattle.draid_slots.specs.Table.{arm_at, arms_of, count_at, is_leaf_kind}
use Rattle.draid_shard.specs.declared.shard.Shard.{Shard}
use Rattle.draid_agent.specs.Due.{cause_of}
use Rattle.draid_disks.specs.Checks.{missed_over}
use Rattle.draid_session.specs.Agent.{HasOneLeaf, IsDue, IsOff, IsntDue, logged_of}
use Rattle.draid_session.specs.Holds.{View, view_of}
use Rattle.draid_session.specs.State.{Metaslab, State}
use Rattle.draid_session.specs.Status.{groups_of}
use Rattle.draid_pool.specs.Pools.{Represents}
use Rattle.draid_pool.specs.Views.{seen_at}
use Rattle.draid_pool.specs.Whole.{IsWhole}
use Rattle.draid_pool.specs.declared.pool.Pool.{Pool}
use Rattle.draid_pool.proofs.Lifted.{HasMetaslab}
use Rattle.draid_changes.specs.Dues.{first_place, shown_of}
use Rattle.draid_changes.proofs.Begun.{first_of, first_seen, seen_first}
use Rattle.draid_changes.proofs.Forbids.{logged_there, named_shared, sums_seen}

-- ---- why a slot is due, by three tests

abbrev cause_by : ℕ → Bool → Bool → Bool → ℕ → Option Cause
cause_by least one leaf off logged = if not (one && leaf) then None else if off then Some Offline else if nat_le least logged then Some (Logged logged) else None

-- by some arms
abbrev cause_with : ℕ → ℕ → List Arm → Option Cause
cause_with least logged arms = cause_by least (length arms == 1) (is_leaf_kind (slice_index_or arms 0 (new_arm 0)).kind) (slice_index_or arms 0 (new_arm 0)).offline logged

not_one : (n : ℕ) → (suc (suc n) == 1) ≡ false
not_one n = by (suc (suc n) == 1) refl
  where
    by : (b : Bool) → (suc (suc n) == 1) ≡ b → (suc (suc n) == 1) ≡ false
    by true is = (let same = is_equal (suc (suc n)) 1 is in absurd (omega (arith, same)))
    by false is = is

module _ {R A : Type 0} (rack : racks.Ghosts R) (area : areas.Ghosts A) (pool : Pool R A) (w : IsWhole rack area pool) (x : State) (r : Represents rack area pool x) (first : Shard R A) (there : slice_get pool.metaslabs.shards.items 0 ≡ Some first) (least : ℕ) where
  abbrev views : List View
  views = seen_at 0 x.metaslabs

  z : HasMetaslab rack area pool x r.stands 0 first
  z = first_of rack area pool x first r there

  -- what a cause says of a slot
  abbrev pub SeenAs : ℕ → Option Cause → Type 0
  SeenAs slot None = IsntDue least views slot
  SeenAs slot (Some why) = (leaf : ℕ) × IsDue least views slot leaf why × (logged_of views leaf ≡ missed_over pool.metaslabs.shards.items (first_place slot))

  module _ (slot : ℕ) (low_slot : slot < first.slots.geometry.spec.children) where
    abbrev logged : ℕ
    logged = missed_over pool.metaslabs.shards.items (first_place slot)

    ordered : (arms : List Arm) → arms_of first.slots slot ≡ arms → z.y.world.core.order slot ≡ map name_of arms
    ordered arms are = z.is.stands.is_in.slots.order slot ∙ ap (map name_of) are

    -- where the order is no single leaf, the slot isn't due
    isnt : ((leaf : ℕ) → z.y.world.core.order slot ≡ Leaf leaf ∷ [] → ⊥) → IsntDue least views slot
    isnt none leaf why due = none leaf (first_seen (λ v. v.world.core.order slot ≡ Leaf leaf ∷ []) x.metaslabs z.y z.at due.0)

    -- the slot has this one leaf
    module _ (a : Arm) (are : arms_of first.slots slot ≡ a ∷ []) (is_leaf : a.kind ≡ kind.Leaf) where
      name : name_of a ≡ Leaf a.number
      name = ap (λ k. named k a.number) is_leaf

      at : arm_at first.slots (first_place slot) ≡ Some a
      at = ap (λ arms. slice_get arms 0) are

      one : HasOneLeaf slot a.number views
      one = seen_first (λ v. v.world.core.order slot ≡ Leaf a.number ∷ []) x.metaslabs z.y z.at (ordered (a ∷ []) are ∙ ap (λ n. n ∷ []) name)

      has : z.y.world.core.arm (Leaf a.number) ≡ Some (arm_in first.slots (first_place slot) a)
      has = subst (λ n. z.y.world.core.arm n ≡ Some (arm_in first.slots (first_place slot) a)) name (z.is.stands.is_in.slots.arms (first_place slot) a at)

      same_leaf : (leaf : ℕ) → HasOneLeaf slot leaf views → a.number ≡ leaf
      same_leaf leaf other = by (sym (ordered (a ∷ []) are ∙ ap (λ n. n ∷ []) name) ∙ first_seen (λ v. v.world.core.order slot ≡ Leaf leaf ∷ []) x.metaslabs z.y z.at other)
        where
          number_of : List ArmName → ℕ
          number_of [] = 0
          number_of (Leaf n ∷ ns) = n
          number_of (Spare n ∷ ns) = n

          by : Leaf a.number ∷ [] ≡ Leaf leaf ∷ [] → a.number ≡ leaf
          by is = ap number_of is

      sums : logged_of views a.number ≡ logged
      sums = sym (sums_seen (λ (shard : Shard R A). count_at shard.slots (first_place slot)) (Leaf a.number) 0 pool.metaslabs.shards.items x.metaslabs r.stands.shards each)
        where
          each : (m : ℕ) (s : Shard R A) (y : Metaslab) → slice_get pool.metaslabs.shards.items m ≡ Some s → slice_get x.metaslabs m ≡ Some y → count_at s.slots (first_place slot) ≡ groups_of (y.world.core.arm (Leaf a.number))
          each m s y here seen =
              let b = named_shared first.slots s.slots (first_place slot) (Leaf a.number) (w.alike 0 m first s there here).arms low_slot (a, at, name) in
              sym (ap (λ n. groups_of (y.world.core.arm n)) (sym b.2) ∙ logged_there rack area x m (r.stands.pieces m) s y (r.stands.each m s y here seen) (first_place slot) b.0 b.1)

      off : a.offline ≡ true → IsDue least views slot a.number Offline
      off is = (one, seen_first (IsOff a.number) x.metaslabs z.y z.at (arm_in first.slots (first_place slot) a, has, is))

      on : a.offline ≡ false → (v : ℕ) → v ≡ a.number → IsOff v (view_of 0 z.y) → ⊥
      on is v same (b, own, offline) = absurd_test b.offline offline
          (ap (λ (m : machine.Arm). m.offline) (some_same (z.y.world.core.arm (Leaf v)) b _ own (subst (λ n. z.y.world.core.arm (Leaf n) ≡ Some (arm_in first.slots (first_place slot) a)) (sym same) has)) ∙ is)

      due_logged : a.offline ≡ false → least ≤ logged → IsDue least views slot a.number (Logged logged)
      due_logged is enough = (one, (seen_first (λ v. IsOff a.number v → ⊥) x.metaslabs z.y z.at (on is a.number refl), sym sums, enough))

      isnt_logged : a.offline ≡ false → (least ≤ logged → ⊥) → IsntDue least views slot
      isnt_logged is few leaf Offline due = on is leaf (sym (same_leaf leaf due.0)) (first_seen (IsOff leaf) x.metaslabs z.y z.at due.1)
      isnt_logged is few leaf (Logged groups) due =
          (let same = due.1.1 in let more = due.1.2 in let total : logged_of views leaf ≡ logged = ap (logged_of views) (sym (same_leaf leaf due.0)) ∙ sums in few (omega (arith, same, more, total)))

      by_off : (b : Bool) → a.offline ≡ b → SeenAs slot (cause_by least true true b logged)
      by_off true is = (a.number, off is, sums)
      by_off false is = by_logged (nat_le least logged) refl
        where
          by_logged : (b : Bool) → nat_le least logged ≡ b → SeenAs slot (if b then Some (Logged logged) else None)
          by_logged true enough = (a.number, due_logged is (is_low least logged enough), sums)
          by_logged false few = isnt_logged is (λ enough. absurd_test (nat_le least logged) (low least logged enough) few)

    -- whatever its arms are
    by_arms : (arms : List Arm) → arms_of first.slots slot ≡ arms → SeenAs slot (cause_with least logged arms)
    by_arms [] are = isnt (λ leaf is. absurd (cc (sym (ordered [] are) ∙ is)))
    by_arms (a ∷ []) are = by a.kind refl
      where
        by : (k : ArmKind) → a.kind ≡ k → SeenAs slot (cause_by least true (is_leaf_kind k) a.offline logged)
        by kind.Leaf is = by_off a are is a.offline refl
        by kind.Spare is = isnt (λ leaf same. absurd (cc (sym (ordered (a ∷ []) are ∙ ap (λ k. named k a.number ∷ []) is) ∙ same)))
    by_arms (a ∷ (b ∷ arms)) are =
        subst (λ t. SeenAs slot (cause_by least t (is_leaf_kind a.kind) a.offline logged)) (sym (not_one (length arms))) (isnt (λ leaf is. absurd (cc (sym (ordered (a ∷ (b ∷ arms)) are) ∙ is))))

    pub cause_seen : SeenAs slot (cause_of least (shown_of first.slots pool.metaslabs.shards.items slot))
    cause_seen = by_arms (arms_of first.slots slot) refl
