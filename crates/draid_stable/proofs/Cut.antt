-- The arms of a slot, and the slots, while their logs are cut one after another; the runs of blocks.
use Rattle.std.proofs.Common.{◌≡◌, ◌<◌, ◌≤◌, ◌&&◌, not, nat_le, nat_lt, ℕ, zero, suc, false, List, [], ◌∷◌, All, length, map, refl, ◌∙◌, ap, subst, arith, slice_index_or}
use Rattle.std.proofs.lemmas.List.{length-map}
use Rattle.std.specs.declared.alloc.Global.{Global}
use Rattle.std.specs.declared.vec.Vec.{Vec}
use Rattle.draid_names.specs.declared.arm.Arm.{Arm}
use Rattle.draid_names.specs.declared.arm.ArmAt.{ArmAt}
use Rattle.draid_names.specs.declared.pointer.Pointer.{Pointer}
use Rattle.draid_spec.specs.declared.layout.Geometry.{Geometry}
use Rattle.draid_spec.specs.Geometry.{metaslab_stripes}
use Rattle.draid_perm.specs.declared.perms.Perms.{Perms}
use Rattle.draid_ranges.specs.declared.run.Run.{Run}
use Rattle.draid_ranges.specs.Numbers.{Numbers, has}
use Rattle.draid_ranges.specs.Runs.{has_in}
use Rattle.draid_metaslab.specs.Spaces.{Frees, IsSpan, Stripes}
use Rattle.draid_slots.specs.Changes.{IsOf, Keeps}
use Rattle.draid_slots.specs.Table.{SlotTable, arms_listed, log_in, logs_listed, no_log}
use Rattle.draid_stable.specs.Opening.{CutsArm, CutsSlot, CutsSlots, IsSpaceOf, run_of}

-- those below a place are cut, and the others are as they were
pub record UpTo (old new : List (Arm × Numbers)) (group n : ℕ) : Type 0 where
  pub count : length new ≡ length old
  pub below : (k : ℕ) (d : Arm × Numbers) → k < n → k < length old → CutsArm (slice_index_or old k d) (slice_index_or new k d) group
  pub above : (k : ℕ) (d : Arm × Numbers) → n ≤ k → slice_index_or new k d ≡ slice_index_or old k d

pub record SlotsUpTo (old new : List (Vec (Arm × Numbers) Global)) (group n : ℕ) : Type 0 where
  pub count : length new ≡ length old
  pub below : (k : ℕ) (d : Vec (Arm × Numbers) Global) → k < n → k < length old → CutsSlot (slice_index_or old k d).items (slice_index_or new k d).items group
  pub above : (k : ℕ) (d : Vec (Arm × Numbers) Global) → n ≤ k → slice_index_or new k d ≡ slice_index_or old k d

-- ---- what a cut leaves
module _ (group : ℕ) where
  slot_arms : (old new : List (Arm × Numbers)) → length new ≡ length old → ((k : ℕ) (d : Arm × Numbers) → k < length old → CutsArm (slice_index_or old k d) (slice_index_or new k d) group)
      → map (λ (pair : Arm × Numbers). pair.0) new ≡ map (λ (pair : Arm × Numbers). pair.0) old
  slot_arms [] [] count each = refl
  slot_arms [] (n ∷ ns) count each = absurd (omega (arith, count))
  slot_arms (o ∷ os) [] count each = absurd (omega (arith, count))
  slot_arms (o ∷ os) (n ∷ ns) count each =
      let own = (each zero o (omega arith)).arm in
      let rest = slot_arms os ns (omega (arith, count)) (λ k d less. each (suc k) d (omega (arith, less))) in
      λ i. own i ∷ rest i

  pub cut_arms : (old new : List (Vec (Arm × Numbers) Global)) → length new ≡ length old
      → ((k : ℕ) (d : Vec (Arm × Numbers) Global) → k < length old → CutsSlot (slice_index_or old k d).items (slice_index_or new k d).items group) → arms_listed new ≡ arms_listed old
  cut_arms [] [] count each = refl
  cut_arms [] (n ∷ ns) count each = absurd (omega (arith, count))
  cut_arms (o ∷ os) [] count each = absurd (omega (arith, count))
  cut_arms (o ∷ os) (n ∷ ns) count each =
      let own = each zero o (omega arith) in
      let here = slot_arms o.items n.items own.count own.each in
      let rest = cut_arms os ns (omega (arith, count)) (λ k d less. each (suc k) d (omega (arith, less))) in
      λ i. here i ∷ rest i

  slot_logs : (old new : List (Arm × Numbers)) → length new ≡ length old → ((k : ℕ) (d : Arm × Numbers) → k < length old → CutsArm (slice_index_or old k d) (slice_index_or new k d) group)
      → (arm g : ℕ) → has (slice_index_or (map (λ (pair : Arm × Numbers). pair.1) new) arm no_log) g ≡ (has (slice_index_or (map (λ (pair : Arm × Numbers). pair.1) old) arm no_log) g && nat_le g group)
  slot_logs [] [] count each arm g = refl
  slot_logs [] (n ∷ ns) count each arm g = absurd (omega (arith, count))
  slot_logs (o ∷ os) [] count each arm g = absurd (omega (arith, count))
  slot_logs (o ∷ os) (n ∷ ns) count each zero g = (each zero o (omega arith)).log g
  slot_logs (o ∷ os) (n ∷ ns) count each (suc arm) g = slot_logs os ns (omega (arith, count)) (λ k d less. each (suc k) d (omega (arith, less))) arm g

  all_logs : (old new : List (Vec (Arm × Numbers) Global)) → length new ≡ length old
      → ((k : ℕ) (d : Vec (Arm × Numbers) Global) → k < length old → CutsSlot (slice_index_or old k d).items (slice_index_or new k d).items group)
      → (slot arm g : ℕ) → has (log_in (logs_listed new) (record { slot = slot; arm = arm })) g ≡ (has (log_in (logs_listed old) (record { slot = slot; arm = arm })) g && nat_le g group)
  all_logs [] [] count each slot arm g = refl
  all_logs [] (n ∷ ns) count each slot arm g = absurd (omega (arith, count))
  all_logs (o ∷ os) [] count each slot arm g = absurd (omega (arith, count))
  all_logs (o ∷ os) (n ∷ ns) count each zero arm g = let own = each zero o (omega arith) in slot_logs o.items n.items own.count own.each arm g
  all_logs (o ∷ os) (n ∷ ns) count each (suc slot) arm g = all_logs os ns (omega (arith, count)) (λ k d less. each (suc k) d (omega (arith, less))) slot arm g

  pub cut_logs : (old new : List (Vec (Arm × Numbers) Global)) → CutsSlots old new group → (at : ArmAt) (g : ℕ)
      → has (log_in (logs_listed new) at) g ≡ (has (log_in (logs_listed old) at) g && nat_le g group)
  cut_logs old new cuts at g = all_logs old new cuts.count cuts.each at.slot at.arm g

-- ---- slots that have room made for them
pub made_of : (old new : SlotTable) (geometry : Geometry) (perms : Perms) (metaslab : ℕ) → Keeps old new → IsOf old geometry perms metaslab → IsOf new geometry perms metaslab
made_of old new geometry perms metaslab kept is = record {
  geometry_is = kept.same.geometry_is ∙ is.geometry_is;
  perms_are = kept.same.perms_are ∙ is.perms_are;
  metaslab_is = kept.same.metaslab_is ∙ is.metaslab_is;
}

-- ---- runs of blocks
pub spans : (total : ℕ) (blocks : List Pointer) → All (λ (b : Pointer). IsSpan total b.first b.stripes) blocks → All (λ (r : Run). IsSpan total r.first r.len) (map run_of blocks)
spans total [] all k d less = absurd (omega (arith, less))
spans total (b ∷ bs) all zero d less = all zero b (omega arith)
spans total (b ∷ bs) all (suc k) d less = spans total bs (λ j e l. all (suc j) e (omega (arith, l))) k d (omega (arith, less))

pub space_is : (geometry : Geometry) (blocks : List Pointer) (runs : List Run) (space : Stripes) → runs ≡ map run_of blocks
    → Frees space (λ x. nat_lt x (metaslab_stripes geometry) && not (has_in runs x)) → (space.height ≡ geometry.props.height) × (space.total ≡ metaslab_stripes geometry)
    → (space.held ≡ length runs) × (space.deferred ≡ []) → space.disabled ≡ false → IsSpaceOf geometry blocks space
space_is geometry blocks runs space are free sizes held enabled = record {
  free = subst (λ rs. Frees space (λ x. nat_lt x (metaslab_stripes geometry) && not (has_in rs x))) are free;
  height = sizes.0;
  total = sizes.1;
  held = held.0 ∙ ap length are ∙ length-map blocks run_of;
  deferred = held.1;
  enabled = enabled;
}
