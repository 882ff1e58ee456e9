-- A rebuild's targets lack the birth of each block.
use Rattle.std.proofs.Common.{◌≡◌, ◌<◌, ℕ, true, List, Some, arith, length, refl, slice_get, subst, sym, zero, suc, [], ◌∷◌}
use Rattle.draid_names.specs.declared.arm.Arm.{Arm}
use Rattle.draid_names.specs.declared.arm.ArmAt.{ArmAt}
use Rattle.draid_names.specs.declared.pass_kind.PassKind.TheVariants.{Rebuild}
use Rattle.draid_machine.specs.Created.{IsReached}
use Rattle.draid_machine.specs.Names.{has_name}
use Rattle.draid_machine.specs.State as machine
use Rattle.draid_machine.specs.declared.names.Held.{Held}
use Rattle.draid_machine.specs.declared.names.Key.{Key}
use Rattle.draid_machine.proofs.Rows.{reached_sound}
use Rattle.draid_slots.specs.States.{HasSlots, arm_in, name_of, names_at}
use Rattle.draid_slots.specs.Table.{SlotTable, arms_of}
use Rattle.draid_shard.specs.Part.{IsPart, Part, layout_in}
use Rattle.draid_shard.proofs.Homes.{lays}
use Rattle.draid_mend.specs.Stripes.{HasNoSource}
use Rattle.draid_mend.specs.Targets.{AreThere}
use Rattle.draid_mend.proofs.Aims.{name_in}

there_is : (xs : List Arm) (k : ℕ) → k < length xs → (a : Arm) × (slice_get xs k ≡ Some a)
there_is [] k less = absurd (omega (arith, less))
there_is (y ∷ ys) zero less = (y, refl)
there_is (y ∷ ys) (suc k) less = there_is ys k (omega (arith, less))

pub lacking : (part : Part) (slots : SlotTable) (w : machine.State) (p : machine.Pass) (key : Key) (h : Held) (targets : List ArmAt) → IsPart part → IsReached (layout_in part) w → HasSlots slots w.core → w.core.pass ≡ Some p
    → p.kind ≡ Rebuild → w.core.held key ≡ Some h → p.targets ≡ names_at slots targets → AreThere slots targets → HasNoSource slots targets
lacking part slots w p key h targets is reached has pass kind held targets_are there k at listed =
    let a = there_is (arms_of slots at.slot) at.arm (there k at listed) in
    let named : has_name p.targets (name_of a.0) ≡ true = subst (λ ns. has_name ns (name_of a.0) ≡ true) (sym targets_are) (name_in slots targets k at a.0 listed a.1) in
    (h.birth, (reached_sound (layout_in part) (lays part is) w reached).core.targets p (name_of a.0) (arm_in slots at a.0) key h pass kind named (has.arms at a.0 a.1) held)
