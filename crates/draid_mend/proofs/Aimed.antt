-- Which columns of a stripe are in the slots of targets.
use Rattle.std.proofs.Common.{◌≡◌, ◌+◌, ◌*◌, ◌/◌, ◌%◌, ◌<◌, ◌≤◌, ◌∙◌, ℕ, zero, suc, Bool, true, false, List, [], ◌∷◌, Some, sym, ap, subst, inl, inr, length, set, slice_get, arith, add_comm}
use Rattle.std.specs.Prelude.{slice_index_or}
use Rattle.std.proofs.Math.Nat.{mod-add-mod, mod-lt}
use Rattle.std.proofs.lemmas.Bool.{cases_eq, cases_lt}
use Rattle.std.proofs.lemmas.Grind.{get_or-set_at}
use Rattle.std.proofs.lemmas.List.{get_or-set_other}
use Rattle.std.proofs.lemmas.Option.{slice_get_within}
use Rattle.draid_names.specs.declared.arm.Arm.{Arm}
use Rattle.draid_names.specs.declared.arm.ArmAt.{ArmAt}
use Rattle.draid_machine.proofs.Small.{absurd_test, some_same}
use Rattle.draid_spec.specs.declared.layout.Geometry.{Geometry}
use Rattle.draid_perm.specs.Perms.{child_of, children_of}
use Rattle.draid_perm.specs.declared.perms.Perms.{Perms}
use Rattle.draid_perm.proofs.Turns.{turned_apart}
use Rattle.draid_map.specs.Place.{IsLayout}
use Rattle.draid_map.proofs.Apart.{has_some}
use Rattle.draid_map.proofs.Distinct.{disk_is_child}
use Rattle.draid_slots.specs.Table.{IsTable, IsThere, SlotTable}
use Rattle.draid_layouts.specs.Layout.{pool_stripe}
use Rattle.draid_shard.specs.Part.{IsPart, Part, layout_in}
use Rattle.draid_mend.specs.Aiming.{AreAimed, IsColumnOn, IsFrontOf}
use Rattle.draid_mend.specs.declared.aiming.Front.{Front}

-- ---- steps round the disks

-- a position is reached by one number of steps alone
pub steps_once : (position from disks a b : ℕ) → from < disks → a < disks → b < disks → (from + a) % disks ≡ position → (from + b) % disks ≡ position → a ≡ b
steps_once position from disks a b inside low less is it =
    turned_apart a b from disks low less inside (ap (λ n. n % disks) (add_comm a from) ∙ is ∙ sym it ∙ ap (λ n. n % disks) (add_comm from b))

-- a column on a slot is reached at the one position that is the slot's
module _ (geometry : Geometry) (perms : Perms) (lay : IsLayout geometry perms) (front : Front) (slot position : ℕ) (only : (p : ℕ) → p < children_of perms → child_of perms front.slice p ≡ slot → p ≡ position) where
  pub column_reached : (column : ℕ) → IsColumnOn geometry perms front slot column → (front.position + column) % geometry.ndisks ≡ position
  column_reached column is = only ((front.position + column) % geometry.ndisks) (disk_is_child geometry perms (front.position + column) lay) is.stands

  pub no_column : geometry.ndisks ≤ position → (column : ℕ) → IsColumnOn geometry perms front slot column → ⊥
  no_column past column is =
      let some = has_some geometry lay.geometry_is in
      let low = mod-lt (front.position + column) some.disks in
      let reached = column_reached column is in
      omega (arith, past, low, reached)

  pub column_once : (steps : ℕ) → front.position < geometry.ndisks → steps < geometry.ndisks → (front.position + steps) % geometry.ndisks ≡ position → (column : ℕ) → IsColumnOn geometry perms front slot column → steps ≡ column
  column_once steps inside low reached column is =
      steps_once position front.position geometry.ndisks steps column inside low (let width = lay.geometry_is.width in let below = is.below in omega (arith, width, below)) reached (column_reached column is)

-- ---- marks

-- the column of a stripe on a slot, by where the stripe begins
pub column_is : (part : Part) (stripe : ℕ) (front : Front) (slot column : ℕ) → IsFrontOf part stripe front → column < part.geometry.g → (layout_in part).slot_of stripe column ≡ slot
    → IsColumnOn part.geometry part.perms front slot column
column_is part stripe front slot column of less is =
    let before : ℕ = pool_stripe part.geometry part.number stripe / part.geometry.props.height % part.geometry.ngroups * part.geometry.g in
    let turn : (front.position + column) % part.geometry.ndisks ≡ (before + column) % part.geometry.ndisks
    = ap (λ n. (n + column) % part.geometry.ndisks) of.position_is ∙ mod-add-mod before part.geometry.ndisks column in
    record {
      below = less;
      stands = (λ i. child_of part.perms (of.slice_is i) (turn i)) ∙ is;
    }

pub front_inside : (part : Part) → IsPart part → (stripe : ℕ) (front : Front) → IsFrontOf part stripe front → front.position < part.geometry.ndisks
front_inside part is stripe front of =
    let some = has_some part.geometry is.layout.geometry_is in
    let before : ℕ = pool_stripe part.geometry part.number stripe / part.geometry.props.height % part.geometry.ngroups * part.geometry.g in
    let low = mod-lt before some.disks in
    subst (λ n. n < part.geometry.ndisks) (sym of.position_is) low

module _ (part : Part) (stripe : ℕ) (targets : List ArmAt) (n : ℕ) (at : ArmAt) (there : slice_get targets n ≡ Some at) (marks : List Bool) (was : AreAimed part stripe targets n marks) where
  this : (k : ℕ) (other : ArmAt) → k < n + 1 → n ≤ k → slice_get targets k ≡ Some other → at ≡ other
  this k other less past listed =
      let same : n ≡ k = omega (arith, less, past) in
      some_same (slice_get targets n) at other there (ap (slice_get targets) same ∙ listed)

  -- the next target's slot has this column of the stripe, and no other
  pub aims_more : (c : ℕ) → c < length marks → ((column : ℕ) → column < part.geometry.g → (layout_in part).slot_of stripe column ≡ at.slot → column ≡ c) → (new : List Bool) → new ≡ set marks c true
      → AreAimed part stripe targets (n + 1) new
  aims_more c inside only new is k column other less listed below here = ap (λ xs. slice_index_or xs column false) is ∙ elim (cases_eq column c) [
    | inl same ↦ get_or-set_at marks c column true false same inside
    | inr apart ↦ get_or-set_other marks c column true false apart ∙ elim (cases_lt k n) [
      | inl before ↦ was k column other before listed below here
      | inr past ↦ absurd (apart (only column below (here ∙ sym (ap (λ (a : ArmAt). a.slot) (this k other less past listed)))))
    ]
  ]

  -- it has none
  pub aims_past : ((column : ℕ) → column < part.geometry.g → (layout_in part).slot_of stripe column ≡ at.slot → ⊥) → (new : List Bool) → new ≡ marks → AreAimed part stripe targets (n + 1) new
  aims_past none new is k column other less listed below here = ap (λ xs. slice_index_or xs column false) is ∙ elim (cases_lt k n) [
    | inl before ↦ was k column other before listed below here
    | inr past ↦ absurd (none column below (here ∙ sym (ap (λ (a : ArmAt). a.slot) (this k other less past listed))))
  ]

-- a column that isn't marked has no target in its slot
pub unaimed : (part : Part) (stripe : ℕ) (targets : List ArmAt) (marks : List Bool) (column : ℕ) → AreAimed part stripe targets (length targets) marks → column < part.geometry.g → slice_index_or marks column false ≡ false
    → (k : ℕ) (at : ArmAt) → slice_get targets k ≡ Some at → at.slot ≡ (layout_in part).slot_of stripe column → ⊥
unaimed part stripe targets marks column all below off k at listed same = absurd_test (slice_index_or marks column false) (all k column at (slice_get_within targets k at listed) listed below (sym same)) off

-- a stripe's columns are no more than the children of the widest layout
pub few_columns : (part : Part) → IsPart part → part.geometry.g ≤ 64
few_columns part is =
    let width = is.layout.geometry_is.width in
    let disks = is.layout.geometry_is.disks in
    let most = is.layout.geometry_is.spec.most_children in
    omega (arith, width, disks, most)

-- an arm that is there is one of a slot of the layout
arms_there : (arms : List (List Arm)) (slot k : ℕ) → k < length (slice_index_or arms slot []) → slot < length arms
arms_there [] slot k less = absurd (omega (arith, less))
arms_there (a ∷ rest) zero k less = omega arith
arms_there (a ∷ rest) (suc slot) k less = let behind = arms_there rest slot k less in omega (arith, behind)

pub slot_there : (slots : SlotTable) (at : ArmAt) → IsTable slots → IsThere slots at → at.slot < slots.geometry.spec.children
slot_there slots at table there = let count = table.slots.children in let low = arms_there slots.arms at.slot at.arm there in omega (arith, count, low)
