-- A record that is made from the tables says the image of their state.
use Rattle.std.proofs.Common.{◌≡◌, ◌≢◌, ◌<◌, ◌≤◌, ◌⊎◌, ℕ, zero, suc, Bool, true, false, List, [], ◌∷◌, length, map, Option, Some, None, IsSome, All, refl, sym, ◌∙◌, ap, subst, inl, inr, arith, slice_get, slice_index_or}
use Rattle.std.specs.List.{flat_map, list_any}
use Rattle.std.specs.declared.alloc.Global.{Global}
use Rattle.std.specs.declared.vec.Vec.{Vec}
use Rattle.std.proofs.lemmas.Bool.{true≢false, cases_lt}
use Rattle.std.proofs.lemmas.List.{length-map}
use Rattle.std.proofs.lemmas.List.Elements.{All-append, All-head, All-nil, All-tail}
use Rattle.std.proofs.lemmas.List.Folds.{list_any-append}
use Rattle.draid_names.specs.declared.arm.Arm.{Arm}
use Rattle.draid_names.specs.declared.arm.ArmAt.{ArmAt}
use Rattle.draid_ranges.specs.Numbers.{Numbers}
use Rattle.draid_ranges.specs.Runs.{has_in}
use Rattle.draid_slots.specs.Table.{SlotTable, arm_at, arms_of, is_logged}
use Rattle.draid_machine.specs.declared.names.ArmName.{ArmName}
use Rattle.draid_machine.specs.Names.{name_eq}
use Rattle.draid_machine.specs.After.{seal_arm}
use Rattle.draid_machine.specs.State as machine
use Rattle.draid_machine.proofs.Small.{name_refl, some_injective, true_left, true_right}
use Rattle.draid_record.specs.Record.{ArmTold, told_arm, told_slot, told_slots}
use Rattle.draid_stable.specs.Images.{all_arms, arm_of, has_name, name_of, none_told, order_by, target_of}
use Rattle.draid_stable.specs.Sealing.{AllAt, AreMarked, CopiesSlot, CopiesSlots, SaysCore}
use Rattle.draid_slots.specs.Marks.{is_marked}
use Rattle.draid_slots.specs.States as slots
use Rattle.draid_slots.specs.States.{HasArm, HasSlots, WasArm, arm_in, names_at}

-- ---- lists by their places
at_map : {X Y : Type 0} (P : ℕ → Y → Type 0) (f : X → Y) (xs : List X) → AllAt (λ k x. P k (f x)) xs → AllAt P (map f xs)
at_map P f [] all k d less = absurd (omega (arith, less))
at_map P f (x ∷ xs) all zero d less = all zero x (omega arith)
at_map P f (x ∷ xs) all (suc k) d less = at_map (λ j. P (suc j)) f xs (λ j e l. all (suc j) e (omega (arith, l))) k d (omega (arith, less))

beyond : {X : Type 0} (xs : List X) (k : ℕ) (d : X) → length xs ≤ k → slice_index_or xs k d ≡ d
beyond [] k d far = refl
beyond (x ∷ xs) zero d far = absurd (omega (arith, far))
beyond (x ∷ xs) (suc k) d far = beyond xs k d (omega (arith, far))

got : {X : Type 0} (xs : List X) (k : ℕ) (x d : X) → slice_get xs k ≡ Some x → (k < length xs) × (slice_index_or xs k d ≡ x)
got [] k x d at = absurd (cc)
got (y ∷ ys) zero x d at = (omega arith, some_injective y x at)
got (y ∷ ys) (suc k) x d at = let z = got ys k x d at in ((let l = z.0 in omega (arith, l)), z.1)

-- ---- lists one after another
flat_all : {X : Type 0} (P : X → Type 0) (xss : List (List X)) → ((k : ℕ) → All P (slice_index_or xss k [])) → All P (flat_map (λ (xs : List X). xs) xss)
flat_all P [] each = All-nil P
flat_all {X} P (xs ∷ xss) each = All-append P xs (flat_map (λ (xs : List X). xs) xss) (each zero) (flat_all P xss (λ k. each (suc k)))

flat_any : {X : Type 0} (p : X → Bool) (xss : List (List X)) (k : ℕ) → list_any p (slice_index_or xss k []) ≡ true → list_any p (flat_map (λ (xs : List X). xs) xss) ≡ true
flat_any p [] k any = any
flat_any {X} p (xs ∷ xss) zero any =
    list_any-append p xs (flat_map (λ (xs : List X). xs) xss) ∙ true_left (list_any p xs) (list_any p (flat_map (λ (xs : List X). xs) xss)) any
flat_any {X} p (xs ∷ xss) (suc k) any =
    list_any-append p xs (flat_map (λ (xs : List X). xs) xss) ∙ true_right (list_any p xs) (list_any p (flat_map (λ (xs : List X). xs) xss)) (flat_any p xss k any)

pub any_at : {X : Type 0} (p : X → Bool) (xs : List X) (k : ℕ) (d : X) → k < length xs → p (slice_index_or xs k d) ≡ true → list_any p xs ≡ true
any_at p [] k d less is = absurd (omega (arith, less))
any_at p (x ∷ xs) zero d less is = true_left (p x) (list_any p xs) is
any_at p (x ∷ xs) (suc k) d less is = true_right (p x) (list_any p xs) (any_at p xs k d (omega (arith, less)) is)

-- ---- what is told of a slot

-- an arm is told as the table has it
pub record IsTold (table : SlotTable) (slot arm : ℕ) (told : ArmTold) : Type 0 where
  pub there : slice_get (arms_of table slot) arm ≡ Some told.0
  pub log : (group : ℕ) → has_in told.1 group ≡ is_logged table (record { slot = slot; arm = arm }) group

pub record TellsSlot (table : SlotTable) (slot : ℕ) (list : List ArmTold) : Type 0 where
  pub count : length list ≡ length (arms_of table slot)
  pub each : AllAt (IsTold table slot) list

slot_told : (table : SlotTable) (slot : ℕ) (list : List (Arm × Numbers)) → CopiesSlot table slot list → TellsSlot table slot (told_slot list)
slot_told table slot list copies = record {
  count = length-map list told_arm ∙ copies.count;
  each = at_map (IsTold table slot) told_arm list (λ k d less. let c = copies.each k d less in record { there = c.there; log = c.log });
}

pub each_told : (table : SlotTable) (lists : List (Vec (Arm × Numbers) Global)) → CopiesSlots table lists → (slot : ℕ) → TellsSlot table slot (slice_index_or (told_slots lists) slot [])
each_told table lists copies slot = by (cases_lt slot (length lists))
  where
    tell : Vec (Arm × Numbers) Global → List ArmTold
    tell list = told_slot list.items

    count : length (map tell lists) ≡ length lists
    count = length-map lists tell

    by : (slot < length lists) ⊎ (length lists ≤ slot) → TellsSlot table slot (slice_index_or (told_slots lists) slot [])
    by (inl less) =
        at_map (TellsSlot table) tell lists (λ k d l. slot_told table k (slice_index_or lists k d).items (copies.each k d l)) slot [] (omega (arith, less, count))
    by (inr far) =
        let none : slice_index_or (told_slots lists) slot [] ≡ [] = beyond (map tell lists) slot [] (omega (arith, far, count)) in
        let empty : arms_of table slot ≡ [] = beyond table.arms slot [] (let c = copies.count in omega (arith, far, c)) in
        subst (TellsSlot table slot) (sym none) (record { count = sym (ap length empty); each = λ k d less. absurd (omega (arith, less)) })

-- ---- the arms of a state
module _ (table : SlotTable) (all : List (List ArmTold)) (tells : (slot : ℕ) → TellsSlot table slot (slice_index_or all slot [])) where
  same_arms : (list : List ArmTold) (arms : List Arm) → length list ≡ length arms → ((k : ℕ) (d : ArmTold) → k < length list → slice_get arms k ≡ Some (slice_index_or list k d).0) → map name_of list ≡ map slots.name_of arms
  same_arms [] [] count each = refl
  same_arms [] (a ∷ as_) count each = absurd (omega (arith, count))
  same_arms (t ∷ ts) [] count each = absurd (omega (arith, count))
  same_arms (t ∷ ts) (a ∷ as_) count each =
      let own : a ≡ t.0 = some_injective a t.0 (each zero t (omega arith)) in
      let rest : map name_of ts ≡ map slots.name_of as_ = same_arms ts as_ (omega (arith, count)) (λ k d less. each (suc k) d (omega (arith, less))) in
      λ i. slots.name_of (sym own i) ∷ rest i

  arms_told : (list : List ArmTold) (arms : List Arm) → length list ≡ length arms → ((k : ℕ) (d : ArmTold) → k < length list → slice_get arms k ≡ Some (slice_index_or list k d).0) → map (λ (told : ArmTold). told.0) list ≡ arms
  arms_told [] [] count each = refl
  arms_told [] (a ∷ as_) count each = absurd (omega (arith, count))
  arms_told (t ∷ ts) [] count each = absurd (omega (arith, count))
  arms_told (t ∷ ts) (a ∷ as_) count each =
      let own : a ≡ t.0 = some_injective a t.0 (each zero t (omega arith)) in
      let rest : map (λ (told : ArmTold). told.0) ts ≡ as_ = arms_told ts as_ (omega (arith, count)) (λ k d less. each (suc k) d (omega (arith, less))) in
      λ i. sym own i ∷ rest i

  pub first_arms : (slot : ℕ) → map (λ (told : ArmTold). told.0) (slice_index_or all slot []) ≡ arms_of table slot
  first_arms slot = let t = tells slot in arms_told (slice_index_or all slot []) (arms_of table slot) t.count (λ k d less. (t.each k d less).there)

  pub told_order : (slot : ℕ) → order_by all slot ≡ map slots.name_of (arms_of table slot)
  told_order slot = let t = tells slot in same_arms (slice_index_or all slot []) (arms_of table slot) t.count (λ k d less. (t.each k d less).there)

  module _ (q : machine.Core) (has_slots : HasSlots table q) where
    says_told : (slot k : ℕ) (told : ArmTold) → IsTold table slot k told → seal_arm (q.arm (name_of told)) ≡ Some (arm_of told)
    says_told slot k told is =
        let at : ArmAt = record { slot = slot; arm = k } in
        let log : is_logged table at ≡ has_in told.1 = λ i group. sym (is.log group) i in
        ap seal_arm (has_slots.arms at told.0 is.there) ∙ (λ i. Some (record { offline = told.0.offline; fresh = told.0.fresh; log = log i; gone = None }))

    says_each : All (λ told. seal_arm (q.arm (name_of told)) ≡ Some (arm_of told)) (all_arms all)
    says_each = flat_all (λ told. seal_arm (q.arm (name_of told)) ≡ Some (arm_of told)) all
        (λ slot k d less. says_told slot k (slice_index_or (slice_index_or all slot []) k d) ((tells slot).each k d less))

    -- an arm that is there is told
    is_among : (n : ArmName) → HasArm table n → list_any (has_name n) (all_arms all) ≡ true
    is_among n h =
        let t = tells h.at.slot in
        let z = got (arms_of table h.at.slot) h.at.arm h.arm h.arm h.there in
        let less : h.at.arm < length (slice_index_or all h.at.slot []) = (let l = z.0 in let c = t.count in omega (arith, l, c)) in
        let told : ArmTold = slice_index_or (slice_index_or all h.at.slot []) h.at.arm none_told in
        let own : told.0 ≡ h.arm = some_injective told.0 h.arm (sym ((t.each h.at.arm none_told less).there) ∙ h.there) in
        let named : name_eq (name_of told) n ≡ true = ap (λ m. name_eq m n) (ap slots.name_of own ∙ h.name_is) ∙ name_refl n in
        flat_any (has_name n) all h.at.slot (any_at (has_name n) (slice_index_or all h.at.slot []) h.at.arm none_told less named)

    -- one that was detached isn't in the image
    was_gone : (n : ArmName) → WasArm table n → IsSome (seal_arm (q.arm n)) → ⊥
    was_gone n was some =
        let g = has_slots.detached was.gone was.among in
        let found : q.arm n ≡ Some g.arm = ap q.arm (sym was.name_is) ∙ g.there in
        left g.arm (record { slot = was.gone.slot; group = was.gone.group }) g.by (subst (λ o. IsSome (seal_arm o)) found some)
      where
        left : (a : machine.Arm) (gone : machine.Gone) → a.gone ≡ Some gone → IsSome (seal_arm (Some a)) → ⊥
        left a gone is some = true≢false (sym some ∙ ap (λ o. is_some_arm (seal_arm (Some (record a { gone = o })))) is)
          where
            is_some_arm : Option machine.Arm → Bool
            is_some_arm None = false
            is_some_arm (Some a) = true

    says_all : (n : ArmName) → IsSome (seal_arm (q.arm n)) → list_any (has_name n) (all_arms all) ≡ true
    says_all n some = by (has_slots.only n there)
      where
        there : q.arm n ≢ None
        there none = true≢false (sym (subst (λ o. IsSome (seal_arm o)) none some))

        by : HasArm table n ⊎ WasArm table n → list_any (has_name n) (all_arms all) ≡ true
        by (inl h) = is_among n h
        by (inr w) = absurd (was_gone n w some)

    pub says_core : SaysCore all q
    says_core = record { arms = record { each = says_each; all = says_all }; order = λ slot. told_order slot ∙ sym (has_slots.order slot) }

  -- ---- the targets of a pass
  pub told_targets : (ats : List ArmAt) → All (λ (place : ArmAt). place.arm < length (arms_of table place.slot)) ats → map (target_of all) ats ≡ names_at table ats
  told_targets [] there = refl
  told_targets (at ∷ ats) there = one (arm_at table at) refl (told_targets ats (All-tail (λ (place : ArmAt). place.arm < length (arms_of table place.slot)) at ats there))
    where
      t : TellsSlot table at.slot (slice_index_or all at.slot [])
      t = tells at.slot

      told : ArmTold
      told = slice_index_or (slice_index_or all at.slot []) at.arm none_told

      is : arm_at table at ≡ Some told.0
      is = (t.each at.arm none_told (let l = All-head (λ (place : ArmAt). place.arm < length (arms_of table place.slot)) at ats there in let c = t.count in omega (arith, l, c))).there

      one : (o : Option Arm) → arm_at table at ≡ o → map (target_of all) ats ≡ names_at table ats
          → target_of all at ∷ map (target_of all) ats ≡ (elim o as (λ o. List ArmName) [ None ↦ names_at table ats | Some arm ↦ slots.name_of arm ∷ names_at table ats ])
      one None none rest = absurd (let a = is in cc)
      one (Some arm) some rest = let own : told.0 ≡ arm = some_injective told.0 arm (sym is ∙ some) in λ i. slots.name_of (own i) ∷ rest i

-- marks of a table's arms are those of what is told of them
pub marked_told : (table : SlotTable) (lists : List (Vec (Arm × Numbers) Global)) (marks : List (List Bool)) (test : ArmName → Bool) → CopiesSlots table lists
    → ((at : ArmAt) (arm : Arm) → arm_at table at ≡ Some arm → is_marked marks at.slot at.arm ≡ test (slots.name_of arm)) → AreMarked (told_slots lists) marks test
marked_told table lists marks test copies marked = λ slot arm told there.
    let z = got (slice_index_or (told_slots lists) slot []) arm told none_told there in
    let t = (each_told table lists copies slot).each arm none_told z.0 in
    marked (record { slot = slot; arm = arm }) told.0 (t.there ∙ ap (λ (x : ArmTold). Some x.0) z.1)
