-- The arms of a record are in their ranges.
use Rattle.std.proofs.Common.{◌≡◌, ◌==◌, ◌<◌, ◌≤◌, ◌+◌, ◌||◌, ◌&&◌, ◌⊎◌, inl, inr, not, nat_lt, ℕ, zero, suc, Bool, true, false, List, [], ◌∷◌, ◌++◌, append_assoc, length, map, Some, All, refl, sym, ◌∙◌, ap, ap₂, subst, arith, slice_get, slice_index_or, eqb-true, lt-ltb}
use Rattle.std.specs.List.{list_any}
use Rattle.std.proofs.lemmas.Bool.{true≢false}
use Rattle.std.proofs.lemmas.Bool.Decides.{nat_tests}
use Rattle.std.proofs.lemmas.List.{get_or-map, length-map}
use Rattle.std.proofs.lemmas.List.Elements.{All-head, All-tail}
use Rattle.std.proofs.lemmas.List.Folds.{list_any-append}
use Rattle.draid_names.specs.declared.arm.Arm.{Arm}
use Rattle.draid_names.specs.declared.arm.ArmAt.{ArmAt}
use Rattle.draid_names.specs.declared.arm.ArmKind.{ArmKind}
use Rattle.draid_names.specs.declared.arm.ArmKind.TheVariants.{Leaf, Spare}
use Rattle.draid_slots.proofs.Somewhere.{any_where}
use Rattle.draid_slots.specs.Table as table
use Rattle.draid_slots.specs.Table.{IsTable, SlotTable, arm_at, arms_of}
use Rattle.draid_machine.proofs.Small.{both_true, either_true, some_same, true_both, true_left, true_right}
use Rattle.draid_record.specs.declared.limits.Limits.{Limits}
use Rattle.draid_record.specs.Ranges.{AreArms, AreSlots, IsArm, IsSlot}
use Rattle.draid_record.specs.Record.{ArmTold, are_flags, has_arm, has_leaf, is_kind, limit_of, stands}
use Rattle.draid_record.specs.Written.{code_of, flags_of}
use Rattle.draid_stable.specs.Images.{none_told}
use Rattle.draid_slots.specs.States.{name_of}
use Rattle.draid_machine.specs.Names.{named}
use Rattle.draid_stable.specs.Within.{ArmsFit, LogFits, LogsFit, TellsArms}
use Rattle.draid_stable.proofs.Settled.{get_is}

-- ---- places in lists behind one another
at_front : {X : Type 0} (xs ys : List X) (k : ℕ) (d : X) → k < length xs → slice_index_or (xs ++ ys) k d ≡ slice_index_or xs k d
at_front [] ys k d less = absurd (omega (arith, less))
at_front (x ∷ xs) ys zero d less = refl
at_front (x ∷ xs) ys (suc k) d less = at_front xs ys k d (omega (arith, less))

at_seam : {X : Type 0} (xs ys : List X) (y d : X) → slice_index_or (xs ++ y ∷ ys) (length xs) d ≡ y
at_seam [] ys y d = refl
at_seam (x ∷ xs) ys y d = at_seam xs ys y d

seam_length : {X : Type 0} (xs ys : List X) → length (xs ++ ys) ≡ length xs + length ys
seam_length [] ys = omega arith
seam_length (x ∷ xs) ys = let n = seam_length xs ys in omega (arith, n)

not_true : (b : Bool) → (b ≡ true → ⊥) → not b ≡ true
not_true true never = absurd (never refl)
not_true false never = refl

-- ---- kinds
same_kind : (a b : ArmKind) → is_kind a b ≡ true → a ≡ b
same_kind Leaf Leaf is = refl
same_kind Leaf Spare is = absurd (true≢false (sym is))
same_kind Spare Leaf is = absurd (true≢false (sym is))
same_kind Spare Spare is = refl

leaf_kind : (k : ArmKind) → is_kind k Leaf ≡ table.is_leaf_kind k
leaf_kind Leaf = refl
leaf_kind Spare = refl

leaf_code : (k : ArmKind) → is_kind k Leaf ≡ (code_of k == 0)
leaf_code Leaf = refl
leaf_code Spare = refl

leaf_any : (list : List ArmTold) → has_leaf list ≡ table.has_leaf (map (λ (told : ArmTold). told.0) list)
leaf_any [] = refl
leaf_any (t ∷ ts) = ap₂ (λ a b. a || b) (leaf_kind t.0.kind) (leaf_any ts)

some_told : (list : List ArmTold) → has_leaf list ≡ true → 1 ≤ length list
some_told [] has = absurd (true≢false (sym has))
some_told (t ∷ ts) has = omega arith

flags : (a : Arm) → (a.kind ≡ Spare → a.offline ≡ false) → are_flags a.kind (flags_of a) ≡ true
flags a online = by a.kind a.offline a.fresh online
  where
    by : (k : ArmKind) (offline fresh : Bool) → (k ≡ Spare → offline ≡ false) → are_flags k (flags_of (record { kind = k; number = a.number; offline = offline; fresh = fresh })) ≡ true
    by Leaf offline fresh o = refl
    by Spare true fresh o = absurd (true≢false (o refl))
    by Spare false true o = refl
    by Spare false false o = refl

module _ (limits : Limits) (slots : SlotTable) (sound : IsTable slots) (fit : ArmsFit limits slots) (all : List (List ArmTold)) (tells : TellsArms slots all) (logs : LogsFit all) where
  -- ---- an arm by its place
  there_at : (slot k : ℕ) (d : ArmTold) → k < length (slice_index_or all slot []) → arm_at slots (record { slot = slot; arm = k }) ≡ Some (slice_index_or (slice_index_or all slot []) k d).0
  there_at slot k d less =
      let list : List ArmTold = slice_index_or all slot [] in
      let first : ArmTold → Arm = λ told. told.0 in
      ap (λ arms. slice_get arms k) (sym (tells.same slot)) ∙ get_is (map first list) k d.0 (let n = length-map list first in omega (arith, less, n)) ∙ ap Some (get_or-map first list k d d.0 less)

  of_slot : (slot : ℕ) → slot < length all → table.IsSlot limits.spares (arms_of slots slot)
  of_slot slot less = subst (λ n. table.IsSlot n (arms_of slots slot)) fit.spares (sound.slots.each slot [] (let c = tells.count in omega (arith, less, c)))

  -- two places with arms of one kind and number are one
  one_place : (i j : ℕ) (k m : ℕ) (d e : ArmTold) → j < length (slice_index_or all i []) → m < length (slice_index_or all k [])
      → (is_kind (slice_index_or (slice_index_or all i []) j d).0.kind (slice_index_or (slice_index_or all k []) m e).0.kind
      && ((slice_index_or (slice_index_or all i []) j d).0.number == (slice_index_or (slice_index_or all k []) m e).0.number)) ≡ true
      → (i ≡ k) × (j ≡ m)
  one_place i j k m d e l n same =
      let a : Arm = (slice_index_or (slice_index_or all i []) j d).0 in
      let b : Arm = (slice_index_or (slice_index_or all k []) m e).0 in
      let z = both_true (is_kind a.kind b.kind) (a.number == b.number) same in
      let name : name_of a ≡ name_of b = ap₂ named (same_kind a.kind b.kind z.0) (eqb-true a.number b.number z.1) in
      let at = fit.once (record { slot = i; arm = j }) (record { slot = k; arm = m }) a b (there_at i j d l) (there_at k m e n) name in
      (ap (λ (p : ArmAt). p.slot) at, ap (λ (p : ArmAt). p.arm) at)

  number_fits : (at : ArmAt) (a : Arm) → arm_at slots at ≡ Some a → table.IsSlot limits.spares (arms_of slots at.slot) → a.number < limit_of limits a.kind
  number_fits at a there is = by a.kind refl
    where
      pooled : a.kind ≡ Spare → a.number < limits.spares
      pooled spare = lookup_all (arms_of slots at.slot) at.arm is.pooled there
        where
          lookup_all : (arms : List Arm) (k : ℕ) → All (λ (arm : Arm). table.is_spare_kind arm.kind ≡ true → arm.number < limits.spares) arms → slice_get arms k ≡ Some a → a.number < limits.spares
          lookup_all [] k each at = absurd (cc)
          lookup_all (x ∷ xs) zero each at =
              subst (λ (y : Arm). y.number < limits.spares) (some_same (Some x) x a refl at)
              (All-head (λ (arm : Arm). table.is_spare_kind arm.kind ≡ true → arm.number < limits.spares) x xs each (ap (λ (y : Arm). table.is_spare_kind y.kind) (some_same (Some x) x a refl at) ∙ ap table.is_spare_kind spare))
          lookup_all (x ∷ xs) (suc k) each at = lookup_all xs k (All-tail (λ (arm : Arm). table.is_spare_kind arm.kind ≡ true → arm.number < limits.spares) x xs each) at

      by : (k : ArmKind) → a.kind ≡ k → a.number < limit_of limits k
      by Leaf kind = fit.leaves at a there kind
      by Spare kind = pooled kind

  module _ (before rest : List (List ArmTold)) (list : List ArmTold) (parts : before ++ list ∷ rest ≡ all) where
    here_is : slice_index_or all (length before) [] ≡ list
    here_is = ap (λ lists. slice_index_or lists (length before) []) (sym parts) ∙ at_seam before rest list []

    inside : length before < length all
    inside = let a = ap length parts in let b = seam_length before (list ∷ rest) in omega (arith, a, b)

    slot_is : table.IsSlot limits.spares (arms_of slots (length before))
    slot_is = of_slot (length before) inside

    count_is : length list ≡ length (arms_of slots (length before))
    count_is = let a = ap length here_is in let b = ap length (tells.same (length before)) in let c = length-map (slice_index_or all (length before) []) (λ (told : ArmTold). told.0) in omega (arith, a, b, c)

    leaf_is : has_leaf list ≡ true
    leaf_is = leaf_any list ∙ ap (λ l. table.has_leaf (map (λ (told : ArmTold). told.0) l)) (sym here_is) ∙ ap table.has_leaf (tells.same (length before)) ∙ slot_is.leaf

    module _ (here more : List ArmTold) (a : ArmTold) (split : here ++ a ∷ more ≡ list) where
      own_is : slice_index_or (slice_index_or all (length before) []) (length here) none_told ≡ a
      own_is = ap (λ l. slice_index_or l (length here) none_told) (here_is ∙ sym split) ∙ at_seam here more a none_told

      own_inside : length here < length (slice_index_or all (length before) [])
      own_inside = let p = ap length here_is in let q = ap length split in let r = seam_length here (a ∷ more) in omega (arith, p, q, r)

      own_there : arm_at slots (record { slot = length before; arm = length here }) ≡ Some a.0
      own_there = there_at (length before) (length here) none_told own_inside ∙ ap (λ (t : ArmTold). Some t.0) own_is

      -- no other arm is so at a place in front
      not_at : (i j : ℕ) → j < length (slice_index_or all i []) → (i < length before) ⊎ ((i ≡ length before) × (j < length here))
          → (is_kind (slice_index_or (slice_index_or all i []) j none_told).0.kind a.0.kind && ((slice_index_or (slice_index_or all i []) j none_told).0.number == a.0.number)) ≡ true → ⊥
      not_at i j l front same =
          let z = one_place i j (length before) (length here) none_told none_told l own_inside
          (subst (λ (t : ArmTold). (is_kind (slice_index_or (slice_index_or all i []) j none_told).0.kind t.0.kind && ((slice_index_or (slice_index_or all i []) j none_told).0.number == t.0.number)) ≡ true) (sym own_is) same)
          in
          elim front [
            | inl less ↦ (let x = z.0 in absurd (omega (arith, less, x)))
            | inr both ↦ (let y = z.1 in let l = both.1 in absurd (omega (arith, l, y)))
          ]

      not_before : list_any (λ (l : List ArmTold). has_arm l a.0.kind a.0.number) before ≡ true → ⊥
      not_before any =
          let i = any_where (λ (l : List ArmTold). has_arm l a.0.kind a.0.number) before [] any in
          let same : slice_index_or all i.0 [] ≡ slice_index_or before i.0 [] = ap (λ lists. slice_index_or lists i.0 []) (sym parts) ∙ at_front before (list ∷ rest) i.0 [] i.1 in
          let j = any_where (λ (told : ArmTold). is_kind told.0.kind a.0.kind && (told.0.number == a.0.number)) (slice_index_or all i.0 []) none_told (ap (λ l. has_arm l a.0.kind a.0.number) same ∙ i.2) in
          not_at i.0 j.0 j.1 (inl i.1) j.2

      not_here : has_arm here a.0.kind a.0.number ≡ true → ⊥
      not_here any =
          let j = any_where (λ (told : ArmTold). is_kind told.0.kind a.0.kind && (told.0.number == a.0.number)) here none_told any in
          let same : slice_index_or (slice_index_or all (length before) []) j.0 none_told ≡ slice_index_or here j.0 none_told =
          ap (λ l. slice_index_or l j.0 none_told) (here_is ∙ sym split) ∙ at_front here (a ∷ more) j.0 none_told j.1
          in
          not_at (length before) j.0 (let l = j.1 in let o = own_inside in omega (arith, l, o)) (inr (refl, j.1))
          (ap (λ (t : ArmTold). is_kind t.0.kind a.0.kind && (t.0.number == a.0.number)) same ∙ j.2)

      is_new : stands before here a.0.kind a.0.number ≡ true → ⊥
      is_new any = elim (either_true (list_any (λ (l : List ArmTold). has_arm l a.0.kind a.0.number) before) (has_arm here a.0.kind a.0.number) any) [
        | inl b ↦ not_before b
        | inr h ↦ not_here h
      ]

      keeps_leaf : (nat_lt (length here + 1) (length list) || (has_leaf here || (code_of a.0.kind == 0))) ≡ true
      keeps_leaf = by more split
        where
          by : (m : List ArmTold) → here ++ a ∷ m ≡ list → (nat_lt (length here + 1) (length list) || (has_leaf here || (code_of a.0.kind == 0))) ≡ true
          by [] s =
              true_right (nat_lt (length here + 1) (length list)) (has_leaf here || (code_of a.0.kind == 0))
              (ap (λ b. has_leaf here || b) (sym (leaf_code a.0.kind)) ∙ last (has_leaf here) (is_kind a.0.kind Leaf)
              (sym (list_any-append (λ (told : ArmTold). is_kind told.0.kind Leaf) here (a ∷ [])) ∙ ap has_leaf s ∙ leaf_is))
            where
              last : (h k : Bool) → (h || (k || false)) ≡ true → (h || k) ≡ true
              last true k is = refl
              last false true is = refl
              last false false is = is
          by (b ∷ bs) s =
              true_left (nat_lt (length here + 1) (length list)) (has_leaf here || (code_of a.0.kind == 0))
              (lt-ltb (length here + 1) (length list) (let q = ap length s in let r = seam_length here (a ∷ b ∷ bs) in omega (arith, q, r)))

      one_arm : LogFits a → IsArm limits before (length list) here a
      one_arm log = record {
        leaf = keeps_leaf;
        known = true_both (nat_lt a.0.number (limit_of limits a.0.kind)) (not (stands before here a.0.kind a.0.number))
            (lt-ltb a.0.number (limit_of limits a.0.kind) (number_fits (record { slot = length before; arm = length here }) a.0 own_there slot_is)) (not_true (stands before here a.0.kind a.0.number) is_new);
        small = fit.small (record { slot = length before; arm = length here }) a.0 own_there;
        flags_are = flags a.0 (fit.online (record { slot = length before; arm = length here }) a.0 own_there);
        few = log.few;
        runs_are = log.runs;
      }

    arms_from : (here more : List ArmTold) → here ++ more ≡ list → All LogFits more → AreArms limits before (length list) here more
    arms_from here [] split fits = tt
    arms_from here (a ∷ more) split fits =
        (one_arm here more a split (All-head LogFits a more fits), arms_from (here ++ a ∷ []) more (append_assoc here (a ∷ []) more ∙ split) (All-tail LogFits a more fits))

    one_slot : IsSlot limits before list
    one_slot = record {
      some = some_told list leaf_is;
      most = (let c = count_is in let m = slot_is.most in omega (arith, c, m));
      arms_are = arms_from [] list refl (subst (All LogFits) here_is (logs (length before)));
    }

  slots_from : (before rest : List (List ArmTold)) → before ++ rest ≡ all → AreSlots limits before rest
  slots_from before [] parts = tt
  slots_from before (list ∷ rest) parts = (one_slot before rest list parts, slots_from (before ++ list ∷ []) rest (append_assoc before (list ∷ []) rest ∙ parts))

  pub slots_ranged : AreSlots limits [] all
  slots_ranged = slots_from [] all refl
