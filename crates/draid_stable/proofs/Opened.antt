-- The slots and the pass of a metaslab that is opened from a record.
use Rattle.std.proofs.Common.{◌≡◌, ◌≢◌, ◌<◌, ◌≤◌, ◌&&◌, ◌⊎◌, inl, nat_le, ℕ, zero, suc, Bool, true, false, List, [], ◌∷◌, ◌++◌, length, map, find, All, Option, Some, None, Contains, IfSome, cond, refl, sym, ◌∙◌, ap, subst, arith, slice_get, slice_index_or, option_map}
use Rattle.std.specs.List.{flat_map}
use Rattle.std.specs.Option.{option_or}
use Rattle.std.specs.declared.alloc.Global.{Global}
use Rattle.std.specs.declared.vec.Vec.{Vec}
use Rattle.std.proofs.lemmas.List.{length-map}
use Rattle.std.proofs.lemmas.List.Folds.{find-append}
use Rattle.draid_names.specs.declared.arm.Arm.{Arm}
use Rattle.draid_names.specs.declared.arm.ArmAt.{ArmAt}
use Rattle.draid_pass.specs.declared.pass.Pass.{Pass}
use Rattle.draid_ranges.specs.Numbers.{Numbers, has}
use Rattle.draid_ranges.specs.Runs.{has_in}
use Rattle.draid_machine.specs.declared.names.ArmName.{ArmName}
use Rattle.draid_machine.specs.After.{cut_above, each_arm, map_arm}
use Rattle.draid_machine.specs.State as machine
use Rattle.draid_machine.proofs.Small.{name_true, some_injective}
use Rattle.draid_slots.specs.declared.slot.Detached.{Detached}
use Rattle.draid_slots.specs.Table.{SlotTable, arm_at, arms_listed, arms_of, is_logged, log_in, logs_listed, no_log}
use Rattle.draid_record.specs.declared.limits.Limits.{Limits}
use Rattle.draid_record.specs.Ranges.{AreSlots, AreTargets, IsPass, IsPassOrNone}
use Rattle.draid_record.specs.Record.{ArmTold, PassTold, RecordTold, arm_count, told_pass, told_slot, told_slots}
use Rattle.draid_stable.specs.Images.{all_arms, arm_by, arm_of, has_name, name_of, none_told, order_by, pass_of, target_of}
use Rattle.draid_stable.specs.Opening.{arms_told}
use Rattle.draid_slots.specs.States.{AscendBehind, HasArm, HasSlots, HoldsPass, WasArm, arm_in, names_at, pass_in}
use Rattle.draid_slots.specs.States as slots
use Rattle.draid_stable.proofs.Named.{found_in}
use Rattle.draid_stable.proofs.Settled.{get_is}

-- ---- lists
pub index_map : {X Y : Type 0} (f : X → Y) (xs : List X) (k : ℕ) (d : X) → slice_index_or (map f xs) k (f d) ≡ f (slice_index_or xs k d)
index_map f [] k d = refl
index_map f (x ∷ xs) zero d = refl
index_map f (x ∷ xs) (suc k) d = index_map f xs k d

pub from_map : {X Y : Type 0} (f : X → Y) (xs : List X) (k : ℕ) (y : Y) → slice_get (map f xs) k ≡ Some y → (x : X) × (slice_get xs k ≡ Some x) × (f x ≡ y)
from_map f [] k y at = absurd (cc)
from_map f (x ∷ xs) zero y at = (x, refl, some_injective (f x) y at)
from_map f (x ∷ xs) (suc k) y at = from_map f xs k y at

pub into_map : {X Y : Type 0} (f : X → Y) (xs : List X) (k : ℕ) (x : X) → slice_get xs k ≡ Some x → slice_get (map f xs) k ≡ Some (f x)
into_map f [] k x at = absurd (cc)
into_map f (y ∷ ys) zero x at = ap (λ z. Some (f z)) (some_injective y x at)
into_map f (y ∷ ys) (suc k) x at = into_map f ys k x at

pub got_is : {X : Type 0} (xs : List X) (k : ℕ) (x d : X) → slice_get xs k ≡ Some x → slice_index_or xs k d ≡ x
got_is [] k x d at = absurd (cc)
got_is (y ∷ ys) zero x d at = some_injective y x at
got_is (y ∷ ys) (suc k) x d at = got_is ys k x d at

no_elements : {X : Type 0} (P : X → Type 0) → All P []
no_elements P k d less = absurd (omega (arith, less))

one_more : {X : Type 0} (P : X → Type 0) (x : X) (xs : List X) → P x → All P xs → All P (x ∷ xs)
one_more P x xs here rest zero d less = here
one_more P x xs here rest (suc k) d less = rest k d (omega (arith, less))

names_of : (list : List ArmTold) → map name_of list ≡ map slots.name_of (map (λ (told : ArmTold). told.0) list)
names_of [] = refl
names_of (t ∷ ts) = λ i. name_of t ∷ names_of ts i

-- where an element that is found stands
pub found_at : {X : Type 0} (p : X → Bool) (xs : List X) (x : X) → find p xs ≡ Some x → (k : ℕ) × (slice_get xs k ≡ Some x) × (p x ≡ true)
found_at p [] x is = absurd (cc)
found_at {X} p (y ∷ ys) x is = by (p y) refl is (found_at p ys x)
  where
    by : (b : Bool) → p y ≡ b → cond b (Some y) (find p ys) ≡ Some x → (find p ys ≡ Some x → (k : ℕ) × (slice_get ys k ≡ Some x) × (p x ≡ true))
        → (k : ℕ) × (slice_get (y ∷ ys) k ≡ Some x) × (p x ≡ true)
    by true holds e rest = (0, e, ap p (sym (some_injective y x e)) ∙ holds)
    by false holds e rest = let z = rest e in (suc z.0, z.1, z.2)

found_place : {X : Type 0} (p : X → Bool) (xss : List (List X)) (x : X) → find p (flat_map (λ (xs : List X). xs) xss) ≡ Some x
    → (s : ℕ) × (k : ℕ) × (slice_get (slice_index_or xss s []) k ≡ Some x) × (p x ≡ true)
found_place p [] x is = absurd (cc)
found_place {X} p (xs ∷ xss) x is = by (find p xs) refl (sym (find-append p xs (flat_map (λ (xs : List X). xs) xss)) ∙ is) (found_place p xss x)
  where
    by : (o : Option X) → find p xs ≡ o → option_or o (find p (flat_map (λ (xs : List X). xs) xss)) ≡ Some x
        → (find p (flat_map (λ (xs : List X). xs) xss) ≡ Some x → (s : ℕ) × (k : ℕ) × (slice_get (slice_index_or xss s []) k ≡ Some x) × (p x ≡ true))
        → (s : ℕ) × (k : ℕ) × (slice_get (slice_index_or (xs ∷ xss) s []) k ≡ Some x) × (p x ≡ true)
    by None none e rest = let z = rest e in (suc z.0, z.1, z.2, z.3)
    by (Some y) some e rest = let z = found_at p xs x (some ∙ e) in (0, z.0, z.1, z.2)

-- ---- what is told of lists of arms
arms_same : (list : List (Arm × Numbers)) → map (λ (told : ArmTold). told.0) (told_slot list) ≡ map (λ (pair : Arm × Numbers). pair.0) list
arms_same [] = refl
arms_same (p ∷ ps) = λ i. p.0 ∷ arms_same ps i

pub arms_are : (lists : List (Vec (Arm × Numbers) Global)) → arms_listed lists ≡ arms_told (told_slots lists)
arms_are [] = refl
arms_are (l ∷ ls) = λ i. sym (arms_same l.items) i ∷ arms_are ls i

-- the arm that is told at a place
abbrev pub told_of : List (List ArmTold) → ArmAt → ArmTold
told_of all at = slice_index_or (slice_index_or all at.slot []) at.arm none_told

slot_log : (list : List (Arm × Numbers)) (arm g : ℕ) → has (slice_index_or (map (λ (pair : Arm × Numbers). pair.1) list) arm no_log) g ≡ has_in (slice_index_or (told_slot list) arm none_told).1 g
slot_log [] arm g = refl
slot_log (p ∷ ps) zero g = refl
slot_log (p ∷ ps) (suc arm) g = slot_log ps arm g

all_logs : (lists : List (Vec (Arm × Numbers) Global)) (slot arm g : ℕ)
    → has (log_in (logs_listed lists) (record { slot = slot; arm = arm })) g ≡ has_in (told_of (told_slots lists) (record { slot = slot; arm = arm })).1 g
all_logs [] slot arm g = refl
all_logs (l ∷ ls) zero arm g = slot_log l.items arm g
all_logs (l ∷ ls) (suc slot) arm g = all_logs ls slot arm g

pub logs_are : (lists : List (Vec (Arm × Numbers) Global)) (at : ArmAt) (g : ℕ) → has (log_in (logs_listed lists) at) g ≡ has_in (told_of (told_slots lists) at).1 g
logs_are lists at g = all_logs lists at.slot at.arm g

-- ---- the slots
module _ (limits : Limits) (all : List (List ArmTold)) (ranged : AreSlots limits [] all) (table : SlotTable) (group : ℕ) (arms : table.arms ≡ arms_told all)
    (logs : (at : ArmAt) (g : ℕ) → is_logged table at g ≡ (has_in (told_of all at).1 g && nat_le g group)) (none : table.detached ≡ []) where
  abbrev first : ArmTold → Arm
  first told = told.0

  arms_at : (slot : ℕ) → arms_of table slot ≡ map first (slice_index_or all slot [])
  arms_at slot = ap (λ (a : List (List Arm)). slice_index_or a slot []) arms ∙ index_map (map first) all slot []

  order : (slot : ℕ) → order_by all slot ≡ map slots.name_of (arms_of table slot)
  order slot = names_of (slice_index_or all slot []) ∙ ap (map slots.name_of) (sym (arms_at slot))

  abbrev arm_is : ArmName → Option machine.Arm
  arm_is = each_arm (λ n. cut_above group) (arm_by all)

  -- the arm at a place is the one told there
  is_told : (at : ArmAt) (arm : Arm) → arm_at table at ≡ Some arm → (t : ArmTold) × (slice_get (slice_index_or all at.slot []) at.arm ≡ Some t) × (t.0 ≡ arm)
  is_told at arm there = from_map first (slice_index_or all at.slot []) at.arm arm (ap (λ xs. slice_get xs at.arm) (sym (arms_at at.slot)) ∙ there)

  is_told_so : (at : ArmAt) (t : ArmTold) → slice_get (slice_index_or all at.slot []) at.arm ≡ Some t → arm_is (name_of t) ≡ Some (arm_in table at t.0)
  is_told_so at t got =
      let found = (found_in limits [] all at.slot at.arm t ranged got).1 in
      let own : told_of all at ≡ t = got_is (slice_index_or all at.slot []) at.arm t none_told got in
      let log : (λ g. has_in t.1 g && nat_le g group) ≡ is_logged table at = λ i g. (ap (λ (u : ArmTold). has_in u.1 g && nat_le g group) (sym own) ∙ sym (logs at g)) i in
      ap (λ o. map_arm (cut_above group) (option_map arm_of o)) found ∙ (λ i. Some (record { offline = t.0.offline; fresh = t.0.fresh; log = log i; gone = None }))

  has_arms : (at : ArmAt) (arm : Arm) → arm_at table at ≡ Some arm → arm_is (slots.name_of arm) ≡ Some (arm_in table at arm)
  has_arms at arm there = let t = is_told at arm there in subst (λ (a : Arm). arm_is (slots.name_of a) ≡ Some (arm_in table at a)) t.2 (is_told_so at t.0 t.1)

  only : (n : ArmName) → arm_is n ≢ None → HasArm table n ⊎ WasArm table n
  only n some = by (find (has_name n) (all_arms all)) refl
    where
      by : (o : Option ArmTold) → find (has_name n) (all_arms all) ≡ o → HasArm table n ⊎ WasArm table n
      by None none = absurd (some (ap (λ o. map_arm (cut_above group) (option_map arm_of o)) none))
      by (Some t) found =
          let z = found_place (has_name n) all t found in
          inl (record {
            at = record { slot = z.0; arm = z.1 };
            arm = t.0;
            there = ap (λ xs. slice_get xs z.1) (arms_at z.0) ∙ into_map first (slice_index_or all z.0 []) z.1 t z.2;
            name_is = name_true (name_of t) n z.3;
          })

  nothing : (gone : Detached) → Contains table.detached gone → ⊥
  nothing gone among = let less = among.1 in let zero : length table.detached ≡ 0 = ap length none in omega (arith, less, zero)

  -- a state that has the told order and arms, whose logs are cut, has the slots
  pub opened_slots : (q : machine.Core) → q.arm ≡ arm_is → q.order ≡ order_by all → HasSlots table q
  opened_slots q arm_eq order_eq = record {
    order = λ slot. ap (λ (o : ℕ → List ArmName). o slot) order_eq ∙ order slot;
    arms = λ at arm there. ap (λ (f : ArmName → Option machine.Arm). f (slots.name_of arm)) arm_eq ∙ has_arms at arm there;
    detached = λ gone among. absurd (nothing gone among);
    only = λ n some. only n (λ none. some (ap (λ (f : ArmName → Option machine.Arm). f n) arm_eq ∙ none));
  }

  -- ---- the pass
  some_arms : (before rest : List (List ArmTold)) (s : ℕ) → AreSlots limits before rest → s < length rest → 1 ≤ length (slice_index_or rest s [])
  some_arms before [] s are less = absurd (omega (arith, less))
  some_arms before (x ∷ rest) zero are less = are.0.some
  some_arms before (x ∷ rest) (suc s) are less = some_arms (before ++ x ∷ []) rest s are.1 (omega (arith, less))

  targets_at : (before : Option ArmAt) (ats : List ArmAt) → AreTargets all before ats → 1 ≤ length all → map (target_of all) ats ≡ names_at table ats
  targets_at before [] are some = refl
  targets_at before (at ∷ ats) are some = one (arm_at table at) refl (targets_at (Some at) ats are.6 some)
    where
      there : at.arm < length (slice_index_or all at.slot [])
      there =
          let slot = are.1 in
          let arm = are.4 in
          let least = some_arms [] all at.slot ranged (omega (arith, slot, some)) in
          omega (arith, arm, least)

      told : ArmTold
      told = told_of all at

      is : arm_at table at ≡ Some told.0
      is = ap (λ xs. slice_get xs at.arm) (arms_at at.slot) ∙ into_map first (slice_index_or all at.slot []) at.arm told (get_is (slice_index_or all at.slot []) at.arm none_told there)

      one : (o : Option Arm) → arm_at table at ≡ o → map (target_of all) ats ≡ names_at table ats
          → target_of all at ∷ map (target_of all) ats ≡ (elim o as (λ o. List ArmName) [ None ↦ names_at table ats | Some arm ↦ slots.name_of arm ∷ names_at table ats ])
      one None none rest = absurd (let a = is in cc)
      one (Some arm) some rest = let own : told.0 ≡ arm = some_injective told.0 arm (sym is ∙ some) in λ i. slots.name_of (own i) ∷ rest i

  abbrev there_at : ArmAt → Type 0
  there_at at = at.arm < length (arms_of table at.slot)

  targets_there : (before : Option ArmAt) (ats : List ArmAt) → AreTargets all before ats → 1 ≤ length all
      → All (λ (at : ArmAt). at.arm < length (arms_of table at.slot)) ats × AscendBehind before ats
  targets_there before [] are some = (no_elements there_at, tt)
  targets_there before (at ∷ ats) are some =
      let rest = targets_there (Some at) ats are.6 some in
      let slot = are.1 in
      let arm = are.4 in
      let least = some_arms [] all at.slot ranged (omega (arith, slot, some)) in
      let same = ap length (arms_at at.slot) ∙ length-map (slice_index_or all at.slot []) first in
      (one_more there_at at ats (omega (arith, arm, least, same)) rest.0, (are.0, are.3, rest.1))

  some_slots : (slots : List (List ArmTold)) → 1 ≤ arm_count slots → 1 ≤ length slots
  some_slots [] some = absurd (omega (arith, some))
  some_slots (x ∷ xs) some = omega arith

  all_targets : (p : PassTold) → IsPass limits all p → map (target_of all) p.targets ≡ names_at table p.targets
  all_targets p is = by p.targets is.few is.targets_are
    where
      by : (ats : List ArmAt) → length ats ≤ arm_count all → AreTargets all None ats → map (target_of all) ats ≡ names_at table ats
      by [] few are = refl
      by (at ∷ ats) few are = targets_at None (at ∷ ats) are (some_slots all (omega (arith, few)))

  pub opened_pass : (value : RecordTold) (pass : Option Pass) → value.slots ≡ all → value.pass ≡ option_map told_pass pass → IsPassOrNone limits all value.pass
      → IfSome pass (λ p. p.number ≡ value.last_pass) → option_map (pass_of value) value.pass ≡ option_map (pass_in table) pass
  opened_pass value pass told own ranged_pass number = ap (option_map (pass_of value)) own ∙ by pass (subst (IsPassOrNone limits all) own ranged_pass) number
    where
      by : (o : Option Pass) → IsPassOrNone limits all (option_map told_pass o) → IfSome o (λ p. p.number ≡ value.last_pass) → option_map (pass_of value) (option_map told_pass o) ≡ option_map (pass_in table) o
      by None is n = refl
      by (Some p) is n = λ i. Some (record {
        number = sym n i;
        kind = p.kind;
        targets = (ap (λ (s : List (List ArmTold)). map (target_of s) p.targets.items) told ∙ all_targets (told_pass p) is) i;
        max = p.max;
        next = p.at;
        errors = p.errors;
        running = p.running;
      })

  pub opened_holds : (last : ℕ) (pass : Option Pass) → IsPassOrNone limits all (option_map told_pass pass) → IfSome pass (λ p. p.number ≡ last) → IfSome pass (HoldsPass table last)
  opened_holds last None is number = tt
  opened_holds last (Some p) is number =
      let targets = by p.targets.items is.few is.targets_are in
      record { current = record { number = number; targets = targets.0 }; ascending = targets.1; some_max = is.some_max }
    where
      by : (ats : List ArmAt) → length ats ≤ arm_count all → AreTargets all None ats → All (λ (at : ArmAt). at.arm < length (arms_of table at.slot)) ats × AscendBehind None ats
      by [] few are = (no_elements there_at, tt)
      by (at ∷ ats) few are = targets_there None (at ∷ ats) are (some_slots all (omega (arith, few)))
