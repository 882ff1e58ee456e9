-- The tables of a record that was read without a fault.
use Rattle.std.proofs.Common.{◌≡◌, ◌==◌, ◌<◌, ◌≤◌, ◌||◌, ◌&&◌, ◌^◌, inl, inr, nat_le, ℕ, zero, suc, Bool, true, false, List, [], ◌∷◌, ◌++◌, length, map, All, Some, None, Ok, IfSome, refl, sym, ◌∙◌, ap, subst, arith, slice_get, slice_index_or, option_map, if◌then◌else◌, eqb-true}
use Rattle.std.specs.declared.alloc.Global.{Global}
use Rattle.std.specs.declared.vec.Vec.{Vec}
use Rattle.std.proofs.lemmas.Bool.{cases_lt, true≢false}
use Rattle.std.proofs.lemmas.Bool.Decides.{nat_tests}
use Rattle.std.proofs.lemmas.List.{length-map}
use Rattle.draid_names.specs.Numbers.{most_held}
use Rattle.draid_names.specs.declared.numbers.TheConstants.{NUMBERS}
use Rattle.draid_names.specs.declared.arm.Arm.{Arm}
use Rattle.draid_names.specs.declared.arm.ArmAt.{ArmAt}
use Rattle.draid_names.specs.declared.arm.ArmKind.{ArmKind}
use Rattle.draid_names.specs.declared.arm.ArmKind.TheVariants.{Leaf, Spare}
use Rattle.draid_spec.specs.declared.layout.Geometry.{Geometry}
use Rattle.draid_spec.specs.Geometry.{IsGeometry}
use Rattle.draid_perm.specs.declared.perms.Perms.{Perms}
use Rattle.draid_ranges.specs.Numbers.{Numbers, has}
use Rattle.draid_ranges.specs.Runs.{has_in}
use Rattle.draid_machine.proofs.Small.{both_true}
use Rattle.draid_slots.specs.Changes.{HasRoom, IsOf}
use Rattle.draid_slots.specs.Table as table
use Rattle.draid_slots.specs.Table.{SlotTable, arms_listed, is_logged, log_in, logs_listed}
use Rattle.draid_entries.specs.Live.{HasLive, first_twice}
use Rattle.draid_record.specs.declared.limits.Limits.{Limits}
use Rattle.draid_record.specs.declared.record.Record.{Record}
use Rattle.draid_record.specs.Ranges.{AreArms, AreSlots, IsRanged}
use Rattle.draid_record.specs.Record.{ArmTold, RecordTold, Spelled, limits_of, record_of, told_arm, told_record, told_slot, told_slots}
use Rattle.draid_record.proofs.Spelled.{spelled_ranged}
use Rattle.draid_stable.specs.declared.opening.Tables.{Tables}
use Rattle.draid_record.specs.declared.sizes.TheConstants.{SLOTS_AT}
use Rattle.draid_stable.specs.Opening.{AreTablesOf, IsSpaceOf, arms_told, fitting, lacking_from, once_in, opening_of, there_in}
use Rattle.draid_slots.specs.States.{HoldsPass, pass_in}
use Rattle.draid_slots.proofs.Somewhere.{any_where}
use Rattle.draid_stable.proofs.Named.{apart_slots, slots_are}
use Rattle.draid_stable.proofs.Opened.{arms_are, from_map, index_map, logs_are, opened_holds, opened_pass, opened_slots, told_of}
use Rattle.draid_stable.proofs.Places.{sound_limits}
use Rattle.draid_stable.proofs.Settled.{get_is}

pub ranged_of : (geometry : Geometry) (metaslab group next : ℕ) (bytes : List ℕ) (value : RecordTold) → IsGeometry geometry → group < NUMBERS → Spelled (limits_of geometry metaslab group next) bytes value
    → IsRanged (limits_of geometry metaslab group next) value
ranged_of geometry metaslab group next bytes value is low spelled =
    spelled_ranged (limits_of geometry metaslab group next) bytes value (sound_limits geometry metaslab group next is) low spelled

-- ---- how long the parts are

pub few_slots : (limits : Limits) (lists : List (Vec (Arm × Numbers) Global)) → length (told_slots lists) ≡ limits.children → limits.children < 2 ^ 16 → length lists < 2 ^ 16
few_slots limits lists is few = let n = length-map lists (λ (list : Vec (Arm × Numbers) Global). told_slot list.items) in omega (arith, n, is, few)

pub few_arms : (limits : Limits) (before : List (List ArmTold)) (lists : List (Vec (Arm × Numbers) Global)) → AreSlots limits before (told_slots lists)
    → All (λ (list : Vec (Arm × Numbers) Global). length list.items ≤ 3) lists
few_arms limits before [] are k d less = absurd (omega (arith, less))
few_arms limits before (x ∷ xs) are zero d less = let n = length-map x.items told_arm in let m = are.0.most in omega (arith, n, m)
few_arms limits before (x ∷ xs) are (suc k) d less = few_arms limits (before ++ told_slot x.items ∷ []) xs are.1 k d (omega (arith, less))

short_arms : (limits : Limits) (before : List (List ArmTold)) (count : ℕ) (here : List ArmTold) (list : List (Arm × Numbers)) → AreArms limits before count here (told_slot list)
    → All (λ (p : Arm × Numbers). length p.1.runs < 2 ^ 32) list
short_arms limits before count here [] are k d less = absurd (omega (arith, less))
short_arms limits before count here (p ∷ ps) are zero d less = are.0.few
short_arms limits before count here (p ∷ ps) are (suc k) d less = short_arms limits before count (here ++ (p.0, p.1.runs) ∷ []) ps are.1 k d (omega (arith, less))

pub short_logs : (limits : Limits) (before : List (List ArmTold)) (lists : List (Vec (Arm × Numbers) Global)) → AreSlots limits before (told_slots lists)
    → All (λ (list : Vec (Arm × Numbers) Global). All (λ (p : Arm × Numbers). length p.1.runs < 2 ^ 32) list.items) lists
short_logs limits before [] are k d less = absurd (omega (arith, less))
short_logs limits before (x ∷ xs) are zero d less = short_arms limits before (length (told_slot x.items)) [] x.items are.0.arms_are
short_logs limits before (x ∷ xs) are (suc k) d less = short_logs limits (before ++ told_slot x.items ∷ []) xs are.1 k d (omega (arith, less))

pub few_blocks : (version count : ℕ) → count ≤ most_held version → count ≤ 8192
few_blocks version count few = by (version == 1) few
  where
    by : (b : Bool) → count ≤ (if b then 4096 else 8192) → count ≤ 8192
    by true le = omega (arith, le)
    by false le = le

-- ---- the slots are those of a metaslab

or_false : (b : Bool) → (b || false) ≡ true → b ≡ true
or_false true is = refl
or_false false is = is

spare_is : (k : ArmKind) → table.is_spare_kind k ≡ true → k ≡ Spare
spare_is Leaf is = absurd (true≢false (sym is))
spare_is Spare is = refl

-- the place of a spare
spare_at : (all : List (List ArmTold)) (slot spare : ℕ) → table.has_spare (slice_index_or (arms_told all) slot []) spare ≡ true
    → (k : ℕ) × (t : ArmTold) × (slice_get (slice_index_or all slot []) k ≡ Some t) × (t.0.kind ≡ Spare) × (t.0.number ≡ spare)
spare_at all slot spare has =
    let first : ArmTold → Arm = λ told. told.0 in
    let none : Arm = record { kind = Leaf; number = 0; offline = false; fresh = false } in
    let list : List Arm = map first (slice_index_or all slot []) in
    let here : table.has_spare list spare ≡ true = ap (λ xs. table.has_spare xs spare) (sym (index_map (map first) all slot [])) ∙ has in
    let at = any_where (table.is_spare_of spare) list none here in
    let arm : Arm = slice_index_or list at.0 none in
    let t = from_map first (slice_index_or all slot []) at.0 arm (get_is list at.0 none at.1) in
    let both = both_true (table.is_spare_kind arm.kind) (arm.number == spare) at.2 in
    (at.0, t.0, t.1, ap (λ (a : Arm). a.kind) t.2 ∙ spare_is arm.kind both.0, ap (λ (a : Arm). a.number) t.2 ∙ eqb-true arm.number spare both.1)

one_slot : (limits : Limits) (all : List (List ArmTold)) → AreSlots limits [] all → (spare slot other : ℕ) → table.has_spare (slice_index_or (arms_told all) slot []) spare ≡ true
    → table.has_spare (slice_index_or (arms_told all) other []) spare ≡ true → slot ≡ other
one_slot limits all are spare slot other has also =
    let a = spare_at all slot spare has in
    let b = spare_at all other spare also in
    let kind = a.3 ∙ sym b.3 in
    let number = a.4 ∙ sym b.4 in
    elim (cases_lt slot other) [
      | inl less ↦ absurd (apart_slots limits [] all slot other a.0 b.0 a.1 b.1 are a.2 b.2 kind number less)
      | inr from ↦ elim (cases_lt other slot) [
        | inl less ↦ absurd (apart_slots limits [] all other slot b.0 a.0 b.1 a.1 are b.2 a.2 (sym kind) (sym number) less)
        | inr upto ↦ omega (arith, from, upto)
      ]
    ]

pub metaslab_slots : (geometry : Geometry) (metaslab group next : ℕ) (lists : List (Vec (Arm × Numbers) Global)) → AreSlots (limits_of geometry metaslab group next) [] (told_slots lists)
    → length (told_slots lists) ≡ geometry.spec.children → table.AreSlots geometry (arms_listed lists) []
metaslab_slots geometry metaslab group next lists are children =
    let limits = limits_of geometry metaslab group next in
    let all : List (List ArmTold) = told_slots lists in
    subst (λ (arms : List (List Arm)). table.AreSlots geometry arms []) (sym (arms_are lists)) (record {
      children = length-map all (λ (slot : List ArmTold). map (λ (told : ArmTold). told.0) slot) ∙ children;
      each = slots_are limits [] all are;
      once = λ spare slot other has also. one_slot limits all are spare slot other (or_false (table.has_spare (slice_index_or (arms_told all) slot []) spare) has)
          (or_false (table.has_spare (slice_index_or (arms_told all) other []) spare) also);
    })

-- ---- the whole

pub found_whole : (limits : Limits) (there : ℕ → Bool) (bytes : List ℕ) (value : RecordTold) → record_of limits bytes ≡ Ok value → lacking_from there SLOTS_AT value.slots ≡ None → first_twice value.blocks ≡ None
    → opening_of limits there bytes ≡ Ok value
found_whole limits there bytes value found lacks once = ap (fitting there bytes) found ∙ ap (there_in bytes value) lacks ∙ ap (once_in bytes value) once

module _ (geometry : Geometry) (perms : Perms) (metaslab group next : ℕ) (there : ℕ → Bool) (bytes : List ℕ) (it : Record) (ranged : IsRanged (limits_of geometry metaslab group next) (told_record it))
    (t : Tables) where
  abbrev all : List (List ArmTold)
  all = told_slots it.slots.items

  pub tables_are : HasLive t.entries it.blocks.items → IsOf t.slots geometry perms metaslab → t.slots.arms ≡ arms_listed it.slots.items
      → ((at : ArmAt) (g : ℕ) → is_logged t.slots at g ≡ (has (log_in (logs_listed it.slots.items) at) g && nat_le g group)) → t.slots.detached ≡ [] → HasRoom t.slots 4 0
      → IsSpaceOf geometry it.blocks.items t.space → t.pass ≡ it.pass → t.last_pass ≡ it.last_pass → IfSome it.pass (λ p. p.number ≡ it.last_pass) → AreTablesOf geometry perms (told_record it) t
  tables_are live of arms logs none room space pass last number = record {
    entries = live;
    of = record { geometry_is = of.geometry_is; perms_are = of.perms_are; metaslab_is = of.metaslab_is ∙ sym ranged.metaslab_is };
    arms = arms_so;
    detached = none;
    slots = opened_slots limits all ranged.slots_are t.slots it.group arms_so logs_so none _ refl refl;
    room = room;
    space = space;
    pass = opened_pass limits all ranged.slots_are t.slots it.group arms_so logs_so none (told_record it) it.pass refl refl ranged.pass_is number ∙ ap (option_map (pass_in t.slots)) (sym pass);
    last = last;
    holds = subst (λ o. IfSome o (HoldsPass t.slots t.last_pass)) (sym pass)
        (subst (λ n. IfSome it.pass (HoldsPass t.slots n)) (sym last) (opened_holds limits all ranged.slots_are t.slots it.group arms_so logs_so none it.last_pass it.pass ranged.pass_is number));
  }
    where
      limits : Limits
      limits = limits_of geometry metaslab group next

      arms_so : t.slots.arms ≡ arms_told all
      arms_so = arms ∙ arms_are it.slots.items

      logs_so : (at : ArmAt) (g : ℕ) → is_logged t.slots at g ≡ (has_in (told_of all at).1 g && nat_le g it.group)
      logs_so at g = logs at g ∙ (λ i. logs_are it.slots.items at g i && nat_le g (sym ranged.group_is i))
