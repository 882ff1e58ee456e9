-- The logs of a record that is settled and written are in their ranges.
use Rattle.std.proofs.Common.{◌≡◌, ◌==◌, ◌<◌, ◌≤◌, ◌+◌, ◌^◌, ◌||◌, ◌&&◌, ◌⊎◌, inl, inr, ℕ, zero, suc, Bool, true, false, List, [], ◌∷◌, ◌++◌, Option, Some, length, refl, sym, ◌∙◌, ap, subst, arith, nat_le, nat_lt, slice_get, slice_index_or}
use Rattle.std.specs.List.{flat_map}
use Rattle.std.specs.declared.alloc.Global.{Global}
use Rattle.std.specs.declared.vec.Vec.{Vec}
use Rattle.std.proofs.lemmas.Bool.{cases_lt, true≢false}
use Rattle.std.proofs.lemmas.Bool.Decides.{nat_tests}
use Rattle.std.proofs.lemmas.List.{get_or-map, length-append, length-map}
use Rattle.std.specs.Int.{bytes_high_first}
use Rattle.draid_names.specs.declared.arm.Arm.{Arm}
use Rattle.draid_names.specs.declared.arm.ArmAt.{ArmAt}
use Rattle.draid_names.specs.declared.arm.ArmKind.TheVariants.{Leaf}
use Rattle.draid_pass.specs.declared.pass.Pass.{Pass}
use Rattle.draid_entries.specs.declared.entries.Entries.{Entries}
use Rattle.draid_ranges.specs.Numbers.{Numbers, has}
use Rattle.draid_ranges.specs.Runs.{AreApart, AreWithin, has_in, in_run}
use Rattle.draid_ranges.specs.declared.run.Run.{Run}
use Rattle.draid_record.specs.declared.record.Record.{Record}
use Rattle.draid_record.specs.Ranges.{AreRuns}
use Rattle.draid_record.specs.Record.{ArmTold, RecordTold, told_arm, told_record, spaces_of, told_slot, told_slots}
use Rattle.draid_record.specs.Written.{arm_bytes, blocks_bytes, body_bytes, code_of, flags_of, log_bytes, pass_bytes, run_bytes, slot_bytes, spaces_bytes}
use Rattle.draid_slots.specs.Table.{SlotTable, arm_at, arms_of, is_logged}
use Rattle.draid_machine.proofs.Small.{some_injective, true_left}
use Rattle.draid_stable.specs.Sealing.{CopiesArm, CopiesSlots, IsMade, IsSettled, MarksSlots}
use Rattle.draid_stable.specs.Within.{LogsFit}
use Rattle.draid_stable.specs.declared.sealing.Head.{Head}

-- ---- runs that are apart, of groups from 1 on
within_low : (low high : ℕ) (rs : List Run) → AreWithin low rs high → low ≤ high
within_low low high [] w = w
within_low low high (r ∷ rs) w = let a = w.0 in let b = within_low (r.first + r.len + 1) high rs w.2 in omega (arith, a, b)

runs_within : (low : ℕ) (rs : List Run) → AreWithin low rs (2 ^ 48 + 1) → AreRuns low rs
runs_within low [] w = tt
runs_within low (r ∷ rs) w = (w.0, w.1, (let b = within_low (r.first + r.len + 1) (2 ^ 48 + 1) rs w.2 in omega (arith, b)), runs_within (r.first + r.len + 1) rs w.2)

has_zero : (first len : ℕ) → first < 1 → 0 < len → (nat_le first 0 && nat_lt 0 (first + len)) ≡ true
has_zero first len none some = grind (arith, nat_tests)

pub runs_from_one : (rs : List Run) → AreApart rs → has_in rs 0 ≡ false → AreRuns 1 rs
runs_from_one [] apart none = tt
runs_from_one (r ∷ rs) apart none =
    let z = runs_within 0 (r ∷ rs) apart in (
      elim (cases_lt r.first 1) [
        | inl low ↦ absurd (true≢false (sym (true_left (in_run r 0) (has_in rs 0) (has_zero r.first r.len low z.1)) ∙ none))
        | inr from ↦ from
      ],
      z.1,
      z.2,
      z.3,
    )

-- ---- a record's bytes are no fewer than the runs of one of its logs
flat_long : {X : Type 0} (f : X → List ℕ) (xs : List X) (k : ℕ) (d : X) → k < length xs → length (f (slice_index_or xs k d)) ≤ length (flat_map f xs)
flat_long f [] k d less = absurd (omega (arith, less))
flat_long f (x ∷ xs) zero d less = let n = length-append (f x) (flat_map f xs) in omega (arith, n)
flat_long f (x ∷ xs) (suc k) d less = let n = length-append (f x) (flat_map f xs) in let m = flat_long f xs k d (omega (arith, less)) in omega (arith, n, m)

run_long : (r : Run) → 1 ≤ length (run_bytes r)
run_long r = omega arith

runs_long : (rs : List Run) → length rs ≤ length (flat_map run_bytes rs)
runs_long [] = omega arith
runs_long (r ∷ rs) = let n = length-append (run_bytes r) (flat_map run_bytes rs) in let m = runs_long rs in let one = run_long r in omega (arith, n, m, one)

behind : (xs ys : List ℕ) (n : ℕ) → n ≤ length ys → n ≤ length (xs ++ ys)
behind xs ys n less = let m = length-append xs ys in omega (arith, m, less)

before : (xs ys : List ℕ) (n : ℕ) → n ≤ length xs → n ≤ length (xs ++ ys)
before xs ys n less = let m = length-append xs ys in omega (arith, m, less)

arm_long : (told : ArmTold) → length told.1 ≤ length (arm_bytes told)
arm_long told =
    behind (bytes_high_first 1 (code_of told.0.kind) ++ bytes_high_first 8 told.0.number ++ bytes_high_first 1 (flags_of told.0)) (log_bytes told.1) (length told.1)
    (behind (bytes_high_first 4 (length told.1)) (flat_map run_bytes told.1) (length told.1) (runs_long told.1))

beyond : {X : Type 0} (xs : List (List X)) (k : ℕ) → length xs ≤ k → slice_index_or xs k [] ≡ []
beyond [] k far = refl
beyond (x ∷ xs) zero far = absurd (omega (arith, far))
beyond (x ∷ xs) (suc k) far = beyond xs k (omega (arith, far))

slots_long : (slots : List (List ArmTold)) (slot n : ℕ) → slot < length slots → n ≤ length (flat_map arm_bytes (slice_index_or slots slot [])) → n ≤ length (flat_map slot_bytes slots)
slots_long slots slot n inside less =
    let c : n ≤ length (slot_bytes (slice_index_or slots slot [])) = behind (bytes_high_first 1 (length (slice_index_or slots slot []))) (flat_map arm_bytes (slice_index_or slots slot [])) n less in
    let e = flat_long slot_bytes slots slot [] inside in
    omega (arith, c, e)

body_long : (value : RecordTold) (slot k n : ℕ) (d : ArmTold) → k < length (slice_index_or value.slots slot []) → n ≡ length (slice_index_or (slice_index_or value.slots slot []) k d).1 → n ≤ length (body_bytes value)
body_long value slot k n d less is = by (cases_lt slot (length value.slots))
  where
    by : (slot < length value.slots) ⊎ (length value.slots ≤ slot) → n ≤ length (body_bytes value)
    by (inr far) = absurd (let e = ap length (beyond value.slots slot far) in omega (arith, e, less))
    by (inl inside) =
        let a = arm_long (slice_index_or (slice_index_or value.slots slot []) k d) in
        let b = flat_long arm_bytes (slice_index_or value.slots slot []) k d less in
        let head : List ℕ = bytes_high_first 2 value.metaslab ++ bytes_high_first 8 value.group ++ bytes_high_first 2 (length value.slots) in
        before (head ++ flat_map slot_bytes value.slots ++ bytes_high_first 8 value.last_pass ++ pass_bytes value.pass ++ spaces_bytes (spaces_of value.blocks)) (blocks_bytes value.blocks) n
        (before (head ++ flat_map slot_bytes value.slots ++ bytes_high_first 8 value.last_pass ++ pass_bytes value.pass) (spaces_bytes (spaces_of value.blocks)) n
        (before (head ++ flat_map slot_bytes value.slots ++ bytes_high_first 8 value.last_pass) (pass_bytes value.pass) n
        (before (head ++ flat_map slot_bytes value.slots) (bytes_high_first 8 value.last_pass) n
        (behind head (flat_map slot_bytes value.slots) n (slots_long value.slots slot n inside (omega (arith, a, b, is)))))))

-- ---- the logs of a record, by its arms
abbrev IsSound : Arm × Numbers → Type 0
IsSound pair = AreApart pair.1.runs × (has pair.1 0 ≡ false)

abbrev AreSound : List (Vec (Arm × Numbers) Global) → Type 0
AreSound lists = (slot : ℕ) (d : Vec (Arm × Numbers) Global) → slot < length lists → (k : ℕ) (e : Arm × Numbers) → k < length (slice_index_or lists slot d).items → IsSound (slice_index_or (slice_index_or lists slot d).items k e)

none_marked : (was marked : Bool) (group : ℕ) → 0 < group → was ≡ false → (was || (marked && (0 == group))) ≡ false
none_marked true marked group some e = absurd (true≢false e)
none_marked false true group some e = grind (arith, nat_tests)
none_marked false false group some e = refl

module _ (table : SlotTable) (clean : (at : ArmAt) (a : Arm) → arm_at table at ≡ Some a → is_logged table at 0 ≡ false) where
  copied_sound : (lists : List (Vec (Arm × Numbers) Global)) → CopiesSlots table lists → AreSound lists
  copied_sound lists copies slot d less k e in_slot =
      let c : CopiesArm table slot k (slice_index_or (slice_index_or lists slot d).items k e) = (copies.each slot d less).each k e in_slot in
      (c.apart, c.log 0 ∙ clean (record { slot = slot; arm = k }) (slice_index_or (slice_index_or lists slot d).items k e).0 c.there)

  marked_sound : (old new : List (Vec (Arm × Numbers) Global)) (marks : List (List Bool)) (group : ℕ) → 0 < group → AreSound old → MarksSlots old new marks group → AreSound new
  marked_sound old new marks group some sound m slot d less k e in_slot =
      let inside : slot < length old = (let c = m.count in omega (arith, less, c)) in
      let s = m.each slot d inside in
      let below : k < length (slice_index_or old slot d).items = (let c = s.count in omega (arith, in_slot, c)) in
      let a = s.each k e below in
      let was = sound slot d inside k e below in
      (a.apart was.0, a.log 0 ∙ none_marked _ (slice_index_or (slice_index_or marks slot []) k false) group some was.1)

  settled_sound : (old new : Record) (marks : List (List Bool)) (wrote : Bool) → 0 < old.group → CopiesSlots table old.slots.items → IsSettled old new marks wrote → AreSound new.slots.items
  settled_sound old new marks wrote some copies s = by wrote s.written s.not_written
    where
      by : (b : Bool) → (b ≡ true → MarksSlots old.slots.items new.slots.items marks old.group) → (b ≡ false → new.slots ≡ old.slots) → AreSound new.slots.items
      by true m same = marked_sound old.slots.items new.slots.items marks old.group some (copied_sound old.slots.items copies) (m refl)
      by false m same = subst (λ (v : Vec (Vec (Arm × Numbers) Global) Global). AreSound v.items) (sym (same refl)) (copied_sound old.slots.items copies)

-- ---- as they are told
some_of : {X : Type 0} (xs : List X) (k : ℕ) → k < length xs → X
some_of [] k less = absurd (omega (arith, less))
some_of (x ∷ xs) k less = x

told_fits : (lists : List (Vec (Arm × Numbers) Global)) → AreSound lists
    → ((slot k : ℕ) (d : ArmTold) → k < length (slice_index_or (told_slots lists) slot []) → length (slice_index_or (slice_index_or (told_slots lists) slot []) k d).1 < 2 ^ 32) → LogsFit (told_slots lists)
told_fits lists sound few slot k d less = record { few = few slot k d less; runs = by (cases_lt slot (length lists)) }
  where
    none : Arm × Numbers
    none = (record { kind = Leaf; number = 0; offline = false; fresh = false }, record { runs = []; room = 0 })

    at_slot : (x : Vec (Arm × Numbers) Global) → slot < length lists → slice_index_or (told_slots lists) slot [] ≡ told_slot (slice_index_or lists slot x).items
    at_slot x inside = get_or-map (λ (list : Vec (Arm × Numbers) Global). told_slot list.items) lists slot x [] inside

    by : (slot < length lists) ⊎ (length lists ≤ slot) → AreRuns 1 (slice_index_or (slice_index_or (told_slots lists) slot []) k d).1
    by (inl inside) =
        let x = some_of lists slot inside in
        let list : List (Arm × Numbers) = (slice_index_or lists slot x).items in
        let here = at_slot x inside in
        let below : k < length list = (let n = ap length here in let m = length-map list told_arm in omega (arith, less, n, m)) in
        let is : slice_index_or (slice_index_or (told_slots lists) slot []) k d ≡ told_arm (slice_index_or list k none) = ap (λ (l : List ArmTold). slice_index_or l k d) here ∙ get_or-map told_arm list k none d below in
        let z = sound slot x inside k none below in
        subst (λ (t : ArmTold). AreRuns 1 t.1) (sym is) (runs_from_one (slice_index_or list k none).1.runs z.0 z.1)
    by (inr far) = absurd (let e = ap length (beyond (told_slots lists) slot (let n = length-map lists (λ (list : Vec (Arm × Numbers) Global). told_slot list.items) in omega (arith, n, far))) in omega (arith, e, less))

pub settled_fits : (head : Head) (entries : Entries) (table : SlotTable) (pass : Option Pass) (last : ℕ) (it new : Record) (marks : List (List Bool)) (wrote : Bool) → IsMade head entries table pass last it → IsSettled it new marks wrote
    → 0 < head.group → ((at : ArmAt) (a : Arm) → arm_at table at ≡ Some a → is_logged table at 0 ≡ false) → length (body_bytes (told_record new)) < 2 ^ 32 → LogsFit (told_slots new.slots.items)
settled_fits head entries table pass last it new marks wrote made settled some clean short =
    told_fits new.slots.items (settled_sound table clean it new marks wrote (let g = made.group_is in omega (arith, g, some)) made.slots_are settled)
    (λ slot k d less. let n = body_long (told_record new) slot k _ d less refl in omega (arith, n, short))

-- each arm of the table that is copied has a number of 64 bits
pub copied_small : (table : SlotTable) (lists : List (Vec (Arm × Numbers) Global)) → CopiesSlots table lists → (at : ArmAt) (a : Arm) → arm_at table at ≡ Some a → a.number < 2 ^ 64
copied_small table lists copies at a there = by (cases_lt at.slot (length lists))
  where
    none : Arm × Numbers
    none = (record { kind = Leaf; number = 0; offline = false; fresh = false }, record { runs = []; room = 0 })

    below : (xs : List Arm) (k : ℕ) → slice_get xs k ≡ Some a → k < length xs
    below [] k is = absurd (cc)
    below (y ∷ ys) zero is = omega arith
    below (y ∷ ys) (suc k) is = let less = below ys k is in omega (arith, less)

    by : (at.slot < length lists) ⊎ (length lists ≤ at.slot) → a.number < 2 ^ 64
    by (inl inside) =
        let x = some_of lists at.slot inside in
        let c = copies.each at.slot x inside in
        let less : at.arm < length (slice_index_or lists at.slot x).items = (let n = c.count in let b = below (arms_of table at.slot) at.arm there in omega (arith, n, b)) in
        let one : CopiesArm table at.slot at.arm (slice_index_or (slice_index_or lists at.slot x).items at.arm none) = c.each at.arm none less in
        subst (λ (y : Arm). y.number < 2 ^ 64) (some_injective _ a (sym one.there ∙ there)) one.small
    by (inr far) = absurd (let b = below (arms_of table at.slot) at.arm there in let e = ap length (beyond table.arms at.slot (let n = copies.count in omega (arith, n, far))) in omega (arith, e, b))
