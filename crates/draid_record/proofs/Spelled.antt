-- What is spelled is in its ranges.
use Rattle.std.proofs.Common.{◌≡◌, ℕ, zero, suc, ◌+◌, ◌-◌, ◌*◌, ◌/◌, ◌%◌, ◌^◌, ◌<◌, ◌≤◌, Bool, true, false, List, [], ◌∷◌, ◌++◌, length, Option, Some, None, refl, sym, ap, subst, ◌∙◌, arith}
use Rattle.std.specs.Prelude.{◌==◌, ◌&&◌, ◌||◌, ⊤, nat_lt, slice_index_or}
use Rattle.std.proofs.lemmas.Bool.{true≢false}
use Rattle.std.proofs.lemmas.List.{length-append}
use Rattle.byteorder.specs.Endian.{big_bytes}
use Rattle.draid_names.specs.Arms.{least_arm, least_slot}
use Rattle.draid_names.specs.declared.numbers.TheConstants.{NUMBERS}
use Rattle.draid_names.specs.declared.arm.Arm.{Arm}
use Rattle.draid_names.specs.declared.arm.ArmAt.{ArmAt}
use Rattle.draid_names.specs.declared.pass_kind.PassKind.{PassKind}
use Rattle.draid_names.specs.declared.pass_kind.PassKind.TheVariants.{Rebuild, Heal}
use Rattle.draid_names.specs.declared.pointer.Pointer.{Pointer}
use Rattle.draid_ranges.specs.declared.run.Run.{Run}
use Rattle.draid_record.specs.declared.limits.Limits.{Limits}
use Rattle.draid_record.specs.Grammar.{Grammar, Done, Number, Bytes, Check, ◌>>=◌, Spells, many}
use Rattle.draid_record.specs.Ranges.{AreArms, AreBlocks, AreRuns, AreSlots, AreTargets, IsArm, IsBlock, IsPassOrNone, IsRanged, IsSlot, least_running}
use Rattle.draid_record.specs.Record as spec
use Rattle.draid_record.specs.Record.{AreLimits, ArmTold, PassTold, RecordTold, Spelled}
use Rattle.draid_record.specs.Written.{bit, code_of}

-- ---- one grammar behind another

-- what the first spelled, and what the second did by it
pub record Parts {A B : Type 0} (g : Grammar A) (f : A → Grammar B) (y : B) : Type 0 where
  pub value : A
  pub front : List ℕ
  pub rest : List ℕ
  pub first : Spells g front value
  pub second : Spells (f value) rest y

parts : {A B : Type 0} (g : Grammar A) (f : A → Grammar B) (bytes : List ℕ) (y : B) → Spells (g >>= f) bytes y → Parts g f y
unfolding Spells
parts (Done x) f bytes y is = record { value = x; front = []; rest = bytes; first = (refl, refl); second = is }
parts (Number width low high next) f bytes y is =
    let p = parts (next is.0) f is.1 y is.6 in
    record { value = p.value; front = big_bytes width is.0 ++ p.front; rest = p.rest; first = (is.0, p.front, refl, is.3, is.4, is.5, p.first); second = p.second }
parts (Bytes width next) f bytes y is =
    let p = parts (next is.0) f is.1 y is.4 in
    record { value = p.value; front = is.0 ++ p.front; rest = p.rest; first = (is.0, p.front, refl, is.3, p.first); second = p.second }
parts (Check holds back next) f bytes y is =
    let p = parts next f bytes y is.1 in
    record { value = p.value; front = p.front; rest = p.rest; first = (is.0, p.first); second = p.second }

-- each item is spelled, by the state that those before it led to
abbrev EachSpelled : {S X : Type 0} → (S → Grammar X) → (S → X → S) → S → List X → Type 0
EachSpelled item step state [] = ⊤
EachSpelled item step state (x ∷ xs) = ((bytes : List ℕ) × Spells (item state) bytes x) × EachSpelled item step (step state x) xs

pub record Items {S X : Type 0} (count : ℕ) (item : S → Grammar X) (step : S → X → S) (state : S) (xs : List X) : Type 0 where
  count_is : length xs ≡ count
  each : EachSpelled item step state xs

items : {S X : Type 0} (count : ℕ) (item : S → Grammar X) (step : S → X → S) (state : S) (bytes : List ℕ) (xs : List X) → Spells (many count item step state) bytes xs → Items count item step state xs
unfolding many Spells
items zero item step state bytes xs is = subst (λ ys. Items 0 item step state ys) (sym is.1) (record { count_is = refl; each = tt })
items (suc n) item step state bytes xs is =
    let one = parts (item state) (λ x. many n item step (step state x) >>= λ ys. Done (x ∷ ys)) bytes xs is in
    let more = parts (many n item step (step state one.value)) (λ ys. Done (one.value ∷ ys)) one.rest xs one.second in
    let rest = items n item step (step state one.value) more.front more.value more.first in
    subst (λ ys. Items (suc n) item step state ys) (sym more.second.1) (record { count_is = ap suc rest.count_is; each = ((one.front, one.first), rest.each) })

-- ---- logs
run_in : (low : ℕ) (bytes : List ℕ) (r : Run) → Spells (spec.run low) bytes r → (low ≤ r.first) × (0 < r.len) × (r.first + r.len ≤ 2 ^ 48)
unfolding Spells
run_in low bytes r is =
    let n = is.0 in
    let above = is.4 in
    let last = is.6.0 in
    let behind = is.6.4 in
    let most = is.6.5 in
    subst (λ (r : Run). (low ≤ r.first) × (0 < r.len) × (r.first + r.len ≤ 2 ^ 48)) (sym is.6.6.1) (above, omega (arith, behind), omega (arith, behind, most))

runs_in : (low : ℕ) (runs : List Run) → EachSpelled spec.run spec.behind low runs → AreRuns low runs
runs_in low [] each = tt
runs_in low (r ∷ rs) each = let one = run_in low each.0.0 r each.0.1 in (one.0, one.1, one.2, runs_in (r.first + r.len + 1) rs each.1)

log_in : (bytes : List ℕ) (runs : List Run) → Spells spec.log bytes runs → (length runs < 2 ^ 32) × AreRuns 1 runs
unfolding Spells
log_in bytes runs is =
    let list = items is.0 spec.run spec.behind 1 is.1 runs is.6 in
    let count = list.count_is in
    let most = is.5 in
    (omega (arith, count, most), runs_in 1 runs list.each)

-- ---- arms
code_back : (code : ℕ) → code ≤ 1 → code_of (spec.kind_of code) ≡ code
code_back zero low = refl
code_back (suc zero) low = refl
code_back (suc (suc n)) low = absurd (omega (arith, low))

flags_back : (flags : ℕ) → flags ≤ 3 → bit (flags % 2 == 1) + 2 * bit (flags / 2 == 1) ≡ flags
flags_back zero low = refl
flags_back (suc zero) low = refl
flags_back (suc (suc zero)) low = refl
flags_back (suc (suc (suc zero))) low = refl
flags_back (suc (suc (suc (suc n)))) low = absurd (omega (arith, low))

arm_in : (limits : Limits) (before : List (List ArmTold)) (count : ℕ) (here : List ArmTold) (bytes : List ℕ) (told : ArmTold) → Spells (spec.arm limits before count here) bytes told
    → IsArm limits before count here told
unfolding Spells
arm_in limits before count here bytes told is =
    let head = parts (spec.arm_head limits before count here) (λ a. spec.log >>= λ l. Done (a, l)) bytes told is in
    let log = parts spec.log (λ l. Done (head.value, l)) head.rest told head.second in
    let runs = log_in log.front log.value log.first in
    let code : ℕ = head.first.0 in
    let leaf = head.first.6.0 in
    let n : ℕ = head.first.6.1.0 in
    let small = head.first.6.1.3 in
    let known = head.first.6.1.6.0 in
    let flags : ℕ = head.first.6.1.6.1.0 in
    let allowed = head.first.6.1.6.1.6.0 in
    let made : head.value ≡ record { kind = spec.kind_of code; number = n; offline = flags % 2 == 1; fresh = flags / 2 == 1 } = head.first.6.1.6.1.6.1.1 in
    let a : Arm = record { kind = spec.kind_of code; number = n; offline = flags % 2 == 1; fresh = flags / 2 == 1 } in
    let whole : told ≡ (a, log.value) = log.second.1 ∙ ap (λ (x : Arm). (x, log.value)) made in
    subst (IsArm limits before count here) (sym whole) (record {
      leaf = ap (λ k. nat_lt (length here + 1) count || (spec.has_leaf here || (k == 0))) (code_back code head.first.5) ∙ leaf;
      known = known;
      small = omega (arith, small);
      flags_are = ap (spec.are_flags (spec.kind_of code)) (flags_back flags head.first.6.1.6.1.5) ∙ allowed;
      few = runs.0;
      runs_are = runs.1;
    })

arms_in : (limits : Limits) (before : List (List ArmTold)) (count : ℕ) (here list : List ArmTold) → EachSpelled (spec.arm limits before count) spec.with_last here list → AreArms limits before count here list
arms_in limits before count here [] each = tt
arms_in limits before count here (a ∷ list) each = (arm_in limits before count here each.0.0 a each.0.1, arms_in limits before count (here ++ a ∷ []) list each.1)

slot_in : (limits : Limits) (before : List (List ArmTold)) (bytes : List ℕ) (list : List ArmTold) → Spells (spec.slot limits before) bytes list → IsSlot limits before list
unfolding Spells
slot_in limits before bytes list is =
    let all = items is.0 (spec.arm limits before is.0) spec.with_last [] is.1 list is.6 in
    let count = all.count_is in
    let some = is.4 in
    let most = is.5 in
    record { some = omega (arith, count, some); most = omega (arith, count, most); arms_are = subst (λ n. AreArms limits before n [] list) (sym count) (arms_in limits before is.0 [] list all.each) }

slots_in : (limits : Limits) (before list : List (List ArmTold)) → EachSpelled (spec.slot limits) spec.with_last before list → AreSlots limits before list
slots_in limits before [] each = tt
slots_in limits before (s ∷ list) each = (slot_in limits before each.0.0 s each.0.1, slots_in limits (before ++ s ∷ []) list each.1)

-- ---- the pass
target_in : (all : List (List ArmTold)) (before : Option ArmAt) (bytes : List ℕ) (t : ArmAt) → Spells (spec.target all before) bytes t
    → (least_slot before ≤ t.slot) × (t.slot ≤ length all - 1) × (t.slot < 2 ^ 16) × (least_arm before t.slot ≤ t.arm) × (t.arm ≤ length (slice_index_or all t.slot []) - 1) × (t.arm < 2 ^ 8)
unfolding Spells
target_in all before bytes t is =
    subst
    (λ (t : ArmAt). (least_slot before ≤ t.slot) × (t.slot ≤ length all - 1) × (t.slot < 2 ^ 16) × (least_arm before t.slot ≤ t.arm) × (t.arm ≤ length (slice_index_or all t.slot []) - 1) × (t.arm < 2 ^ 8))
    (sym is.6.6.1)
    (is.4, is.5, (let small = is.3 in omega (arith, small)), is.6.4, is.6.5, (let small = is.6.3 in omega (arith, small)))

targets_in : (all : List (List ArmTold)) (before : Option ArmAt) (list : List ArmAt) → EachSpelled (spec.target all) spec.some_target before list → AreTargets all before list
targets_in all before [] each = tt
targets_in all before (t ∷ list) each =
    let one = target_in all before each.0.0 t each.0.1 in
    (one.0, one.1, one.2, one.3, one.4, one.5, targets_in all (Some t) list each.1)

running_back : (running least : ℕ) → least ≤ running → running ≤ 1 → least ≤ bit (running == 1)
running_back zero least low high = low
running_back (suc zero) least low high = low
running_back (suc (suc n)) least low high = absurd (omega (arith, high))

pass_in : (limits : Limits) (all : List (List ArmTold)) (kind : PassKind) (bytes : List ℕ) (value : Option PassTold) → Spells (spec.pass_of limits all kind (least_running kind)) bytes value
    → IsPassOrNone limits all value
unfolding Spells
pass_in limits all kind bytes value is =
    let head = parts (spec.pass_head limits kind (least_running kind)) (λ head. spec.targets all >>= λ list. Done (Some (record head { targets = list }))) bytes value is in
    let list = parts (spec.targets all) (λ list. Done (Some (record head.value { targets = list }))) head.rest value head.second in
    let targets = items list.first.0 (spec.target all) spec.some_target None list.first.1 list.value list.first.6 in
    let count = targets.count_is in
    let few = list.first.5 in
    let short = list.first.3 in
    let h = head.first in
    let running : ℕ = h.0 in
    let made : head.value ≡ record { kind = kind; targets = []; max = h.6.0; «at» = h.6.6.0; errors = h.6.6.6.0; running = running == 1 } = h.6.6.6.6.1 in
    let whole : value ≡ Some (record { kind = kind; targets = list.value; max = h.6.0; «at» = h.6.6.0; errors = h.6.6.6.0; running = running == 1 }) =
    list.second.1 ∙ ap (λ (p : PassTold). Some (record p { targets = list.value })) made in
    subst (IsPassOrNone limits all) (sym whole) (record {
      runs_if_heal = running_back running (least_running kind) h.4 h.5;
      some_max = h.6.4;
      most_max = (let most = h.6.5 in omega (arith, most));
      place = h.6.6.5;
      errors_small = (let most = h.6.6.6.5 in omega (arith, most));
      few = omega (arith, count, few);
      short = omega (arith, count, short);
      targets_are = targets_in all None list.value targets.each;
    })

pass_by_in : (limits : Limits) (all : List (List ArmTold)) (kind : ℕ) (bytes : List ℕ) (value : Option PassTold) → Spells (spec.pass_by limits all kind) bytes value → IsPassOrNone limits all value
unfolding Spells
pass_by_in limits all zero bytes value is = subst (IsPassOrNone limits all) (sym is.1) tt
pass_by_in limits all (suc zero) bytes value is = pass_in limits all Rebuild bytes value is
pass_by_in limits all (suc (suc n)) bytes value is = pass_in limits all Heal bytes value is

-- ---- blocks
block_in : (limits : Limits) (low : ℕ) (bytes : List ℕ) (b : Pointer) → Spells (spec.block limits low) bytes b → IsBlock limits low b
unfolding Spells
block_in limits low bytes b is =
    let seq = is.6 in
    let first = seq.6 in
    let stripes = first.6 in
    let len = stripes.6 in
    let whole = len.6.0 in
    let birth = len.6.1 in
    let digest = birth.6 in
    let made : b ≡ record { object = is.0; seq = seq.0; metaslab = limits.metaslab; first = first.0; stripes = stripes.0; len = len.0; birth = birth.0; digest = digest.0 } = digest.4.1 in
    subst (IsBlock limits low) (sym made) (record {
      object_small = (let most = is.5 in omega (arith, most));
      some_seq = seq.4;
      most_seq = (let most = seq.5 in omega (arith, most));
      metaslab_is = refl;
      behind_low = first.4;
      inside = first.5;
      some_stripes = stripes.4;
      in_group = stripes.5;
      stripes_small = (let small = stripes.3 in omega (arith, small));
      some_len = len.4;
      most_len = len.5;
      whole = whole;
      some_birth = birth.4;
      most_birth = birth.5;
      digest_len = digest.3;
    })

blocks_in : (limits : Limits) (low : ℕ) (list : List Pointer) → EachSpelled (spec.block limits) spec.end_of low list → AreBlocks limits low list
blocks_in limits low [] each = tt
blocks_in limits low (b ∷ list) each = (block_in limits low each.0.0 b each.0.1, blocks_in limits (b.first + b.stripes) list each.1)

-- as many runs
same_count : (a b : Bool) (runs other : List Run) → ((a && b) && spec.same_runs runs other) ≡ true → spec.same_runs runs other ≡ true
same_count true true runs other is = is
same_count true false runs other is = absurd (true≢false (sym is))
same_count false b runs other is = absurd (true≢false (sym is))

as_many : (runs other : List Run) → spec.same_runs runs other ≡ true → length runs ≡ length other
as_many [] [] is = refl
as_many [] (b ∷ bs) is = absurd (true≢false (sym is))
as_many (a ∷ as_) [] is = absurd (true≢false (sym is))
as_many (a ∷ as_) (b ∷ bs) is = ap suc (as_many as_ bs (same_count (a.first == b.first) (a.len == b.len) as_ bs is))

-- ---- the whole
body_in : (limits : Limits) (bytes : List ℕ) (value : RecordTold) → limits.version < 2 ^ 16 → AreLimits limits → limits.group < NUMBERS → Spells (spec.body limits) bytes value → IsRanged limits value
unfolding Spells
body_in limits bytes value version sound group is =
    let head = parts (spec.head limits) (λ children. spec.behind_head limits) bytes value is in
    let slots = parts (spec.slots limits) (λ all. spec.behind_slots limits all) head.rest value head.second in
    let last = parts spec.last_pass (λ last. spec.behind_last limits slots.value last) slots.rest value slots.second in
    let pass = parts (spec.pass limits slots.value) (λ running. spec.behind_pass limits slots.value last.value running) last.rest value last.second in
    let spaces = parts spec.spaces (λ runs. spec.behind_spaces limits slots.value last.value pass.value runs) pass.rest value pass.second in
    let blocks = parts (spec.blocks limits) (λ list. spec.behind_blocks limits slots.value last.value pass.value spaces.value list) spaces.rest value spaces.second in
    let all = items limits.children (spec.slot limits) spec.with_last [] slots.front slots.value slots.first in
    let runs = items spaces.first.0 spec.space_run spec.same_state 0 spaces.first.1 spaces.value spaces.first.6 in
    let list = items blocks.first.0 (spec.block limits) spec.end_of 0 blocks.first.1 blocks.value blocks.first.6 in
    let h = head.first in
    let last_is : last.value ≡ last.first.0 = last.first.6.1 in
    let most_last = last.first.5 in
    let same : length spaces.value ≡ length (spec.spaces_of blocks.value) = as_many spaces.value (spec.spaces_of blocks.value) blocks.second.0 in
    let made : value ≡ record { version = limits.version; metaslab = limits.metaslab; group = limits.group; slots = slots.value; last_pass = last.value; pass = pass.value; blocks = blocks.value } =
    blocks.second.1.1 in
    subst (IsRanged limits) (sym made) (record {
      version_is = refl;
      version_small = version;
      metaslab_is = refl;
      metaslab_small = (let small = h.3 in let low = h.4 in omega (arith, small, low));
      group_is = refl;
      group_small = group;
      children_are = all.count_is;
      children_few = (let small = h.6.6.3 in let low = h.6.6.4 in omega (arith, small, low));
      slots_are = slots_in limits [] slots.value all.each;
      last_small = omega (arith, last_is, most_last);
      pass_is = pass_by_in limits slots.value pass.first.0 pass.first.1 pass.value pass.first.6;
      stripes_small = sound.most_stripes;
      blocks_are = blocks_in limits 0 blocks.value list.each;
      few = (let count = list.count_is in let most = blocks.first.5 in omega (arith, count, most));
      few_spaces = (let count = runs.count_is in let most = spaces.first.5 in omega (arith, same, count, most));
    })

front_in : (limits : Limits) (area : ℕ) (bytes : List ℕ) (len : ℕ) → Spells (spec.front limits area) bytes len → (limits.version < 2 ^ 16) × (10 ≤ len)
unfolding Spells
front_in limits area bytes len is =
    let small = is.6.3 in
    let low = is.6.4 in
    let made : len ≡ is.6.6.0 = is.6.6.6.1 in
    let least = is.6.6.4 in
    (omega (arith, small, low), omega (arith, made, least))

pub spelled_ranged : (limits : Limits) (bytes : List ℕ) (value : RecordTold) → AreLimits limits → limits.group < NUMBERS → Spelled limits bytes value → IsRanged limits value
spelled_ranged limits bytes value sound group is =
    body_in limits is.text_bytes value (front_in limits (length bytes) is.head_bytes is.len is.front_is).0 sound group is.fields_are

pub spelled_long : (limits : Limits) (bytes : List ℕ) (value : RecordTold) → Spelled limits bytes value → 10 ≤ length bytes
spelled_long limits bytes value is =
    let least = (front_in limits (length bytes) is.head_bytes is.len is.front_is).1 in
    let whole = is.whole in
    let all : length bytes ≡ length is.head_bytes + length (is.text_bytes ++ is.more) = ap length is.parts ∙ length-append is.head_bytes (is.text_bytes ++ is.more) in
    let rest = length-append is.text_bytes is.more in
    omega (arith, least, whole, all, rest)
