-- What the fields of the slots say of the arms and logs by slot and arm.
use Rattle.std.proofs.Common.{Err, Ok, Result, ◌≡◌, ℕ, zero, suc, ◌+◌, ◌<◌, ◌≤◌, Bool, true, false, List, [], ◌∷◌, map, length, get_or, set, arith, refl, ap, ap₂, sym, ◌∙◌, subst, Option, Some, None}
use Rattle.std.specs.Prelude.{IfErr, OnOk, IfOk, OnErr, IsErrAnd, IfNone, All, IfSome, slice_get, cond}
use Rattle.std.proofs.lemmas.Bool.Decides.{nat_tests}
use Rattle.std.proofs.lemmas.List.{map-set, get_or-map, length-map, get_or_default}
use Rattle.std.proofs.lemmas.List.Elements.{All-set}
use Rattle.std.proofs.lemmas.Option.{slice_get-get_or}
use Rattle.draid_names.specs.declared.arm.Arm.{Arm}
use Rattle.draid_names.specs.declared.arm.ArmAt.{ArmAt}
use Rattle.draid_perm.specs.declared.perms.Perms.{Perms}
use Rattle.draid_ranges.specs.Numbers.{Numbers, has}
use Rattle.draid_spec.specs.declared.layout.Geometry.{Geometry}
use Rattle.draid_slots.specs.declared.slot.Detached.{Detached}
use Rattle.draid_slots.specs.declared.slot.Slot.{Slot}
use Rattle.draid_slots.specs.Changes.{ChangesLog, SetsLog}
use Rattle.draid_slots.specs.Table.{AreKept, AreOf, IsPaired, SlotTable, arms_in, is_at, log_at, log_in, logs_in, no_log, room_at, table_of}
use Rattle.draid_slots.proofs.OneSlot.{arms_kept, logs_found, one_log}

pub slot_there : {X : Type 0} (lists : List (List X)) (i k : ℕ) → k < length (get_or lists i []) → i < length lists
slot_there [] i k l = absurd (omega arith)
slot_there (x ∷ xs) zero k l = omega arith
slot_there (x ∷ xs) (suc i) k l = let below = slot_there xs i k l in omega (arith, below)

-- a slot and an arm that are there
pub record IsPlace (slots : List Slot) (at : ArmAt) (slot : Slot) : Type 0 where
  pub slot_within : at.slot < length slots
  pub arm_within : at.arm < length (arms_in slot)
  pub log_within : at.arm < length (logs_in slot)
  pub paired : IsPaired slot
  pub arms_are : get_or (map arms_in slots) at.slot [] ≡ arms_in slot
  pub logs_are : get_or (map logs_in slots) at.slot [] ≡ logs_in slot

pub its_place : (slots : List Slot) (at : ArmAt) (slot : Slot) → All IsPaired slots → at.arm < length (get_or (map arms_in slots) at.slot []) → slot ≡ get_or slots at.slot slot → IsPlace slots at slot
its_place slots at slot all there was =
    let within : at.slot < length slots = (let below = slot_there (map arms_in slots) at.slot at.arm there in omega (arith, below, length-map slots arms_in)) in
    let paired : IsPaired slot = subst IsPaired (sym was) (all at.slot slot within) in
    let arms : get_or (map arms_in slots) at.slot [] ≡ arms_in slot = get_or-map arms_in slots at.slot slot [] within ∙ ap arms_in (sym was) in
    let L : List Arm → Type 0 = λ arms. at.arm < length arms in
    let arm : at.arm < length (arms_in slot) = subst L arms there in
    record {
      slot_within = within;
      arm_within = arm;
      log_within = (let same = paired.same in omega arith);
      paired = paired;
      arms_are = arms;
      logs_are = logs_found slots at.slot slot within was;
    }

pub log_found : (slots : List Slot) (at : ArmAt) (slot : Slot) (log : Numbers) → IsPlace slots at slot → log ≡ get_or (logs_in slot) at.arm log → log_in (map logs_in slots) at ≡ log
log_found slots at slot log place was =
    ap (λ logs. get_or logs at.arm no_log) place.logs_are ∙ get_or_default (logs_in slot) at.arm no_log log place.log_within ∙ sym was

-- the facts of the fields are kept where one slot's logs change
pub kept_log : (geometry : Geometry) (perms : Perms) (metaslab : ℕ) (slots : List Slot) (detached : List Detached) (i : ℕ) (old new : Slot)
    → AreKept geometry perms metaslab slots detached → old ≡ get_or slots i old → IsPaired new → arms_in new ≡ arms_in old
    → AreKept geometry perms metaslab (set slots i new) detached
kept_log geometry perms metaslab slots detached i old new kept was paired same =
    let S : List (List Arm) → Type 0 = λ arms. AreOf geometry perms metaslab arms detached in
    record {
      paired = All-set IsPaired slots i new paired kept.paired;
      sound = subst S (sym (arms_kept slots i old new was same)) kept.sound;
    }

pub sets_log : (geometry : Geometry) (perms : Perms) (metaslab : ℕ) (slots : List Slot) (detached : List Detached) (next : List ℕ) (places : ℕ) (at : ArmAt) (old new : Slot) (log : Numbers)
    → IsPlace slots at old → old ≡ get_or slots at.slot old → arms_in new ≡ arms_in old → logs_in new ≡ set (logs_in old) at.arm log
    → SetsLog (table_of geometry perms metaslab slots detached next places) (table_of geometry perms metaslab (set slots at.slot new) detached next places) at log
sets_log geometry perms metaslab slots detached next places at old new log place was arms logs =
    record {
      same = record { geometry_is = refl; perms_are = refl; metaslab_is = refl };
      arms_stay = arms_kept slots at.slot old new was arms;
      logs_are = λ other.
          ap (λ all. log_in all other) (map-set logs_in slots at.slot new ∙ ap (λ logs. set (map logs_in slots) at.slot logs) logs)
          ∙ one_log (map logs_in slots) at other (logs_in old) log (let within = place.slot_within in omega (arith, length-map slots logs_in)) place.logs_are place.log_within;
      detached_stay = refl;
      next_stays = refl;
      places_stay = refl;
    }

its_at : (at other : ArmAt) (logs : List (List Numbers)) → is_at at other ≡ true → log_in logs other ≡ log_in logs at
its_at at other logs is =
    let slot : other.slot ≡ at.slot = grind (arith, nat_tests) in
    let arm : other.arm ≡ at.arm = grind (arith, nat_tests) in
    ap₂ (λ i k. get_or (get_or logs i []) k no_log) slot arm

pub has_either : (b : Bool) (log other : Numbers) (test : ℕ → Bool) (x : ℕ) → has log x ≡ test x → has (cond b log other) x ≡ cond b (test x) (has other x)
has_either true log other test x is = is
has_either false log other test x is = refl

-- a log is set to one that has just the groups of a test, and takes at most the room of one change
pub changes_log : (old new : SlotTable) (at : ArmAt) (log : Numbers) (test : ℕ → Bool) → SetsLog old new at log → ((x : ℕ) → has log x ≡ test x) → room_at old at ≤ log.room + 1 → ChangesLog old new at test
changes_log old new at log test sets is room =
    record {
      same = sets.same;
      arms_stay = sets.arms_stay;
      logged = λ other group. ap (λ l. has l group) (sets.logs_are other) ∙ has_either (is_at at other) log (log_at old other) test group (is group);
      detached_stay = sets.detached_stay;
      room = λ other. by_place other (is_at at other) refl (sets.logs_are other);
      next_stays = sets.next_stays;
      places_stay = sets.places_stay;
    } where
      by_place : (other : ArmAt) (b : Bool) → is_at at other ≡ b → log_at new other ≡ cond b log (log_at old other) → room_at old other ≤ room_at new other + cond b 1 0
      by_place other true here set =
          let same : room_at old other ≡ room_at old at = ap (λ l. l.room) (its_at at other old.logs here) in
          let now : room_at new other ≡ log.room = ap (λ l. l.room) set in
          omega arith
      by_place other false elsewhere set =
          let now : room_at new other ≡ room_at old other = ap (λ l. l.room) set in
          omega arith

-- a log is set to one that has as much room, and none has less
pub rooms_kept : (old new : SlotTable) (at : ArmAt) (log : Numbers) → SetsLog old new at log → room_at old at ≤ log.room → (other : ArmAt) → room_at old other ≤ room_at new other
rooms_kept old new at log sets room = λ other. by_place other (is_at at other) refl (sets.logs_are other) where
  by_place : (other : ArmAt) (b : Bool) → is_at at other ≡ b → log_at new other ≡ cond b log (log_at old other) → room_at old other ≤ room_at new other
  by_place other true here set =
      let same : room_at old other ≡ room_at old at = ap (λ l. l.room) (its_at at other old.logs here) in
      let now : room_at new other ≡ log.room = ap (λ l. l.room) set in
      omega arith
  by_place other false elsewhere set =
      let now : room_at new other ≡ room_at old other = ap (λ l. l.room) set in
      omega arith

pub arm_found : (slots : List Slot) (at : ArmAt) (slot : Slot) (arm : Arm) → IsPlace slots at slot → arm ≡ get_or (arms_in slot) at.arm arm
    → slice_get (get_or (map arms_in slots) at.slot []) at.arm ≡ Some arm
arm_found slots at slot arm place is =
    ap (λ arms. slice_get arms at.arm) place.arms_are ∙ slice_get-get_or (arms_in slot) at.arm arm place.arm_within ∙ ap Some (sym is)

pub if_some : {X : Type 0} (r : Option X) (P Q : X → Type 0) → ((x : X) → P x → Q x) → IfSome r P → IfSome r Q
if_some None P Q f p = p
if_some (Some x) P Q f p = f x p

pub if_none : {X : Type 0} (r : Option X) (P Q : Type 0) → (P → Q) → IfNone r P → IfNone r Q
if_none None P Q f p = f p
if_none (Some x) P Q f p = p

-- ---- a fault that is passed on

pub if_ok_passed : {T E : Type 0} (Q : E → Type 0) (r : Result T E) (P : T → Type 0) → IsErrAnd r Q → IfOk r P
if_ok_passed Q (Ok x) P h = absurd h
if_ok_passed Q (Err e) P h = tt

pub on_ok_passed : {T E : Type 0} (Q : E → Type 0) (r : Result T E) (P : Type 0) → IsErrAnd r Q → OnOk r P
on_ok_passed Q (Ok x) P h = absurd h
on_ok_passed Q (Err e) P h = tt

pub if_err_passed : {T E : Type 0} (Q : E → Type 0) (r : Result T E) (P : E → Type 0) → IsErrAnd r Q → ((e : E) → Q e → P e) → IfErr r P
if_err_passed Q (Ok x) P h f = tt
if_err_passed Q (Err e) P h f = f e h

pub if_some_passed : {X : Type 0} (r : Option X) (P : X → Type 0) → r ≡ None → IfSome r P
if_some_passed None P is = tt
if_some_passed (Some x) P is = absurd (cc)

pub on_err_always : {T E : Type 0} (r : Result T E) (P : Type 0) → P → OnErr r P
on_err_always (Ok x) P h = tt
on_err_always (Err e) P h = h

-- ---- the slots that are there

pub few_slots : (geometry : Geometry) (perms : Perms) (metaslab : ℕ) (slots : List Slot) (detached : List Detached) → AreKept geometry perms metaslab slots detached
    → length slots ≤ 64
few_slots geometry perms metaslab slots detached kept =
    let many = kept.sound.slots.children in
    let most = kept.sound.layout.geometry_is.spec.most_children in
    omega (arith, many, most, length-map slots arms_in)

-- an arm that is there has a log
pub log_there : (slots : List Slot) (i k : ℕ) → All IsPaired slots → k < length (get_or (map arms_in slots) i []) → k < length (get_or (map logs_in slots) i [])
log_there [] i k all l = absurd (omega arith)
log_there (slot ∷ slots) zero k all l = (let paired = all 0 slot (omega arith) in let same = paired.same in omega arith)
log_there (slot ∷ slots) (suc i) k all l = log_there slots i k (λ j d below. all (suc j) d (omega arith)) l
