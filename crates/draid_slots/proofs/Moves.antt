-- The arms and logs of all slots where an arm comes or goes.
use Rattle.std.proofs.Common.{◌≡◌, ◌≢◌, ℕ, ◌+◌, ◌<◌, ◌≤◌, Bool, true, false, List, [], ◌∷◌, ◌++◌, map, length, get_or, set, arith, refl, ap, ap₂, sym, ◌∙◌, inl, inr}
use Rattle.std.specs.Prelude.{cond, remove, nat_le, ◌==◌, ◌&&◌}
use Rattle.std.proofs.Math.ListN.{get_or-append, get_or-eq_default}
use Rattle.std.proofs.Math.Seq.{get_or-append_seam}
use Rattle.std.proofs.lemmas.Bool.{cases_eq, cases_lt}
use Rattle.std.proofs.lemmas.Bool.Decides.{nat_tests}
use Rattle.std.proofs.lemmas.List.{map-set, get_or-set_same, get_or-set_other, length-map, length-append}
use Rattle.std.proofs.lemmas.List.Edits.{get_or-remove_below, get_or-remove_above}
use Rattle.draid_names.specs.declared.arm.Arm.{Arm}
use Rattle.draid_names.specs.declared.arm.ArmAt.{ArmAt}
use Rattle.draid_perm.specs.declared.perms.Perms.{Perms}
use Rattle.draid_ranges.specs.Numbers.{Numbers, has}
use Rattle.draid_ranges.specs.Runs.{is_between}
use Rattle.draid_spec.specs.declared.layout.Geometry.{Geometry}
use Rattle.draid_slots.specs.declared.slot.Detached.{Detached}
use Rattle.draid_slots.specs.declared.slot.Slot.{Slot}
use Rattle.draid_slots.specs.Changes.{Attaches, Detaches, behind}
use Rattle.draid_slots.specs.Table.{arms_in, log_in, logs_in, no_log, table_of}
use Rattle.draid_slots.proofs.Refusals.{some_same}
use Rattle.draid_slots.proofs.Tables.{IsPlace, arm_found, has_either}

get_or_beside : (logs : List Numbers) (log : Numbers) (k : ℕ) → k ≢ length logs → get_or (logs ++ log ∷ []) k no_log ≡ get_or logs k no_log
get_or_beside logs log k beside = elim (cases_lt k (length logs)) [
  | inl l ↦ get_or-append logs (log ∷ []) no_log k l
  | inr g ↦
      get_or-eq_default (logs ++ log ∷ []) no_log (omega (arith, length-append logs (log ∷ []))) ∙ sym (get_or-eq_default logs no_log g)
]

-- a slot has one more log
one_log_more : (logs : List (List Numbers)) (slot : ℕ) (here : List Numbers) (log : Numbers) (n : ℕ) (at : ArmAt) → slot < length logs → get_or logs slot [] ≡ here → n ≡ length here
    → log_in (set logs slot (here ++ log ∷ [])) at ≡ cond ((at.slot == slot) && (at.arm == n)) log (log_in logs at)
one_log_more logs slot here log n at l was many = elim (cases_eq at.slot slot) [
  | inl same ↦
      let now : get_or (set logs slot (here ++ log ∷ [])) at.slot [] ≡ here ++ log ∷ [] =
      ap (λ j. get_or (set logs slot (here ++ log ∷ [])) j []) same ∙ get_or-set_same logs slot (here ++ log ∷ []) [] l in
      let before : get_or logs at.slot [] ≡ here = ap (λ j. get_or logs j []) same ∙ was in
      elim (cases_eq at.arm n) [
        | inl last ↦
            let test : ((at.slot == slot) && (at.arm == n)) ≡ true = grind (arith, nat_tests) in
            ap (λ ls. get_or ls at.arm no_log) now ∙ ap (λ k. get_or (here ++ log ∷ []) k no_log) (last ∙ many) ∙ get_or-append_seam here log [] no_log
            ∙ sym (ap (λ b. cond b log (log_in logs at)) test)
        | inr other ↦
            let test : ((at.slot == slot) && (at.arm == n)) ≡ false = grind (arith, nat_tests) in
            ap (λ ls. get_or ls at.arm no_log) now ∙ get_or_beside here log at.arm (λ e. other (e ∙ sym many)) ∙ sym (ap (λ ls. get_or ls at.arm no_log) before)
            ∙ sym (ap (λ b. cond b log (log_in logs at)) test)
      ]
  | inr differs ↦
      let test : ((at.slot == slot) && (at.arm == n)) ≡ false = grind (arith, nat_tests) in
      ap (λ ls. get_or ls at.arm no_log) (get_or-set_other logs slot at.slot (here ++ log ∷ []) [] differs) ∙ sym (ap (λ b. cond b log (log_in logs at)) test)
]

pub attached : (geometry : Geometry) (perms : Perms) (metaslab : ℕ) (slots : List Slot) (detached : List Detached) (next left : List ℕ) (room places slot : ℕ) (old new : Slot) (arm : Arm) (log : Numbers) (upto : ℕ)
    → slot < length slots → get_or (map arms_in slots) slot [] ≡ arms_in old → get_or (map logs_in slots) slot [] ≡ logs_in old → length (logs_in old) ≡ length (arms_in old)
    → arms_in new ≡ arms_in old ++ record arm { fresh = true } ∷ [] → logs_in new ≡ logs_in old ++ log ∷ []
    → ((x : ℕ) → has log x ≡ is_between 1 (upto + 1) x) → next ≡ left ++ room ∷ [] → room ≤ log.room + 1
    → Attaches (table_of geometry perms metaslab slots detached next places) (table_of geometry perms metaslab (set slots slot new) detached left places) slot arm upto
attached geometry perms metaslab slots detached next left room places slot old new arm log upto l arms_are logs_are paired arms logs groups taken used =
    record {
      same = record { geometry_is = refl; perms_are = refl; metaslab_is = refl };
      here = ap (λ all. get_or all slot []) (map-set arms_in slots slot new) ∙ get_or-set_same (map arms_in slots) slot (arms_in new) [] (omega (arith, length-map slots arms_in))
          ∙ arms ∙ ap (λ xs. xs ++ record arm { fresh = true } ∷ []) (sym arms_are);
      others = λ other differs. ap (λ all. get_or all other []) (map-set arms_in slots slot new) ∙ get_or-set_other (map arms_in slots) slot other (arms_in new) [] differs;
      logged = λ at group. ap (λ ls. has ls group) (log_now at) ∙ has_either _ log (log_in (map logs_in slots) at) (is_between 1 (upto + 1)) group (groups group);
      room = λ at there. at_old at there ((at.slot == slot) && (at.arm == length (get_or (map arms_in slots) slot []))) refl (log_now at);
      detached_stay = refl;
      next_used = record {
        room = room;
        taken = taken;
        used = (let at : ArmAt = record { slot = slot; arm = length (get_or (map arms_in slots) slot []) } in
            let test : ((at.slot == slot) && (at.arm == length (get_or (map arms_in slots) slot []))) ≡ true = grind (arith, nat_tests) in
            let now = ap (λ (ls : Numbers). ls.room) (log_now at ∙ ap (λ b. cond b log (log_in (map logs_in slots) at)) test) in
            omega arith);
      };
      places_stay = refl;
    } where
      log_now : (at : ArmAt) → log_in (map logs_in (set slots slot new)) at
          ≡ cond ((at.slot == slot) && (at.arm == length (get_or (map arms_in slots) slot []))) log (log_in (map logs_in slots) at)
      log_now at =
          ap (λ all. log_in all at) (map-set logs_in slots slot new ∙ ap (λ ls. set (map logs_in slots) slot ls) logs)
          ∙ one_log_more (map logs_in slots) slot (logs_in old) log (length (get_or (map arms_in slots) slot [])) at (omega (arith, length-map slots logs_in)) logs_are (ap length arms_are ∙ sym paired)

      at_old : (at : ArmAt) → at.arm < length (get_or (map arms_in slots) at.slot []) → (b : Bool) → ((at.slot == slot) && (at.arm == length (get_or (map arms_in slots) slot []))) ≡ b
          → log_in (map logs_in (set slots slot new)) at ≡ cond b log (log_in (map logs_in slots) at)
          → (log_in (map logs_in (set slots slot new)) at).room ≡ (log_in (map logs_in slots) at).room
      at_old at there true is now =
          let same : at.slot ≡ slot = grind (arith, nat_tests) in
          let last : at.arm ≡ length (get_or (map arms_in slots) slot []) = grind (arith, nat_tests) in
          let many = ap (λ j. length (get_or (map arms_in slots) j [])) same in
          absurd (omega arith)
      at_old at there false is now = ap (λ (ls : Numbers). ls.room) now

-- a slot has one log less
one_log_less : (logs : List (List Numbers)) (at : ArmAt) (here : List Numbers) (other : ArmAt) → at.slot < length logs → get_or logs at.slot [] ≡ here → at.arm < length here
    → log_in (set logs at.slot (remove here at.arm)) other ≡ log_in logs (behind at other)
one_log_less logs at here other l was there = elim (cases_eq other.slot at.slot) [
  | inl same ↦
      let now : get_or (set logs at.slot (remove here at.arm)) other.slot [] ≡ remove here at.arm =
      ap (λ j. get_or (set logs at.slot (remove here at.arm)) j []) same ∙ get_or-set_same logs at.slot (remove here at.arm) [] l in
      let before : get_or logs other.slot [] ≡ here = ap (λ j. get_or logs j []) same ∙ was in
      elim (cases_lt other.arm at.arm) [
        | inl below ↦
            let test : ((other.slot == at.slot) && nat_le at.arm other.arm) ≡ false = grind (arith, nat_tests) in
            let place : other.arm + cond ((other.slot == at.slot) && nat_le at.arm other.arm) 1 0 ≡ other.arm = ap (λ b. other.arm + cond b 1 0) test ∙ omega arith in
            ap (λ ls. get_or ls other.arm no_log) now ∙ get_or-remove_below here at.arm no_log other.arm below there
            ∙ sym (ap₂ (λ ls k. get_or ls k no_log) before place)
        | inr above ↦
            let test : ((other.slot == at.slot) && nat_le at.arm other.arm) ≡ true = grind (arith, nat_tests) in
            let place : other.arm + cond ((other.slot == at.slot) && nat_le at.arm other.arm) 1 0 ≡ other.arm + 1 = ap (λ b. other.arm + cond b 1 0) test in
            ap (λ ls. get_or ls other.arm no_log) now ∙ get_or-remove_above here at.arm no_log other.arm above there
            ∙ sym (ap₂ (λ ls k. get_or ls k no_log) before place)
      ]
  | inr differs ↦
      let test : ((other.slot == at.slot) && nat_le at.arm other.arm) ≡ false = grind (arith, nat_tests) in
      let place : other.arm + cond ((other.slot == at.slot) && nat_le at.arm other.arm) 1 0 ≡ other.arm = ap (λ b. other.arm + cond b 1 0) test ∙ omega arith in
      ap (λ ls. get_or ls other.arm no_log) (get_or-set_other logs at.slot other.slot (remove here at.arm) [] differs)
      ∙ sym (ap (λ k. get_or (get_or logs other.slot []) k no_log) place)
]

pub detached_from : (geometry : Geometry) (perms : Perms) (metaslab : ℕ) (slots : List Slot) (detached gone : List Detached) (next : List ℕ) (places left : ℕ) (at : ArmAt) (old new : Slot) (arm : Arm) (group : ℕ)
    → IsPlace slots at old → arms_in new ≡ remove (arms_in old) at.arm → logs_in new ≡ remove (logs_in old) at.arm → arm ≡ get_or (arms_in old) at.arm arm
    → gone ≡ detached ++ record { kind = arm.kind; number = arm.number; slot = at.slot; group = group; offline = arm.offline } ∷ [] → left + 1 ≡ places
    → Detaches (table_of geometry perms metaslab slots detached next places) (table_of geometry perms metaslab (set slots at.slot new) gone next left) at group
detached_from geometry perms metaslab slots detached gone next places left at old new arm group place arms logs is went less =
    record {
      same = record { geometry_is = refl; perms_are = refl; metaslab_is = refl };
      here = ap (λ all. get_or all at.slot []) (map-set arms_in slots at.slot new)
          ∙ get_or-set_same (map arms_in slots) at.slot (arms_in new) [] (let within = place.slot_within in omega (arith, length-map slots arms_in))
          ∙ arms ∙ ap (λ xs. remove xs at.arm) (sym place.arms_are);
      others = λ other differs. ap (λ all. get_or all other []) (map-set arms_in slots at.slot new) ∙ get_or-set_other (map arms_in slots) at.slot other (arms_in new) [] differs;
      logged = λ other number. ap (λ (ls : Numbers). has ls number) (log_now other);
      room = λ other. ap (λ (ls : Numbers). ls.room) (log_now other);
      gone = λ it found. (let same = some_same arm it (sym (arm_found slots at old arm place is) ∙ found) in
          went ∙ ap (λ (a : Arm). detached ++ record { kind = a.kind; number = a.number; slot = at.slot; group = group; offline = a.offline } ∷ []) same);
      next_stays = refl;
      places_less = less;
    } where
      log_now : (other : ArmAt) → log_in (map logs_in (set slots at.slot new)) other ≡ log_in (map logs_in slots) (behind at other)
      log_now other =
          ap (λ all. log_in all other) (map-set logs_in slots at.slot new ∙ ap (λ ls. set (map logs_in slots) at.slot ls) logs)
          ∙ one_log_less (map logs_in slots) at (logs_in old) other (let within = place.slot_within in omega (arith, length-map slots logs_in)) place.logs_are place.log_within
