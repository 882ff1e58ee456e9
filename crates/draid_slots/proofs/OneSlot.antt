-- What becomes of the lists of arms and of logs where one slot of several is replaced.
use Rattle.std.proofs.Common.{◌≡◌, ℕ, ◌+◌, ◌<◌, ◌≤◌, true, false, List, [], map, length, get_or, set, arith, ap, sym, ◌∙◌, subst, inl, inr}
use Rattle.std.specs.Prelude.{cond, if◌then◌else◌}
use Rattle.std.proofs.Math.Seq.{map-set_same}
use Rattle.std.proofs.lemmas.Bool.{cases_eq}
use Rattle.std.proofs.lemmas.Bool.Decides.{nat_tests}
use Rattle.std.proofs.lemmas.List.{get_or-map, get_or-set_same, get_or-set_other, length-set}
use Rattle.draid_names.specs.declared.arm.ArmAt.{ArmAt}
use Rattle.draid_ranges.specs.Numbers.{Numbers}
use Rattle.draid_slots.specs.declared.slot.Slot.{Slot}
use Rattle.draid_slots.specs.Changes.{AreAllGrown, AreGrown, AreReserved}
use Rattle.draid_slots.specs.Table.{arms_in, is_at, log_in, logs_in, no_log}

pub arms_kept : (slots : List Slot) (i : ℕ) (old new : Slot) → old ≡ get_or slots i old → arms_in new ≡ arms_in old → map arms_in (set slots i new) ≡ map arms_in slots
arms_kept slots i old new was same = map-set_same arms_in slots i new old (same ∙ ap arms_in was)

pub logs_kept : (slots : List Slot) (i : ℕ) (old new : Slot) → old ≡ get_or slots i old → logs_in new ≡ logs_in old → map logs_in (set slots i new) ≡ map logs_in slots
logs_kept slots i old new was same = map-set_same logs_in slots i new old (same ∙ ap logs_in was)

pub arms_found : (slots : List Slot) (i : ℕ) (old : Slot) → i < length slots → old ≡ get_or slots i old → get_or (map arms_in slots) i [] ≡ arms_in old
arms_found slots i old l was = get_or-map arms_in slots i old [] l ∙ ap arms_in (sym was)

pub logs_found : (slots : List Slot) (i : ℕ) (old : Slot) → i < length slots → old ≡ get_or slots i old → get_or (map logs_in slots) i [] ≡ logs_in old
logs_found slots i old l was = get_or-map logs_in slots i old [] l ∙ ap logs_in (sym was)

grown_after : (a b c : List Numbers) (n m : ℕ) → AreGrown a b 0 0 → AreGrown b c n m → AreGrown a c 0 0
grown_after a b c n m f s =
    record {
      len = s.len ∙ f.len;
      members = λ k x. s.members k x ∙ f.members k x;
      kept = λ k. (let p = f.kept k in let q = s.kept k in omega arith);
      reserved = λ k l. absurd (omega arith);
    }

-- the logs of one more slot are grown
pub grown_more : (old cur : List (List Numbers)) (i n m : ℕ) (new : List Numbers) → i < length cur → AreAllGrown old cur → AreGrown (get_or cur i []) new n m → AreAllGrown old (set cur i new)
grown_more old cur i n m new l all one =
    record {
      count = length-set cur i new ∙ all.count;
      each = λ slot. elim (cases_eq slot i) [
        | inl same ↦
            let G : List Numbers → Type 0 = λ logs. AreGrown (get_or old slot []) logs 0 0 in
            let C : ℕ → Type 0 = λ j. AreGrown (get_or old j []) (get_or (set cur i new) j []) 0 0 in
            let H : List Numbers → Type 0 = λ logs. AreGrown (get_or old i []) logs 0 0 in
            subst C (sym same) (subst H (sym (get_or-set_same cur i new [] l)) (grown_after (get_or old i []) (get_or cur i []) new n m (all.each i) one))
        | inr other ↦
            let H : List Numbers → Type 0 = λ logs. AreGrown (get_or old slot []) logs 0 0 in
            subst H (sym (get_or-set_other cur i slot new [] other)) (all.each slot)
      ];
    }

-- and have the room
pub reserved_more : (cur : List (List Numbers)) (i changes : ℕ) (new : List Numbers) → i < length cur → AreReserved cur i changes
    → ((k : ℕ) → k < length new → changes ≤ (get_or new k no_log).room) → AreReserved (set cur i new) (i + 1) changes
reserved_more cur i changes new l all one at below there = elim (cases_eq at.slot i) [
  | inl same ↦
      let here : get_or (set cur i new) at.slot [] ≡ new = ap (λ j. get_or (set cur i new) j []) same ∙ get_or-set_same cur i new [] l in
      let R : List Numbers → Type 0 = λ logs. changes ≤ (get_or logs at.arm no_log).room in
      let L : List Numbers → Type 0 = λ logs. at.arm < length logs in
      subst R (sym here) (one at.arm (subst L here there))
  | inr other ↦
      let here = get_or-set_other cur i at.slot new [] other in
      let R : List Numbers → Type 0 = λ logs. changes ≤ (get_or logs at.arm no_log).room in
      let L : List Numbers → Type 0 = λ logs. at.arm < length logs in
      subst R (sym here) (all at (omega arith) (subst L here there))
]

-- the log of one arm is replaced
pub one_log : (logs : List (List Numbers)) (at other : ArmAt) (old : List Numbers) (log : Numbers) → at.slot < length logs → get_or logs at.slot [] ≡ old → at.arm < length old
    → log_in (set logs at.slot (set old at.arm log)) other ≡ (if is_at at other then log else log_in logs other)
one_log logs at other old log l was there = elim (cases_eq other.slot at.slot) [
  | inl same ↦
      let here : get_or (set logs at.slot (set old at.arm log)) other.slot [] ≡ set old at.arm log =
      ap (λ j. get_or (set logs at.slot (set old at.arm log)) j []) same ∙ get_or-set_same logs at.slot (set old at.arm log) [] l in
      let before : get_or logs other.slot [] ≡ old = ap (λ j. get_or logs j []) same ∙ was in
      elim (cases_eq other.arm at.arm) [
        | inl arm ↦
            let yes : is_at at other ≡ true = grind (arith, nat_tests) in
            ap (λ logs. get_or logs other.arm no_log) here ∙ ap (λ j. get_or (set old at.arm log) j no_log) arm ∙ get_or-set_same old at.arm log no_log there
            ∙ sym (ap (λ b. cond b log (log_in logs other)) yes)
        | inr arm ↦
            let no : is_at at other ≡ false = grind (arith, nat_tests) in
            ap (λ logs. get_or logs other.arm no_log) here ∙ get_or-set_other old at.arm other.arm log no_log arm ∙ sym (ap (λ logs. get_or logs other.arm no_log) before)
            ∙ sym (ap (λ b. cond b log (log_in logs other)) no)
      ]
  | inr slot ↦
      let no : is_at at other ≡ false = grind (arith, nat_tests) in
      ap (λ logs. get_or logs other.arm no_log) (get_or-set_other logs at.slot other.slot (set old at.arm log) [] slot)
      ∙ sym (ap (λ b. cond b log (log_in logs other)) no)
]
