-- The room of each log of the arms that may still come.
use Rattle.std.proofs.Common.{◌≡◌, ◌<◌, ◌≤◌, ◌+◌, ℕ, zero, suc, List, [], ◌∷◌, ◌++◌, length, get_or, arith, refl, ap, ◌∙◌, inl, inr}
use Rattle.std.specs.Prelude.{All}
use Rattle.std.proofs.Math.ListN.{get_or-append, get_or-eq_default}
use Rattle.std.proofs.Math.Seq.{get_or-append_seam}
use Rattle.std.proofs.lemmas.Bool.{cases_lt}
use Rattle.std.proofs.lemmas.List.{length-append, length-map, map-append}
use Rattle.draid_ranges.specs.Numbers.{Numbers}
use Rattle.draid_slots.specs.Table.{next_rooms, no_log}

pub length_rooms : (logs : List Numbers) → length (next_rooms logs) ≡ length logs
length_rooms logs = length-map logs (λ (log : Numbers). log.room)

pub room_of : (logs : List Numbers) (k : ℕ) → get_or (next_rooms logs) k 0 ≡ (get_or logs k no_log).room
room_of [] zero = refl
room_of [] (suc k) = refl
room_of (log ∷ logs) zero = refl
room_of (log ∷ logs) (suc k) = room_of logs k

pub all_rooms : (logs : List Numbers) (changes more : ℕ) → changes < more → ((k : ℕ) → k < length logs → more ≤ (get_or logs k no_log).room)
    → All (λ (room : ℕ). changes < room) (next_rooms logs)
all_rooms [] changes more less rooms k d below = absurd (omega arith)
all_rooms (log ∷ logs) changes more less rooms zero d below = (let room = rooms 0 (omega arith) in omega arith)
all_rooms (log ∷ logs) changes more less rooms (suc k) d below = all_rooms logs changes more less (λ j there. rooms (suc j) (omega arith)) k d (omega arith)

-- so many logs were added to those that there were, which have no less room, and each has room for so many changes
pub record AreAdded (old now : List Numbers) (changes added : ℕ) : Type 0 where
  pub many : length now ≡ length old + added
  pub kept : (k : ℕ) → (get_or old k no_log).room ≤ (get_or now k no_log).room
  pub rooms : (k : ℕ) → k < length now → changes ≤ (get_or now k no_log).room

pub added_more : (old now after : List Numbers) (log : Numbers) (changes added : ℕ) → AreAdded old now changes added → changes ≤ log.room → after ≡ now ++ log ∷ [] → AreAdded old after changes (added + 1)
added_more old now after log changes added are room is =
    record {
      many = (let many = are.many in let long : length after ≡ length now + 1 = ap length is ∙ length-append now (log ∷ []) in omega arith);
      kept = λ k. elim (cases_lt k (length now)) [
        | inl below ↦ (let kept = are.kept k in let same = ap (λ (l : Numbers). l.room) (here k below) in omega arith)
        | inr past ↦
            let many = are.many in
            let out : length old ≤ k = omega (arith, many, past) in
            let none : (get_or old k no_log).room ≡ 0 = ap (λ (l : Numbers). l.room) (get_or-eq_default old no_log out) in
            omega arith
      ];
      rooms = λ k there. elim (cases_lt k (length now)) [
        | inl below ↦ (let rooms = are.rooms k below in let same = ap (λ (l : Numbers). l.room) (here k below) in omega arith)
        | inr past ↦
            let long : length after ≡ length now + 1 = ap length is ∙ length-append now (log ∷ []) in
            let last : k ≡ length now = omega arith in
            let same = ap (λ (l : Numbers). l.room) (ap (λ logs. get_or logs k no_log) is ∙ ap (λ j. get_or (now ++ log ∷ []) j no_log) last ∙ get_or-append_seam now log [] no_log) in
            omega arith
      ];
    } where
      here : (k : ℕ) → k < length now → get_or after k no_log ≡ get_or now k no_log
      here k below = ap (λ logs. get_or logs k no_log) is ∙ get_or-append now (log ∷ []) no_log k below

-- no less room than before
pub rooms_kept : (old now : List Numbers) → ((k : ℕ) → (get_or old k no_log).room ≤ (get_or now k no_log).room) → (k : ℕ) → get_or (next_rooms old) k 0 ≤ get_or (next_rooms now) k 0
rooms_kept old now kept k = let a = room_of old k in let b = room_of now k in let c = kept k in omega arith

pub some_rooms : (old now : List Numbers) → length old ≤ length now → length (next_rooms old) ≤ length (next_rooms now)
some_rooms old now less = let a = length_rooms old in let b = length_rooms now in omega arith

-- of the last log
pub rooms_append : (logs rest : List Numbers) (log : Numbers) → logs ≡ rest ++ log ∷ [] → next_rooms logs ≡ next_rooms rest ++ log.room ∷ []
rooms_append logs rest log is = ap next_rooms is ∙ map-append (λ (log : Numbers). log.room) rest (log ∷ [])

pub last_room : (logs rest : List Numbers) (log : Numbers) → logs ≡ rest ++ log ∷ [] → All (λ (room : ℕ). 0 < room) (next_rooms logs) → 0 < log.room
last_room logs rest log is all =
    let long : length logs ≡ length rest + 1 = ap length is ∙ length-append rest (log ∷ []) in
    let some = all (length rest) 0 (omega (arith, length_rooms logs)) in
    let same = ap (λ (l : Numbers). l.room) (ap (λ ls. get_or ls (length rest) no_log) is ∙ get_or-append_seam rest log [] no_log) in
    let at = room_of logs (length rest) in
    omega arith
