-- Changes of logs and arms, one after another.
use Rattle.std.proofs.Common.{◌≡◌, ◌≢◌, ◌==◌, ◌+◌, ◌<◌, ◌≤◌, ◌||◌, ◌&&◌, not, ◌∙◌, ℕ, Bool, true, false, nat_le, nat_lt, List, [], Option, Some, None, arith, refl, sym, ap, subst, if◌then◌else◌}
use Rattle.std.specs.Prelude.{option_map, slice_get, slice_index_or}
use Rattle.std.proofs.lemmas.Bool.{true≢false}
use Rattle.std.proofs.lemmas.Bool.Decides.{nat_tests}
use Rattle.draid_names.specs.declared.arm.Arm.{Arm}
use Rattle.draid_names.specs.declared.arm.ArmAt.{ArmAt}
use Rattle.draid_machine.proofs.Small.{both_true, equal, is_equal}
use Rattle.draid_ranges.specs.Numbers.{has}
use Rattle.draid_ranges.specs.Runs.{is_between}
use Rattle.draid_slots.specs.Changes.{ChangesArms, ChangesLog, IsSame, freshened}
use Rattle.draid_slots.specs.Table.{SlotTable, arm_at, is_at, is_logged, log_in, room_at}
use Rattle.draid_plans.specs.Logs.{Excises, Fills, has_place, made_good}

pub same_on : (a b c : SlotTable) → IsSame a b → IsSame b c → IsSame a c
same_on a b c e f = record { geometry_is = f.geometry_is ∙ e.geometry_is; perms_are = f.perms_are ∙ e.perms_are; metaslab_is = f.metaslab_is ∙ e.metaslab_is }

pub same_place : (t at : ArmAt) → is_at t at ≡ true → t ≡ at
same_place t at is =
    let both = both_true (t.slot == at.slot) (t.arm == at.arm) is in
    let s = is_equal t.slot at.slot both.0 in
    let a = is_equal t.arm at.arm both.1 in
    λ i. record { slot = s i; arm = a i }

-- ---- filling
pub fills_none : (slots : SlotTable) (filled : ArmAt → Bool) (upto : ℕ) → ((at : ArmAt) → filled at ≡ false) → Fills slots slots filled upto
fills_none slots filled upto none = record {
  same = record { geometry_is = refl; perms_are = refl; metaslab_is = refl };
  arms_stay = refl;
  logged = λ at g. sym (ap (λ b. if b then is_between 1 (upto + 1) g else is_logged slots at g) (none at));
  detached_stay = refl;
  room = λ at. omega arith;
  next_stays = refl;
  places_stay = refl;
}

pub fills_more : (a b c : SlotTable) (p r : ArmAt → Bool) (t : ArmAt) (upto : ℕ) → Fills a b p upto → ChangesLog b c t (is_between 1 (upto + 1)) → p t ≡ false
    → ((at : ArmAt) → (p at || is_at t at) ≡ r at) → Fills a c r upto
fills_more a b c p r t upto e f once both = record {
  same = same_on a b c e.same f.same;
  arms_stay = f.arms_stay ∙ e.arms_stay;
  logged = λ at g.
      f.logged at g ∙ ap (λ x. if is_at t at then is_between 1 (upto + 1) g else x) (e.logged at g)
      ∙ twice (p at) (is_at t at) (is_between 1 (upto + 1) g) (is_logged a at g) ∙ ap (λ x. if x then is_between 1 (upto + 1) g else is_logged a at g) (both at);
  detached_stay = f.detached_stay ∙ e.detached_stay;
  room = λ at. subst (λ x. room_at a at ≤ room_at c at + (if x then 1 else 0)) (both at)
      (left (p at) (is_at t at) (room_at a at) (room_at b at) (room_at c at) (λ here. ap p (sym (same_place t at here)) ∙ once) (e.room at) (f.room at));
  next_stays = f.next_stays ∙ e.next_stays;
  places_stay = f.places_stay ∙ e.places_stay;
} where
  twice : (p q x y : Bool) → (if q then x else (if p then x else y)) ≡ (if p || q then x else y)
  twice true true x y = refl
  twice true false x y = refl
  twice false true x y = refl
  twice false false x y = refl

  left : (p q : Bool) (x y z : ℕ) → (q ≡ true → p ≡ false) → x ≤ y + (if p then 1 else 0) → y ≤ z + (if q then 1 else 0) → x ≤ z + (if p || q then 1 else 0)
  left true true x y z differ e f = absurd (true≢false (differ refl))
  left true false x y z differ e f = omega (arith, e, f)
  left false true x y z differ e f = omega (arith, e, f)
  left false false x y z differ e f = omega (arith, e, f)

-- ---- excising
pub excises_none : (slots : SlotTable) (good : ArmAt → Bool) (upto : ℕ) → ((at : ArmAt) → good at ≡ false) → Excises slots slots good upto
excises_none slots good upto none = record {
  same = record { geometry_is = refl; perms_are = refl; metaslab_is = refl };
  arms_are = λ at. same_arm (arm_at slots at) ∙ ap (λ b. option_map (made_good b) (arm_at slots at)) (sym (none at));
  logged = λ at g. stays (is_logged slots at g) ∙ ap (λ b. is_logged slots at g && not (b && nat_le g upto)) (sym (none at));
  detached_stay = refl;
  room = λ at. omega arith;
  next_stays = refl;
  places_stay = refl;
} where
  fresh_stays : (b : Bool) → b ≡ (b && true)
  fresh_stays true = refl
  fresh_stays false = refl

  same_arm : (o : Option Arm) → o ≡ option_map (made_good false) o
  same_arm None = refl
  same_arm (Some arm) = λ i. Some (record arm { fresh = fresh_stays arm.fresh i })

  stays : (b : Bool) → b ≡ (b && true)
  stays true = refl
  stays false = refl

pub excises_more : (a b c : SlotTable) (p q r : ArmAt → Bool) (upto : ℕ) → Excises a b p upto → Excises b c q upto → ((at : ArmAt) → (p at || q at) ≡ r at) → Excises a c r upto
excises_more a b c p q r upto e f both = record {
  same = same_on a b c e.same f.same;
  arms_are = λ at. f.arms_are at ∙ ap (option_map (made_good (q at))) (e.arms_are at) ∙ arm_twice (p at) (q at) (arm_at a at) ∙ ap (λ x. option_map (made_good x) (arm_at a at)) (both at);
  logged = λ at g.
      f.logged at g ∙ ap (λ x. x && not (q at && nat_le g upto)) (e.logged at g)
      ∙ log_twice (is_logged a at g) (p at) (q at) (nat_le g upto) ∙ ap (λ x. is_logged a at g && not (x && nat_le g upto)) (both at);
  detached_stay = f.detached_stay ∙ e.detached_stay;
  room = λ at. (let x = e.room at in let y = f.room at in omega (arith, x, y));
  next_stays = f.next_stays ∙ e.next_stays;
  places_stay = f.places_stay ∙ e.places_stay;
} where
  fresh_twice : (f p q : Bool) → ((f && not p) && not q) ≡ (f && not (p || q))
  fresh_twice true true q = refl
  fresh_twice true false q = refl
  fresh_twice false p q = refl

  arm_twice : (p q : Bool) (o : Option Arm) → option_map (made_good q) (option_map (made_good p) o) ≡ option_map (made_good (p || q)) o
  arm_twice p q None = refl
  arm_twice p q (Some arm) = λ i. Some (record arm { fresh = fresh_twice arm.fresh p q i })

  log_twice : (l p q u : Bool) → ((l && not (p && u)) && not (q && u)) ≡ (l && not ((p || q) && u))
  log_twice false p q u = refl
  log_twice true false q u = refl
  log_twice true true q true = refl
  log_twice true true true false = refl
  log_twice true true false false = refl

-- one arm
pub excises_one : (a b c : SlotTable) (t : ArmAt) (upto : ℕ) → ChangesLog a b t (λ x. is_logged a t x && nat_lt upto x) → ((at : ArmAt) → room_at a at ≤ room_at b at)
    → ChangesArms b c (freshened t false) → Excises a c (is_at t) upto
excises_one a b c t upto e roomy f = record {
  same = same_on a b c e.same f.same;
  arms_are = λ at. f.arms_are at ∙ ap (λ arms. option_map (freshened t false at) (at_in arms at)) e.arms_stay ∙ made (is_at t at) (arm_at a at);
  logged = λ at g. ap (λ logs. has (log_in logs at) g) f.logs_stay ∙ e.logged at g ∙ by at g (is_at t at) refl;
  detached_stay = f.detached_stay ∙ e.detached_stay;
  room = λ at. (let r = roomy at in let s : room_at c at ≡ room_at b at = ap (λ logs. (log_in logs at).room) f.logs_stay in omega (arith, r, s));
  next_stays = f.next_stays ∙ e.next_stays;
  places_stay = f.places_stay ∙ e.places_stay;
} where
  at_in : List (List Arm) → ArmAt → Option Arm
  at_in arms at = slice_get (slice_index_or arms at.slot []) at.arm

  made : (b : Bool) (o : Option Arm) → option_map (λ (arm : Arm). if b then record arm { fresh = false } else arm) o ≡ option_map (made_good b) o
  made true None = refl
  made true (Some arm) = λ i. Some (record arm { fresh = off arm.fresh i })
    where
      off : (b : Bool) → false ≡ (b && false)
      off true = refl
      off false = refl
  made false None = refl
  made false (Some arm) = λ i. Some (record arm { fresh = stays arm.fresh i })
    where
      stays : (b : Bool) → b ≡ (b && true)
      stays true = refl
      stays false = refl

  later : (u x : ℕ) → nat_lt u x ≡ not (nat_le x u)
  later u x = grind (arith, nat_tests)

  by : (at : ArmAt) (g : ℕ) (b : Bool) → is_at t at ≡ b → (if b then is_logged a t g && nat_lt upto g else is_logged a at g) ≡ (is_logged a at g && not (b && nat_le g upto))
  by at g true here = ap (λ (x : ArmAt). is_logged a x g && nat_lt upto g) (same_place t at here) ∙ ap (λ b. is_logged a at g && b) (later upto g)
  by at g false other = stays (is_logged a at g)
    where
      stays : (b : Bool) → b ≡ (b && true)
      stays true = refl
      stays false = refl

-- ---- by a pass's errors
pub excises_same : (a b : SlotTable) (p q : ArmAt → Bool) (upto : ℕ) → ((at : ArmAt) → p at ≡ q at) → Excises a b p upto → Excises a b q upto
excises_same a b p q upto same e = subst (λ f. Excises a b f upto) (λ i at. same at i) e

pub good_all : (errors : ℕ) (ts : List ArmAt) (at : ArmAt) → errors ≡ 0 → has_place ts at ≡ ((errors == 0) && has_place ts at)
good_all errors ts at none = sym (ap (λ b. b && has_place ts at) (equal errors 0 none))

pub good_none : (errors : ℕ) (ts : List ArmAt) (at : ArmAt) → errors ≢ 0 → ((errors == 0) && has_place ts at) ≡ false
good_none errors ts at some = by (errors == 0) refl
  where
    by : (b : Bool) → (errors == 0) ≡ b → (b && has_place ts at) ≡ false
    by true is = absurd (some (is_equal errors 0 is))
    by false is = refl

pub room_still : (b : Bool) (x y : ℕ) → b ≡ false → x ≤ y + (if b then 1 else 0) → 0 < x → 0 < y
room_still true x y e less some = absurd (true≢false e)
room_still false x y e less some = omega (arith, less, some)
