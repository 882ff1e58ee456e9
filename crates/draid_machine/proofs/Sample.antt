-- A legal history with every kind of event: a block is written and committed, its leaf goes offline, a spare takes its place and is rebuilt,
-- is detached again, and the metaslab is opened from its record; then a scrub, a second write that is given up, and the freeing.
use Rattle.std.proofs.Common.{◌≡◌, ◌+◌, ◌<◌, ◌≤◌, ◌&&◌, ◌||◌, ◌==◌, not, ℕ, zero, suc, Bool, true, false, List, [], ◌∷◌, Option, Some, None, Contains, refl, sym, ◌∙◌, ap, subst, inl, inr, arith}
use Rattle.std.proofs.lemmas.Bool.{true≢false}
use Rattle.std.proofs.lemmas.Bool.Decides.{nat_tests}
use Rattle.draid_names.specs.declared.pass_kind.PassKind.TheVariants.{Rebuild, Heal}
use Rattle.draid_machine.specs.declared.names.Key.{Key}
use Rattle.draid_machine.specs.declared.names.ArmName.{ArmName}
use Rattle.draid_machine.specs.declared.names.ArmName.TheVariants.{Leaf, Spare}
use Rattle.draid_machine.specs.declared.names.Stage.{Stage}
use Rattle.draid_machine.specs.declared.names.Stage.TheVariants.{Writing, Live}
use Rattle.draid_machine.specs.declared.names.Held.{Held}
use Rattle.draid_machine.specs.declared.names.Segment.{Segment}
use Rattle.draid_machine.specs.Names.{key_eq, has_name, is_block, takes}
use Rattle.draid_machine.specs.State.{Layout, IsLayout, Arm, Pass, Loan, Image, State}
use Rattle.draid_machine.specs.Arms.{answers, fails, is_clean, logged, is_fresh, HasEmptyLog, targets_of}
use Rattle.draid_machine.specs.After.{is_freed_block, begin_state, put_state, finish_state, gone_state, free_state, switch_state, attach_state, detach_state, close_state, image_of, sealed_core, seal_state, commit_state, plan_state, ready_state, lend_state, land_stripe_state, land_block_state, ended_pass, done_state, cancel_state, reopen_state}
use Rattle.draid_machine.specs.Created.{created, new_arm}
use Rattle.draid_machine.specs.Step.{IsChosen, to_list, arms_read, HasWritten, IsTaken, BeginStep, PutStep, FinishStep, AbortStep, FreeStep, FetchStep, DamageStep, SwitchStep, AttachStep, DetachStep, CloseStep, SealStep, CommitStep, PlanStep, ReadyStep, LendStep, LandStripeStep, LandBlockStep, DoneStep, CancelStep, ReopenStep}
use Rattle.draid_machine.proofs.Small.{some_same, none_some, bool_cases, kept_some, key_true}
use Rattle.draid_machine.proofs.Seals.{sealed_held}

-- four slots, and one spare whose place is slot 0; the columns of each stripe stand on slots 1 to 3
abbrev pub sample : Layout
sample = record {
  columns = 3;
  parity = 1;
  slots = 4;
  spares = 1;
  stripes = 8;
  height = 8;
  sectors = 8;
  slot_of = λ x c. c + 1;
  sector_of = λ x c. x;
  home = λ first t x. 0;
}

sample_is : IsLayout sample
sample_is = record {
  tall = omega arith;
  steady = λ x y c e. refl;
  steady_home = λ first x y t e. refl;
  rows = λ x y c e. omega arith;
  slots = λ x c column. omega (arith, column);
  homes = λ first x t. omega arith;
  inside = λ x c less column. less;
  one_column = λ x y c d column column' slot sector. (sector, omega (arith, slot));
  apart = λ first x y c d t are column column' spare sector e. omega (arith, e);
  one_spare = λ earlier later x y c d t u are are' one column column' sector arm arm' e. same_number t u arm.spare_is arm'.spare_is;
}
  where
    same_number : (t u : ℕ) → t < 1 → u < 1 → t ≡ u
    same_number t u less less' = omega (arith, less, less')

abbrev key : Key
key = record { object = 7; seq = 1 }

abbrev block : Stage → Held
block st = record { first = 0; stripes = 1; len = 1; birth = 2; digest = []; stage = st }

-- ---- a write
abbrev w0 : State
w0 = created sample 1

abbrev w1 : State
w1 = begin_state w0 key (block (Writing 0 0))

nothing_taken : (x : ℕ) → IsTaken w0.core x → ⊥
nothing_taken x t = none_some None t.held refl t.found

s1 : BeginStep sample w0 key (block (Writing 0 0)) w1
s1 = record {
  enabled = λ p e. absurd (none_some None p refl e);
  unused = refl;
  few = record { keys = []; all = λ k h e. absurd (none_some None h refl e); few = omega arith };
  some = omega arith;
  fits = record { inside = omega arith; group = refl; free = λ x low high t. nothing_taken x t };
  lowest = λ x less f. omega (arith, less);
  birth = record { from = omega arith; upto = omega arith };
  made = refl;
}

listed_one : (a n : ArmName) → has_name (a ∷ []) n ≡ true → has_name (a ∷ []) n ≡ true
listed_one a n e = e

abbrev put_next : State → ArmName → ℕ → State
put_next w n c = put_state sample w key (n ∷ []) (block (Writing c 0)) c 0

abbrev w2 : State
w2 = put_next w1 (Leaf 1) 0

abbrev w3 : State
w3 = put_next w2 (Leaf 2) 1

abbrev w4 : State
w4 = put_next w3 (Leaf 3) 2

-- the one arm of a slot
only : (P : ArmName → Type 0) (m : ℕ) → P (Leaf m) → (n : ArmName) → has_name (Leaf m ∷ []) n ≡ true → P n
only P m p (Leaf k) e = by (m == k) refl e
  where
    by : (b : Bool) → (m == k) ≡ b → (b || false) ≡ true → P (Leaf k)
    by true is e = let same : m ≡ k = grind (arith, nat_tests) in subst (λ x. P (Leaf x)) same p
    by false is e = absurd (true≢false (sym e))
only P m p (Spare t) e = absurd (true≢false (sym e))

abbrev Lands : State → ℕ → ArmName → Type 0
Lands w m n = has_name (Leaf m ∷ []) n ≡ (answers sample w.core n 0 && not (fails sample w.core [] n 0))

s2 : PutStep sample w1 key (Leaf 1 ∷ []) [] w2
s2 = record {
  h = block (Writing 0 0);
  c = 0;
  m = 0;
  found = refl;
  stage = refl;
  more = omega arith;
  listed = λ n e. e;
  lands = λ n e. only (Lands w1 1) 1 refl n e;
  fail = λ leaf e. absurd (true≢false (sym e));
  made = refl;
}

s3 : PutStep sample w2 key (Leaf 2 ∷ []) [] w3
s3 = record {
  h = block (Writing 1 0);
  c = 1;
  m = 0;
  found = refl;
  stage = refl;
  more = omega arith;
  listed = λ n e. e;
  lands = λ n e. only (Lands w2 2) 2 refl n e;
  fail = λ leaf e. absurd (true≢false (sym e));
  made = refl;
}

s4 : PutStep sample w3 key (Leaf 3 ∷ []) [] w4
s4 = record {
  h = block (Writing 2 0);
  c = 2;
  m = 0;
  found = refl;
  stage = refl;
  more = omega arith;
  listed = λ n e. e;
  lands = λ n e. only (Lands w3 3) 3 refl n e;
  fail = λ leaf e. absurd (true≢false (sym e));
  made = refl;
}

abbrev w5 : State
w5 = finish_state sample w4 key (block (Writing 3 0)) 0

s5 : FinishStep sample w4 key w5
s5 = record { h = block (Writing 3 0); m = 0; found = refl; stage = refl; made = refl }

-- ---- it is committed
abbrev w6 : State
w6 = close_state w5 2

abbrev w7 : State
w7 = seal_state sample w6 2 [] true

abbrev w8 : State
w8 = commit_state sample w7 2 (image_of 2 1 (sealed_core sample w6.core 2 [] true))

s6 : CloseStep w5 2 w6
s6 = record { open_group = refl; below = omega arith; idle = refl; made = refl }

-- the block is all that is held
abbrev Only : State → Type 0
Only w = (k : Key) (h : Held) → w.core.held k ≡ Some h → h ≡ block Live

only5 : Only w5
only5 k h e = elim (bool_cases (key_eq key k)) [
  | inl t ↦ let is : w5.core.held k ≡ Some (block Live) = rw t refl in some_same (w5.core.held k) h (block Live) e is
  | inr f ↦ let is : w5.core.held k ≡ None = rw f refl in absurd (none_some (w5.core.held k) h is e)
]

only_commit : (w : State) (t : ℕ) (img : Image) → Only w → Only (commit_state sample w t img)
only_commit w t img only k h e = only k h (kept_some (is_freed_block t (w.core.held k)) (w.core.held k) h e).1

no_ticket : (w : State) → Only w → {P : Type 0} → (k : Key) (h : Held) → w.core.held k ≡ Some h → is_block h.stage ≡ false → P
no_ticket w only k h e ticket = absurd (true≢false (ap (λ (x : Held). is_block x.stage) (sym (only k h e)) ∙ ticket))

s7 : SealStep sample w6 2 [] w7
s7 = record {
  wrote = true;
  closing = refl;
  unsealed = refl;
  settled = λ k h e t. no_ticket w6 only5 k h e t;
  writes = λ e. record { key = key; h = block Live; found = refl; block = refl; born = refl; stays = refl };
  no_writes = λ e. absurd (true≢false e);
  fail = λ leaf e. absurd (true≢false (sym e));
  made = refl;
}

s8 : CommitStep sample w7 2 w8
s8 = record { image = image_of 2 1 (sealed_core sample w6.core 2 [] true); closing = refl; sealed = refl; made = refl }

only8 : Only w8
only8 = only_commit w7 2 (image_of 2 1 (sealed_core sample w6.core 2 [] true)) only5

-- ---- its leaf goes offline, and a spare takes its place
abbrev arm_of : Option Arm → Arm
arm_of None = new_arm
arm_of (Some a) = a

abbrev w9 : State
w9 = switch_state w8 (Leaf 1) (arm_of (w8.core.arm (Leaf 1))) true

abbrev w10 : State
w10 = attach_state sample w9 1 (Spare 0) 3

s9 : SwitchStep w8 1 true w9
s9 = record { a = arm_of (w8.core.arm (Leaf 1)); there = record { slot = 1; listed = refl; found = refl }; made = refl }

s10 : AttachStep sample w9 1 (Spare 0) w10
s10 = record {
  last = 3;
  slot_is = omega arith;
  arm_is = omega arith;
  unused = refl;
  room = omega arith;
  may = λ p e. absurd (none_some None p refl e);
  last_is = record { one = inl refl; open_group = omega arith; births = λ k h e. low3 h (only8 k h e) };
  made = refl;
}
  where
    low3 : (h : Held) → h ≡ block Live → h.birth ≤ 3
    low3 h e = let b = ap (λ (x : Held). x.birth) e in omega (arith, b)

-- ---- the rebuild
abbrev w11 : State
w11 = plan_state w10 Rebuild (Spare 0 ∷ [])

s11 : PlanStep sample w10 Rebuild w11
s11 = record { idle = refl; last = omega arith; may = (λ e. cons_nil e, omega arith); made = refl }
  where
    cons_nil : {n : ArmName} {ns : List ArmName} → n ∷ ns ≡ [] → ⊥
    cons_nil e = true≢false (ap some (e))
      where
        some : List ArmName → Bool
        some [] = false
        some (n ∷ ns) = true

abbrev w12 : State
w12 = close_state w11 3

abbrev w13 : State
w13 = seal_state sample w12 3 [] false

abbrev w14 : State
w14 = commit_state sample w13 3 (image_of 3 1 (sealed_core sample w12.core 3 [] false))

s12 : CloseStep w11 3 w12
s12 = record { open_group = refl; below = omega arith; idle = refl; made = refl }

none_born : (w : State) (t : ℕ) → Only w → (2 ≡ t → ⊥) → HasWritten w.core t → ⊥
none_born w t only other x = other (ap (λ (h : Held). h.birth) (sym (only x.key x.h x.found)) ∙ x.born)

s13 : SealStep sample w12 3 [] w13
s13 = record {
  wrote = false;
  closing = refl;
  unsealed = refl;
  settled = λ k h e t. no_ticket w12 only8 k h e t;
  writes = λ e. absurd (true≢false (sym e));
  no_writes = λ e x. none_born w12 3 only8 (λ e. omega (arith, e)) x;
  fail = λ leaf e. absurd (true≢false (sym e));
  made = refl;
}

s14 : CommitStep sample w13 3 w14
s14 = record { image = image_of 3 1 (sealed_core sample w12.core 3 [] false); closing = refl; sealed = refl; made = refl }

only14 : Only w14
only14 = only_commit w13 3 (image_of 3 1 (sealed_core sample w12.core 3 [] false)) only8

abbrev pub pass_of : Option Pass → Pass
pass_of None = record { number = 0; kind = Heal; targets = []; max = 0; next = 0; errors = 0; running = true }
pass_of (Some p) = p

abbrev w15 : State
w15 = ready_state w14 (pass_of w14.core.pass)

s15 : ReadyStep w14 w15
s15 = record {
  p = pass_of w14.core.pass;
  pass = refl;
  rebuild = refl;
  planned = refl;
  blocks = λ k h e. ap (λ (x : Held). is_block x.stage) (only14 k h e);
  births = λ k h e. low h (only14 k h e);
  committed = omega arith;
  made = refl;
}
  where
    low : (h : Held) → h ≡ block Live → h.birth ≤ 3
    low h e = let b = ap (λ (x : Held). x.birth) e in omega (arith, b)

-- the arms that a stripe is taken from: column 0 has none
abbrev sources : ℕ → Option ArmName
sources zero = None
sources (suc zero) = Some (Leaf 2)
sources (suc (suc zero)) = Some (Leaf 3)
sources (suc (suc (suc c))) = None

abbrev loan : Loan
loan = record { key = key; stripe = 0; serial = 1; read = λ c. to_list (sources c); chosen = sources }

abbrev w16 : State
w16 = lend_state w15 (pass_of w15.core.pass) loan []

-- the pass has set the spare's log
logged_spare : HasEmptyLog w15.core (Spare 0) → ⊥
logged_spare e = true≢false (e 1)

chosen16 : (c : ℕ) → c < 3 → IsChosen sample w15.core (pass_of w15.core.pass) (block Live) 0 [] c (sources c)
chosen16 zero less = record {
  from = None;
  rebuild = λ e. (λ x. true≢false (sym x.0), (λ x. logged_spare x.1, tt));
  heal = λ e. absurd (true≢false (sym e));
  chosen_is = refl;
}
chosen16 (suc zero) less = record {
  from = Some (Leaf 2);
  rebuild = λ e. inl ((refl, λ g. refl), refl);
  heal = λ e. absurd (true≢false (sym e));
  chosen_is = refl;
}
chosen16 (suc (suc zero)) less = record {
  from = Some (Leaf 3);
  rebuild = λ e. inl ((refl, λ g. refl), refl);
  heal = λ e. absurd (true≢false (sym e));
  chosen_is = refl;
}
chosen16 (suc (suc (suc c))) less = absurd (omega (arith, less))

no_more16 : (c : ℕ) → 3 ≤ c → sources c ≡ None
no_more16 zero more = absurd (omega (arith, more))
no_more16 (suc zero) more = absurd (omega (arith, more))
no_more16 (suc (suc zero)) more = absurd (omega (arith, more))
no_more16 (suc (suc (suc c))) more = refl

s16 : LendStep sample w15 [] w16
s16 = record {
  p = pass_of w15.core.pass;
  h = block Live;
  n = loan;
  pass = refl;
  running = refl;
  next = record { found = refl; lent = refl; taken = refl; from = omega arith; first = λ k i x e lent t from less. omega (arith, less) };
  serial = refl;
  chosen = chosen16;
  no_more = no_more16;
  read = λ c less. refl;
  read_none = λ c more. ap to_list (no_more16 c more);
  fail = λ leaf e. absurd (true≢false (sym e));
  made = refl;
}

abbrev w17 : State
w17 = land_stripe_state sample w16 (pass_of w16.core.pass) loan (block Live) []

s17 : LandStripeStep sample w16 1 1 [] w17
s17 = record {
  p = pass_of w16.core.pass;
  n = loan;
  h = block Live;
  counts = record { pass_is = refl; number = refl; loan = refl; serial_is = refl; found = refl };
  rebuild = refl;
  fail = λ leaf e. absurd (true≢false (sym e));
  made = refl;
}

abbrev w18 : State
w18 = done_state w17 (ended_pass sample w17.core (pass_of w17.core.pass) [])

in_first : (h : Held) (x : ℕ) → h ≡ block Live → takes h x ≡ true → x < 1
in_first h x e t = let z : takes (block Live) x ≡ true = subst (λ (y : Held). takes y x ≡ true) e t in small x z
  where
    small : (x : ℕ) → takes (block Live) x ≡ true → x < 1
    small x z = grind (arith, nat_tests)

s18 : DoneStep sample w17 [] w18
s18 = record {
  p = pass_of w17.core.pass;
  pass = refl;
  running = refl;
  finished = λ k h x e lent t. in_first h x (only14 k h e) t;
  idle = refl;
  fail = λ leaf e. absurd (true≢false (sym e));
  made = refl;
}

-- what the rebuild did: the spare's log is empty, it isn't fresh, and it has its segment on the first leaf of slot 0
rebuilt : (logged (w18.core.arm (Spare 0)) 2 ≡ false) × (is_fresh (w18.core.arm (Spare 0)) ≡ false) × (w18.present (record { key = key; column = 0; arm = Spare 0; leaf = 0; row = 0 }) ≡ true)
rebuilt = (refl, refl, refl)

-- ---- the spare is detached, and the metaslab opened from its record
abbrev w19 : State
w19 = detach_state sample w18 1 (Spare 0) (arm_of (w18.core.arm (Spare 0))) 4

s19 : DetachStep sample w18 1 (Spare 0) w19
s19 = record {
  a = arm_of (w18.core.arm (Spare 0));
  last = 4;
  listed = refl;
  found = refl;
  idle = refl;
  leaves = λ e. absurd (true≢false (sym e));
  other = record { other = Leaf 1; listed = refl; differs = refl; empty = λ g. refl };
  last_is = record { one = inl refl; open_group = omega arith; births = λ k h e. low4 h (only14 k h e) };
  made = refl;
}
  where
    low4 : (h : Held) → h ≡ block Live → h.birth ≤ 4
    low4 h e = let b = ap (λ (x : Held). x.birth) e in omega (arith, b)

abbrev w20 : State
w20 = close_state w19 4

abbrev w21 : State
w21 = seal_state sample w20 4 [] false

abbrev image21 : Image
image21 = image_of 4 1 (sealed_core sample w20.core 4 [] false)

abbrev w22 : State
w22 = commit_state sample w21 4 image21

s20 : CloseStep w19 4 w20
s20 = record { open_group = refl; below = omega arith; idle = refl; made = refl }

s21 : SealStep sample w20 4 [] w21
s21 = record {
  wrote = false;
  closing = refl;
  unsealed = refl;
  settled = λ k h e t. no_ticket w20 only14 k h e t;
  writes = λ e. absurd (true≢false (sym e));
  no_writes = λ e x. none_born w20 4 only14 (λ e. omega (arith, e)) x;
  fail = λ leaf e. absurd (true≢false (sym e));
  made = refl;
}

s22 : CommitStep sample w21 4 w22
s22 = record { image = image21; closing = refl; sealed = refl; made = refl }

-- the spare's segment was kept from the detachment on, and went with the commit of the group that was open then
abbrev segment : Segment
segment = record { key = key; column = 0; arm = Spare 0; leaf = 0; row = 0 }

kept_meanwhile : (w18.kept segment ≡ None) × (w19.kept segment ≡ Some 4) × (w21.present segment ≡ true) × (w22.present segment ≡ false) × (w22.kept segment ≡ None)
kept_meanwhile = (refl, refl, refl, refl, refl)

abbrev w23 : State
w23 = reopen_state sample w22 image21 []

s23 : ReopenStep sample w22 4 [] w23
s23 = record { image = image21; one = inl (refl, refl); made = refl }

-- ---- a scrub
abbrev w24 : State
w24 = switch_state w23 (Leaf 1) (arm_of (w23.core.arm (Leaf 1))) false

s24 : SwitchStep w23 1 false w24
s24 = record { a = arm_of (w23.core.arm (Leaf 1)); there = record { slot = 1; listed = refl; found = refl }; made = refl }

abbrev w25 : State
w25 = plan_state w24 Heal (targets_of sample w24.core Heal)

s25 : PlanStep sample w24 Heal w25
s25 = record { idle = refl; last = omega arith; may = tt; made = refl }

all_targets : targets_of sample w24.core Heal ≡ Leaf 0 ∷ Leaf 1 ∷ Leaf 2 ∷ Leaf 3 ∷ []
all_targets = refl

abbrev readings : ℕ → Option ArmName
readings zero = Some (Leaf 1)
readings (suc zero) = Some (Leaf 2)
readings (suc (suc zero)) = Some (Leaf 3)
readings (suc (suc (suc c))) = None

abbrev lent : Loan
lent = record { key = key; stripe = 0; serial = 1; read = λ c. to_list (readings c); chosen = readings }

abbrev w26 : State
w26 = lend_state w25 (pass_of w25.core.pass) lent []

chosen26 : (c : ℕ) → c < 3 → IsChosen sample w25.core (pass_of w25.core.pass) (block Live) 0 [] c (readings c)
chosen26 zero less = record { from = Some (Leaf 1); rebuild = λ e. absurd (true≢false e); heal = λ e. refl; chosen_is = refl }
chosen26 (suc zero) less = record { from = Some (Leaf 2); rebuild = λ e. absurd (true≢false e); heal = λ e. refl; chosen_is = refl }
chosen26 (suc (suc zero)) less = record { from = Some (Leaf 3); rebuild = λ e. absurd (true≢false e); heal = λ e. refl; chosen_is = refl }
chosen26 (suc (suc (suc c))) less = absurd (omega (arith, less))

read26 : (c : ℕ) → c < 3 → to_list (readings c) ≡ arms_read sample w25.core (pass_of w25.core.pass) (block Live) 0 [] c (readings c)
read26 zero less = refl
read26 (suc zero) less = refl
read26 (suc (suc zero)) less = refl
read26 (suc (suc (suc c))) less = absurd (omega (arith, less))

no_more26 : (c : ℕ) → 3 ≤ c → readings c ≡ None
no_more26 zero more = absurd (omega (arith, more))
no_more26 (suc zero) more = absurd (omega (arith, more))
no_more26 (suc (suc zero)) more = absurd (omega (arith, more))
no_more26 (suc (suc (suc c))) more = refl

s26 : LendStep sample w25 [] w26
s26 = record {
  p = pass_of w25.core.pass;
  h = block Live;
  n = lent;
  pass = refl;
  running = refl;
  next = record { found = refl; lent = refl; taken = refl; from = omega arith; first = λ k i x e lent t from less. omega (arith, less) };
  serial = refl;
  chosen = chosen26;
  no_more = no_more26;
  read = read26;
  read_none = λ c more. ap to_list (no_more26 c more);
  fail = λ leaf e. absurd (true≢false (sym e));
  made = refl;
}

-- each column of the block has one arm
column_arm : (P : ℕ → ArmName → Type 0) → P 0 (Leaf 1) → P 1 (Leaf 2) → P 2 (Leaf 3) → (c : ℕ) (n : ArmName) → c < 3 → has_name (w26.core.order (sample.slot_of 0 c)) n ≡ true → P c n
column_arm P a b d zero n less e = only (P 0) 1 a n e
column_arm P a b d (suc zero) n less e = only (P 1) 2 b n e
column_arm P a b d (suc (suc zero)) n less e = only (P 2) 3 d n e
column_arm P a b d (suc (suc (suc c))) n less e = absurd (omega (arith, less))

abbrev w27 : State
w27 = land_block_state sample w26 (pass_of w26.core.pass) lent (block Live) [] [] false true

abbrev Fine : ℕ → ArmName → Type 0
Fine c n = (answers sample w26.core n 0 ≡ true) × (fails sample w26.core [] n 0 ≡ false) × (is_clean w26.core 2 n ≡ true)

fine : (c : ℕ) (n : ArmName) → c < 3 → has_name (w26.core.order (sample.slot_of 0 c)) n ≡ true → Fine c n
fine = column_arm Fine (refl, refl, refl) (refl, refl, refl) (refl, refl, refl)

s27 : LandBlockStep sample w26 2 1 [] [] false w27
s27 = record {
  p = pass_of w26.core.pass;
  n = lent;
  h = block Live;
  whole = true;
  counts = record { pass_is = refl; number = refl; loan = refl; serial_is = refl; found = refl };
  heal = refl;
  lands = record {
    there = λ c n r e. absurd (true≢false (sym e));
    dirty = λ c n r less row listed answers dirty. absurd (true≢false (sym (fine c n less listed).2 ∙ dirty));
    landed = λ c n r e. e;
    lands = λ c n r e. absurd (true≢false (sym e));
    fail = λ leaf e. absurd (true≢false (sym e));
  };
  is_whole = λ e c n less listed clean. let z = fine c n less listed in (z.0, z.1);
  not_whole = λ e. absurd (true≢false e);
  made = refl;
}

abbrev w28 : State
w28 = done_state w27 (ended_pass sample w27.core (pass_of w27.core.pass) [])

only27 : Only w27
only27 k h e =
    let z = sealed_held 4 (w20.core.held k) h e in
    z.is ∙ ap (λ (x : Held). block_of x) (only14 k z.h z.found)
  where
    block_of : Held → Held
    block_of x = record x { stage = Live }

s28 : DoneStep sample w27 [] w28
s28 = record {
  p = pass_of w27.core.pass;
  pass = refl;
  running = refl;
  finished = λ k h x e lent t. in_first h x (only27 k h e) t;
  idle = refl;
  fail = λ leaf e. absurd (true≢false (sym e));
  made = refl;
}

-- ---- a reading, a damage, a write that is given up, a freeing, a scrub that is cancelled
s29 : FetchStep sample w28 key [] w28
s29 = record { h = block Live; found = refl; live = refl; fail = λ leaf e. absurd (true≢false (sym e)); made = refl }

s30 : DamageStep sample w28 1 0 w28
s30 = record { a = arm_of (w28.core.arm (Leaf 1)); found = refl; inside = omega arith; made = refl }

abbrev other : Key
other = record { object = 8; seq = 2 }

abbrev second : Held
second = record { first = 1; stripes = 1; len = 1; birth = 5; digest = []; stage = Writing 0 0 }

abbrev w31 : State
w31 = begin_state w28 other second

s31 : BeginStep sample w28 other second w31
s31 = record {
  enabled = λ p e. absurd (none_some None p refl e);
  unused = refl;
  few = record { keys = key ∷ []; all = λ k h e. is_key k h e; few = omega arith };
  some = omega arith;
  fits = record { inside = omega arith; group = refl; free = λ x low high t. above x low (in_first t.held x (only27 t.key t.held t.found) t.taken) };
  lowest = λ x less f. taken x less f.free;
  birth = record { from = omega arith; upto = omega arith };
  made = refl;
}
  where
    above : (x : ℕ) → 1 ≤ x → x < 1 → ⊥
    above x a b = omega (arith, a, b)

    taken : (x : ℕ) → x < 1 → ((y : ℕ) → x ≤ y → y < x + 1 → IsTaken w28.core y → ⊥) → ⊥
    taken zero less free = free 0 (omega arith) (omega arith) (record { key = key; held = block Live; found = refl; taken = refl })
    taken (suc x) less free = omega (arith, less)

    is_key : (k : Key) (h : Held) → w28.core.held k ≡ Some h → Contains (key ∷ []) k
    is_key k h e = elim (bool_cases (key_eq key k)) [
      | inl t ↦ (0, omega arith, key_true key k t)
      | inr f ↦ absurd (gone k f h e)
    ]
      where
        gone : (k : Key) → key_eq key k ≡ false → (h : Held) → w28.core.held k ≡ Some h → ⊥
        gone k f h e = let is : w28.core.held k ≡ None = rw f refl in none_some (w28.core.held k) h is e

s32 : AbortStep w31 other (gone_state w31 other)
s32 = record { h = second; found = refl; ticket = refl; made = refl }

s33 : FreeStep w28 key 5 (free_state w28 key (block Live) 5)
s33 = record { h = block Live; found = refl; live = refl; due = record { from = omega arith; upto = omega arith }; made = refl }

s34 : CancelStep w25 (cancel_state w25)
s34 = record { p = pass_of w25.core.pass; pass = refl; made = refl }

-- ---- and what isn't legal
no_commit : (new : State) → CommitStep sample (created sample 1) 2 new → ⊥
no_commit new x = none_some None 2 refl x.closing

no_landing : (new : State) → LandStripeStep sample (created sample 1) 1 1 [] new → ⊥
no_landing new x = none_some None x.p refl x.counts.pass_is
