-- The leaves that a seal flushes.
use Rattle.std.proofs.Common.{◌≡◌, ◌==◌, ◌+◌, ◌++◌, ◌||◌, ◌<◌, ◌≤◌, ◌^◌, ◌&&◌, not, ◌∙◌, ℕ, zero, suc, Bool, true, false, List, [], ◌∷◌, Option, Some, None, arith, refl, sym, ap, subst, inl, inr, length, get_or, slice_get}
use Rattle.std.specs.Prelude.{All, Contains, IsSome, is_some, slice_index_or}
use Rattle.std.specs.List.{list_any}
use Rattle.std.proofs.lemmas.Bool.{cases_lt, true≢false}
use Rattle.std.proofs.lemmas.Bool.Decides.{nat_tests}
use Rattle.std.proofs.lemmas.List.Elements.{All-nil, All-push}
use Rattle.std.proofs.lemmas.List.Folds.{list_any_at}
use Rattle.draid_names.specs.declared.arm.Arm.{Arm}
use Rattle.draid_names.specs.declared.arm.ArmAt.{ArmAt}
use Rattle.draid_names.specs.declared.arm.ArmKind.{ArmKind}
use Rattle.draid_names.specs.declared.arm.ArmKind.TheVariants as kind
use Rattle.draid_machine.specs.declared.names.ArmName.{ArmName}
use Rattle.draid_machine.specs.declared.names.ArmName.TheVariants.{Leaf, Spare}
use Rattle.draid_machine.specs.Arms.{is_here, leaf_answers, online}
use Rattle.draid_machine.specs.State as machine
use Rattle.draid_machine.proofs.Small.{absurd_test, both_true, either_true, true_both, is_equal, none_some, not_true, some_injective, some_same}
use Rattle.draid_columns.specs.Flushes.{has_leaf}
use Rattle.draid_rack.specs.Rack.{Shape}
use Rattle.draid_slots.specs.declared.slot.Detached.{Detached}
use Rattle.draid_slots.specs.Table.{IsArmOf, IsTable, IsThere, SlotTable, arm_at, arms_of, is_leaf_kind, is_leaving_online}
use Rattle.draid_slots.specs.States.{HasSlots, IsGone, arm_in, name_of}
use Rattle.draid_machine.specs.Names.{named}
use Rattle.draid_marks.proofs.Missing.{slot_inside}
use Rattle.draid_pool.specs.Sealing.{AreFlushed, FlushedBelow, IsOnline}
use Rattle.draid_shard.specs.Fits.{IsLeaf}

-- ---- leaves that answer
leaf_there : (q : machine.Core) (leaf : ℕ) → leaf_answers q leaf ≡ true → (a : machine.Arm) × (q.arm (Leaf leaf) ≡ Some a) × (is_here (Some a) ≡ true)
leaf_there q leaf is = by (q.arm (Leaf leaf)) refl
  where
    by : (o : Option machine.Arm) → q.arm (Leaf leaf) ≡ o → (a : machine.Arm) × (q.arm (Leaf leaf) ≡ Some a) × (is_here (Some a) ≡ true)
    by None at = absurd_test false (sym (ap (λ o. is_here o && online o) at) ∙ is) refl
    by (Some a) at = (a, at, (both_true (is_here (Some a)) (online (Some a)) (sym (ap (λ o. is_here o && online o) at) ∙ is)).0)

abbrev number_in : ArmName → ℕ
number_in (Leaf m) = m
number_in (Spare t) = t

is_arm_leaf : (a : Arm) (leaf : ℕ) → name_of a ≡ Leaf leaf → (a.kind ≡ kind.Leaf) × (a.number ≡ leaf)
is_arm_leaf a leaf is = by a.kind refl
  where
    number : ArmName → ℕ
    number (Leaf m) = m
    number (Spare t) = t

    leaves : ArmName → Bool
    leaves (Leaf m) = true
    leaves (Spare t) = false

    by : (k : ArmKind) → a.kind ≡ k → (a.kind ≡ kind.Leaf) × (a.number ≡ leaf)
    by kind.Leaf e = (e, ap number (sym (ap (λ k. named k a.number) e) ∙ is))
    by kind.Spare e = absurd (true≢false (sym (ap leaves (sym (ap (λ k. named k a.number) e) ∙ is))))

leaf_number : (m n : ArmName) → m ≡ n → number_in m ≡ number_in n
leaf_number m n is = ap number_in is

not_here : (a : machine.Arm) (g : machine.Gone) → a.gone ≡ Some g → is_here (Some a) ≡ false
not_here a g is = ap (λ o. elim o as (λ g. Bool) [ None ↦ true | Some g ↦ false ]) is

-- a leaf that answers is an arm
pub answers_leaf : (slots : SlotTable) (q : machine.Core) (leaf : ℕ) → HasSlots slots q → leaf_answers q leaf ≡ true
    → (at : ArmAt) × (arm : Arm) × (arm_at slots at ≡ Some arm) × (arm.kind ≡ kind.Leaf) × (arm.number ≡ leaf)
answers_leaf slots q leaf has is =
    let found = leaf_there q leaf is in
    elim (has.only (Leaf leaf) (λ none. none_some (q.arm (Leaf leaf)) found.0 none found.1)) [
      | inl arm ↦ (let z = is_arm_leaf arm.arm leaf arm.name_is in (arm.at, arm.arm, arm.there, z.0, z.1))
      | inr was ↦ (let g = has.detached was.gone was.among in
          let same : g.arm ≡ found.0 = some_same (q.arm (Leaf leaf)) g.arm found.0 (ap q.arm (sym was.name_is) ∙ g.there) found.1 in
          absurd_test (is_here (Some found.0)) found.2 (ap (λ a. is_here (Some a)) (sym same) ∙ not_here g.arm (record { slot = was.gone.slot; group = was.gone.group }) g.by))
    ]

-- ---- the code's test
below : (xs : List Arm) (k : ℕ) (x : Arm) → slice_get xs k ≡ Some x → k < length xs
below [] k x is = absurd (cc)
below (y ∷ ys) zero x is = omega arith
below (y ∷ ys) (suc k) x is = let less = below ys k x is in omega (arith, less)

got : (xs : List Arm) (k : ℕ) (x d : Arm) → slice_get xs k ≡ Some x → slice_index_or xs k d ≡ x
got [] k x d at = absurd (cc)
got (y ∷ ys) zero x d at = some_injective y x at
got (y ∷ ys) (suc k) x d at = got ys k x d at

pub found_there : (slots : SlotTable) (leaf : ℕ) (at : ArmAt) → IsArmOf kind.Leaf leaf (arm_at slots at) → IsThere slots at
found_there slots leaf at found = below (arms_of slots at.slot) at.arm found.0 found.1

pub found_slot : (slots : SlotTable) (leaf : ℕ) (at : ArmAt) → IsTable slots → IsArmOf kind.Leaf leaf (arm_at slots at) → at.slot < slots.geometry.spec.children
found_slot slots leaf at is found = slot_inside slots at is (found_there slots leaf at found)

pub found_online : (slots : SlotTable) (leaf : ℕ) (at : ArmAt) (arms : List Arm) (d : Arm) → arms ≡ arms_of slots at.slot → IsArmOf kind.Leaf leaf (arm_at slots at) → (q : machine.Core) → HasSlots slots q
    → not (slice_index_or arms at.arm d).offline ≡ true → IsOnline q leaf
found_online slots leaf at arms d are found q has is = record {
  arm = arm_in slots at found.0;
  found = subst (λ n. q.arm (Leaf n) ≡ Some (arm_in slots at found.0)) found.3 (subst (λ k. q.arm (named k found.0.number) ≡ Some (arm_in slots at found.0)) found.2 (has.arms at found.0 found.1));
  online = ap (λ (a : Arm). a.offline) (sym (ap (λ xs. slice_index_or xs at.arm d) are ∙ got (arms_of slots at.slot) at.arm found.0 d found.1)) ∙ not_true (slice_index_or arms at.arm d).offline is;
}

pub found_flushed : (slots : SlotTable) (leaf : ℕ) (at : ArmAt) (arms : List Arm) (d : Arm) → arms ≡ arms_of slots at.slot → IsArmOf kind.Leaf leaf (arm_at slots at) → (q : machine.Core) → HasSlots slots q
    → IsOnline q leaf → not (slice_index_or arms at.arm d).offline ≡ true
found_flushed slots leaf at arms d are found q has on =
    let there = subst (λ n. q.arm (Leaf n) ≡ Some (arm_in slots at found.0)) found.3 (subst (λ k. q.arm (named k found.0.number) ≡ Some (arm_in slots at found.0)) found.2 (has.arms at found.0 found.1)) in
    let off : found.0.offline ≡ false = ap (λ (a : machine.Arm). a.offline) (some_same (q.arm (Leaf leaf)) (arm_in slots at found.0) on.arm there on.found) ∙ on.online in
    ap (λ (a : Arm). not a.offline) (ap (λ xs. slice_index_or xs at.arm d) are ∙ got (arms_of slots at.slot) at.arm found.0 d found.1) ∙ ap not off

leaf_kind : (k : ArmKind) → is_leaf_kind k ≡ true → k ≡ kind.Leaf
leaf_kind kind.Leaf is = refl
leaf_kind kind.Spare is = absurd_test false is refl

left_online : (list : List Detached) (leaf : ℕ) → list_any (λ (gone : Detached). is_leaf_kind gone.kind && ((gone.number == leaf) && not gone.offline)) list ≡ true
    → (gone : Detached) × Contains list gone × (gone.kind ≡ kind.Leaf) × (gone.number ≡ leaf) × (gone.offline ≡ false)
left_online [] leaf is = absurd_test false is refl
left_online (x ∷ xs) leaf is = elim (either_true (is_leaf_kind x.kind && ((x.number == leaf) && not x.offline)) (list_any (λ (gone : Detached). is_leaf_kind gone.kind && ((gone.number == leaf) && not gone.offline)) xs) is) [
  | inl here ↦ (let a = both_true (is_leaf_kind x.kind) ((x.number == leaf) && not x.offline) here in let b = both_true (x.number == leaf) (not x.offline) a.1 in
      (x, (zero, omega arith, refl), leaf_kind x.kind a.0, is_equal x.number leaf b.0, not_true x.offline b.1))
  | inr behind ↦ (let z = left_online xs leaf behind in let a = z.1 in (z.0, (suc a.0, (let less = a.1 in omega (arith, less)), a.2), z.2, z.3, z.4))
]

pub leaving_is_online : (slots : SlotTable) (leaf : ℕ) → is_leaving_online slots leaf ≡ true → (q : machine.Core) → HasSlots slots q → IsOnline q leaf
leaving_is_online slots leaf is q has =
    let z = left_online slots.detached leaf is in
    let was : IsGone z.0 (q.arm (named z.0.kind z.0.number)) = has.detached z.0 z.1 in
    record {
      arm = was.arm;
      found = subst (λ n. q.arm (Leaf n) ≡ Some was.arm) z.3 (subst (λ k. q.arm (named k z.0.number) ≡ Some was.arm) z.2 was.there);
      online = was.offline ∙ z.4;
    }

same_is : (x y : ℕ) → x ≡ y → (x == y) ≡ true
same_is x y e = grind (arith, nat_tests)

is_named_leaf : (k : ArmKind) (number leaf : ℕ) → named k number ≡ Leaf leaf → (k ≡ kind.Leaf) × (number ≡ leaf)
is_named_leaf kind.Leaf number leaf is = (refl, leaf_number (Leaf number) (Leaf leaf) is)
is_named_leaf kind.Spare number leaf is = absurd (cc is)

kind_of_leaf : (k : ArmKind) → k ≡ kind.Leaf → is_leaf_kind k ≡ true
kind_of_leaf k is = ap is_leaf_kind is

among_left : (list : List Detached) (leaf i : ℕ) (gone : Detached) → i < length list → get_or list i gone ≡ gone → gone.kind ≡ kind.Leaf → gone.number ≡ leaf → gone.offline ≡ false
    → list_any (λ (gone : Detached). is_leaf_kind gone.kind && ((gone.number == leaf) && not gone.offline)) list ≡ true
among_left list leaf i gone less is leaves number off =
    list_any_at (λ (gone : Detached). is_leaf_kind gone.kind && ((gone.number == leaf) && not gone.offline)) list i gone less
    (ap (λ (g : Detached). is_leaf_kind g.kind && ((g.number == leaf) && not g.offline)) is
    ∙ true_both (is_leaf_kind gone.kind) ((gone.number == leaf) && not gone.offline) (kind_of_leaf gone.kind leaves)
    (true_both (gone.number == leaf) (not gone.offline) (same_is gone.number leaf number) (ap not off)))

leaving_too : (list : List Detached) (leaf i : ℕ) (gone : Detached) → i < length list → get_or list i gone ≡ gone → gone.kind ≡ kind.Leaf → gone.number ≡ leaf
    → list_any (λ (gone : Detached). is_leaf_kind gone.kind && (gone.number == leaf)) list ≡ true
leaving_too list leaf i gone less is leaves number =
    list_any_at (λ (gone : Detached). is_leaf_kind gone.kind && (gone.number == leaf)) list i gone less
    (ap (λ (g : Detached). is_leaf_kind g.kind && (g.number == leaf)) is
    ∙ true_both (is_leaf_kind gone.kind) (gone.number == leaf) (kind_of_leaf gone.kind leaves) (same_is gone.number leaf number))

-- what isn't offline, and is no arm, is leaving
pub left_flushed : (slots : SlotTable) (leaf : ℕ) → ((at : ArmAt) → IsArmOf kind.Leaf leaf (arm_at slots at) → ⊥) → (q : machine.Core) → HasSlots slots q → IsOnline q leaf → is_leaving_online slots leaf ≡ true
left_flushed slots leaf none q has on = elim (has.only (Leaf leaf) (λ gone. none_some (q.arm (Leaf leaf)) on.arm gone on.found)) [
  | inl arm ↦ (let z = is_arm_leaf arm.arm leaf arm.name_is in absurd (none arm.at (arm.arm, arm.there, z.0, z.1)))
  | inr was ↦
      let g = has.detached was.gone was.among in
      let z = is_named_leaf was.gone.kind was.gone.number leaf was.name_is in
      let same : g.arm ≡ on.arm = some_same (q.arm (Leaf leaf)) g.arm on.arm (ap q.arm (sym was.name_is) ∙ g.there) on.found in
      among_left slots.detached leaf was.among.0 was.gone was.among.1 was.among.2 z.0 z.1 (sym g.offline ∙ ap (λ (a : machine.Arm). a.offline) same ∙ on.online)
]

-- it is an arm, or is leaving
pub online_leaf : (slots : SlotTable) (q : machine.Core) (leaf : ℕ) → HasSlots slots q → IsOnline q leaf → IsLeaf slots leaf
online_leaf slots q leaf has on = elim (has.only (Leaf leaf) (λ gone. none_some (q.arm (Leaf leaf)) on.arm gone on.found)) [
  | inl arm ↦ (let z = is_arm_leaf arm.arm leaf arm.name_is in inl (arm.at, arm.arm, arm.there, z.0, z.1))
  | inr was ↦ (let z = is_named_leaf was.gone.kind was.gone.number leaf was.name_is in inr (leaving_too slots.detached leaf was.among.0 was.gone was.among.1 was.among.2 z.0 z.1))
]

-- a leaf that answers isn't offline
pub answers_online : (q : machine.Core) (leaf : ℕ) → leaf_answers q leaf ≡ true → IsOnline q leaf
answers_online q leaf is = by (q.arm (Leaf leaf)) refl
  where
    by : (o : Option machine.Arm) → q.arm (Leaf leaf) ≡ o → IsOnline q leaf
    by None at = absurd (absurd_test false (sym (ap (λ o. is_here o && online o) at) ∙ is) refl)
    by (Some a) at = record { arm = a; found = at; online = not_true a.offline ((both_true (is_here (Some a)) (online (Some a)) (sym (ap (λ o. is_here o && online o) at) ∙ is)).1) }

-- ---- the leaves that were found so far
pub flushed_none : (shape : Shape) (slots : SlotTable) → FlushedBelow shape slots [] 0
flushed_none shape slots = record { there = All-nil _; online = λ q has. All-nil _; below = λ q leaf has less there is. absurd (omega (arith, less)) }

-- no leaf is there between two numbers
pub flushed_on : (shape : Shape) (slots : SlotTable) (leaves : List ℕ) (from to : ℕ) → ((m : ℕ) → from ≤ m → m < to → shape.leaves m ≡ None) → FlushedBelow shape slots leaves from → FlushedBelow shape slots leaves to
flushed_on shape slots leaves from to none f = record {
  there = f.there;
  online = f.online;
  below = λ q leaf has less there is. elim (cases_lt leaf from) [
    | inl low ↦ f.below q leaf has low there is
    | inr high ↦ absurd (true≢false (sym there ∙ ap is_some (none leaf high less)))
  ];
}

pub flushed_all : (shape : Shape) (slots : SlotTable) (leaves : List ℕ) (from : ℕ) → ((m : ℕ) → from ≤ m → m < 2 ^ 64 → shape.leaves m ≡ None) → FlushedBelow shape slots leaves from → AreFlushed shape slots leaves
flushed_all shape slots leaves from none f =
    let all = flushed_on shape slots leaves from (2 ^ 64) none f in
    record { there = all.there; online = all.online; all = all.below }

-- ---- one leaf more

or_left : (a b : Bool) → a ≡ true → (a || b) ≡ true
or_left a b is = ap (λ c. c || b) is

or_right : (a b : Bool) → b ≡ true → (a || b) ≡ true
or_right true b is = refl
or_right false b is = is

has_front : (xs back : List ℕ) (leaf : ℕ) → has_leaf xs leaf ≡ true → has_leaf (xs ++ back) leaf ≡ true
has_front [] back leaf is = absurd_test false is refl
has_front (y ∷ ys) back leaf is = elim (either_true (y == leaf) (has_leaf ys leaf) is) [
  | inl here ↦ or_left (y == leaf) (has_leaf (ys ++ back) leaf) here
  | inr behind ↦ or_right (y == leaf) (has_leaf (ys ++ back) leaf) (has_front ys back leaf behind)
]

has_last : (xs : List ℕ) (leaf : ℕ) → has_leaf (xs ++ leaf ∷ []) leaf ≡ true
has_last [] leaf = or_left (leaf == leaf) false (same_is leaf leaf refl)
has_last (y ∷ ys) leaf = or_right (y == leaf) (has_leaf (ys ++ leaf ∷ []) leaf) (has_last ys leaf)

-- a leaf that isn't offline is added to those below it
pub flushed_more : (shape : Shape) (slots : SlotTable) (leaves more : List ℕ) (leaf : ℕ) → ((q : machine.Core) → HasSlots slots q → IsOnline q leaf) → more ≡ leaves ++ leaf ∷ [] → IsSome (shape.leaves leaf)
    → FlushedBelow shape slots leaves leaf → FlushedBelow shape slots more (leaf + 1)
flushed_more shape slots leaves more leaf online items some f = record {
  there = subst (All (λ l. IsSome (shape.leaves l))) (sym items) (All-push (λ l. IsSome (shape.leaves l)) leaves leaf f.there some);
  online = λ q has. subst (All (IsOnline q)) (sym items) (All-push (IsOnline q) leaves leaf (f.online q has) (online q has));
  below = λ q other has less there on. subst (λ ls. has_leaf ls other ≡ true) (sym items) (elim (cases_lt other leaf) [
    | inl low ↦ has_front leaves (leaf ∷ []) other (f.below q other has low there on)
    | inr high ↦ subst (λ n. has_leaf (leaves ++ leaf ∷ []) n ≡ true) (omega (arith, less, high)) (has_last leaves leaf)
  ]);
}
