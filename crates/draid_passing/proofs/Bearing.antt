-- The leaves that are flushed are those of which the state machine speaks.
use Rattle.std.proofs.Common.{◌≡◌, ◌==◌, ◌∷◌, [], ◌+◌, ◌*◌, ◌/◌, ◌%◌, ◌<◌, ◌≤◌, ◌&&◌, not, ◌∙◌, ℕ, zero, suc, Bool, true, false, List, Option, Some, None, All, arith, refl, sym, ap, subst, inl, inr, length, map, if◌then◌else◌}
use Rattle.std.specs.Prelude.{option_map, slice_index_or}
use Rattle.std.proofs.lemmas.Bool.{cases_lt, true≢false}
use Rattle.std.proofs.lemmas.List.{length-map}
use Rattle.std.proofs.lemmas.List.Elements.{All-head, All-tail}
use Rattle.std.proofs.lemmas.List.Folds.{list_any-append}
use Rattle.std.proofs.lemmas.Option.{slice_get-get_or, slice_get_within}
use Rattle.draid_names.specs.declared.arm.Arm.{Arm}
use Rattle.draid_names.specs.declared.arm.ArmAt.{ArmAt}
use Rattle.draid_names.specs.declared.arm.ArmKind.{ArmKind}
use Rattle.draid_names.specs.declared.arm.ArmKind.TheVariants as kind
use Rattle.draid_map.specs.Place.{IsLayout}
use Rattle.draid_columns.specs.Flushes.{has_leaf}
use Rattle.draid_machine.specs.declared.names.ArmName.{ArmName}
use Rattle.draid_machine.specs.declared.names.ArmName.TheVariants.{Leaf, Spare}
use Rattle.draid_machine.specs.Arms.{is_here, leaf_answers, lies_on, online}
use Rattle.draid_machine.specs.Created.{IsReached}
use Rattle.draid_machine.specs.Names.{has_name, has_number, name_eq, named}
use Rattle.draid_machine.specs.State as machine
use Rattle.draid_machine.proofs.Fitted.{every_fit}
use Rattle.draid_machine.proofs.Small.{absurd_test, both_true, either_true, is_equal, equal, name_refl, name_true, none_some, some_same, true_both, true_left, true_right}
use Rattle.draid_marks.specs.Layout.{layout_with}
use Rattle.draid_marks.specs.Lying.{lies_there}
use Rattle.draid_marks.proofs.Answering.{leaf_is_online, name_listed}
use Rattle.draid_marks.proofs.Lies.{lies_all}
use Rattle.draid_marks.proofs.Places as places
use Rattle.draid_slots.specs.Changes.{new_arm}
use Rattle.draid_slots.specs.States.{HasSlots, name_of, names_at}
use Rattle.draid_slots.specs.Table.{IsThere, SlotTable, arm_at, arms_of, is_leaf, is_leaf_kind}
use Rattle.draid_passing.specs.Flushing.{bears_target, due_below, due_leaf, due_leaves, listed, place_no}
use Rattle.draid_passing.proofs.Flushed.{due_is}

-- ---- lists

pub among_all : (P : ℕ → Type 0) (xs : List ℕ) (leaf : ℕ) → All P xs → has_number xs leaf ≡ true → P leaf
among_all P [] leaf all is = absurd_test false is refl
among_all P (x ∷ xs) leaf all is = elim (either_true (x == leaf) (has_number xs leaf) is) [
  | inl here ↦ subst P (is_equal x leaf here) (All-head P x xs all)
  | inr behind ↦ among_all P xs leaf (All-tail P x xs all) behind
]

pub names_many : (slots : SlotTable) (ts : List ArmAt) → All (IsThere slots) ts → length (names_at slots ts) ≡ length ts
names_many slots [] there = refl
names_many slots (t ∷ ts) there =
    ap (λ o. length (elim o as (λ o. List ArmName) [ None ↦ names_at slots ts | Some arm ↦ name_of arm ∷ names_at slots ts ]))
    (slice_get-get_or (arms_of slots t.slot) t.arm (new_arm 0) (All-head (IsThere slots) t ts there))
    ∙ ap suc (names_many slots ts (All-tail (IsThere slots) t ts there))

module _ (slots : SlotTable) (targets : List ArmAt) where
  -- a due leaf's place
  pub due_in : (leaf n : ℕ) → has_leaf (due_below slots targets n) leaf ≡ true → (k : ℕ) × (due_leaf slots targets (arm_at slots (place_no k)) ≡ Some leaf)
  due_in leaf zero is = absurd_test false is refl
  due_in leaf (suc n) is =
      elim (either_true (has_leaf (due_below slots targets n) leaf) (has_leaf (listed (due_leaf slots targets (arm_at slots (place_no n)))) leaf)
      (sym (list_any-append (λ l. l == leaf) (due_below slots targets n) (listed (due_leaf slots targets (arm_at slots (place_no n))))) ∙ is)) [
        | inl before ↦ due_in leaf n before
        | inr here ↦ (n, by (due_leaf slots targets (arm_at slots (place_no n))) here)
      ]
    where
      by : (o : Option ℕ) → has_leaf (listed o) leaf ≡ true → o ≡ Some leaf
      by None none = absurd_test false none refl
      by (Some l) some = elim (either_true (l == leaf) false some) [
        | inl same ↦ ap Some (is_equal l leaf same)
        | inr none ↦ absurd_test false none refl
      ]

  pub in_due : (leaf k n : ℕ) → k < n → due_leaf slots targets (arm_at slots (place_no k)) ≡ Some leaf → has_leaf (due_below slots targets n) leaf ≡ true
  in_due leaf k zero less is = absurd (omega (arith, less))
  in_due leaf k (suc n) less is =
      list_any-append (λ l. l == leaf) (due_below slots targets n) (listed (due_leaf slots targets (arm_at slots (place_no n))))
      ∙ elim (cases_lt k n) [
        | inl before ↦ true_left (has_leaf (due_below slots targets n) leaf) (has_leaf (listed (due_leaf slots targets (arm_at slots (place_no n)))) leaf) (in_due leaf k n before is)
        | inr last ↦ (
            let same : k ≡ n = omega (arith, less, last) in
            true_right (has_leaf (due_below slots targets n) leaf) (has_leaf (listed (due_leaf slots targets (arm_at slots (place_no n)))) leaf)
            (ap (λ o. has_leaf (listed o) leaf) (subst (λ j. due_leaf slots targets (arm_at slots (place_no j)) ≡ Some leaf) same is) ∙ true_left (leaf == leaf) false (equal leaf leaf refl)))
      ]

-- ---- a leaf that answers is an arm

leaf_there : (q : machine.Core) (leaf : ℕ) → leaf_answers q leaf ≡ true → (a : machine.Arm) × (q.arm (Leaf leaf) ≡ Some a) × (is_here (Some a) ≡ true)
leaf_there q leaf is = by (q.arm (Leaf leaf)) refl
  where
    by : (o : Option machine.Arm) → q.arm (Leaf leaf) ≡ o → (a : machine.Arm) × (q.arm (Leaf leaf) ≡ Some a) × (is_here (Some a) ≡ true)
    by None at = absurd_test false (sym (ap (λ o. is_here o && online o) at) ∙ is) refl
    by (Some a) at = (a, at, (both_true (is_here (Some a)) (online (Some a)) (sym (ap (λ o. is_here o && online o) at) ∙ is)).0)

leaf_arm : (a : Arm) (leaf : ℕ) → name_of a ≡ Leaf leaf → (a.kind ≡ kind.Leaf) × (a.number ≡ leaf)
leaf_arm a leaf is = by a.kind refl
  where
    number : ArmName → ℕ
    number (Leaf m) = m
    number (Spare t) = t

    leaves : ArmName → Bool
    leaves (Leaf m) = true
    leaves (Spare t) = false

    by : (k : ArmKind) → a.kind ≡ k → (a.kind ≡ kind.Leaf) × (a.number ≡ leaf)
    by kind.Leaf e = (e, ap number (sym (ap (λ k. named k a.number) e) ∙ is))
    by kind.Spare e = absurd (true≢false (sym (ap leaves (sym (ap (λ k. named k a.number) e) ∙ is))))

not_here : (a : machine.Arm) (g : machine.Gone) → a.gone ≡ Some g → is_here (Some a) ≡ false
not_here a g is = ap (λ o. elim o as (λ g. Bool) [ None ↦ true | Some g ↦ false ]) is

pub record HasLeafArm (slots : SlotTable) (leaf : ℕ) : Type 0 where
  pub at : ArmAt
  pub arm : Arm
  pub there : arm_at slots at ≡ Some arm
  pub kind_is : arm.kind ≡ kind.Leaf
  pub number_is : arm.number ≡ leaf

answers_leaf : (slots : SlotTable) (q : machine.Core) (leaf : ℕ) → HasSlots slots q → leaf_answers q leaf ≡ true → HasLeafArm slots leaf
answers_leaf slots q leaf has is =
    let found = leaf_there q leaf is in
    elim (has.only (Leaf leaf) (λ none. none_some (q.arm (Leaf leaf)) found.0 none found.1)) [
      | inl arm ↦ (let z = leaf_arm arm.arm leaf arm.name_is in record { at = arm.at; arm = arm.arm; there = arm.there; kind_is = z.0; number_is = z.1 })
      | inr was ↦ (let g = has.detached was.gone was.among in
          let same : g.arm ≡ found.0 = some_same (q.arm (Leaf leaf)) g.arm found.0 (ap q.arm (sym was.name_is) ∙ g.there) found.1 in
          absurd_test (is_here (Some found.0)) found.2 (ap (λ a. is_here (Some a)) (sym same) ∙ not_here g.arm (record { slot = was.gone.slot; group = was.gone.group }) g.by))
    ]

-- ---- in a state

module _ (slots : SlotTable) (lay : IsLayout slots.geometry slots.perms) (w : machine.State) (reached : IsReached (layout_with slots) w) (has : HasSlots slots w.core) (leaf : ℕ) where
  abbrev bad : ℕ → Bool
  bad m = m == leaf

  abbrev arm_no : ArmAt → Arm
  arm_no t = slice_index_or (arms_of slots t.slot) t.arm (new_arm 0)

  lies_so : (t : ArmAt) (a : Arm) → arm_at slots t ≡ Some a → lies_there slots leaf t (arm_at slots t) ≡ lies_on (layout_with slots) w.core bad (name_of a)
  lies_so t a there = lies_all slots leaf t (lies_there slots leaf t (arm_at slots t)) lay refl w reached has a there

  -- a target that lies on it
  pub record LiesOne (names : List ArmName) : Type 0 where
    pub arm : ArmName
    pub target : has_name names arm ≡ true
    pub lies : lies_on (layout_with slots) w.core bad arm ≡ true

  pub bears_name : (ts : List ArmAt) → All (IsThere slots) ts → bears_target slots ts leaf ≡ true → LiesOne (names_at slots ts)
  bears_name [] there none = absurd_test false none refl
  bears_name (t ∷ ts) there is =
      let at = slice_get-get_or (arms_of slots t.slot) t.arm (new_arm 0) (All-head (IsThere slots) t ts there) in
      let list : names_at slots (t ∷ ts) ≡ name_of (arm_no t) ∷ names_at slots ts = ap (λ o. elim o as (λ o. List ArmName) [ None ↦ names_at slots ts | Some arm ↦ name_of arm ∷ names_at slots ts ]) at in
      elim (either_true (lies_there slots leaf t (arm_at slots t)) (bears_target slots ts leaf) is) [
        | inl here ↦ record {
          arm = name_of (arm_no t);
          target = ap (λ ns. has_name ns (name_of (arm_no t))) list ∙ true_left (name_eq (name_of (arm_no t)) (name_of (arm_no t))) (has_name (names_at slots ts) (name_of (arm_no t))) (name_refl (name_of (arm_no t)));
          lies = sym (lies_so t (arm_no t) at) ∙ here;
        }
        | inr behind ↦ (let z = bears_name ts (All-tail (IsThere slots) t ts there) behind in record {
          arm = z.arm;
          target = ap (λ ns. has_name ns z.arm) list ∙ true_right (name_eq (name_of (arm_no t)) z.arm) (has_name (names_at slots ts) z.arm) z.target;
          lies = z.lies;
        })
      ]

  pub name_bears : (ts : List ArmAt) → All (IsThere slots) ts → LiesOne (names_at slots ts) → bears_target slots ts leaf ≡ true
  name_bears [] there z = absurd_test false z.target refl
  name_bears (t ∷ ts) there z =
      let at = slice_get-get_or (arms_of slots t.slot) t.arm (new_arm 0) (All-head (IsThere slots) t ts there) in
      let list : names_at slots (t ∷ ts) ≡ name_of (arm_no t) ∷ names_at slots ts = ap (λ o. elim o as (λ o. List ArmName) [ None ↦ names_at slots ts | Some arm ↦ name_of arm ∷ names_at slots ts ]) at in
      elim (either_true (name_eq (name_of (arm_no t)) z.arm) (has_name (names_at slots ts) z.arm) (sym (ap (λ ns. has_name ns z.arm) list) ∙ z.target)) [
        | inl here ↦ true_left (lies_there slots leaf t (arm_at slots t)) (bears_target slots ts leaf)
            (lies_so t (arm_no t) at ∙ ap (lies_on (layout_with slots) w.core bad) (name_true (name_of (arm_no t)) z.arm here) ∙ z.lies)
        | inr behind ↦ true_right (lies_there slots leaf t (arm_at slots t)) (bears_target slots ts leaf)
            (name_bears ts (All-tail (IsThere slots) t ts there) (record { arm = z.arm; target = behind; lies = z.lies }))
      ]

  -- what is due answers, and a target lies on it
  pub due_answers : (targets : List ArmAt) → has_leaf (due_leaves slots targets) leaf ≡ true → (leaf_answers w.core leaf ≡ true) × (bears_target slots targets leaf ≡ true)
  due_answers targets is =
      let z = due_in slots targets leaf (3 * slots.geometry.spec.children) is in
      let d = due_is slots targets (arm_at slots (place_no z.0)) leaf z.1 in (
        ap (leaf_answers w.core) (sym d.number_is) ∙ leaf_is_online slots lay w reached has (place_no z.0) d.arm d.there d.kind_is ∙ ap not d.online,
        d.bears,
      )

  -- and such a leaf is due
  pub answers_due : (targets : List ArmAt) → leaf_answers w.core leaf ≡ true → bears_target slots targets leaf ≡ true → has_leaf (due_leaves slots targets) leaf ≡ true
  answers_due targets answers bears =
      let h = answers_leaf slots w.core leaf has answers in
      let fit = (every_fit (layout_with slots) w (places.lays slots lay) reached).core.order in
      let named : has_name (w.core.order h.at.slot) (name_of h.arm) ≡ true
      = subst (λ ns. has_name ns (name_of h.arm) ≡ true) (sym (has.order h.at.slot)) (name_listed (arms_of slots h.at.slot) h.at.arm (name_of h.arm) (ap (λ o. option_map name_of o) h.there)) in
      let slot = fit.slots h.at.slot (name_of h.arm) named in
      let few : length (map name_of (arms_of slots h.at.slot)) ≤ 3 = subst (λ ns. length ns ≤ 3) (has.order h.at.slot) (fit.three h.at.slot) in
      let count = length-map (arms_of slots h.at.slot) name_of in
      let inside = slice_get_within (arms_of slots h.at.slot) h.at.arm h.arm h.there in
      by h.at.slot h.at.arm slot (omega (arith, few, count, inside)) h.arm h.there h.kind_is h.number_is
    where
      due : (arm : Arm) → arm.kind ≡ kind.Leaf → arm.number ≡ leaf → arm.offline ≡ false → due_leaf slots targets (Some arm) ≡ Some leaf
      due arm k n on =
          ap (λ b. if b then Some arm.number else None)
          (true_both (is_leaf arm) (not arm.offline && bears_target slots targets arm.number) (ap is_leaf_kind k)
          (true_both (not arm.offline) (bears_target slots targets arm.number) (ap not on) (ap (bears_target slots targets) n ∙ bears)))
          ∙ ap Some n

      online_so : (at : ArmAt) (arm : Arm) → arm_at slots at ≡ Some arm → arm.kind ≡ kind.Leaf → arm.number ≡ leaf → arm.offline ≡ false
      online_so at arm there k n = by_not arm.offline (sym (leaf_is_online slots lay w reached has at arm there k) ∙ ap (leaf_answers w.core) n ∙ answers)
        where
          by_not : (b : Bool) → not b ≡ true → b ≡ false
          by_not true is = absurd_test false is refl
          by_not false is = refl

      place : (slot arm : ℕ) → arm < 3 → place_no (3 * slot + arm) ≡ record { slot = slot; arm = arm }
      place slot arm less =
          let q : (3 * slot + arm) / 3 ≡ slot = grind (arith, less) in
          let r : (3 * slot + arm) % 3 ≡ arm = grind (arith, less) in
          λ i. record { slot = q i; arm = r i }

      by : (slot last : ℕ) → slot < slots.geometry.spec.children → last < 3 → (arm : Arm) → arm_at slots (record { slot = slot; arm = last }) ≡ Some arm → arm.kind ≡ kind.Leaf → arm.number ≡ leaf
          → has_leaf (due_leaves slots targets) leaf ≡ true
      by slot last low less arm there k n =
          in_due slots targets leaf (3 * slot + last) (3 * slots.geometry.spec.children) (omega (arith, low, less))
          (ap (λ at. due_leaf slots targets (arm_at slots at)) (place slot last less) ∙ ap (due_leaf slots targets) there
          ∙ due arm k n (online_so (record { slot = slot; arm = last }) arm there k n))
