-- A new metaslab on its maps.
use Rattle.std.proofs.Common.{◌≡◌, ◌==◌, ◌+◌, ◌++◌, ◌∷◌, ◌≤◌, ◌<◌, [], ℕ, Bool, true, false, nat_lt, List, Option, Some, None, Vec, Global, length, if◌then◌else◌, refl, sym, ◌∙◌, ap, subst, inl, inr, arith}
use Rattle.std.proofs.lemmas.Bool.{cases_eq, cases_lt}
use Rattle.std.proofs.lemmas.Bool.Decides.{nat_tests}
use Rattle.std.proofs.lemmas.List.{length-append}
use Rattle.draid_machine.specs.declared.names.ArmName.{ArmName}
use Rattle.draid_machine.specs.declared.names.ArmName.TheVariants.{Leaf, Spare}
use Rattle.draid_machine.specs.After.{set_arm}
use Rattle.draid_machine.specs.Created.{IsReached, created, created_arm, new_arm}
use Rattle.draid_machine.specs.Fitting.{IsVersion}
use Rattle.draid_machine.specs.State.{Arm, Layout, State}
use Rattle.draid_machine.proofs.Small.{none_some}
use Rattle.draid_world.specs.World.{names_at}
use Rattle.draid_world.proofs.Maps.{names_past}
use Rattle.draid_world.proofs.Orders.{names_before, names_last}
use Rattle.draid_replay.specs.Creation.{leaf_below, leaf_in}
use Rattle.draid_replay.specs.Within.{IsWithin}

-- ---- the arms
pub none_below : (n : ArmName) → None ≡ leaf_below 0 n
none_below (Leaf m) = let no : nat_lt m 0 ≡ false = grind (arith, nat_tests) in sym (ap (λ b. if b then Some new_arm else None) no)
none_below (Spare t) = refl

pub arms_step : (old new : ArmName → Option Arm) (slot leaf : ℕ) (a : Arm) → leaf ≡ slot → a ≡ new_arm → ((n : ArmName) → old n ≡ leaf_below slot n)
    → ((n : ArmName) → new n ≡ set_arm old (Leaf leaf) (Some a) n) → (n : ArmName) → new n ≡ leaf_below (slot + 1) n
arms_step old new slot leaf a leaf_is is before after (Leaf m) = after (Leaf m) ∙ ap (λ x. if x == m then Some a else old (Leaf m)) leaf_is ∙ by (slot == m) refl
  where
    below : (slot == m) ≡ true → nat_lt m (slot + 1) ≡ true
    below at = grind (arith, nat_tests)

    same : (slot == m) ≡ false → nat_lt m slot ≡ nat_lt m (slot + 1)
    same at = grind (arith, nat_tests)

    by : (b : Bool) → (slot == m) ≡ b → (if b then Some a else old (Leaf m)) ≡ leaf_below (slot + 1) (Leaf m)
    by true at = ap (λ (x : Arm). Some x) is ∙ sym (ap (λ b. if b then Some new_arm else None) (below at))
    by false at = before (Leaf m) ∙ ap (λ b. if b then Some new_arm else None) (same at)
arms_step old new slot leaf a leaf_is is before after (Spare t) = after (Spare t) ∙ before (Spare t)

pub arms_end : (l : Layout) (n : ArmName) → leaf_below l.slots n ≡ created_arm l n
arms_end l (Leaf m) = refl
arms_end l (Spare t) = refl

-- ---- their order
one_in : (slots c : ℕ) → c < slots → Leaf c ∷ [] ≡ leaf_in slots c
one_in slots c less = let yes_it_is : nat_lt c slots ≡ true = grind (arith, nat_tests) in sym (ap (λ b. if b then Leaf c ∷ [] else []) yes_it_is)

pub none_in : (slots c : ℕ) → slots ≤ c → [] ≡ leaf_in slots c
none_in slots c past = let no : nat_lt c slots ≡ false = grind (arith, nat_tests) in sym (ap (λ b. if b then Leaf c ∷ [] else []) no)

pub order_step : (old new : List (Vec ArmName Global)) (v : Vec ArmName Global) (slot leaf c : ℕ) → length old ≡ slot → new ≡ old ++ v ∷ [] → leaf ≡ slot → v.items ≡ Leaf leaf ∷ []
    → ((d : ℕ) → names_at old d ≡ leaf_in slot d) → names_at new c ≡ leaf_in (slot + 1) c
order_step old new v slot leaf c many is leaf_is items before = elim (cases_lt c slot) [
  | inl less ↦
      ap (λ vs. names_at vs c) is ∙ names_before old v c (omega (arith, less, many)) ∙ before c ∙ sym (one_in slot c less) ∙ one_in (slot + 1) c (omega (arith, less))
  | inr past ↦ elim (cases_eq c slot) [
    | inl at ↦
        ap (λ vs. names_at vs c) is ∙ ap (names_at (old ++ v ∷ [])) (at ∙ sym many) ∙ names_last old v ∙ items ∙ ap (λ x. Leaf x ∷ []) (leaf_is ∙ sym at) ∙ one_in (slot + 1) c (omega (arith, at))
    | inr other ↦
        let len : length new ≡ length old + 1 = ap length is ∙ length-append old (v ∷ []) in
        names_past new c (omega (arith, len, many, past, other)) ∙ none_in (slot + 1) c (omega (arith, past, other))
  ]
]

-- ---- the state
pub new_reached : (l : Layout) (version : ℕ) (w : State) → IsVersion version → w ≡ created l version → IsReached l w
new_reached l version w one is = subst (IsReached l) (sym is) (record { version = version; one = one; events = []; run = refl })

created_within : (l : Layout) (version : ℕ) → IsWithin (created l version)
created_within l version = record {
  opens = omega arith;
  closes = λ t is. absurd (none_some None t refl is);
  commits = omega arith;
  holds = λ k h is. absurd (none_some None h refl is);
  passes = λ p is. absurd (none_some None p refl is);
  lends = λ n is. absurd (none_some None n refl is);
  opened = record { group = omega arith; held = λ k h is. absurd (none_some None h refl is); pass = λ p is. absurd (none_some None p refl is) };
  seals = λ i is. absurd (none_some None i refl is);
}

pub new_within : (l : Layout) (version : ℕ) (w : State) → w ≡ created l version → IsWithin w
new_within l version w is = subst IsWithin (sym is) (created_within l version)
