-- A pass ends: what the shard is then, and for which states it stands.
use Rattle.std.proofs.Common.{◌≡◌, ◌==◌, ◌+◌, ◌<◌, ◌≤◌, ◌^◌, ◌&&◌, not, ◌∙◌, ℕ, zero, suc, Bool, true, false, List, Option, Some, None, Vec, Global, option_map, arith, refl, sym, ap, ap₂, subst, inl, inr, length, min, nat_le, if◌then◌else◌}
use Rattle.std.specs.Prelude.{Contains, slice_index_or}
use Rattle.std.specs.List.{list_any}
use Rattle.std.proofs.lemmas.Bool.{cases_lt}
use Rattle.std.proofs.lemmas.Bool.Decides.{nat_tests}
use Rattle.std.proofs.lemmas.Option.{slice_get-get_or, slice_get_within}
use Rattle.draid_names.specs.declared.arm.Arm.{Arm}
use Rattle.draid_names.specs.declared.arm.ArmAt.{ArmAt}
use Rattle.draid_names.specs.declared.numbers.TheConstants.{LAST_NUMBER}
use Rattle.draid_names.specs.declared.pass_kind.PassKind.{PassKind}
use Rattle.draid_names.specs.declared.pass_kind.PassKind.TheVariants.{Rebuild, Heal}
use Rattle.draid_rack.specs.declared.Rack.{Ghosts}
use Rattle.draid_metaslab.specs.Spaces.{Stripes}
use Rattle.draid_machine.proofs.Small.{none_some, some_injective}
use Rattle.draid_entries.specs.declared.history.History.{History}
use Rattle.draid_entries.specs.History.{owed_of, reserved_of, stored_of}
use Rattle.draid_pass.specs.declared.pass.Pass.{Pass}
use Rattle.draid_plans.specs.Ends.{is_good}
use Rattle.draid_plans.specs.Logs.{Excises, made_good}
use Rattle.draid_slots.specs.Changes.{new_arm}
use Rattle.draid_slots.specs.declared.slot.Detached.{Detached}
use Rattle.draid_slots.specs.States.{name_of}
use Rattle.draid_slots.specs.Table.{IsThere, SlotTable, arm_at, arms_of, is_leaf_kind, is_logged, room_at}
use Rattle.draid_shard.specs.Alike.{ShareArms}
use Rattle.draid_shard.specs.Fits.{AreGroups, IsLeaf, NamesOnce, Tables, Valid, birth_groups, changes_for_end, lacking, oldest_open, owed_for_pass}
use Rattle.draid_shard.specs.Loans.{owed_for_loan}
use Rattle.draid_shard.specs.declared.shard.Shard.{Shard}
use Rattle.draid_passing.specs.Ending.{last_good}
use Rattle.draid_passing.proofs.Rooms.{lacking_most}
use Rattle.draid_passing.proofs.Spaces.{tables_shut}

-- ---- arms that were made good

module _ (old new : SlotTable) (good : ArmAt → Bool) (upto : ℕ) (excises : Excises old new good upto) where
  pub arm_was : (at : ArmAt) (b : Arm) → arm_at new at ≡ Some b → (a : Arm) × (arm_at old at ≡ Some a) × (b ≡ made_good (good at) a)
  arm_was at b there = by (arm_at old at) refl
    where
      by : (o : Option Arm) → arm_at old at ≡ o → (a : Arm) × (arm_at old at ≡ Some a) × (b ≡ made_good (good at) a)
      by None is = absurd (none_some None b refl (sym (ap (option_map (made_good (good at))) is) ∙ sym (excises.arms_are at) ∙ there))
      by (Some a) is = (a, is, some_injective b (made_good (good at) a) (sym there ∙ excises.arms_are at ∙ ap (option_map (made_good (good at))) is))

  pub there_was : (at : ArmAt) → IsThere new at → IsThere old at
  there_was at there =
      let b : Arm = slice_index_or (arms_of new at.slot) at.arm (new_arm 0) in
      let z = arm_was at b (slice_get-get_or (arms_of new at.slot) at.arm (new_arm 0) there) in
      slice_get_within (arms_of old at.slot) at.arm z.0 z.1

  pub there_still : (at : ArmAt) → IsThere old at → IsThere new at
  there_still at there =
      let a : Arm = slice_index_or (arms_of old at.slot) at.arm (new_arm 0) in
      slice_get_within (arms_of new at.slot) at.arm (made_good (good at) a) (excises.arms_are at ∙ ap (option_map (made_good (good at))) (slice_get-get_or (arms_of old at.slot) at.arm (new_arm 0) there))

  was_among : (gone : Detached) → Contains new.detached gone → Contains old.detached gone
  was_among gone among = subst (λ (list : List Detached). Contains list gone) excises.detached_stay among

  pub once_good : NamesOnce old → NamesOnce new
  once_good once = record {
    arms = λ at other a b there also name.
        (let p = arm_was at a there in
        let q = arm_was other b also in
        once.arms at other p.0 q.0 p.1 q.1 (ap name_of (sym p.2) ∙ name ∙ ap name_of q.2));
    detached = λ gone other among also name. once.detached gone other (was_among gone among) (was_among other also) name;
    apart = λ at a gone there among name. (let p = arm_was at a there in once.apart at p.0 gone p.1 (was_among gone among) (ap name_of (sym p.2) ∙ name));
  }

  pub leaf_before : (leaf : ℕ) → IsLeaf new leaf → IsLeaf old leaf
  leaf_before leaf (inl it) =
      let z = arm_was it.0 it.1 it.2 in
      inl (it.0, z.0, z.1, ap (λ (a : Arm). a.kind) (sym z.2) ∙ it.3, ap (λ (a : Arm). a.number) (sym z.2) ∙ it.4)
  leaf_before leaf (inr gone) = inr (subst (λ (list : List Detached). list_any (λ (d : Detached). is_leaf_kind d.kind && (d.number == leaf)) list ≡ true) excises.detached_stay gone)

  -- the same arms are in each slot
  count_same : (slot : ℕ) → length (arms_of old slot) ≡ length (arms_of new slot)
  count_same slot = both (length (arms_of old slot)) (length (arms_of new slot))
      (λ k less. there_still (record { slot = slot; arm = k }) less) (λ k less. there_was (record { slot = slot; arm = k }) less)
    where
      both : (m n : ℕ) → ((k : ℕ) → k < m → k < n) → ((k : ℕ) → k < n → k < m) → m ≡ n
      both m n f g = elim (cases_lt m n) [
        | inl less ↦ (let z = g m less in absurd (omega (arith, z)))
        | inr more ↦ elim (cases_lt n m) [
          | inl less ↦ (let z = f n less in absurd (omega (arith, z)))
          | inr same ↦ omega (arith, more, same)
        ]
      ]

  pub arms_shared : ShareArms old new
  arms_shared = record {
    arms = record {
      children = ap (λ g. g.spec.children) excises.same.geometry_is;
      slots = λ slot less. record {
        many = count_same slot;
        each = λ k p q was now.
            (let z = arm_was (record { slot = slot; arm = k }) q now in
            let same : p ≡ z.0 = some_injective p z.0 (sym was ∙ z.1) in
            record {
              kind_is = ap (λ (a : Arm). a.kind) same ∙ ap (λ (a : Arm). a.kind) (sym z.2);
              number_is = ap (λ (a : Arm). a.number) same ∙ ap (λ (a : Arm). a.number) (sym z.2);
              offline_is = ap (λ (a : Arm). a.offline) same ∙ ap (λ (a : Arm). a.offline) (sym z.2);
            });
      };
    };
    detached = excises.detached_stay;
  }

-- ---- groups behind those that are made good

lacks_kept : (was now : ℕ → Bool) (from n : ℕ) → ((g : ℕ) → from ≤ g → now g ≡ was g) → lacking now from n ≡ lacking was from n
lacks_kept was now from zero same = refl
lacks_kept was now from (suc n) same = ap₂ (λ a b. a + (if b then 0 else 1)) (lacks_kept was now from n same) (same (from + n) (omega arith))

-- a log keeps its later groups
later_kept : (was good : Bool) (g upto : ℕ) → upto < g → (was && not (good && nat_le g upto)) ≡ was
later_kept was good g upto later =
    let no : nat_le g upto ≡ false = grind (arith, nat_tests, later) in
    ap (λ b. was && not (good && b)) no ∙ by was good
  where
    by : (a b : Bool) → (a && not (b && false)) ≡ a
    by true true = refl
    by true false = refl
    by false b = refl

-- the committed group is before each in which blocks may be born
before_births : (open_group committed : ℕ) (closing : Option ℕ) (sealed : Bool) → AreGroups open_group closing committed sealed → committed < oldest_open open_group closing
before_births open_group committed None sealed are = let same = are.0 in omega (arith, same)
before_births open_group committed (Some t) sealed are = let b = are.1 in omega (arith, b)

pub committed_low : (open_group committed : ℕ) (closing : Option ℕ) (sealed : Bool) → AreGroups open_group closing committed sealed → open_group ≤ LAST_NUMBER → committed < LAST_NUMBER
committed_low open_group committed None sealed are low = let same = are.0 in omega (arith, same, low)
committed_low open_group committed (Some t) sealed are low = let a = are.0 in let b = are.1 in omega (arith, a, b, low)

pub good_low : (pass : Pass) (committed : ℕ) → committed < LAST_NUMBER → last_good pass committed < 2 ^ 48
good_low pass committed low = by pass.kind
  where
    by : (k : PassKind) → min pass.max (elim k as (λ k. ℕ) [ Rebuild ↦ LAST_NUMBER | Heal ↦ committed ]) < 2 ^ 48
    by Rebuild = omega (arith)
    by Heal = omega (arith, low)

module _ {R A : Type 0} (rack : Ghosts R) (old : Shard R A) (v : Valid rack old) (pass : Pass) (there : old.pass ≡ Some pass) (good : Pass) (kind_is : good.kind ≡ pass.kind) (good_is : good.max ≤ last_good pass old.committed)
    (r : R) (shape : rack.shape r ≡ rack.shape old.rack) (slots : SlotTable) (excises : Excises old.slots slots (is_good good) good.max) (space : Stripes) (flushed : Vec ℕ Global) (history : History) where
  abbrev pub after : Shard R A
  after = record old { rack = r; slots = slots; space = space; pass = None; kept = None; flushed = flushed; history = history }

  pub done_valid : space ≡ record old.space { disabled = false } → owed_of history + (owed_for_pass old.pass + owed_for_loan old.kept) ≡ owed_of old.history → reserved_of history ≡ reserved_of old.history
      → stored_of old.history ≤ stored_of history → Valid rack after
  done_valid space_is owed reserved stored = record {
    part = v.part;
    version = v.version;
    asked = v.asked;
    tables = subst (λ (s : Stripes). Tables old.geometry old.open_group s old.entries) (sym space_is) (tables_shut old.geometry old.open_group old.space old.entries false v.tables);
    disabled = ap (λ (s : Stripes). s.disabled) space_is;
    few = v.few;
    here = v.here;
    slots = record {
      geometry_is = excises.same.geometry_is ∙ v.slots.geometry_is;
      perms_are = excises.same.perms_are ∙ v.slots.perms_are;
      metaslab_is = excises.same.metaslab_is ∙ v.slots.metaslab_is;
    };
    once = once_good old.slots slots (is_good good) good.max excises v.once;
    pass = tt;
    kept = tt;
    serial = (let low = v.serial in omega (arith, low, stored));
    flushed = tt;
    logs = λ at is. enough at is pass.kind refl;
    leaves = record { bytes = ap (λ s. s.bytes) shape ∙ v.leaves.bytes; leaves = λ leaf is. ap (λ s. s.leaves leaf) shape ∙ v.leaves.leaves leaf (leaf_before old.slots slots (is_good good) good.max excises leaf is) };
    groups = v.groups;
    low = v.low;
    tickets = v.tickets;
    settled = v.settled;
    owed = (let was = v.owed in omega (arith, was, owed, reserved));
  } where
    enough : (at : ArmAt) → IsThere slots at → (k : PassKind) → pass.kind ≡ k → lacking (is_logged slots at) (oldest_open old.open_group old.closing) (birth_groups old.closing) + 0 ≤ room_at slots at
    enough at is Rebuild e =
        let room = v.logs at (there_was old.slots slots (is_good good) good.max excises at is) in
        let ends : changes_for_end old.pass old.closing ≡ birth_groups old.closing
        = ap (λ o. changes_for_end o old.closing) there ∙ ap (λ k. if elim k as (λ k. Bool) [ Rebuild ↦ true | Heal ↦ false ] then birth_groups old.closing else 0) e in
        let most = lacking_most (is_logged slots at) (oldest_open old.open_group old.closing) (birth_groups old.closing) in
        let more = excises.room at in
        omega (arith, room, ends, most, more)
    enough at is Heal e =
        let room = v.logs at (there_was old.slots slots (is_good good) good.max excises at is) in
        let upto : good.max ≤ old.committed = by (subst (λ k. good.max ≤ min pass.max (elim k as (λ k. ℕ) [ Rebuild ↦ LAST_NUMBER | Heal ↦ old.committed ])) e good_is) in
        let before = before_births old.open_group old.committed old.closing old.sealed v.groups in
        let same = lacks_kept (is_logged old.slots at) (is_logged slots at) (oldest_open old.open_group old.closing) (birth_groups old.closing)
        (λ g behind. excises.logged at g ∙ later_kept (is_logged old.slots at g) (is_good good at) g good.max (omega (arith, upto, before, behind))) in
        let more = excises.room at in
        omega (arith, room, same, more)
      where
        by : good.max ≤ min pass.max old.committed → good.max ≤ old.committed
        by less = omega (arith, less)
