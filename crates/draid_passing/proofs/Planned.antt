-- A pass is planned: what the shard is then, and for which states it stands.
use Rattle.std.proofs.Common.{◌≡◌, ◌≢◌, ◌*◌, ◌+◌, ◌<◌, ◌≤◌, ◌||◌, not, ◌∙◌, ◌↔◌, ℕ, Bool, true, false, List, [], ◌∷◌, Option, Some, None, IfSome, All, Vec, Global, option_map, arith, refl, sym, ap, subst, inl, inr, filter, length, if◌then◌else◌}
use Rattle.std.specs.Prelude.{slice_index_or, vec_capacity}
use Rattle.std.proofs.lemmas.Bool.{cases_lt, true≢false}
use Rattle.std.proofs.lemmas.List.Elements.{All-head}
use Rattle.std.proofs.lemmas.Option.{slice_get-get_or}
use Rattle.draid_names.specs.declared.arm.Arm.{Arm}
use Rattle.draid_names.specs.declared.arm.ArmAt.{ArmAt}
use Rattle.draid_names.specs.declared.numbers.TheConstants.{LAST_NUMBER}
use Rattle.draid_names.specs.declared.pass_kind.PassKind.{PassKind}
use Rattle.draid_names.specs.declared.pass_kind.PassKind.TheVariants.{Rebuild, Heal}
use Rattle.draid_spec.specs.declared.layout.Geometry.{Geometry}
use Rattle.draid_rack.specs.declared.Rack.{Ghosts}
use Rattle.draid_metaslab.specs.Spaces.{Stripes}
use Rattle.draid_layouts.specs.Layout.{layout_of}
use Rattle.draid_machine.specs.declared.names.ArmName.{ArmName}
use Rattle.draid_machine.specs.After.{plan_state}
use Rattle.draid_machine.specs.Arms as arms
use Rattle.draid_machine.specs.Created.{IsReached}
use Rattle.draid_machine.specs.Names.{is_heal}
use Rattle.draid_machine.specs.State as machine
use Rattle.draid_machine.specs.Step.{MayPlan, PlanStep}
use Rattle.draid_machine.proofs.Rows.{reached_sound}
use Rattle.draid_machine.proofs.Small.{some_injective}
use Rattle.draid_entries.specs.declared.history.History.{History}
use Rattle.draid_entries.specs.History.{owed_of, reserved_of, stored_of}
use Rattle.draid_marks.specs.Silent.{AreSilent}
use Rattle.draid_pass.specs.declared.pass.Pass.{Pass}
use Rattle.draid_plans.specs.Layout.{layout_with}
use Rattle.draid_plans.specs.Logs.{Fills}
use Rattle.draid_plans.specs.Plans.{IsPlanned, Plans, PlansAll, is_filled, max_of}
use Rattle.draid_plans.specs.Targets.{SuitKind, places_of, takes_some, targets_of}
use Rattle.draid_slots.specs.Changes.{HasRoom, new_arm}
use Rattle.draid_slots.specs.Marks.{is_marked}
use Rattle.draid_slots.specs.States.{HasSlots, HoldsPass, name_of, names_at, pass_in}
use Rattle.draid_slots.specs.Table.{IsThere, SlotTable, arm_at, arms_of, is_logged, room_at}
use Rattle.draid_shard.specs.Fits.{Tables, Valid, birth_groups, changes_for_end, is_rebuild, lacking, oldest_open, owed_for_pass}
use Rattle.draid_shard.specs.Loans.{IsKept}
use Rattle.draid_shard.specs.States.{IsIn, layout_by, part_of}
use Rattle.draid_shard.specs.declared.loan.KeptLoan.{KeptLoan}
use Rattle.draid_shard.specs.declared.shard.Shard.{Shard}
use Rattle.draid_shard.proofs.Homes.{lays}
use Rattle.draid_shard.proofs.Lenders.{no_loan}
use Rattle.draid_shard.proofs.Once.{once_kept}
use Rattle.draid_shard.proofs.Staging.{leaf_was}
use Rattle.draid_passing.specs.Passing.{IsLast, IsMaxFor, LacksTarget}
use Rattle.draid_passing.proofs.Rooms.{changes_few, groups_few, lacking_most}
use Rattle.draid_passing.proofs.Spaces.{tables_shut}

-- ---- targets of a rebuild don't ask for marks

same_takes : (m n : Bool) (o : Option Arm) → takes_some Rebuild m o ≡ takes_some Rebuild n o
same_takes m n None = refl
same_takes m n (Some arm) = refl

pub same_targets : (slots : SlotTable) (marks : List (List Bool)) → targets_of slots marks Rebuild ≡ targets_of slots [] Rebuild
same_targets slots marks = λ i. filter (λ (at : ArmAt). same_takes (is_marked marks at.slot at.arm) (is_marked [] at.slot at.arm) (arm_at slots at) i) (places_of slots)

nil_or : (xs : List ArmAt) → (xs ≢ [] → ⊥) → xs ≡ []
nil_or [] none = refl
nil_or (x ∷ xs) none = absurd (none (λ is. absurd (cc)))

no_true : (b : Bool) → not b ≡ true → b ≡ true → ⊥
no_true true is also = true≢false (sym is)
no_true false is also = true≢false (sym also)

is_not : (b : Bool) → (b ≡ true → ⊥) → not b ≡ true
is_not true none = absurd (none refl)
is_not false none = refl

pub lacks_shown : (slots : SlotTable) (marks : List (List Bool)) (kind : PassKind) (r : Bool) → kind ≡ Rebuild → ((r ≡ true) ↔ (targets_of slots marks kind ≢ [])) → ((not r ≡ true) ↔ LacksTarget slots kind)
lacks_shown slots marks kind r is both = (
  λ lacks. (is, sym (same_targets slots marks) ∙ ap (targets_of slots marks) (sym is) ∙ nil_or (targets_of slots marks kind) (λ some. no_true r lacks (both.1 some))),
  λ lacks. is_not r (λ found. both.0 found (ap (targets_of slots marks) is ∙ same_targets slots marks ∙ lacks.1)),
)

-- ---- names of targets

some_names : (slots : SlotTable) (ats : List ArmAt) → All (IsThere slots) ats → names_at slots ats ≡ [] → ats ≡ []
some_names slots [] there none = refl
some_names slots (at ∷ ats) there none =
    by (get_or_arm at) (slice_get-get_or (arms_of slots at.slot) at.arm (new_arm 0) (All-head (IsThere slots) at ats there))
  where
    get_or_arm : ArmAt → Arm
    get_or_arm at = slice_index_or (arms_of slots at.slot) at.arm (new_arm 0)

    by : (a : Arm) → arm_at slots at ≡ Some a → at ∷ ats ≡ []
    by a is = absurd (nil_not (name_of a) (names_at slots ats) (sym (ap (λ o. elim o as (λ o. List ArmName) [ None ↦ names_at slots ats | Some arm ↦ name_of arm ∷ names_at slots ats ]) is) ∙ none))
      where
        nil_not : (n : ArmName) (ns : List ArmName) → n ∷ ns ≡ [] → ⊥
        nil_not n ns is = absurd (cc)

kind_owes : (k : PassKind) → elim k as (λ k. ℕ) [ Rebuild ↦ if is_heal k then 1 else 2 | Heal ↦ 2 ] ≡ 2
kind_owes Rebuild = refl
kind_owes Heal = refl

kind_shuts : (k : PassKind) → not (is_heal k) ≡ elim k as (λ k. Bool) [ Rebuild ↦ true | Heal ↦ false ]
kind_shuts Rebuild = refl
kind_shuts Heal = refl

module _ {R A : Type 0} (rack : Ghosts R) (old : Shard R A) (v : Valid rack old) (none : old.pass ≡ None) (kind : PassKind) (marks : List (List Bool)) (slots : SlotTable) (space : Stripes) (pass : Pass) (max : ℕ)
    (flushed : Vec ℕ Global) (history : History) (planned : IsPlanned old.slots marks kind (old.last_pass + 1) max pass) (fills : Fills old.slots slots (is_filled kind pass.targets.items) max)
    (holds : HoldsPass slots (old.last_pass + 1) pass) where
  abbrev pub after : Shard R A
  after = record old { slots = slots; space = space; pass = Some pass; last_pass = old.last_pass + 1; flushed = flushed; history = history }

  was_there : (at : ArmAt) → IsThere slots at → IsThere old.slots at
  was_there at there = subst (λ (all : List (List Arm)). at.arm < length (slice_index_or all at.slot [])) fills.arms_stay there

  pub plan_valid : space ≡ record old.space { disabled = old.space.disabled || not (is_heal kind) } → HasRoom old.slots 7 0 → 3 * old.slots.geometry.spec.children ≤ vec_capacity flushed
      → owed_of history + 1 ≡ owed_of old.history + 3 → reserved_of history ≡ reserved_of old.history → stored_of old.history ≤ stored_of history → Valid rack after
  plan_valid space_is room leaves_room owed reserved stored = record {
    part = v.part;
    version = v.version;
    asked = v.asked;
    tables = subst (λ (s : Stripes). Tables old.geometry old.open_group s old.entries) (sym space_is) (tables_shut old.geometry old.open_group old.space old.entries (old.space.disabled || not (is_heal kind)) v.tables);
    disabled = ap (λ (s : Stripes). s.disabled) space_is ∙ ap (λ b. b || not (is_heal kind)) (v.disabled ∙ ap is_rebuild none) ∙ kind_shuts kind
        ∙ ap (λ k. elim k as (λ k. Bool) [ Rebuild ↦ true | Heal ↦ false ]) (sym planned.kind_is);
    few = v.few;
    here = v.here;
    slots = record {
      geometry_is = fills.same.geometry_is ∙ v.slots.geometry_is;
      perms_are = fills.same.perms_are ∙ v.slots.perms_are;
      metaslab_is = fills.same.metaslab_is ∙ v.slots.metaslab_is;
    };
    once = once_kept old.slots slots fills.arms_stay fills.detached_stay v.once;
    pass = holds;
    kept = subst (λ (o : Option KeptLoan). IfSome o (IsKept old.geometry (Some pass))) (sym (no_loan old.geometry old.pass old.kept none v.kept)) tt;
    serial = (let low = v.serial in omega (arith, low, stored));
    flushed = subst (λ (g : Geometry). 3 * g.spec.children ≤ vec_capacity flushed) v.slots.geometry_is leaves_room;
    logs = λ at there. room_left at there (is_filled kind pass.targets.items at) (fills.room at) (room.logs at (was_there at there));
    leaves = record { bytes = v.leaves.bytes; leaves = λ leaf is. v.leaves.leaves leaf (leaf_was old.slots slots leaf fills.arms_stay fills.detached_stay is) };
    groups = v.groups;
    low = v.low;
    tickets = v.tickets;
    settled = v.settled;
    owed =
        (let was = v.owed in
        let nothing : owed_for_pass old.pass ≡ 0 = ap owed_for_pass none in
        let two : owed_for_pass (Some pass) ≡ 2 = (λ i. elim (planned.kind_is i) as (λ k. ℕ) [ Rebuild ↦ if planned.running_is i then 1 else 2 | Heal ↦ 2 ]) ∙ kind_owes kind in
        omega (arith, was, nothing, two, owed, reserved));
  } where
    room_left : (at : ArmAt) → IsThere slots at → (b : Bool) → room_at old.slots at ≤ room_at slots at + (if b then 1 else 0) → 7 ≤ room_at old.slots at
        → lacking (is_logged slots at) (oldest_open old.open_group old.closing) (birth_groups old.closing) + changes_for_end (Some pass) old.closing ≤ room_at slots at
    room_left at there b used enough =
        let few = lacking_most (is_logged slots at) (oldest_open old.open_group old.closing) (birth_groups old.closing) in
        let groups = groups_few old.closing in
        let changes = changes_few (Some pass) old.closing in
        by b (room_at old.slots at) (room_at slots at) used enough few groups changes
      where
        by : (b : Bool) (was now : ℕ) → was ≤ now + (if b then 1 else 0) → 7 ≤ was → lacking (is_logged slots at) (oldest_open old.open_group old.closing) (birth_groups old.closing) ≤ birth_groups old.closing
            → birth_groups old.closing ≤ 3 → changes_for_end (Some pass) old.closing ≤ 3
            → lacking (is_logged slots at) (oldest_open old.open_group old.closing) (birth_groups old.closing) + changes_for_end (Some pass) old.closing ≤ now
        by true was now used enough few groups changes = omega (arith, used, enough, few, groups, changes)
        by false was now used enough few groups changes = omega (arith, used, enough, few, groups, changes)

  -- ---- the event

  layout_is : layout_with old.slots ≡ layout_by old
  layout_is = λ i. layout_of (v.slots.geometry_is i) (v.slots.perms_are i) (v.slots.metaslab_is i)

  module _ (state : PlansAll old.slots slots marks kind pass) (silent : AreSilent old.slots [] marks) (max_is : IsMaxFor kind old.open_group old.committed max) (w : machine.State) (reached : IsReached (layout_by old) w) (at : IsIn old w) where
    suits : SuitKind old.slots marks kind w.core
    suits = by kind
      where
        by : (k : PassKind) → SuitKind old.slots marks k w.core
        by Rebuild = tt
        by Heal = λ place arm there. silent.lie w (subst (λ l. IsReached l w) (sym layout_is) reached) at.slots place arm there

    max_there : max ≡ max_of w kind
    max_there = by kind max_is
      where
        by : (k : PassKind) → IsMaxFor k old.open_group old.committed max → max ≡ max_of w k
        by Rebuild is = (let same = at.open_group_is in omega (arith, is, same))
        by Heal is =
            let some = (reached_sound (layout_by old) (lays (part_of old) v.part) w reached).groups.some in
            let same = at.committed in
            is.2 (omega (arith, some, same)) ∙ sym same

    plans : Plans w old.slots slots kind pass
    plans = state w (λ p q a b there also name. v.once.arms p q a b there also name) at.slots suits (planned.number_is ∙ ap (λ n. n + 1) (sym at.last)) (planned.max_is ∙ max_there)

    abbrev pub targets : List ArmName
    targets = arms.targets_of (layout_by old) w.core kind

    abbrev pub state_after : machine.State
    state_after = plan_state w kind targets

    targets_is : arms.targets_of (layout_with old.slots) w.core kind ≡ targets
    targets_is = ap (λ l. arms.targets_of l w.core kind) layout_is

    pass_is : state_after.core.pass ≡ Some (pass_in slots pass)
    pass_is = subst (λ ts. (plan_state w kind ts).core.pass ≡ Some (pass_in slots pass)) targets_is plans.pass_is

    names_are : (k : PassKind) → k ≡ kind → arms.targets_of (layout_by old) w.core k ≡ names_at slots pass.targets.items
    names_are k is = ap (λ k. arms.targets_of (layout_by old) w.core k) is ∙ by kind targets pass_is
      where
        by : (k : PassKind) (ts : List ArmName) → (plan_state w k ts).core.pass ≡ Some (pass_in slots pass) → ts ≡ names_at slots pass.targets.items
        by Rebuild ts is = ap (λ (p : machine.Pass). p.targets) (some_injective _ (pass_in slots pass) is)
        by Heal ts is = ap (λ (p : machine.Pass). p.targets) (some_injective _ (pass_in slots pass) is)

    pub plan_step : (LacksTarget old.slots kind → ⊥) → (IsLast old kind → ⊥) → PlanStep (layout_by old) w kind state_after
    plan_step some left = record {
      idle = at.pass ∙ ap (option_map (pass_in old.slots)) none;
      last = less w.core.last old.last_pass at.last (λ high. left (inl high));
      may = by kind refl;
      made = refl;
    } where
      less : (a b : ℕ) → a ≡ b → (LAST_NUMBER ≤ b → ⊥) → a < LAST_NUMBER
      less a b same not_high = elim (cases_lt a LAST_NUMBER) [
        | inl low ↦ low
        | inr high ↦ absurd (not_high (omega (arith, same, high)))
      ]

      open_less : (a b : ℕ) → a ≡ b → b ≤ LAST_NUMBER → (b ≡ LAST_NUMBER → ⊥) → a < LAST_NUMBER
      open_less a b same low not_last = elim (cases_lt a LAST_NUMBER) [
        | inl low ↦ low
        | inr high ↦ absurd (not_last (omega (arith, same, high, low)))
      ]

      by : (k : PassKind) → k ≡ kind → MayPlan w k (arms.targets_of (layout_by old) w.core k)
      by Heal is = tt
      by Rebuild is = (
        λ no_names. some (
          sym is,
          (let no_targets = some_names slots pass.targets.items holds.current.targets (sym (names_are Rebuild is) ∙ no_names) in
              sym (same_targets old.slots marks) ∙ ap (targets_of old.slots marks) is ∙ sym planned.targets_are ∙ no_targets),
        ),
        open_less w.open_group old.open_group at.open_group_is v.low (λ last. left (inr (sym is, last))),
      )

    pub plan_in : IsIn after state_after
    plan_in = record {
      held = at.held;
      slots = plans_slots;
      pass = pass_is;
      last = ap (λ n. n + 1) at.last;
      open_group_is = at.open_group_is;
      closing = at.closing;
      sealed = at.sealed;
      committed = at.committed;
      version = at.version;
      asked = at.asked;
      serial = at.serial;
      loan = at.loan;
    } where
      plans_slots : HasSlots slots state_after.core
      plans_slots = subst (λ ts. HasSlots slots (plan_state w kind ts).core) targets_is plans.slots_are
