-- A seal of a shard: its event is legal, and the shard stands for the state behind it.
use Rattle.std.proofs.Common.{◌≡◌, ◌==◌, ◌<◌, ◌≤◌, ◌+◌, ◌^◌, ◌||◌, ◌&&◌, not, ◌⊎◌, ◌∙◌, ℕ, zero, suc, Bool, true, false, List, [], ◌∷◌, Option, Some, None, IsSome, IfSome, All, Vec, Global, arith, refl, sym, ap, ap₂, subst, inl, inr, cond, count_by, filter, length, map, slice_get, if◌then◌else◌}
use Rattle.std.specs.Prelude.{Contains, is_some, option_map, slice_index_or, vec_capacity}
use Rattle.std.proofs.lemmas.Bool.{cases_lt, true≢false}
use Rattle.std.proofs.lemmas.List.Elements.{All-filter, All-head, All-tail, All-weaker}
use Rattle.std.proofs.lemmas.List.Sums.{length-filter}
use Rattle.draid_names.specs.declared.arm.Arm.{Arm}
use Rattle.draid_names.specs.declared.arm.ArmAt.{ArmAt}
use Rattle.draid_names.specs.declared.pass_kind.PassKind.{PassKind}
use Rattle.draid_names.specs.declared.pass_kind.PassKind.TheVariants.{Rebuild, Heal}
use Rattle.draid_rack.specs.Moments.{LeavesTold}
use Rattle.draid_rack.specs.Rack.{Shape, Told, OnBothTold}
use Rattle.draid_rack.specs.declared.Rack.{Ghosts}
use Rattle.draid_area.specs.Area as content
use Rattle.draid_columns.specs.Flushes.{FlushesBut, has_leaf}
use Rattle.draid_pass.specs.declared.pass.Pass.{Pass}
use Rattle.draid_entries.specs.declared.history.History.{History}
use Rattle.draid_entries.specs.History.{owed_of, reserved_of, stored_of}
use Rattle.draid_machine.specs.declared.names.ArmName.{ArmName}
use Rattle.draid_machine.specs.declared.names.ArmName.TheVariants.{Leaf}
use Rattle.draid_machine.specs.declared.names.Held.{Held}
use Rattle.draid_machine.specs.declared.names.Key.{Key}
use Rattle.draid_machine.specs.After.{capped, log_if, lose_some, lost_errors, map_arm, map_pass, seal_state, sealed_core}
use Rattle.draid_machine.specs.Arms.{is_silent, leaf_answers, lies_on}
use Rattle.draid_machine.specs.Created.{IsReached}
use Rattle.draid_machine.specs.Names.{has_number, is_block, named}
use Rattle.draid_machine.specs.State as machine
use Rattle.draid_machine.specs.Step.{HasWritten, SealStep}
use Rattle.draid_machine.proofs.Small.{absurd_test, below, either_true, is_equal, none_some, some_same, true_left}
use Rattle.draid_segments.specs.Acts as acts
use Rattle.draid_record.specs.Record.{PassTold, told_pass}
use Rattle.draid_layouts.specs.Layout.{layout_of}
use Rattle.draid_marks.specs.Layout.{layout_with}
use Rattle.draid_marks.specs.Missed.{MarksTable, is_marked_arm}
use Rattle.draid_marks.specs.Silent.{AreSilent, lies_silent}
use Rattle.draid_marks.proofs.Silence.{same_number}
use Rattle.draid_slots.specs.Changes.{IsOf}
use Rattle.draid_slots.specs.Marks.{is_marked}
use Rattle.draid_slots.specs.Table.{AreOf, IsTable, SlotTable, arm_at, arms_of, is_logged}
use Rattle.draid_slots.specs.States.{AscendBehind, HasSlots, HoldsPass, name_of, names_at, pass_in}
use Rattle.draid_stable.specs.Sealing.{LosesTargets, by_kind, is_lost, lose_marked}
use Rattle.draid_stable.proofs.Targets.{kept_ascend}
use Rattle.draid_shard.specs.Fits.{AreGroups, IsLeaf, LogsHaveRoom, TicketsAreNew, Valid, birth_groups, changes_for_end, is_rebuild, oldest_open, owed_for_group, owed_for_pass}
use Rattle.draid_shard.specs.Part.{Part, layout_in}
use Rattle.draid_shard.specs.Rows.{LogsBirth}
use Rattle.draid_shard.specs.States.{IsIn, layout_by, part_of}
use Rattle.draid_shard.specs.declared.shard.Shard.{Shard}
use Rattle.draid_shard.proofs.Lenders.{StillLends, changes_still, flush_still, kept_still}
use Rattle.draid_shard.proofs.Once.{once_kept}
use Rattle.draid_shard.proofs.SamePass.{pass_same}
use Rattle.draid_shard.proofs.Staging.{leaves_left, logs_left, same_of}
use Rattle.draid_pool.specs.Groups.{OpenUpto}
use Rattle.draid_pool.specs.Sealing.{AreFlushed, IsOnline}
use Rattle.draid_pool.proofs.LeavesFlushed.{answers_leaf, answers_online, online_leaf}

-- ---- a pass loses its marked targets

-- what is known of the pass before and afterwards
pub record IsLess (marks : List (List Bool)) (p r : Pass) : Type 0 where
  pub told : told_pass r ≡ lose_marked marks (told_pass p)
  pub number : r.number ≡ p.number

pub lost_by : (marks : List (List Bool)) (P : Option Pass → Option Pass → Type 0) → P None None → ((p r : Pass) → IsLess marks p r → P (Some p) (Some r)) → (old new : Option Pass)
    → LosesTargets marks old new → P old new
lost_by marks P none some None None l = none
lost_by marks P none some None (Some r) l = absurd (none_some None (told_pass r) refl (sym l.told))
lost_by marks P none some (Some p) None l = absurd (none_some None (lose_marked marks (told_pass p)) refl l.told)
lost_by marks P none some (Some p) (Some r) l = some p r (record {
  told = some_same (Some (told_pass r)) (told_pass r) (lose_marked marks (told_pass p)) refl l.told;
  number = some_same (Some r.number) r.number p.number refl l.numbers;
})

module _ (slots : SlotTable) (marks : List (List Bool)) (bad : ArmName → Bool) (marked : (at : ArmAt) (a : Arm) → arm_at slots at ≡ Some a → is_marked marks at.slot at.arm ≡ bad (name_of a))
    (none : (at : ArmAt) → arm_at slots at ≡ None → is_marked marks at.slot at.arm ≡ false) where
  names_left : (ats : List ArmAt) → names_at slots (filter (λ place. not (is_lost marks place)) ats) ≡ filter (λ n. not (bad n)) (names_at slots ats)
  names_left [] = refl
  names_left (at ∷ ats) = by (arm_at slots at) refl (names_left ats)
    where
      rest : List ArmAt
      rest = filter (λ place. not (is_lost marks place)) ats

      at_name : Option Arm → List ArmName → List ArmName
      at_name o ns = elim o as (λ o. List ArmName) [ None ↦ ns | Some arm ↦ name_of arm ∷ ns ]

      none_here : (b : Bool) → names_at slots (filter (λ place. not (is_lost marks place)) ats) ≡ filter (λ n. not (bad n)) (names_at slots ats) → arm_at slots at ≡ None
          → names_at slots (cond b (at ∷ filter (λ place. not (is_lost marks place)) ats) (filter (λ place. not (is_lost marks place)) ats)) ≡ filter (λ n. not (bad n)) (names_at slots ats)
      none_here true more is =
          ap (λ o. elim o as (λ o. List ArmName) [ None ↦ names_at slots (filter (λ place. not (is_lost marks place)) ats) | Some arm ↦ name_of arm ∷ names_at slots (filter (λ place. not (is_lost marks place)) ats) ]) is ∙ more
      none_here false more is = more

      some_here : (a : Arm) (b : Bool) → names_at slots (filter (λ place. not (is_lost marks place)) ats) ≡ filter (λ n. not (bad n)) (names_at slots ats) → arm_at slots at ≡ Some a
          → names_at slots (cond (not b) (at ∷ filter (λ place. not (is_lost marks place)) ats) (filter (λ place. not (is_lost marks place)) ats))
          ≡ cond (not b) (name_of a ∷ filter (λ n. not (bad n)) (names_at slots ats)) (filter (λ n. not (bad n)) (names_at slots ats))
      some_here a true more is = more
      some_here a false more is =
          ap (λ o. elim o as (λ o. List ArmName) [ None ↦ names_at slots (filter (λ place. not (is_lost marks place)) ats) | Some arm ↦ name_of arm ∷ names_at slots (filter (λ place. not (is_lost marks place)) ats) ]) is
          ∙ (λ i. name_of a ∷ more i)

      by : (o : Option Arm) → arm_at slots at ≡ o → names_at slots (filter (λ place. not (is_lost marks place)) ats) ≡ filter (λ n. not (bad n)) (names_at slots ats)
          → names_at slots (filter (λ place. not (is_lost marks place)) (at ∷ ats)) ≡ filter (λ n. not (bad n)) (names_at slots (at ∷ ats))
      by None is more =
          none_here (not (is_lost marks at)) more is
          ∙ sym (ap (λ o. filter (λ n. not (bad n)) (elim o as (λ o. List ArmName) [ None ↦ names_at slots ats | Some arm ↦ name_of arm ∷ names_at slots ats ])) is)
      by (Some a) is more =
          some_here a (is_lost marks at) more is
          ∙ ap (λ b. cond (not b) (name_of a ∷ filter (λ n. not (bad n)) (names_at slots ats)) (filter (λ n. not (bad n)) (names_at slots ats))) (marked at a is)
          ∙ sym (ap (λ o. filter (λ n. not (bad n)) (elim o as (λ o. List ArmName) [ None ↦ names_at slots ats | Some arm ↦ name_of arm ∷ names_at slots ats ])) is)

  lost_length : (ats : List ArmAt) → length (filter (is_lost marks) ats) ≡ length (filter bad (names_at slots ats))
  lost_length [] = refl
  lost_length (at ∷ ats) = by (arm_at slots at) refl (lost_length ats)
    where
      one : (a : Arm) (b : Bool) → length (filter (is_lost marks) ats) ≡ length (filter bad (names_at slots ats))
          → length (cond b (at ∷ filter (is_lost marks) ats) (filter (is_lost marks) ats)) ≡ length (cond b (name_of a ∷ filter bad (names_at slots ats)) (filter bad (names_at slots ats)))
      one a true more = omega (arith, more)
      one a false more = more

      by : (o : Option Arm) → arm_at slots at ≡ o → length (filter (is_lost marks) ats) ≡ length (filter bad (names_at slots ats))
          → length (filter (is_lost marks) (at ∷ ats)) ≡ length (filter bad (names_at slots (at ∷ ats)))
      by None is more =
          ap (λ b. length (cond b (at ∷ filter (is_lost marks) ats) (filter (is_lost marks) ats))) (none at is) ∙ more
          ∙ sym (ap (λ o. length (filter bad (elim o as (λ o. List ArmName) [ None ↦ names_at slots ats | Some arm ↦ name_of arm ∷ names_at slots ats ]))) is)
      by (Some a) is more =
          ap (λ b. length (cond b (at ∷ filter (is_lost marks) ats) (filter (is_lost marks) ats))) (marked at a is) ∙ one a (bad (name_of a)) more
          ∙ sym (ap (λ o. length (filter bad (elim o as (λ o. List ArmName) [ None ↦ names_at slots ats | Some arm ↦ name_of arm ∷ names_at slots ats ]))) is)

  lost_count : (ats : List ArmAt) → count_by (is_lost marks) ats ≡ count_by bad (names_at slots ats)
  lost_count ats = sym (length-filter (is_lost marks) ats) ∙ lost_length ats ∙ length-filter bad (names_at slots ats)

  lost_more : (k : PassKind) (ats : List ArmAt) → by_kind k (count_by (is_lost marks) ats) ≡ lost_errors k bad (names_at slots ats)
  lost_more Rebuild ats = lost_count ats
  lost_more Heal ats = refl

  one_less : (p r : Pass) → IsLess marks p r → lose_some bad (pass_in slots p) ≡ pass_in slots r
  one_less p r less =
      let targets : names_at slots r.targets.items ≡ filter (λ n. not (bad n)) (names_at slots p.targets.items) = ap (λ (t : PassTold). names_at slots t.targets) less.told ∙ names_left p.targets.items in
      let errors : r.errors ≡ capped (p.errors + lost_errors p.kind bad (names_at slots p.targets.items)) = ap (λ (t : PassTold). t.errors) less.told ∙ ap (λ n. capped (p.errors + n)) (lost_more p.kind p.targets.items) in
      λ i. record {
        number = sym less.number i;
        kind = sym (ap (λ (t : PassTold). t.kind) less.told) i;
        targets = sym targets i;
        max = sym (ap (λ (t : PassTold). t.max) less.told) i;
        next = sym (ap (λ (t : PassTold). t.«at») less.told) i;
        errors = sym errors i;
        running = sym (ap (λ (t : PassTold). t.running) less.told) i;
      }

  pub pass_less : (old new : Option Pass) → LosesTargets marks old new → map_pass (lose_some bad) (option_map (pass_in slots) old) ≡ option_map (pass_in slots) new
  pass_less old new loses =
      lost_by marks (λ o n. map_pass (lose_some bad) (option_map (pass_in slots) o) ≡ option_map (pass_in slots) n) refl (λ p r less. ap Some (one_less p r less)) old new loses

-- ---- what the parts of a shard owe and hold as before
pub less_owed : (marks : List (List Bool)) (old new : Option Pass) → LosesTargets marks old new → owed_for_pass new ≡ owed_for_pass old
less_owed marks old new loses = lost_by marks (λ o n. owed_for_pass n ≡ owed_for_pass o) refl
    (λ p r less. ap₂ (λ k b. elim k as (λ k. ℕ) [ Rebuild ↦ if b then 1 else 2 | Heal ↦ 2 ]) (ap (λ (t : PassTold). t.kind) less.told) (ap (λ (t : PassTold). t.running) less.told)) old new loses

pub less_rebuild : (marks : List (List Bool)) (old new : Option Pass) → LosesTargets marks old new → is_rebuild new ≡ is_rebuild old
less_rebuild marks old new loses = lost_by marks (λ o n. is_rebuild n ≡ is_rebuild o) refl
    (λ p r less. ap (λ k. elim k as (λ k. Bool) [ Rebuild ↦ true | Heal ↦ false ]) (ap (λ (t : PassTold). t.kind) less.told)) old new loses

fewer_left : (p : ArmAt → Bool) (xs : List ArmAt) → length (filter p xs) ≤ length xs
fewer_left p [] = omega arith
fewer_left p (x ∷ xs) = by (p x) (fewer_left p xs)
  where
    by : (b : Bool) → length (filter p xs) ≤ length xs → length (cond b (x ∷ filter p xs) (filter p xs)) ≤ suc (length xs)
    by true less = omega (arith, less)
    by false less = omega (arith, less)

pub less_lends : (marks : List (List Bool)) (old new : Option Pass) → LosesTargets marks old new → StillLends old new
less_lends marks old new loses = lost_by marks StillLends tt
    (λ p r less.
    (let count = ap (λ (t : PassTold). length t.targets) less.told in
    let fewer = fewer_left (λ place. not (is_lost marks place)) p.targets.items in
    (ap (λ (t : PassTold). t.kind) less.told, omega (arith, count, fewer)))) old new loses

pub less_held : (marks : List (List Bool)) (slots after : SlotTable) (last : ℕ) (old new : Option Pass) → LosesTargets marks old new → after.arms ≡ slots.arms → IfSome old (HoldsPass slots last)
    → IfSome new (HoldsPass after last)
less_held marks slots after last old new loses arms held = lost_by marks (λ o n. IfSome o (HoldsPass slots last) → IfSome n (HoldsPass after last)) (λ h. tt)
    (λ p r less h. record {
      current = record {
        number = less.number ∙ h.current.number;
        targets = subst (All (λ (place : ArmAt). place.arm < length (arms_of after place.slot))) (sym (ap (λ (t : PassTold). t.targets) less.told))
            (All-filter (λ place. not (is_lost marks place)) (λ (place : ArmAt). place.arm < length (arms_of after place.slot)) p.targets.items
            (All-weaker (λ (place : ArmAt). place.arm < length (arms_of slots place.slot)) (λ (place : ArmAt). place.arm < length (arms_of after place.slot))
            (λ place less. subst (λ (as_ : List (List Arm)). place.arm < length (slice_index_or as_ place.slot [])) (sym arms) less) p.targets.items h.current.targets));
      };
      ascending = subst (AscendBehind None) (sym (ap (λ (t : PassTold). t.targets) less.told)) (kept_ascend (λ place. not (is_lost marks place)) p.targets.items None h.ascending);
      some_max = (let same = ap (λ (t : PassTold). t.max) less.told in let some = h.some_max in omega (arith, same, some));
    }) old new loses held

-- ---- the slots

-- the layout is that of the slots
pub layout_same : (part : Part) (slots : SlotTable) → IsOf slots part.geometry part.perms part.number → layout_with slots ≡ layout_in part
layout_same part slots of = λ i. layout_of (of.geometry_is i) (of.perms_are i) (of.metaslab_is i)

-- what the marked arms miss is one group alone
pub logs_birth : (old new : SlotTable) (marks : List (List Bool)) (wrote : Bool) (group : ℕ) → MarksTable old new marks wrote group → LogsBirth group old new
logs_birth old new marks wrote group table = record {
  same = table.same;
  arms = table.arms_stay;
  detached = table.detached_stay;
  others = λ at g out. table.logged at g ∙ ap (λ x. is_logged old at g || ((wrote && is_marked_arm old marks at) && x)) out ∙ none (is_logged old at g) (wrote && is_marked_arm old marks at);
  kept = λ at has. table.logged at group ∙ true_left (is_logged old at group) ((wrote && is_marked_arm old marks at) && (group == group)) has;
  room = table.room;
} where
  none : (a b : Bool) → (a || (b && false)) ≡ a
  none true b = refl
  none false true = refl
  none false false = refl

-- and what holds of slots holds on
pub marked_sound : (old new : SlotTable) (marks : List (List Bool)) (wrote : Bool) (group : ℕ) → MarksTable old new marks wrote group → IsTable old → IsTable new
marked_sound old new marks wrote group table is =
    subst (λ detached. AreOf new.geometry new.perms new.metaslab new.arms detached) (sym table.detached_stay)
    (subst (λ arms. AreOf new.geometry new.perms new.metaslab arms old.detached) (sym table.arms_stay)
    (subst (λ metaslab. AreOf new.geometry new.perms metaslab old.arms old.detached) (sym table.same.metaslab_is)
    (subst (λ perms. AreOf new.geometry perms old.metaslab old.arms old.detached) (sym table.same.perms_are)
    (subst (λ geometry. AreOf geometry old.perms old.metaslab old.arms old.detached) (sym table.same.geometry_is) is))))

module _ (part : Part) (slots : SlotTable) (of : IsOf slots part.geometry part.perms part.number) (w : machine.State) (reached : IsReached (layout_in part) w) (has : HasSlots slots w.core)
    (failed : List ℕ) (marks : List (List Bool)) (silent : AreSilent slots failed marks) where
  pub marked_here : (at : ArmAt) (a : Arm) → arm_at slots at ≡ Some a → is_marked marks at.slot at.arm ≡ lies_on (layout_in part) w.core (is_silent w.core failed) (name_of a)
  marked_here at a there =
      silent.lie w (subst (λ l. IsReached l w) (sym (layout_same part slots of)) reached) has at a there ∙ ap (λ l. lies_on l w.core (is_silent w.core failed) (name_of a)) (layout_same part slots of)

  pub marked_none : (at : ArmAt) → arm_at slots at ≡ None → is_marked marks at.slot at.arm ≡ false
  marked_none at none = silent.marked at ∙ ap (lies_silent slots failed at) none

module _ (part : Part) (slots new : SlotTable) (of : IsOf slots part.geometry part.perms part.number) (w : machine.State) (reached : IsReached (layout_in part) w) (has : HasSlots slots w.core)
    (failed : List ℕ) (marks : List (List Bool)) (silent : AreSilent slots failed marks) (wrote : Bool) (group : ℕ) (table : MarksTable slots new marks wrote group) where
  abbrev bad : ArmName → Bool
  bad = lies_on (layout_in part) w.core (is_silent w.core failed)

  there_below : (xs : List Arm) (k : ℕ) (x : Arm) → slice_get xs k ≡ Some x → k < length xs
  there_below [] k x is = absurd (cc)
  there_below (y ∷ ys) zero x is = omega arith
  there_below (y ∷ ys) (suc k) x is = let less = there_below ys k x is in omega (arith, less)

  before : (at : ArmAt) (a : Arm) → arm_at new at ≡ Some a → arm_at slots at ≡ Some a
  before at a there = ap (λ arms. slice_get (slice_index_or arms at.slot []) at.arm) (sym table.arms_stay) ∙ there

  after : (at : ArmAt) (a : Arm) → arm_at slots at ≡ Some a → arm_at new at ≡ Some a
  after at a there = ap (λ arms. slice_get (slice_index_or arms at.slot []) at.arm) table.arms_stay ∙ there

  arm_is : (at : ArmAt) (a : Arm) → arm_at slots at ≡ Some a → is_marked_arm slots marks at ≡ bad (name_of a)
  arm_is at a there =
      ap (λ b. b && is_marked marks at.slot at.arm) (below at.arm (length (arms_of slots at.slot)) (there_below (arms_of slots at.slot) at.arm a there))
      ∙ marked_here part slots of w reached has failed marks silent at a there

  log_is : (at : ArmAt) (a : Arm) (g : ℕ) → arm_at slots at ≡ Some a → (is_logged slots at g || ((wrote && bad (name_of a)) && (g == group))) ≡ is_logged new at g
  log_is at a g there = ap (λ b. is_logged slots at g || ((wrote && b) && (g == group))) (sym (arm_is at a there)) ∙ sym (table.logged at g)

  pub sealed_slots : HasSlots new (sealed_core (layout_in part) w.core group failed wrote)
  sealed_slots = record {
    order = λ slot. has.order slot ∙ ap (λ arms. map name_of (slice_index_or arms slot [])) (sym table.arms_stay);
    arms = λ at a there. (let was = before at a there in
        ap (map_arm (log_if (wrote && bad (name_of a)) group)) (has.arms at a was)
        ∙ (λ i. Some (record { offline = a.offline; fresh = a.fresh; log = λ g. log_is at a g was i; gone = None })));
    detached = λ gone among. (let was = has.detached gone (subst (λ list. Contains list gone) table.detached_stay among) in record {
      arm = log_if (wrote && bad (named gone.kind gone.number)) group was.arm;
      there = ap (map_arm (log_if (wrote && bad (named gone.kind gone.number)) group)) was.there;
      offline = was.offline;
      by = was.by;
    });
    only = λ n some. elim (has.only n (λ none. some (ap (map_arm (log_if (wrote && bad n) group)) none))) [
      | inl arm ↦ inl (record { at = arm.at; arm = arm.arm; there = after arm.at arm.arm arm.there; name_is = arm.name_is })
      | inr gone ↦ inr (record { gone = gone.gone; among = subst (λ list. Contains list gone.gone) (sym table.detached_stay) gone.among; name_is = gone.name_is })
    ];
  }

  pub sealed_pass : (was now : Option Pass) → w.core.pass ≡ option_map (pass_in slots) was → LosesTargets marks was now → map_pass (lose_some bad) w.core.pass ≡ option_map (pass_in new) now
  sealed_pass was now is_in loses =
      ap (map_pass (lose_some bad)) is_in ∙ pass_less slots marks bad (marked_here part slots of w reached has failed marks silent) (marked_none part slots of w reached has failed marks silent) was now loses ∙ pass_same slots new now table.arms_stay

-- ---- the flushes

-- each arm of the slots has a number of 64 bits
abbrev pub AreSmall : SlotTable → Type 0
AreSmall slots = (at : ArmAt) (arm : Arm) → arm_at slots at ≡ Some arm → arm.number < 2 ^ 64

flushes_one : (shape : Shape) (slots : SlotTable) (leaves failed : List ℕ) (q : machine.Core) → HasSlots slots q → ((leaf : ℕ) → IsLeaf slots leaf → IsSome (shape.leaves leaf)) → AreSmall slots → AreFlushed shape slots leaves
    → (x y : Told) → FlushesBut leaves failed x y → acts.Flushes q failed x y
flushes_one shape slots leaves failed q has there small are x y f = record {
  same = f.leaves;
  done = λ leaf sector quiet.
      let z = neither (not (leaf_answers q leaf)) (has_number failed leaf) quiet in
      let answers : leaf_answers q leaf ≡ true = not_off (leaf_answers q leaf) z.0 in
      let arm = answers_leaf slots q leaf has answers in
      f.firm leaf sector (are.all q leaf has (subst (λ n. n < 2 ^ 64) arm.4 (small arm.0 arm.1 arm.2)) (there leaf (inl (arm.0, arm.1, arm.2, arm.3, arm.4))) (answers_online q leaf answers)) (same_number failed leaf ∙ z.1);
  leaving = λ leaf sector arm low found on quiet.
      let is : IsOnline q leaf = record { arm = arm; found = found; online = on } in
      f.firm leaf sector (are.all q leaf has low (there leaf (online_leaf slots q leaf has is)) is) (same_number failed leaf ∙ quiet);
} where
  neither : (a b : Bool) → (a || b) ≡ false → (a ≡ false) × (b ≡ false)
  neither true b e = absurd (true≢false e)
  neither false b e = (refl, e)

  not_off : (a : Bool) → not a ≡ false → a ≡ true
  not_off true e = refl
  not_off false e = absurd (true≢false e)

pub flushes_acts : (shape : Shape) (slots : SlotTable) (leaves failed : List ℕ) (q : machine.Core) (o p : Option Told) → HasSlots slots q → ((leaf : ℕ) → IsLeaf slots leaf → IsSome (shape.leaves leaf))
    → AreSmall slots → AreFlushed shape slots leaves → OnBothTold o p (FlushesBut leaves failed) → OnBothTold o p (acts.Flushes q failed)
flushes_acts shape slots leaves failed q None p has there small are t = t
flushes_acts shape slots leaves failed q (Some x) None has there small are t = absurd t
flushes_acts shape slots leaves failed q (Some x) (Some y) has there small are t = flushes_one shape slots leaves failed q has there small are x y t

pub flushes_leave : (leaves failed : List ℕ) (o p : Option Told) → OnBothTold o p (FlushesBut leaves failed) → LeavesTold acts.nowhere o p
flushes_leave leaves failed None p t = t
flushes_leave leaves failed (Some x) None t = absurd t
flushes_leave leaves failed (Some x) (Some y) t = t.leaves

-- a leaf on which a flush failed isn't offline
listed_in : (P : ℕ → Type 0) (xs : List ℕ) (x : ℕ) → All P xs → has_leaf xs x ≡ true → P x
listed_in P [] x all is = absurd_test false is refl
listed_in P (y ∷ ys) x all is = elim (either_true (y == x) (has_leaf ys x) is) [
  | inl here ↦ subst P (is_equal y x here) (All-head P y ys all)
  | inr behind ↦ listed_in P ys x (All-tail P y ys all) behind
]

pub failed_online : (slots : SlotTable) (shape : Shape) (leaves failed : List ℕ) (q : machine.Core) (leaf : ℕ) → HasSlots slots q → AreFlushed shape slots leaves → All (λ leaf. has_leaf leaves leaf ≡ true) failed
    → has_number failed leaf ≡ true → (a : machine.Arm) × (q.arm (Leaf leaf) ≡ Some a) × (a.offline ≡ false)
failed_online slots shape leaves failed q leaf has are among is =
    let one : IsOnline q leaf = listed_in (IsOnline q) leaves leaf (are.online q has) (listed_in (λ leaf. has_leaf leaves leaf ≡ true) failed leaf among (same_number failed leaf ∙ is)) in
    (one.arm, one.found, one.online)

-- no open write up to a group
pub no_ticket : (w : machine.State) (group : ℕ) → OpenUpto w group 0 → (k : Key) (h : Held) → w.core.held k ≡ Some h → is_block h.stage ≡ false → group < h.birth
no_ticket w group o k h held ticket = by (cases_lt group h.birth)
  where
    none : (keys : List Key) → 0 ≡ length keys → Contains keys k → ⊥
    none [] e among = (let less = among.1 in omega (arith, less))
    none (x ∷ xs) e among = absurd (omega (arith, e))

    by : (group < h.birth) ⊎ (h.birth ≤ group) → group < h.birth
    by (inl less) = less
    by (inr upto) = absurd (none o.keys o.many (o.all k h held ticket upto))

-- what is known where an area tells
pub on_told : (o : Option content.Content) (P Q : content.Content → Type 0) → ((x : content.Content) → P x → Q x) → content.OnTold o P → content.OnTold o Q
on_told None P Q f h = tt
on_told (Some x) P Q f h = f x h

-- the closing group is one in which blocks may be born
pub birth_low : (open_group group : ℕ) (closing : Option ℕ) → closing ≡ Some group → oldest_open open_group closing ≤ group
birth_low open_group group closing is = subst (λ o. oldest_open open_group o ≤ group) (sym is) (omega arith)

pub birth_high : (open_group group : ℕ) (closing : Option ℕ) → closing ≡ Some group → group < oldest_open open_group closing + birth_groups closing
birth_high open_group group closing is = subst (λ o. group < oldest_open open_group o + birth_groups o) (sym is) (omega arith)

-- ---- the event
module _ {R A : Type 0} (ghosts : Ghosts R) (old : Shard R A) (v : Valid ghosts old) (group : ℕ) (closing : old.closing ≡ Some group) (unsealed : old.sealed ≡ false) (rack : R) (even odd : A) (slots : SlotTable)
    (pass : Option Pass) (history : History) (leaves : List ℕ) (failed : Vec ℕ Global) (marks : List (List Bool)) (wrote : Bool) (are : AreFlushed (ghosts.shape old.rack) old.slots leaves)
    (among : All (λ leaf. has_leaf leaves leaf ≡ true) failed.items) (silent : AreSilent old.slots failed.items marks) (table : MarksTable old.slots slots marks wrote group) (loses : LosesTargets marks old.pass pass) where
  abbrev new : Shard R A
  new = record old { rack = rack; even = even; odd = odd; slots = slots; pass = pass; sealed = true; history = history }

  module _ (w : machine.State) (reached : IsReached (layout_by old) w) (at : IsIn old w) where
    pub seal_step : OpenUpto w group 0 → (wrote ≡ true → HasWritten w.core group) → (wrote ≡ false → HasWritten w.core group → ⊥)
        → SealStep (layout_by old) w group failed.items (seal_state (layout_by old) w group failed.items wrote)
    seal_step settled writes no_writes = record {
      wrote = wrote;
      closing = at.closing ∙ closing;
      unsealed = none_sealed w.sealed (at.sealed ∙ unsealed);
      settled = no_ticket w group settled;
      writes = writes;
      no_writes = no_writes;
      fail = λ leaf is. failed_online old.slots (ghosts.shape old.rack) leaves failed.items w.core leaf at.slots are among is;
      made = refl;
    } where
      none_sealed : (o : Option machine.Image) → is_some o ≡ false → o ≡ None
      none_sealed None e = refl
      none_sealed (Some i) e = absurd (true≢false e)

    -- no other state follows
    pub one_after : (after : machine.State) → SealStep (layout_by old) w group failed.items after → (wrote ≡ true → HasWritten w.core group) → (wrote ≡ false → HasWritten w.core group → ⊥)
        → after ≡ seal_state (layout_by old) w group failed.items wrote
    one_after after step writes no_writes = step.made ∙ ap (seal_state (layout_by old) w group failed.items) (same step.wrote wrote step.writes step.no_writes writes no_writes)
      where
        same : (a b : Bool) → (a ≡ true → HasWritten w.core group) → (a ≡ false → HasWritten w.core group → ⊥) → (b ≡ true → HasWritten w.core group) → (b ≡ false → HasWritten w.core group → ⊥) → a ≡ b
        same true true x n y m = refl
        same true false x n y m = absurd (m refl (x refl))
        same false true x n y m = absurd (n refl (y refl))
        same false false x n y m = refl

    pub sealed_in : IsIn new (seal_state (layout_by old) w group failed.items wrote)
    sealed_in = record {
      held = at.held;
      slots = sealed_slots (part_of old) old.slots slots v.slots w reached at.slots failed.items marks silent wrote group table;
      pass = sealed_pass (part_of old) old.slots slots v.slots w reached at.slots failed.items marks silent wrote group table old.pass pass at.pass loses;
      last = at.last;
      open_group_is = at.open_group_is;
      closing = at.closing;
      sealed = refl;
      committed = at.committed;
      version = at.version;
      asked = at.asked;
      serial = at.serial;
      loan = at.loan;
    }

  owes : owed_for_group old.closing old.sealed ≡ 2
  owes = ap₂ owed_for_group closing unsealed

  pub sealed_valid : ghosts.shape rack ≡ ghosts.shape old.rack → TicketsAreNew old.entries (group + 1) → owed_of history + 1 ≡ owed_of old.history → reserved_of history ≡ reserved_of old.history
      → stored_of old.history ≤ stored_of history → Valid ghosts new
  sealed_valid shape settled owed reserved stored = record {
    part = v.part;
    version = v.version;
    asked = v.asked;
    tables = v.tables;
    disabled = v.disabled ∙ sym (less_rebuild marks old.pass pass loses);
    few = v.few;
    here = v.here;
    slots = same_of old.slots slots old.geometry old.perms old.number group logs v.slots;
    once = once_kept old.slots slots table.arms_stay table.detached_stay v.once;
    pass = less_held marks old.slots slots old.last_pass old.pass pass loses table.arms_stay v.pass;
    kept = kept_still old.geometry old.pass pass old.kept (less_lends marks old.pass pass loses) v.kept;
    serial = (let low = v.serial in omega (arith, low, stored));
    flushed = flush_still old.geometry.spec.children (vec_capacity old.flushed) old.pass pass (less_lends marks old.pass pass loses) v.flushed;
    logs = subst (LogsHaveRoom slots (oldest_open old.open_group old.closing) (birth_groups old.closing)) (sym (changes_still old.pass pass old.closing (less_rebuild marks old.pass pass loses)))
        (logs_left old.slots slots (oldest_open old.open_group old.closing) (birth_groups old.closing) (changes_for_end old.pass old.closing) group
        (birth_low old.open_group group old.closing closing) (birth_high old.open_group group old.closing closing) logs v.logs);
    leaves = leaves_left (ghosts.shape old.rack) (ghosts.shape rack) old.geometry old.slots slots group shape logs v.leaves;
    groups = sealed_groups old.closing closing v.groups;
    low = v.low;
    tickets = v.tickets;
    settled = λ sealed. subst (TicketsAreNew old.entries) (sym (next_open old.closing closing v.groups)) settled;
    owed = (let was = v.owed in let pass = less_owed marks old.pass pass loses in let two = owes in let one : owed_for_group old.closing true ≡ 1 = ap (λ o. owed_for_group o true) closing in
        omega (arith, was, pass, two, one, owed, reserved));
  } where
    logs : LogsBirth group old.slots slots
    logs = logs_birth old.slots slots marks wrote group table

    next_open : (o : Option ℕ) → o ≡ Some group → AreGroups old.open_group o old.committed old.sealed → old.open_group ≡ group + 1
    next_open None e g = absurd (none_some None group refl e)
    next_open (Some t) e g = g.0 ∙ ap (λ n. n + 1) (some_same (Some t) t group refl e)

    sealed_groups : (o : Option ℕ) → o ≡ Some group → AreGroups old.open_group o old.committed old.sealed → AreGroups old.open_group o old.committed true
    sealed_groups None e g = absurd (none_some None group refl e)
    sealed_groups (Some t) e g = g
