-- The record of a sealed group.
use Rattle.std.proofs.Common.{◌≡◌, ◌<◌, ◌+◌, ◌^◌, ◌∙◌, ◌&&◌, ℕ, Bool, true, false, List, Some, IsSome, Vec, Global, arith, ap, refl, sym, subst, length}
use Rattle.std.specs.List.{list_any}
use Rattle.draid_names.specs.declared.arm.Arm.{Arm}
use Rattle.draid_names.specs.declared.arm.ArmAt.{ArmAt}
use Rattle.draid_names.specs.declared.arm.ArmKind.TheVariants as kind
use Rattle.draid_names.specs.declared.numbers.TheConstants.{NUMBERS}
use Rattle.draid_names.specs.declared.pointer.Pointer.{Pointer}
use Rattle.draid_rack.specs.declared.Rack.{Ghosts}
use Rattle.draid_area.specs.Area as content
use Rattle.draid_machine.specs.declared.names.ArmName.TheVariants.{Leaf}
use Rattle.draid_entries.specs.Entries.{held_in}
use Rattle.draid_entries.specs.Live.{first_twice}
use Rattle.draid_machine.specs.After.{image_of, log_if, map_arm, seal_arm, seal_held, sealed_core}
use Rattle.draid_machine.specs.Arms.{is_silent, lies_on}
use Rattle.draid_machine.specs.Created.{IsReached}
use Rattle.draid_machine.specs.Sound.{Sound}
use Rattle.draid_machine.specs.State as machine
use Rattle.draid_machine.specs.Step.{HasWritten}
use Rattle.draid_machine.proofs.Bounds.{every_log}
use Rattle.draid_machine.proofs.Rows.{reached_sound}
use Rattle.draid_record.specs.declared.record.Record.{Record}
use Rattle.draid_record.specs.Record.{limits_of, told_record, told_slots}
use Rattle.draid_record.specs.Ranges.{IsRanged}
use Rattle.draid_record.specs.Written.{body_bytes}
use Rattle.draid_slots.specs.Table.{arm_at, is_logged}
use Rattle.draid_marks.specs.Silent.{AreSilent}
use Rattle.draid_stable.specs.Images.{LeavesBelow, image_by}
use Rattle.draid_stable.specs.Sealing.{AreMarked, AreTables, IsMade, IsSettled, was_born}
use Rattle.draid_slots.specs.States.{arm_in, name_of}
use Rattle.draid_machine.specs.Names.{named}
use Rattle.draid_stable.specs.Stable.{Stands}
use Rattle.draid_stable.specs.Within.{LogsFit}
use Rattle.draid_stable.proofs.Born.{born_written, none_written}
use Rattle.draid_stable.proofs.Logs.{copied_small, settled_fits}
use Rattle.draid_stable.proofs.Made.{marked_told}
use Rattle.draid_stable.proofs.Ranged.{settled_ranged}
use Rattle.draid_shard.specs.Fits.{Valid}
use Rattle.draid_shard.specs.States.{IsIn, layout_by, part_of}
use Rattle.draid_shard.specs.declared.shard.Shard.{Shard}
use Rattle.draid_shard.proofs.Homes.{lays}
use Rattle.draid_pool.specs.Groups.{ListsOnce, at_version}
use Rattle.draid_pool.specs.Sealing.{IsPlan, head_of}
use Rattle.draid_pool.specs.declared.sealing.Plan.{Plan}
use Rattle.draid_pool.proofs.ListedOnce.{lists_once}
use Rattle.draid_pool.proofs.Ranging.{NumbersFit, closing_low, tables_fit}
use Rattle.draid_pool.proofs.SealSteps.{marked_here}

-- what settling makes of the image that a record says
abbrev pub Settles : Record → Record → List (List Bool) → Bool → Type 0
Settles old new marks wrote =
    (l : machine.Layout) (q : machine.Core) (failed : List ℕ) → AreMarked (told_slots old.slots.items) marks (lies_on l q (is_silent q failed)) → image_by (told_record old) ≡ image_of old.group old.version q
    → image_by (told_record new) ≡ image_of old.group old.version (sealed_core l q old.group failed wrote)

-- ---- a record that was made and settled, in whatever group

module _ {R A : Type 0} (rack : Ghosts R) (old : Shard R A) (v : Valid rack old) (group : ℕ) (low : group < NUMBERS) (some_group : 0 < group) (w : machine.State) (reached : IsReached (layout_by old) w)
    (at : IsIn old w) (made new : Record) (is_made : IsMade (head_of old group) old.entries old.slots old.pass old.last_pass made) (marks : List (List Bool)) (wrote : Bool)
    (settled : IsSettled made new marks wrote) (core : machine.Core) (says : image_by (told_record new) ≡ record { group = group; version = old.asked; core = core })
    (arms : (place : ArmAt) (a : Arm) → arm_at old.slots place ≡ Some a → a.kind ≡ kind.Leaf → IsSome (core.arm (Leaf a.number))) where
  abbrev image : machine.Image
  image = record { group = group; version = old.asked; core = core }

  clean : (place : ArmAt) (a : Arm) → arm_at old.slots place ≡ Some a → is_logged old.slots place 0 ≡ false
  clean place a there = by (is_logged old.slots place 0) refl
    where
      by : (b : Bool) → is_logged old.slots place 0 ≡ b → b ≡ false
      by false is = refl
      by true is = absurd (let one = (every_log (layout_by old) w (lays (part_of old) v.part) reached).low (name_of a) (arm_in old.slots place a) 0 (at.slots.arms place a there) is in omega (arith, one))

  numbers : (next : ℕ) → LeavesBelow next image → NumbersFit old.slots next
  numbers next below = record {
    small = copied_small old.slots made.slots.items is_made.slots_are;
    leaves = λ place a there leaf. below a.number (arms place a there leaf);
  }

  logs_fit : length (body_bytes (told_record new)) + 10 < 2 ^ 32 → LogsFit (told_slots new.slots.items)
  logs_fit short = settled_fits (head_of old group) old.entries old.slots old.pass old.last_pass made new marks wrote is_made settled some_group clean (omega (arith, short))

  pub record_stands : (x : content.Content) → Stands (told_record new) x → ListsOnce old.geometry old.number image x
  record_stands x stands = record {
    has = record {
      value = told_record new;
      says = says;
      stands = stands;
      ranged = λ next below. ranged next below stands.short;
    };
    once = ap (λ (bs : Vec Pointer Global). first_twice bs.items) settled.blocks_are ∙ lists_once (λ key. seal_held group (held_in old.entries key)) made.blocks.items is_made.blocks_are.ascending is_made.blocks_are.says.each;
  } where
    ranged : (next : ℕ) → LeavesBelow next image → length (body_bytes (told_record new)) + 10 < 2 ^ 32 → IsRanged (limits_of (at_version old.asked old.geometry) old.number group next) (told_record new)
    ranged next below short =
        settled_ranged (limits_of (at_version old.asked old.geometry) old.number group next) (head_of old group) old.entries old.slots old.pass old.last_pass made is_made
        (record { version_is = refl; metaslab_is = refl; group_is = refl })
        (tables_fit rack old v group next low w reached at (reached_sound (layout_by old) (lays (part_of old) v.part) w reached) (numbers next below)) new marks wrote settled (logs_fit short)

-- ---- that of a group that is sealed

module _ {R A : Type 0} (rack : Ghosts R) (old : Shard R A) (v : Valid rack old) (group : ℕ) (closing : old.closing ≡ Some group) (plan : Plan) (is_plan : IsPlan (rack.shape old.rack) old group plan)
    (w : machine.State) (reached : IsReached (layout_by old) w) (at : IsIn old w) where
  tables : AreTables old.entries old.slots old.pass old.last_pass w.core
  tables = record { held = at.held; slots_are = at.slots; pass_is = at.pass; last_is = at.last }

  sound : Sound (layout_by old) w
  sound = reached_sound (layout_by old) (lays (part_of old) v.part) w reached

  -- ---- whether something was written
  pub writes : (wrote : Bool) → wrote ≡ list_any (was_born plan.made.group) plan.made.blocks.items → wrote ≡ true → HasWritten w.core group
  writes wrote is some =
      born_written old.entries group plan.made.blocks.items is_plan.made.blocks_are w.core at.held
      (subst (λ g. list_any (was_born g) plan.made.blocks.items ≡ true) is_plan.made.group_is (sym is ∙ some))

  pub no_writes : (wrote : Bool) → wrote ≡ list_any (was_born plan.made.group) plan.made.blocks.items → wrote ≡ false → HasWritten w.core group → ⊥
  no_writes wrote is none =
      none_written old.entries group plan.made.blocks.items is_plan.made.blocks_are w.core at.held
      (subst (λ g. list_any (was_born g) plan.made.blocks.items ≡ false) is_plan.made.group_is (sym is ∙ none))

  -- ---- groups
  pub some_group : 0 < group
  some_group = let a = sound.groups.some in let b = (sound.groups.closing_is group (at.closing ∙ closing)).0 in omega (arith, a, b)

  module _ (new : Record) (marks : List (List Bool)) (failed : List ℕ) (wrote : Bool) (settled : IsSettled plan.made new marks wrote) (settles : Settles plan.made new marks wrote) (silent : AreSilent old.slots failed marks) where
    abbrev pub sealed_image : machine.Image
    sealed_image = image_of group old.asked (sealed_core (layout_by old) w.core group failed wrote)

    says : image_by (told_record new) ≡ sealed_image
    says =
        let m = is_plan.made in
        settles (layout_by old) w.core failed
        (marked_told old.slots plan.made.slots.items marks (lies_on (layout_by old) w.core (is_silent w.core failed)) m.slots_are
        (marked_here (part_of old) old.slots v.slots w reached at.slots failed marks silent))
        (is_plan.image w.core tables ∙ (λ i. image_of (sym m.group_is i) (sym m.version_is i) w.core))
        ∙ (λ i. image_of (m.group_is i) (m.version_is i) (sealed_core (layout_by old) w.core (m.group_is i) failed wrote))

    named_here : (place : ArmAt) (a : Arm) → arm_at old.slots place ≡ Some a → a.kind ≡ kind.Leaf → IsSome (sealed_image.core.arm (Leaf a.number))
    named_here place a there leaf =
        subst (λ o. IsSome (seal_arm (map_arm (log_if (wrote && lies_on (layout_by old) w.core (is_silent w.core failed) (Leaf a.number)) group) o)))
        (sym (subst (λ k. w.core.arm (named k a.number) ≡ Some (arm_in old.slots place a)) leaf (at.slots.arms place a there))) refl

    pub has_record : (x : content.Content) → Stands (told_record new) x → ListsOnce old.geometry old.number sealed_image x
    has_record x stands =
        record_stands rack old v group (closing_low rack old v group closing) some_group w reached at plan.made new is_plan.made marks wrote settled sealed_image.core says named_here x stands
