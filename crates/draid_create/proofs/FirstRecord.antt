-- The record of group 1 of a new metaslab.
use Rattle.std.proofs.Common.{◌≡◌, ◌⊎◌, ◌∙◌, ℕ, Bool, true, false, nat_lt, [], Option, Some, None, IsSome, option_map, arith, refl, sym, ap, subst, if◌then◌else◌}
use Rattle.std.proofs.lemmas.Bool.{true≢false}
use Rattle.draid_names.specs.declared.arm.Arm.{Arm}
use Rattle.draid_names.specs.declared.arm.ArmAt.{ArmAt}
use Rattle.draid_names.specs.declared.arm.ArmKind.TheVariants as kind
use Rattle.draid_area.specs.Area as content
use Rattle.draid_pass.specs.declared.pass.Pass.{Pass}
use Rattle.draid_rack.specs.declared.Rack.{Ghosts}
use Rattle.draid_machine.specs.declared.names.ArmName.{ArmName}
use Rattle.draid_machine.specs.declared.names.ArmName.TheVariants.{Leaf, Spare}
use Rattle.draid_machine.specs.After.{image_of, seal_arm}
use Rattle.draid_machine.specs.Created.{IsReached, created, created_arm, created_core, new_arm}
use Rattle.draid_machine.specs.State as machine
use Rattle.draid_record.specs.declared.record.Record.{Record}
use Rattle.draid_record.specs.Record.{told_pass, told_record}
use Rattle.draid_slots.specs.Table.{arm_at}
use Rattle.draid_stable.specs.Images.{image_by}
use Rattle.draid_stable.specs.Sealing.{AreTables, IsMade, IsSettled, lose_marked}
use Rattle.draid_slots.specs.States.{arm_in, pass_in}
use Rattle.draid_machine.specs.Names.{named}
use Rattle.draid_stable.specs.Stable.{Stands}
use Rattle.draid_shard.specs.declared.shard.Shard.{Shard}
use Rattle.draid_shard.specs.Fits.{Valid}
use Rattle.draid_shard.specs.States.{IsIn, layout_by}
use Rattle.draid_pool.specs.Groups.{ListsOnce}
use Rattle.draid_pool.specs.Sealing.{head_of}
use Rattle.draid_pool.proofs.SealRecords.{record_stands}

-- what a seal keeps of a new metaslab's arms is all of them
seal_created : (l : machine.Layout) (n : ArmName) → seal_arm (created_arm l n) ≡ created_arm l n
seal_created l (Leaf m) = by (nat_lt m l.slots)
  where
    by : (b : Bool) → seal_arm (if b then Some new_arm else None) ≡ (if b then Some new_arm else None)
    by true = refl
    by false = refl
seal_created l (Spare t) = refl

created_image : (l : machine.Layout) (version : ℕ) → image_of 1 version (created_core l) ≡ (created l version).image
created_image l version = λ i. record { group = 1; version = version; core = record (created_core l) { arm = λ n. seal_created l n i } }

no_pass : {A : Type 0} (f : Pass → A) (o : Option Pass) → None ≡ option_map f o → o ≡ None
no_pass f None is = refl
no_pass f (Some p) is = absurd (cc)

module _ {R A : Type 0} (rack : Ghosts R) (old : Shard R A) (v : Valid rack old) (is_in : IsIn old (created (layout_by old) old.asked)) (made : Record)
    (is_made : IsMade (head_of old 1) old.entries old.slots old.pass old.last_pass made)
    (image : (q : machine.Core) → AreTables old.entries old.slots old.pass old.last_pass q → image_by (told_record made) ≡ image_of 1 old.asked q) where
  abbrev new_state : machine.State
  new_state = created (layout_by old) old.asked

  reached : IsReached (layout_by old) new_state
  reached = record { version = old.asked; one = subst (λ n. (n ≡ 1) ⊎ (n ≡ 2)) (sym is_in.version) v.version; events = []; run = refl }

  none : option_map told_pass made.pass ≡ None
  none = is_made.pass_is ∙ ap (option_map told_pass) (no_pass (pass_in old.slots) old.pass is_in.pass)

  settled : IsSettled made made [] false
  settled = record {
    version_is = refl;
    metaslab_is = refl;
    group_is = refl;
    blocks_are = refl;
    last_is = refl;
    written = λ wrote. absurd (true≢false (sym wrote));
    not_written = λ wrote. refl;
    pass_is = none ∙ sym (ap (option_map (lose_marked [])) none);
  }

  says : image_by (told_record made) ≡ new_state.image
  says = image new_state.core (record { held = is_in.held; slots_are = is_in.slots; pass_is = is_in.pass; last_is = is_in.last }) ∙ created_image (layout_by old) old.asked

  arms : (place : ArmAt) (a : Arm) → arm_at old.slots place ≡ Some a → a.kind ≡ kind.Leaf → IsSome (new_state.core.arm (Leaf a.number))
  arms place a there leaf = subst IsSome (sym (subst (λ k. new_state.core.arm (named k a.number) ≡ Some (arm_in old.slots place a)) leaf (is_in.slots.arms place a there))) refl

  pub first_record : (x : content.Content) → Stands (told_record made) x → ListsOnce old.geometry old.number new_state.image x
  first_record x stands =
      record_stands rack old v 1 (omega arith) (omega arith) new_state reached is_in made made is_made [] false settled new_state.core says arms x stands

-- ---- nothing is said of the area of odd groups

pub odd_valid : {R A : Type 0} (rack : Ghosts R) (old : Shard R A) (odd : A) → Valid rack old → Valid rack (record old { odd = odd })
odd_valid rack old odd v = record {
  part = v.part;
  version = v.version;
  asked = v.asked;
  tables = v.tables;
  disabled = v.disabled;
  few = v.few;
  here = v.here;
  slots = v.slots;
  once = v.once;
  pass = v.pass;
  kept = v.kept;
  serial = v.serial;
  flushed = v.flushed;
  logs = v.logs;
  leaves = v.leaves;
  groups = v.groups;
  low = v.low;
  tickets = v.tickets;
  settled = v.settled;
  owed = v.owed;
}

pub odd_in : {R A : Type 0} (old : Shard R A) (odd : A) (w : machine.State) → IsIn old w → IsIn (record old { odd = odd }) w
odd_in old odd w at = record {
  held = at.held;
  slots = at.slots;
  pass = at.pass;
  last = at.last;
  open_group_is = at.open_group_is;
  closing = at.closing;
  sealed = at.sealed;
  committed = at.committed;
  version = at.version;
  asked = at.asked;
  serial = at.serial;
  loan = at.loan;
}
