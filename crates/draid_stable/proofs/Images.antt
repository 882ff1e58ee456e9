-- The image that a record of the tables says.
use Rattle.std.proofs.Common.{◌≡◌, ◌<◌, ℕ, List, [], length, Option, Some, None, IfSome, refl, sym, ◌∙◌, ap, subst, arith, option_map, slice_index_or}
use Rattle.std.proofs.lemmas.List.Elements.{All-weaker}
use Rattle.draid_names.specs.declared.arm.ArmAt.{ArmAt}
use Rattle.draid_pass.specs.declared.pass.Pass.{Pass}
use Rattle.draid_slots.specs.Table.{SlotTable, arms_of}
use Rattle.draid_machine.specs.After.{image_of, seal_arm, seal_held}
use Rattle.draid_machine.specs.State as machine
use Rattle.draid_entries.specs.declared.entries.Entries.{Entries}
use Rattle.draid_entries.specs.Entries.{held_in}
use Rattle.draid_record.specs.Record.{ArmTold, told_pass, told_record, told_slots}
use Rattle.draid_record.specs.declared.record.Record.{Record}
use Rattle.draid_stable.specs.Images.{arm_by, held_by, image_by, order_by, pass_of}
use Rattle.draid_stable.specs.Sealing.{AreTables, AreThere, IsMade, IsReady, SaysCore}
use Rattle.draid_slots.specs.States.{IsCurrent, pass_in}
use Rattle.draid_stable.specs.declared.sealing.Head.{Head}
use Rattle.draid_stable.proofs.Lists.{arms_say, blocks_say}
use Rattle.draid_stable.proofs.Made.{TellsSlot, each_told, says_core, told_targets}

module _ (head : Head) (entries : Entries) (table : SlotTable) (pass : Option Pass) (last : ℕ) (it : Record) (current : IfSome pass (IsCurrent table last)) (made : IsMade head entries table pass last it)
    (q : machine.Core) (are : AreTables entries table pass last q) where
  abbrev told : List (List ArmTold)
  told = told_slots it.slots.items

  tells : (slot : ℕ) → TellsSlot table slot (slice_index_or told slot [])
  tells = each_told table it.slots.items made.slots_are

  core : SaysCore told q
  core = says_core table told tells q are.slots_are

  held : held_by it.blocks.items ≡ (λ k. seal_held head.group (q.held k))
  held = blocks_say it.blocks.items (λ key. seal_held head.group (held_in entries key)) made.blocks_are.says ∙ (λ i key. seal_held head.group (sym (are.held key) i))

  arm : arm_by told ≡ (λ n. seal_arm (q.arm n))
  arm = arms_say told (λ n. seal_arm (q.arm n)) core.arms

  order : order_by told ≡ q.order
  order = λ i slot. core.order slot i

  own_pass : (o : Option Pass) → IfSome o (IsCurrent table last) → option_map (pass_of (told_record it)) (option_map told_pass o) ≡ option_map (pass_in table) o
  own_pass None c = refl
  own_pass (Some p) c = λ i. Some (record {
    number = (made.last_is ∙ sym c.number) i;
    kind = p.kind;
    targets = told_targets table told tells p.targets.items c.targets i;
    max = p.max;
    next = p.at;
    errors = p.errors;
    running = p.running;
  })

  passes : option_map (pass_of (told_record it)) (option_map told_pass it.pass) ≡ q.pass
  passes = ap (option_map (pass_of (told_record it))) made.pass_is ∙ own_pass pass current ∙ sym are.pass_is

  pub made_image : image_by (told_record it) ≡ image_of head.group head.version q
  made_image = λ i. record {
    group = made.group_is i;
    version = made.version_is i;
    core = record { held = held i; arm = arm i; order = order i; pass = passes i; last = (made.last_is ∙ sym are.last_is) i };
  }

-- ---- it is ready to be settled
module _ (head : Head) (entries : Entries) (table : SlotTable) (pass : Option Pass) (last : ℕ) (it : Record) (current : IfSome pass (IsCurrent table last)) (made : IsMade head entries table pass last it) where
  all_told : (o : Option Pass) → IfSome o (IsCurrent table last) → IfSome (option_map told_pass o) (λ p. AreThere (told_slots it.slots.items) p.targets)
  all_told None c = tt
  all_told (Some p) c =
      All-weaker (λ (place : ArmAt). place.arm < length (arms_of table place.slot)) (λ (place : ArmAt). place.arm < length (slice_index_or (told_slots it.slots.items) place.slot []))
      (λ place less. let t = (each_told table it.slots.items made.slots_are place.slot).count in omega (arith, less, t)) p.targets.items c.targets

  untold : (o : Option Pass) → IfSome (option_map told_pass o) (λ p. AreThere (told_slots it.slots.items) p.targets) → IfSome o (λ pass. AreThere (told_slots it.slots.items) pass.targets.items)
  untold None t = tt
  untold (Some p) t = t

  pub made_ready : IsReady it
  made_ready = record {
    room = λ k d less j e l. ((made.slots_are.each k d less).each j e l).room;
    targets = untold it.pass (subst (λ o. IfSome o (λ p. AreThere (told_slots it.slots.items) p.targets)) (sym made.pass_is) (all_told pass current));
  }
