-- The record of a group, before and after it is settled, is in its ranges.
use Rattle.std.proofs.Common.{◌≡◌, ◌==◌, ◌<◌, ◌≤◌, ◌^◌, ◌⊎◌, inl, inr, ℕ, zero, suc, Bool, true, false, List, [], ◌∷◌, length, map, Option, Some, None, IfSome, if◌then◌else◌, refl, sym, ◌∙◌, ap, subst, arith, option_map, slice_index_or}
use Rattle.std.specs.declared.alloc.Global.{Global}
use Rattle.std.specs.declared.vec.Vec.{Vec}
use Rattle.std.proofs.lemmas.Bool.{cases_lt}
use Rattle.std.proofs.lemmas.List.{length-map}
use Rattle.draid_names.specs.Numbers.{most_held}
use Rattle.draid_names.specs.declared.arm.Arm.{Arm}
use Rattle.draid_names.specs.declared.numbers.TheConstants.{NUMBERS}
use Rattle.draid_names.specs.declared.pointer.Pointer.{Pointer}
use Rattle.draid_pass.specs.declared.pass.Pass.{Pass}
use Rattle.draid_ranges.specs.Numbers.{Numbers}
use Rattle.draid_slots.specs.Table.{IsTable, SlotTable, arms_of}
use Rattle.draid_entries.specs.declared.entries.Entries.{Entries}
use Rattle.draid_entries.specs.Listed.{ListsBlocks}
use Rattle.draid_record.specs.declared.limits.Limits.{Limits}
use Rattle.draid_record.specs.declared.record.Record.{Record}
use Rattle.draid_record.specs.Ranges.{IsPassOrNone, IsRanged}
use Rattle.draid_record.specs.Record.{ArmTold, PassTold, RecordTold, told_arm, told_pass, told_record, told_slot, told_slots}
use Rattle.draid_stable.specs.Sealing.{CopiesSlots, IsMade, IsSettled, MarksSlots, lose_marked}
use Rattle.draid_stable.specs.Within.{ArmsFit, EntriesFit, LimitsFit, LimitsOf, LogsFit, PassFits, TablesFit, TellsArms}
use Rattle.draid_stable.specs.declared.sealing.Head.{Head}
use Rattle.draid_stable.proofs.Armed.{slots_ranged}
use Rattle.draid_stable.proofs.Blocks.{blocks_ranged, runs_few}
use Rattle.draid_stable.proofs.Made.{each_told, first_arms}
use Rattle.draid_stable.proofs.Settled.{Zipped, zip_at, zip_from, zip_map}
use Rattle.draid_stable.proofs.Targets.{lose_fits, pass_ranged}

-- ---- what is told of tables that fit
pub record ToldFits (limits : Limits) (entries : Entries) (table : SlotTable) (value : RecordTold) : Type 0 where
  pub version_is : value.version ≡ limits.version
  pub metaslab_is : value.metaslab ≡ limits.metaslab
  pub group_is : value.group ≡ limits.group
  pub limits_fit : LimitsFit limits
  pub entries_fit : EntriesFit limits entries
  pub arms_fit : ArmsFit limits table
  pub sound : IsTable table
  pub blocks_are : ListsBlocks entries limits.group value.blocks
  pub slots_are : TellsArms table value.slots
  pub logs : LogsFit value.slots
  pub pass_fits : IfSome value.pass (PassFits limits table)
  pub last_small : value.last_pass < NUMBERS

most_small : (version : ℕ) → most_held version < 2 ^ 32
most_small version = by (version == 1)
  where
    by : (b : Bool) → (if b then 4096 else 8192) < 2 ^ 32
    by true = omega arith
    by false = omega arith

module _ (limits : Limits) (entries : Entries) (table : SlotTable) (value : RecordTold) (t : ToldFits limits entries table value) where
  count_is : (slot : ℕ) → length (slice_index_or value.slots slot []) ≡ length (arms_of table slot)
  count_is slot = sym (length-map (slice_index_or value.slots slot []) (λ (told : ArmTold). told.0)) ∙ ap length (t.slots_are.same slot)

  children_are : length value.slots ≡ limits.children
  children_are = t.slots_are.count ∙ t.sound.slots.children ∙ t.arms_fit.children

  none_beyond : (arms : List (List Arm)) (slot : ℕ) → length arms ≤ slot → length (slice_index_or arms slot []) ≤ 3
  none_beyond [] slot far = omega arith
  none_beyond (x ∷ xs) zero far = absurd (omega (arith, far))
  none_beyond (x ∷ xs) (suc k) far = none_beyond xs k (omega (arith, far))

  most : (slot : ℕ) → length (slice_index_or value.slots slot []) ≤ 3
  most slot = subst (λ n. n ≤ 3) (sym (count_is slot)) (by (cases_lt slot (length table.arms)))
    where
      by : (slot < length table.arms) ⊎ (length table.arms ≤ slot) → length (arms_of table slot) ≤ 3
      by (inl less) = (t.sound.slots.each slot [] less).most
      by (inr far) = none_beyond table.arms slot far

  few_slots : length value.slots ≤ 64
  few_slots = let c = children_are in let l = t.limits_fit.children_few in omega (arith, c, l)

  pass_is : (o : Option PassTold) → IfSome o (PassFits limits table) → IsPassOrNone limits value.slots o
  pass_is None fits = tt
  pass_is (Some p) fits = pass_ranged value.slots most few_slots limits table count_is p fits

  pub told_ranged : IsRanged limits value
  told_ranged =
      let l = t.limits_fit in
      let few : length value.blocks ≤ most_held limits.version = (let a = t.blocks_are.few in let b = t.entries_fit.few in omega (arith, a, b)) in
      record {
        version_is = t.version_is;
        version_small = (let v = t.version_is in let s = l.version_small in omega (arith, v, s));
        metaslab_is = t.metaslab_is;
        metaslab_small = l.metaslab_small;
        group_is = t.group_is;
        group_small = l.group_small;
        children_are = children_are;
        children_few = (let c = l.children_few in omega (arith, c));
        slots_are = slots_ranged limits table t.sound t.arms_fit value.slots t.slots_are t.logs;
        last_small = t.last_small;
        pass_is = pass_is value.pass t.pass_fits;
        stripes_small = l.stripes_small;
        blocks_are = blocks_ranged limits entries t.entries_fit value.blocks t.blocks_are;
        few = few;
        few_spaces = (let r = runs_few value.blocks in let m = most_small limits.version in omega (arith, few, r, m));
      }

-- ---- the record that is made
tells_arms : (table : SlotTable) (lists : List (Vec (Arm × Numbers) Global)) → CopiesSlots table lists → TellsArms table (told_slots lists)
tells_arms table lists copies = record {
  count = length-map lists (λ (list : Vec (Arm × Numbers) Global). told_slot list.items) ∙ copies.count;
  same = λ slot. first_arms table (told_slots lists) (each_told table lists copies) slot;
}

module _ (limits : Limits) (head : Head) (entries : Entries) (table : SlotTable) (pass : Option Pass) (last : ℕ) (it : Record) (made : IsMade head entries table pass last it) (of : LimitsOf limits head)
    (fit : TablesFit limits entries table pass last) where
  made_fits : LogsFit (told_slots it.slots.items) → ToldFits limits entries table (told_record it)
  made_fits logs = record {
    version_is = made.version_is ∙ of.version_is;
    metaslab_is = made.metaslab_is ∙ of.metaslab_is;
    group_is = made.group_is ∙ of.group_is;
    limits_fit = fit.limits_fit;
    entries_fit = fit.entries_fit;
    arms_fit = fit.arms_fit;
    sound = made.sound;
    blocks_are = subst (λ g. ListsBlocks entries g it.blocks.items) of.group_is made.blocks_are;
    slots_are = tells_arms table it.slots.items made.slots_are;
    logs = logs;
    pass_fits = subst (λ o. IfSome o (PassFits limits table)) (sym made.pass_is) fit.pass_fits;
    last_small = subst (λ n. n < NUMBERS) (sym made.last_is) fit.last_small;
  }

  pub made_ranged : LogsFit (told_slots it.slots.items) → IsRanged limits (told_record it)
  made_ranged logs = told_ranged limits entries table (told_record it) (made_fits logs)

  -- ---- and the one that is settled
  module _ (new : Record) (marks : List (List Bool)) (wrote : Bool) (settled : IsSettled it new marks wrote) where
    abbrev SameArm : ArmTold → ArmTold → Type 0
    SameArm x y = y.0 ≡ x.0

    firsts : (xs ys : List ArmTold) → Zipped SameArm xs ys → map (λ (told : ArmTold). told.0) ys ≡ map (λ (told : ArmTold). told.0) xs
    firsts [] [] z = refl
    firsts [] (y ∷ ys) z = absurd z
    firsts (x ∷ xs) [] z = absurd z
    firsts (x ∷ xs) (y ∷ ys) z = let rest = firsts xs ys z.1 in λ i. z.0 i ∷ rest i

    marked_arms : (olds news : List (Vec (Arm × Numbers) Global)) → MarksSlots olds news marks it.group → Zipped (Zipped SameArm) (told_slots olds) (told_slots news)
    marked_arms olds news m =
        zip_map (Zipped SameArm) (λ (list : Vec (Arm × Numbers) Global). told_slot list.items) olds news
        (zip_from (λ (x y : Vec (Arm × Numbers) Global). Zipped SameArm (told_slot x.items) (told_slot y.items)) olds news m.count
        (λ k d less. let s = m.each k d less in
        zip_map SameArm told_arm (slice_index_or olds k d).items (slice_index_or news k d).items
        (zip_from (λ x y. SameArm (told_arm x) (told_arm y)) (slice_index_or olds k d).items (slice_index_or news k d).items s.count (λ j e l. (s.each j e l).arm))))

    news_tell : (b : Bool) → (b ≡ true → MarksSlots it.slots.items new.slots.items marks it.group) → (b ≡ false → new.slots ≡ it.slots) → TellsArms table (told_slots new.slots.items)
    news_tell true marked same =
        let m = marked refl in
        let before = tells_arms table it.slots.items made.slots_are in
        let tell : Vec (Arm × Numbers) Global → List ArmTold = λ list. told_slot list.items in
        record {
          count = length-map new.slots.items tell ∙ m.count ∙ made.slots_are.count;
          same = λ slot.
              firsts (slice_index_or (told_slots it.slots.items) slot []) (slice_index_or (told_slots new.slots.items) slot [])
              (zip_at SameArm (told_slots it.slots.items) (told_slots new.slots.items) slot (marked_arms it.slots.items new.slots.items m))
              ∙ before.same slot;
        }
    news_tell false marked same = subst (λ (v : Vec (Vec (Arm × Numbers) Global) Global). TellsArms table (told_slots v.items)) (sym (same refl)) (tells_arms table it.slots.items made.slots_are)

    lost_fits : (o : Option PassTold) → IfSome o (PassFits limits table) → IfSome (option_map (lose_marked marks) o) (PassFits limits table)
    lost_fits None fits = tt
    lost_fits (Some p) fits = lose_fits limits table marks p fits

    pub settled_ranged : LogsFit (told_slots new.slots.items) → IsRanged limits (told_record new)
    settled_ranged logs = told_ranged limits entries table (told_record new) (record {
      version_is = settled.version_is ∙ made.version_is ∙ of.version_is;
      metaslab_is = settled.metaslab_is ∙ made.metaslab_is ∙ of.metaslab_is;
      group_is = settled.group_is ∙ made.group_is ∙ of.group_is;
      limits_fit = fit.limits_fit;
      entries_fit = fit.entries_fit;
      arms_fit = fit.arms_fit;
      sound = made.sound;
      blocks_are = subst (λ (v : Vec Pointer Global). ListsBlocks entries limits.group v.items) (sym settled.blocks_are) (subst (λ g. ListsBlocks entries g it.blocks.items) of.group_is made.blocks_are);
      slots_are = news_tell wrote settled.written settled.not_written;
      logs = logs;
      pass_fits = subst (λ o. IfSome o (PassFits limits table)) (sym settled.pass_is)
          (lost_fits (option_map told_pass it.pass) (subst (λ o. IfSome o (PassFits limits table)) (sym made.pass_is) fit.pass_fits));
      last_small = subst (λ n. n < NUMBERS) (sym (settled.last_is ∙ made.last_is)) fit.last_small;
    })
