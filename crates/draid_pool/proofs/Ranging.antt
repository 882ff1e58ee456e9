-- The tables of a shard fit the ranges of a record.
use Rattle.std.proofs.Common.{◌≡◌, ◌<◌, ◌≤◌, ◌+◌, ◌-◌, ◌*◌, ◌/◌, ◌%◌, ◌^◌, ◌⊎◌, ◌∙◌, ℕ, Bool, true, false, List, Option, Some, None, IfSome, All, arith, refl, sym, ap, subst, inl, inr, min}
use Rattle.std.proofs.Math.Nat.{mod-lt}
use Rattle.std.proofs.lemmas.Bool.{cases_lt}
use Rattle.std.proofs.lemmas.List.Elements.{All-weaker}
use Rattle.std.proofs.lemmas.Nat.{div-mul-add}
use Rattle.draid_names.specs.declared.pointer.Pointer.{Pointer}
use Rattle.draid_entries.specs.Listed.{IsListed, ListsBlocks}
use Rattle.draid_map.proofs.Radix.{its_digits}
use Rattle.draid_block.specs.Blocks.{cut_of}
use Rattle.draid_block.specs.Columns as block
use Rattle.draid_spec.specs.Geometry.{IsGeometry}
use Rattle.std.specs.Prelude.{option_map}
use Rattle.draid_names.specs.Numbers.{most_held}
use Rattle.draid_names.specs.declared.arm.Arm.{Arm}
use Rattle.draid_names.specs.declared.arm.ArmAt.{ArmAt}
use Rattle.draid_names.specs.declared.arm.ArmKind.TheVariants as kind
use Rattle.draid_names.specs.declared.numbers.TheConstants.{NUMBERS}
use Rattle.draid_names.specs.declared.pass_kind.PassKind.{PassKind}
use Rattle.draid_names.specs.declared.pass_kind.PassKind.TheVariants.{Rebuild, Heal}
use Rattle.draid_spec.specs.declared.layout.Geometry.{Geometry}
use Rattle.draid_rack.specs.declared.Rack.{Ghosts}
use Rattle.draid_pass.specs.declared.pass.Pass.{Pass}
use Rattle.draid_entries.specs.declared.entry.Entry.{Entry}
use Rattle.draid_entries.specs.Entries.{entry_at}
use Rattle.draid_entries.specs.Maps.{held_at, key_of, staged}
use Rattle.draid_machine.specs.Created.{IsReached}
use Rattle.draid_machine.specs.Fitting as fitting
use Rattle.draid_machine.specs.Fitting.{Fitting}
use Rattle.draid_machine.specs.Images.{Owned}
use Rattle.draid_machine.specs.Names.{has_name, named}
use Rattle.draid_machine.specs.Sound.{Sound}
use Rattle.draid_machine.specs.State as machine
use Rattle.draid_machine.proofs.Fitted.{every_fit}
use Rattle.draid_machine.proofs.Losing.{every_segment}
use Rattle.draid_record.specs.declared.limits.Limits.{Limits}
use Rattle.draid_record.specs.Ranges.{least_running}
use Rattle.draid_record.specs.Record.{limits_of, stripes_of, told_pass}
use Rattle.draid_record.specs.Written.{bit}
use Rattle.draid_slots.specs.Table.{SlotTable, arm_at, arms_of}
use Rattle.draid_slots.specs.States.{HoldsPass, arm_in, name_of, pass_in}
use Rattle.draid_stable.specs.Within.{ArmsFit, EntriesFit, IsPlaced, LimitsFit, PassFits, TablesFit}
use Rattle.draid_shard.specs.Fits.{Valid}
use Rattle.draid_shard.specs.Fits as fits
use Rattle.draid_shard.specs.States.{IsIn, layout_by, part_of}
use Rattle.draid_shard.specs.declared.shard.Shard.{Shard}
use Rattle.draid_shard.proofs.Answering.{name_listed, once_apart}
use Rattle.draid_shard.proofs.Sizes.{few_stripes}
use Rattle.draid_shard.proofs.Held.{key_leads}
use Rattle.draid_shard.proofs.Homes.{lays}
use Rattle.draid_pool.specs.Groups.{at_version}

small_version : (n : ℕ) → fitting.IsVersion n → n < 2 ^ 16
small_version n (inl one) = omega (arith, one)
small_version n (inr two) = omega (arith, two)

-- a later version holds no less
more_held : (n m : ℕ) → fitting.IsVersion n → fitting.IsVersion m → n ≤ m → most_held n ≤ most_held m
more_held n m a b less = grind (arith, a, b, less)

-- the stripes of a block, as the record counts them
div_up : (x y : ℕ) → 0 < y → (x + y - 1) / y ≡ x / y + min 1 (x % y)
div_up x y some = by (cases_lt (x % y) 1)
  where
    parts : x / y * y + x % y ≡ x
    parts = its_digits y x

    by : (x % y < 1) ⊎ (1 ≤ x % y) → (x + y - 1) / y ≡ x / y + min 1 (x % y)
    by (inl none) =
        let sum : x + y - 1 ≡ x / y * y + (y - 1) = (let p = parts in omega (arith, p, none, some)) in
        ap (λ n. n / y) sum ∙ div-mul-add (x / y) y (y - 1) (omega (arith, some)) ∙ omega (arith, none)
    by (inr more) =
        let next : (x / y + 1) * y ≡ x / y * y + y = grind arith in
        let sum : x + y - 1 ≡ (x / y + 1) * y + (x % y - 1) = (let p = parts in omega (arith, p, more, next)) in
        let less = mod-lt x some in
        ap (λ n. n / y) sum ∙ div-mul-add (x / y + 1) y (x % y - 1) (omega (arith, less, more)) ∙ omega (arith, more)

same_stripes : (geometry : Geometry) → IsGeometry geometry → (limits : Limits) (len : ℕ) → limits.sector ≡ geometry.props.sector → limits.ndata ≡ geometry.spec.ndata
    → block.stripes_of (cut_of geometry) len ≡ stripes_of limits len
unfolding block.stripes_of block.sectors_of
same_stripes geometry is limits len sector ndata =
    let some : 0 < geometry.props.sector = by is.props.sector in
    let columns : 0 < geometry.spec.ndata = (let d = is.spec.some_data in omega (arith, d)) in
    sym (ap (λ n. n / geometry.spec.ndata + min 1 (n % geometry.spec.ndata)) (div_up len geometry.props.sector some))
    ∙ sym (div_up ((len + geometry.props.sector - 1) / geometry.props.sector) geometry.spec.ndata columns)
    ∙ (λ i. ((len + sym sector i - 1) / sym sector i + sym ndata i - 1) / sym ndata i)
  where
    by : (geometry.props.sector ≡ 512) ⊎ (geometry.props.sector ≡ 4096) → 0 < geometry.props.sector
    by (inl e) = omega (arith, e)
    by (inr e) = omega (arith, e)

-- each arm of the slots has a number of 64 bits, and no leaf one from the next on
pub record NumbersFit (slots : SlotTable) (next : ℕ) : Type 0 where
  pub small : (at : ArmAt) (arm : Arm) → arm_at slots at ≡ Some arm → arm.number < 2 ^ 64
  pub leaves : (at : ArmAt) (arm : Arm) → arm_at slots at ≡ Some arm → arm.kind ≡ kind.Leaf → arm.number < next

-- the closing group has a number of 48 bits
pub closing_low : {R A : Type 0} (rack : Ghosts R) (shard : Shard R A) → Valid rack shard → (group : ℕ) → shard.closing ≡ Some group → group < NUMBERS
closing_low rack shard v group closing =
    let groups = subst (λ c. fits.AreGroups shard.open_group c shard.committed shard.sealed) closing v.groups in
    let open_group = groups.0 in
    let low = v.low in
    omega (arith, open_group, low)

module _ {R A : Type 0} (rack : Ghosts R) (shard : Shard R A) (v : Valid rack shard) (group next : ℕ) (group_low : group < NUMBERS) (w : machine.State) (reached : IsReached (layout_by shard) w)
    (is_in : IsIn shard w) where
  abbrev limits : Limits
  limits = limits_of (at_version shard.asked shard.geometry) shard.number group next

  fit : Fitting (layout_by shard) w
  fit = every_fit (layout_by shard) w (lays (part_of shard) v.part) reached

  owned : Owned (layout_by shard) w
  owned = every_segment (layout_by shard) w (lays (part_of shard) v.part) reached

  asked_is : fitting.IsVersion shard.asked
  asked_is = subst fitting.IsVersion is_in.asked fit.versions.asked

  pub limits_fit : LimitsFit limits
  limits_fit =
      let is = v.part.layout.geometry_is in
      record {
        version_small = small_version shard.asked asked_is;
        metaslab_small = (let a = v.part.below in let b = is.props.most_metaslabs in omega (arith, a, b));
        group_small = group_low;
        children_few = is.spec.most_children;
        stripes_small = few_stripes shard.geometry is;
      }

  -- ---- blocks
  one_placed : (sound : Sound (layout_by shard) w) (first : ℕ) (e : Entry) → entry_at shard.entries first ≡ Some e → IsPlaced limits e.pointer
  one_placed sound first e there =
      let p = v.tables.placed first e there in
      let b = p.is_block in
      let is = v.part.layout.geometry_is in
      let run = p.run in
      record {
        object_small = b.object_small;
        some_seq = b.some_seq;
        most_seq = b.most_seq;
        metaslab_is = v.here.each first e there;
        some_stripes = run.some;
        inside = run.inside;
        in_group = run.group;
        stripes_small = (let g = run.group in let h = is.props.most_height in omega (arith, g, h));
        some_len = b.some;
        most_len = b.short;
        whole = b.stripes ∙ same_stripes shard.geometry is limits e.pointer.len refl refl;
        some_birth = sound.core.some (key_of e.pointer) (held_at e) (is_in.held (key_of e.pointer) ∙ key_leads shard.entries first e there);
        digest_len = b.digest_len;
      }

  pub entries_fit : Sound (layout_by shard) w → EntriesFit limits shard.entries
  entries_fit sound = record {
    placed = one_placed sound;
    apart = v.tables.apart;
    few = (let few = v.few in let more = more_held shard.version shard.asked (subst fitting.IsVersion is_in.version fit.versions.committed) asked_is
        (let least = fit.versions.least in let a = is_in.version in let b = is_in.asked in omega (arith, least, a, b)) in omega (arith, few, more));
  }

  -- ---- arms
  one_name : (at other : ArmAt) (a b : Arm) → arm_at shard.slots at ≡ Some a → arm_at shard.slots other ≡ Some b → name_of a ≡ name_of b → at ≡ other
  one_name at other a b x y same =
      let slot : at.slot ≡ other.slot = owned.listed.one at.slot other.slot (name_of b)
      (subst (λ ns. has_name ns (name_of b) ≡ true) (sym (is_in.slots.order at.slot)) (name_listed (arms_of shard.slots at.slot) at.arm (name_of b) (ap (option_map name_of) x ∙ ap Some same)))
      (subst (λ ns. has_name ns (name_of b) ≡ true) (sym (is_in.slots.order other.slot)) (name_listed (arms_of shard.slots other.slot) other.arm (name_of b) (ap (option_map name_of) y))) in
      let arm : at.arm ≡ other.arm = once_apart (arms_of shard.slots at.slot) at.arm other.arm (name_of b) (subst fitting.IsOnce (is_in.slots.order at.slot) (fit.core.order.once at.slot))
      (ap (option_map name_of) x ∙ ap Some same) (ap (λ s. option_map name_of (arm_at shard.slots (record { slot = s; arm = other.arm }))) slot ∙ ap (option_map name_of) y) in
      λ i. record { slot = slot i; arm = arm i }

  pub arms_fit : NumbersFit shard.slots next → ArmsFit limits shard.slots
  arms_fit numbers = record {
    children = ap (λ (g : Geometry). g.spec.children) v.slots.geometry_is;
    spares = ap (λ (g : Geometry). g.spec.spares) v.slots.geometry_is;
    leaves = numbers.leaves;
    small = numbers.small;
    online = λ at a there e. (owned.spares a.number (arm_in shard.slots at a) (subst (λ k. w.core.arm (named k a.number) ≡ Some (arm_in shard.slots at a)) e (is_in.slots.arms at a there))).1;
    once = one_name;
  }

  -- ---- the pass
  runs : (k : PassKind) (b : Bool) → (b ≡ false → k ≡ Rebuild) → least_running k ≤ bit b
  runs Rebuild b planned = omega arith
  runs Heal true planned = omega arith
  runs Heal false planned = absurd (heal (planned refl))
    where
      heal : Heal ≡ Rebuild → ⊥
      heal e = absurd (cc)

  one_pass : Sound (layout_by shard) w → (p : Pass) → shard.pass ≡ Some p → HoldsPass shard.slots shard.last_pass p → PassFits limits shard.slots (told_pass p)
  one_pass sound p is h =
      let found : w.core.pass ≡ Some (pass_in shard.slots p) = is_in.pass ∙ ap (option_map (pass_in shard.slots)) is in
      let f = fit.core.pass (pass_in shard.slots p) found in
      record {
        runs_if_heal = runs p.kind p.running (λ waits. (sound.core.planned (pass_in shard.slots p) found waits).0);
        some_max = h.some_max;
        most_max = (let a = f.max in omega (arith, a));
        place = f.next;
        errors_small = (let a = f.errors in omega (arith, a));
        there = h.current.targets;
        ascending = h.ascending;
      }

  pub pass_fits : Sound (layout_by shard) w → IfSome (option_map told_pass shard.pass) (PassFits limits shard.slots)
  pass_fits sound = by shard.pass refl v.pass
    where
      by : (o : Option Pass) → shard.pass ≡ o → IfSome o (HoldsPass shard.slots shard.last_pass) → IfSome (option_map told_pass o) (PassFits limits shard.slots)
      by None is h = tt
      by (Some p) is h = one_pass sound p is h

  pub tables_fit : Sound (layout_by shard) w → NumbersFit shard.slots next → TablesFit limits shard.entries shard.slots shard.pass shard.last_pass
  tables_fit sound numbers = record {
    limits_fit = limits_fit;
    entries_fit = entries_fit sound;
    arms_fit = arms_fit numbers;
    pass_fits = pass_fits sound;
    last_small = (let a = fit.core.last in let b = is_in.last in omega (arith, a, b));
  }

-- ---- the blocks that a record lists
pub blocks_low : {R A : Type 0} (rack : Ghosts R) (shard : Shard R A) → Valid rack shard → (group : ℕ) (blocks : List Pointer) → ListsBlocks shard.entries group blocks → All (λ (b : Pointer). b.first + b.stripes ≤ 2 ^ 49) blocks
blocks_low rack shard v group blocks lists = All-weaker (IsListed shard.entries group) (λ (b : Pointer). b.first + b.stripes ≤ 2 ^ 49)
    (λ b l. let p = v.tables.placed b.first (staged l.stage b) l.there in let inside = p.run.inside in let few = few_stripes shard.geometry v.part.layout.geometry_is in omega (arith, inside, few)) blocks lists.listed
