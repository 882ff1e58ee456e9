-- A metaslab that rests on a shelf, as an import opens it.
use Rattle.std.proofs.Math.Bool.{or-false}
use Rattle.std.proofs.Common.{arith, ◌≡◌, ◌≢◌, ◌==◌, ◌%◌, ◌||◌, ◌&&◌, ◌+◌, ◌≤◌, ◌++◌, ◌∙◌, inl, inr, ℕ, Bool, true, false, [], Option, Some, None, Result, Ok, Vec, Global, length, drop, refl, sym, ap, subst, if◌then◌else◌}
use Rattle.std.specs.Prelude.{IsSome, IsSomeAnd, MatchOption, min, ◌^◌, ◌-◌, ◌⊎◌}
use Rattle.std.proofs.lemmas.List.{take-append-drop}
use Rattle.std.specs.List.{count_by}
use denote.RawPtr.{null_ptr}
use Rattle.draid_area.specs.Area.{Content}
use Rattle.draid_area.specs.Area as content
use Rattle.draid_area.specs.declared.Area as areas
use Rattle.draid_rack.specs.Rack.{Told, OnBothTold}
use Rattle.draid_rack.specs.declared.Rack as racks
use Rattle.draid_spec.specs.declared.layout.Geometry.{Geometry}
use Rattle.draid_spec.specs.Geometry.{metaslab_sectors}
use Rattle.draid_machine.specs.declared.event.Event.TheVariants as event
use Rattle.draid_names.specs.declared.arm.ArmKind.TheVariants as kind
use Rattle.draid_slots.specs.Table.{SlotTable}
use Rattle.draid_machine.specs.declared.names.ArmName.{ArmName}
use Rattle.draid_machine.specs.declared.names.ArmName.TheVariants.{Leaf}
use Rattle.draid_machine.specs.declared.names.Held.{Held}
use Rattle.draid_machine.specs.declared.names.Key.{Key}
use Rattle.draid_machine.specs.declared.names.Segment.{Segment}
use Rattle.draid_machine.specs.After.{map_arm, reopen_state, seal_held}
use Rattle.draid_machine.specs.Claims.{claims}
use Rattle.draid_machine.specs.Created.{IsReached}
use Rattle.draid_machine.specs.Images.{IsImage}
use Rattle.draid_machine.specs.Names.{has_segment, named}
use Rattle.draid_machine.specs.Sound.{Sound}
use Rattle.draid_machine.specs.State as machine
use Rattle.draid_machine.proofs.Rows.{reached_sound}
use Rattle.draid_machine.proofs.Standing.{every_image}
use Rattle.draid_layouts.specs.Layout.{layout_of}
use Rattle.draid_record.specs.Record.{RecordTold, limits_of, record_of}
use Rattle.draid_record.specs.Written.{record_bytes}
use Rattle.draid_record.specs.declared.fault.RecordFault.{RecordFault}
use Rattle.draid_record.proofs.Again.{record_again}
use Rattle.draid_record.proofs.Ranged.{ranged_spelled}
use Rattle.draid_segments.specs.Acts.{DropsBut, IsNamed}
use Rattle.draid_segments.specs.Segments.{Firm, IsClaim, Pieces}
use Rattle.draid_shelf.specs.Kits.{KitTold, kit_of}
use Rattle.draid_shelf.specs.declared.kit.Kit.{Kit}
use Rattle.draid_stable.specs.Images.{LeavesBelow, image_by}
use Rattle.draid_stable.specs.Kits.{IsStable}
use Rattle.draid_stable.specs.Opening.{has_leaf, has_leaf_arm}
use Rattle.draid_slots.specs.States.{HasSlots}
use Rattle.draid_stable.proofs.There.{arm_named}
use Rattle.draid_stable.specs.Stable as stable
use Rattle.draid_stable.specs.Stable.{HasRecord}
use Rattle.draid_entries.specs.History.{limit_in}
use Rattle.draid_shard.specs.Fits.{Valid}
use Rattle.draid_pool.specs.Groups.{ListsOnce, at_version}
use Rattle.draid_import.specs.Reopening.{Opens, area_of_kit}
use Rattle.draid_shard.specs.Part.{IsPart, Part, layout_in}
use Rattle.draid_shard.specs.Stands.{StandsFor}
use Rattle.draid_shard.specs.States.{layout_by, part_of}
use Rattle.draid_shard.specs.declared.shard.Shard.{Shard}
use Rattle.draid_import.proofs.Reopened.{told_read}
use Rattle.draid_import.proofs.Opened.{opened_stands}
use Rattle.draid_shard.proofs.Standing.{has_layout, reached_more}
use Rattle.draid_session.specs.Follows.{CountsRise, HarmBoth}
use Rattle.draid_session.specs.Opening.{Reopens}
use Rattle.draid_session.specs.State.{Counts, Metaslab, State, limit_of}
use Rattle.draid_pool.specs.Returning.{RestsOn}
use Rattle.draid_import.specs.Imported.{CountsOn, OpensFound}
use Rattle.draid_pool.specs.Metaslabs.{IsMetaslab, counts_of, harm_of}
use Rattle.draid_pool.specs.Pools.{part_in}
use Rattle.draid_pool.specs.Records.{HasRecords, LeavesAreBelow, area_for}
use Rattle.draid_pool.proofs.Returned.{KitIs, kit_is}
use Rattle.draid_pool.proofs.Arms.{same_names}
use Rattle.draid_pool.proofs.Lists.{ext}
use Rattle.draid_pool.specs.Bytes.{KnowsBlocks}
use Rattle.draid_pool.proofs.Bytes.{sealed_known}

-- nothing is in doubt
abbrev no_doubt : Global → Vec Segment Global
no_doubt alloc = record { items = []; ptr = null_ptr; len = 0; cap = 0; alloc = alloc; ok = (refl, omega arith); small = omega arith }

-- ---- an image of a group

-- The image that a metaslab of a state has of a group that an import may find, with a number above those of its leaves. It rests on a kit.
pub record FindsImage (x : State) (m : ℕ) (pieces : Pieces) (y : Metaslab) (kit : KitTold) (group next : ℕ) : Type 0 where
  pub image : machine.Image
  pub is : IsImage y.world image
  pub of : image.group ≡ group
  pub version : image.version ≡ x.geometry.props.version
  pub below : LeavesBelow next image
  pub part : IsPart (part_in x m)
  pub rests : RestsOn x m pieces y kit

-- the committed image, or the sealed one, by its group
chosen : (l : machine.Layout) (w : machine.State) (image : machine.Image) (group : ℕ) → Sound l w → IsImage w image → image.group ≡ group
    → ((w.image ≡ image) × (w.committed ≡ group)) ⊎ ((w.sealed ≡ Some image) × (w.closing ≡ Some group))
chosen l w image group sound (inl own) is = inl (own, sym sound.groups.image_is ∙ (ap (λ (i : machine.Image). i.group) own ∙ is))
chosen l w image group sound (inr sealed) is = inr (sealed, sound.groups.sealed_is image sealed ∙ ap Some is)

-- the version of a layout is its own
pub own_version : (version : ℕ) (geometry : Geometry) → version ≡ geometry.props.version → at_version version geometry ≡ geometry
own_version version geometry is = λ i. record geometry { props = record geometry.props { version = is i } }

one_value : (a b : RecordTold) (r : Result RecordTold RecordFault) → r ≡ Ok a → r ≡ Ok b → a ≡ b
one_value a b r x y = cc

-- a record that stands is read
pub read_there : (geometry : Geometry) (metaslab next : ℕ) (image : machine.Image) (x : Content) (has : HasRecord geometry metaslab image x) → LeavesBelow next image
    → record_of (limits_of geometry metaslab image.group next) x.bytes ≡ Ok has.value
read_there geometry metaslab next image x has below =
    let limits = limits_of geometry metaslab image.group next in
    let n = length (record_bytes has.value) in
    let parts : record_bytes has.value ++ drop n x.bytes ≡ x.bytes = ap (λ v. v ++ drop n x.bytes) (sym has.stands.front) ∙ take-append-drop n x.bytes in
    subst (λ v. record_of limits v ≡ Ok has.value) parts
    (record_again limits has.value (record_bytes has.value) (drop n x.bytes) (record { bytes_are = refl; short = has.stands.short }) (ranged_spelled limits has.value (has.ranged next below)))

some_match : {X : Type 0} (o : Option X) (x : X) (P : X → Type 0) → o ≡ Some x → P x → MatchOption o ⊥ P
some_match o x P is holds = subst (λ z. MatchOption z ⊥ P) (sym is) holds

-- the area of a group, of two that tell
told_at : (b : Bool) {A : Type 0} (told : A → Option Content) (e o : A) (even odd : Content) (P : Content → Type 0) → told e ≡ Some even → told o ≡ Some odd → P (if b then even else odd)
    → MatchOption (told (if b then e else o)) ⊥ P
told_at true told e o even odd P is other holds = some_match (told e) even P is holds
told_at false told e o even odd P is other holds = some_match (told o) odd P other holds

-- what is known of what it tells
pub of_told : (b : Bool) {A : Type 0} (told : A → Option Content) (e o : A) (even odd : Content) (P : Content → Type 0) → told e ≡ Some even → told o ≡ Some odd
    → content.OnTold (told (if b then e else o)) P → P (if b then even else odd)
of_told true told e o even odd P is other holds = subst (λ t. content.OnTold t P) is holds
of_told false told e o even odd P is other holds = subst (λ t. content.OnTold t P) other holds

on_told : (b : Bool) (even odd : Content) (P : Content → Type 0) → P (if b then even else odd) → content.OnTold (if b then Some even else Some odd) P
on_told true even odd P holds = holds
on_told false even odd P holds = holds

-- where a segment that is claimed isn't in doubt, it wasn't before
sure_by : (a b c : Bool) → ((a || b) && c) ≡ false → c ≡ true → a ≡ false
sure_by true b c sure claim = (let h = sym claim ∙ sure in absurd (cc))
sure_by false b c sure claim = refl

pub was_arm : (f : machine.Arm → machine.Arm) (o : Option machine.Arm) → IsSome (map_arm f o) → IsSome o
was_arm f None some = some
was_arm f (Some a) some = refl

rises : (a b n k : ℕ) → n ≡ 0 → a ≤ b → min (a + n) k ≤ b
rises a b n k none less = omega (arith, none, less)

-- no event names a leaf as failed
pub counts_rise : (w v : machine.State) (a b : Counts) → a.rack None ≤ b.rack None → a.even ≤ b.even → a.odd ≤ b.odd
    → ((leaf : ℕ) → v.core.arm (Leaf leaf) ≢ None → a.rack (Some leaf) ≤ b.rack (Some leaf)) → CountsRise w v [] a b
counts_rise w v a b own even odd leaves = record {
  rack = own;
  even = even;
  odd = odd;
  leaves = λ leaf stays. rises (a.rack (Some leaf)) (b.rack (Some leaf)) (count_by (λ l. l == leaf) []) (2 ^ 64 - 1) refl (leaves leaf stays.1);
}

abbrev Harm : Type 0
Harm = ℕ → ℕ → Bool

same_harm : (o : Option Harm) (P : Harm → Harm → Type 0) → ((h : Harm) → P h h) → HarmBoth o o P
same_harm None P same = refl
same_harm (Some h) P same = same h

-- harm stays on the leaves that an image names
harm_on : (o : Option Harm) (old : Told) (new : Option Told) (image : machine.Image) → IsSomeAnd o (λ harm. (leaf sector : ℕ) → old.harmed leaf sector ≡ harm leaf sector)
    → OnBothTold (Some old) new (DropsBut (IsNamed image)) → HarmBoth o (harm_of new) (λ a b. (leaf sector : ℕ) → IsNamed image leaf → b leaf sector ≡ a leaf sector)
harm_on None old new image has drops = absurd has
harm_on (Some h) old None image has drops = absurd drops
harm_on (Some h) old (Some y) image has drops = λ leaf sector named. drops.others.harm leaf sector (drops.kept leaf named) ∙ has leaf sector

-- ---- leaves

gone_none : (f : machine.Arm → machine.Arm) (o : Option machine.Arm) (a : machine.Arm) → ((b : machine.Arm) → (f b).gone ≡ b.gone)
    → ((b : machine.Arm) → o ≡ Some b → b.gone ≡ None) → map_arm f o ≡ Some a → a.gone ≡ None
gone_none f None a same none is = absurd (cc)
gone_none f (Some b) a same none is = (let it : f b ≡ a = cc in ap (λ (c : machine.Arm). c.gone) (sym it) ∙ (same b ∙ none b refl))

-- where no arm is detached, a leaf of a state is an arm of a slot
leaf_arm : (slots : SlotTable) (q : machine.Core) (leaf : ℕ) → HasSlots slots q → ((n : ArmName) (a : machine.Arm) → q.arm n ≡ Some a → a.gone ≡ None) → q.arm (Leaf leaf) ≢ None → has_leaf_arm slots leaf ≡ true
leaf_arm slots q leaf has none there = elim (has.only (Leaf leaf) there) [
  | inl z ↦ (let is = same_names z.arm.kind kind.Leaf z.arm.number leaf z.name_is in arm_named slots z.at z.arm leaf z.there is.0 is.1)
  | inr z ↦
      let gone = has.detached z.gone z.among in
      let here = none (named z.gone.kind z.gone.number) gone.arm gone.there in
      let both = sym here ∙ gone.by in
      absurd (cc)
]

module _ (x : State) (m : ℕ) (pieces : Pieces) (y : Metaslab) (kit : KitTold) (group next : ℕ) (f : FindsImage x m pieces y kit group next) (alloc : Global) where
  abbrev l : machine.Layout
  l = layout_of x.geometry x.perms m

  -- the state that the opening from the image gives
  abbrev pub found_world : machine.State
  found_world = reopen_state l y.world f.image []

  lay : machine.IsLayout l
  lay = has_layout (part_in x m) f.part

  pub found_reached : IsReached l found_world
  found_reached = reached_more l y.world found_world (event.Reopen group (no_doubt alloc)) f.rests.reached
      (record { image = f.image; one = chosen l y.world f.image group (reached_sound l lay y.world f.rests.reached) f.is f.of; made = refl })

  -- it holds the blocks that were born up to the group and not freed up to it
  pub found_blocks : (k : Key) → found_world.core.held k ≡ seal_held group (y.world.core.held k)
  found_blocks k = ((every_image l y.world lay f.rests.reached).each f.image f.is).blocks k ∙ ap (λ g. seal_held g (y.world.core.held k)) f.of

  -- of these is known what was
  found_known : KnowsBlocks x.geometry pieces found_world.core.held
  found_known = sealed_known x.geometry pieces group y.world.core.held found_world.core.held found_blocks f.rests.bytes

  pub found_leaves : LeavesAreBelow next next found_world
  found_leaves = record {
    kept = f.below;
    sealed = λ image is. absurd (cc);
    now = λ leaf some. f.below leaf (was_arm _ (f.image.core.arm (Leaf leaf)) some);
  }

  pub found_image : (image : machine.Image) → IsImage found_world image → f.image ≡ image
  found_image image (inl is) = is
  found_image image (inr is) = absurd (cc)

  recorded : HasRecord (at_version f.image.version x.geometry) m f.image (stable.area_of group kit.even kit.odd)
  recorded = subst (λ g. HasRecord (at_version f.image.version x.geometry) m f.image (stable.area_of g kit.even kit.odd)) f.of (f.rests.images f.image f.is).recorded

  firm : Firm l pieces f.image y.world.aside kit.rack
  firm = (f.rests.images f.image f.is).firm

  -- none of its arms is detached
  none_gone : (n : ArmName) (a : machine.Arm) → found_world.core.arm n ≡ Some a → a.gone ≡ None
  none_gone n a is = gone_none _ (f.image.core.arm n) a (λ b. refl) (λ b there. ((every_image l y.world lay f.rests.reached).each f.image f.is).here n b there) is

  -- ---- on the shelf

  -- the metaslab as its image has it, with these counts
  abbrev pub unopened : Counts → Metaslab
  unopened counts = record { opened = found_world; events = []; world = found_world; reserved = 0; counts = counts; harm = y.harm }

  claim_was : (s : Segment) (h : Held) → IsClaim l f.image found_world.aside s h → IsClaim l f.image y.world.aside s h
  claim_was s h c = record { held = c.held; claim = c.claim; sure = sure_by (y.world.aside s) false (claims l f.image.core s) c.sure c.claim }

  found_stable : IsStable (at_version f.image.version x.geometry) m l pieces f.image found_world.aside kit
  found_stable = record {
    recorded = (f.rests.images f.image f.is).recorded;
    firm = record {
      there = λ s h c. firm.there s h (claim_was s h c);
      reads = λ s h c. firm.reads s h (claim_was s h c);
      firm = λ s h c. firm.firm s h (claim_was s h c);
    };
  }

  pub unopened_rests : (counts : Counts) → RestsOn x m pieces (unopened counts) kit
  unopened_rests counts = record {
    reached = found_reached;
    images = λ image of. subst (λ (i : machine.Image). IsStable (at_version i.version x.geometry) m l pieces i found_world.aside kit) (found_image image of) found_stable;
    harm = f.rests.harm;
    bytes = found_known;
  }

  pub unopened_reopens : (counts : Counts) → CountsRise y.world found_world [] y.counts counts → Reopens x.geometry x.perms group m y (unopened counts)
  unopened_reopens counts rise = record {
    image = f.image;
    is = f.is;
    of = f.of;
    opened = refl;
    world = refl;
    events = refl;
    reserved = refl;
    harm = same_harm y.harm (λ old new. (leaf sector : ℕ) → IsNamed f.image leaf → new leaf sector ≡ old leaf sector) (λ h leaf sector named. refl);
    counts = rise;
  }

  -- ---- opened

  module _ {R A : Type 0} (rack : racks.Ghosts R) (area : areas.Ghosts A) (old : Kit R A) (told : kit_of (rack.told old.rack) (area.told old.even) (area.told old.odd) ≡ Some kit)
      (shard : Shard R A) (part_is : part_of shard ≡ part_in x m) (opens : Opens rack area.told old group next shard) where
    k : KitIs (rack.told old.rack) (area.told old.even) (area.told old.odd) kit
    k = kit_is (rack.told old.rack) (area.told old.even) (area.told old.odd) kit told

    -- the metaslab that the shard is
    abbrev pub opened : Metaslab
    opened = record { opened = found_world; events = []; world = found_world; reserved = 0; counts = counts_of rack area shard; harm = harm_of (rack.told shard.rack) }

    here : HasRecord (at_version f.image.version shard.geometry) shard.number f.image (stable.area_of group kit.even kit.odd)
    here = subst (λ (p : Part). HasRecord (at_version f.image.version p.geometry) p.number f.image (stable.area_of group kit.even kit.odd)) (sym part_is) recorded

    all_firm : Firm (layout_by shard) pieces f.image (λ s. y.world.aside s || has_segment [] s) kit.rack
    all_firm = subst (λ (p : Part). Firm (layout_in p) pieces f.image (λ s. y.world.aside s || has_segment [] s) kit.rack) (sym part_is)
        (subst (λ d. Firm l pieces f.image d kit.rack) (sym (ext (λ s. y.world.aside s || has_segment [] s) y.world.aside (λ s. or-false (y.world.aside s)))) firm)

    stands : StandsFor rack shard found_world pieces
    stands = subst (λ (p : Part). StandsFor rack shard (reopen_state (layout_in p) y.world f.image []) pieces) part_is
        (opened_stands rack area.told old shard group next y.world f.image (no_doubt alloc) pieces opens (subst IsPart (sym part_is) f.part)
        (subst (λ (p : Part). IsReached (layout_in p) y.world) (sym part_is) f.rests.reached) f.is f.of (f.version ∙ ap (λ (p : Part). p.geometry.props.version) (sym part_is)) f.below
        (told_at (group % 2 == 0) area.told old.even old.odd kit.even kit.odd (HasRecord (at_version f.image.version shard.geometry) shard.number f.image) k.even k.odd here)
        (some_match (rack.told old.rack) kit.rack (Firm (layout_by shard) pieces f.image (λ s. y.world.aside s || has_segment [] s)) k.rack all_firm))

    -- its record lists each block once, where the one that was read does
    pub opened_once : ListsOnce x.geometry m f.image (stable.area_of f.image.group kit.even kit.odd) → HasRecords (part_in x m) found_world (area.told shard.even) (area.told shard.odd)
    opened_once once image is = subst (λ (i : machine.Image). content.OnTold (area_for i.group (area.told shard.even) (area.told shard.odd)) (ListsOnce x.geometry m i)) (found_image image is)
        (subst (λ e. content.OnTold (area_for f.image.group e (area.told shard.odd)) (ListsOnce x.geometry m f.image)) (sym (opens.even ∙ k.even))
        (subst (λ o. content.OnTold (area_for f.image.group (Some kit.even) o) (ListsOnce x.geometry m f.image)) (sym (opens.odd ∙ k.odd))
        (on_told (f.image.group % 2 == 0) kit.even kit.odd (ListsOnce x.geometry m f.image) once)))

    pub opened_is : Valid rack shard → limit_in shard.history ≡ limit_of x.geometry → ListsOnce x.geometry m f.image (stable.area_of f.image.group kit.even kit.odd) → IsMetaslab rack area (part_in x m) pieces shard opened
    opened_is valid limit once = record {
      valid = valid;
      part_is = part_is;
      stands = stands;
      run = refl;
      events = sym opens.none.0;
      limit = limit;
      reserved = sym opens.none.1;
      counts = refl;
      harm = refl;
      records = opened_once once;
      bytes = found_known;
    }

    -- what was read is the image
    value_is : image_by opens.value ≡ f.image
    value_is = ap image_by (one_value opens.value has.value (record_of (limits_of shard.geometry shard.number group next) area_read.bytes) read again) ∙ has.says
      where
        area_read : Content
        area_read = stable.area_of group kit.even kit.odd

        has : HasRecord shard.geometry shard.number f.image (stable.area_of group kit.even kit.odd)
        has = subst (λ (g : Geometry). HasRecord g shard.number f.image (stable.area_of group kit.even kit.odd))
            (own_version f.image.version shard.geometry (f.version ∙ ap (λ (p : Part). p.geometry.props.version) (sym part_is))) here

        read : record_of (limits_of shard.geometry shard.number group next) (stable.area_of group kit.even kit.odd).bytes ≡ Ok opens.value
        read = of_told (group % 2 == 0) area.told old.even old.odd kit.even kit.odd (λ c. record_of (limits_of shard.geometry shard.number group next) c.bytes ≡ Ok opens.value) k.even k.odd
            (told_read (area.told (area_of_kit old group)) (limits_of shard.geometry shard.number group next) (has_leaf (rack.shape old.rack) (metaslab_sectors shard.geometry)) opens.value opens.read)

        again : record_of (limits_of shard.geometry shard.number group next) (stable.area_of group kit.even kit.odd).bytes ≡ Ok has.value
        again = subst (λ n. record_of (limits_of shard.geometry shard.number n next) (stable.area_of group kit.even kit.odd).bytes ≡ Ok has.value) f.of
            (read_there shard.geometry shard.number next f.image (stable.area_of group kit.even kit.odd) has f.below)

    drops : OnBothTold (Some kit.rack) (rack.told shard.rack) (DropsBut (IsNamed f.image))
    drops = subst (λ o. OnBothTold o (rack.told shard.rack) (DropsBut (IsNamed f.image))) k.rack
        (subst (λ (i : machine.Image). OnBothTold (rack.told old.rack) (rack.told shard.rack) (DropsBut (IsNamed i))) value_is opens.leaves)

    pub opened_reopens : ((who : Option ℕ) → rack.faults old.rack who ≡ y.counts.rack who) → area.faults old.even ≡ y.counts.even → area.faults old.odd ≡ y.counts.odd → CountsOn rack area old shard
        → Reopens x.geometry x.perms group m y opened
    opened_reopens rack_is even_is odd_is on = record {
      image = f.image;
      is = f.is;
      of = f.of;
      opened = refl;
      world = refl;
      events = refl;
      reserved = refl;
      harm = harm_on y.harm kit.rack (rack.told shard.rack) f.image f.rests.harm drops;
      counts = counts_rise y.world found_world y.counts (counts_of rack area shard)
          (let a = rack_is None in let b = on.rack_count in omega (arith, a, b)) (let b = on.even in omega (arith, even_is, b)) (let b = on.odd in omega (arith, odd_is, b))
          (λ leaf is. (let a = rack_is (Some leaf) in let b = on.leaf_counts leaf (leaf_arm shard.slots found_world.core leaf stands.is_in.slots none_gone is) in omega (arith, a, b)));
    }

    pub opens_found : Valid rack shard → limit_in shard.history ≡ limit_of x.geometry → ListsOnce x.geometry m f.image (stable.area_of f.image.group kit.even kit.odd)
        → ((who : Option ℕ) → rack.faults old.rack who ≡ y.counts.rack who) → area.faults old.even ≡ y.counts.even → area.faults old.odd ≡ y.counts.odd → CountsOn rack area old shard
        → OpensFound rack area x group m pieces y shard
    opens_found valid limit once rack_is even_is odd_is on = record {
      z = opened;
      reopens = opened_reopens rack_is even_is odd_is on;
      is = opened_is valid limit once;
      once = opened_once once;
    }
