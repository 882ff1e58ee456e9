-- What a whole pool has, and that it stays whole as one of its shards is another one of the same metaslab.
use Rattle.std.proofs.Common.{◌≡◌, ◌==◌, ◌<◌, ◌≤◌, ◌+◌, ◌∙◌, inl, inr, cond, ℕ, Bool, true, false, [], Option, Some, None, arith, refl, sym, ap, subst, slice_index_or, slice_set, length, if◌then◌else◌, nat_eq}
use Rattle.std.specs.Prelude.{nat_eq, slice_get, All, cond}
use Rattle.std.specs.HashMap.{get}
use Rattle.std.proofs.lemmas.Bool.{cases_eq}
use Rattle.std.proofs.lemmas.List.{length-set}
use Rattle.std.proofs.lemmas.List.Elements.{All-nil, All-weaker}
use Rattle.draid_checkpoint.specs.Check.{Point, holds_birth}
use Rattle.std.proofs.lemmas.Option.{slice_get-get_or}
use Rattle.draid_names.specs.declared.numbers.TheConstants.{LAST_NUMBER}
use Rattle.draid_names.specs.declared.pointer.Pointer.{Pointer}
use Rattle.draid_rack.specs.declared.Rack as racks
use Rattle.draid_area.specs.declared.Area as areas
use Rattle.draid_spec.specs.declared.layout.Geometry.{Geometry}
use Rattle.draid_perm.specs.declared.perms.Perms.{Perms}
use Rattle.draid_map.specs.Place.{IsLayout}
use Rattle.draid_machine.specs.declared.names.Held.{Held}
use Rattle.draid_machine.specs.declared.names.Key.{Key}
use Rattle.draid_machine.specs.declared.names.Stage.TheVariants.{Live}
use Rattle.draid_machine.specs.Names.{is_block}
use Rattle.draid_machine.proofs.Small.{is_equal, some_injective}
use Rattle.draid_entries.specs.declared.entry.Entry.{Entry}
use Rattle.draid_entries.specs.Entries.{SameEntries, entry_at, held_in}
use Rattle.draid_entries.specs.Maps.{staged}
use Rattle.draid_shard.specs.Alike.{KeepsArms}
use Rattle.draid_shard.specs.Looks.{IsLive}
use Rattle.draid_shard.specs.Changes.{KeepsBlocks, SetsBlock}
use Rattle.draid_shard.specs.Fits.{Valid, AreGroups}
use Rattle.draid_shard.specs.Part.{Part}
use Rattle.draid_shard.specs.States.{part_of}
use Rattle.draid_shard.specs.declared.shard.Shard.{Shard}
use Rattle.draid_shard.proofs.Changed.{same_arms}
use Rattle.draid_uber.specs.Slots.{group_of}
use Rattle.draid_uber.specs.Uber as ubers
use Rattle.draid_uber.specs.Uber.{kept_of}
use Rattle.draid_pool.specs.Whole.{IsPointer, IsShardOf, IsWhole, PointFits}
use Rattle.draid_pool.specs.declared.pool.Pool.{Pool}
use Rattle.draid_pool.proofs.Arms.{Kept, all_kept, leaf_kept}
use Rattle.draid_pool.proofs.Lists.{get_set_other, get_set_same, some_of}
use Rattle.draid_pool.proofs.Nears.{near_kept}
use Rattle.std.proofs.lemmas.Bool.Decides.{nat_tests}
use Rattle.draid_pool.specs.Pointers.{SamePointers}
use Rattle.draid_pool.proofs.Versions.{same_uber_layout}

-- a place of a table that was set, and another
pub put_here : (new old : Option Pointer) (object q : ℕ) (x : Option Pointer) → new ≡ cond (nat_eq object q) x old → object ≡ q → new ≡ x
put_here new old object q x sets is = grind (arith, nat_tests, sets, is)

pub put_elsewhere : (new old : Option Pointer) (object q : ℕ) (x : Option Pointer) → new ≡ cond (nat_eq object q) x old → (object ≡ q → ⊥) → new ≡ old
put_elsewhere new old object q x sets other = grind (arith, nat_tests, sets, other)

-- the open group is one of the next two behind the committed one
pub open_high : (o : ℕ) (closing : Option ℕ) (c : ℕ) (sealed : Bool) → AreGroups o closing c sealed → c + 1 ≤ o
open_high o None c sealed groups = (let is = groups.0 in omega (arith, is))
open_high o (Some t) c sealed groups = (let is = groups.0 in let closing = groups.1 in omega (arith, is, closing))

pub open_low : (o : ℕ) (closing : Option ℕ) (c : ℕ) (sealed : Bool) → AreGroups o closing c sealed → o ≤ c + 2
open_low o None c sealed groups = (let is = groups.0 in omega (arith, is))
open_low o (Some t) c sealed groups = (let is = groups.0 in let closing = groups.1 in omega (arith, is, closing))

pub same_pointers : {R A : Type 0} (old new : Pool R A) → new.own.objects ≡ old.own.objects → SamePointers old new
same_pointers old new same = λ o. ap (λ table. get nat_eq table o) same

-- ---- the checkpoint

-- it fits a table with some of the same pointers, and later writes
pub fits_on : (more : ℕ) (point : Point) (old new : ℕ → Option Pointer) (seq later : ℕ) → seq ≤ later → ((o : ℕ) (p : Pointer) → new o ≡ Some p → old o ≡ Some p) → PointFits more point old seq → PointFits more point new later
fits_on more point old new seq later up among fits = record {
  names = fits.names;
  each = λ o p at kept. fits.each o p (among o p at) kept;
  room = fits.room;
  few = fits.few;
  apart = All-weaker (λ d. (p : Pointer) → old d.object ≡ Some p → d.seq ≡ p.seq → ⊥) (λ d. (p : Pointer) → new d.object ≡ Some p → d.seq ≡ p.seq → ⊥) (λ d apart p at. apart p (among d.object p at)) point.drops fits.apart;
  begun = All-weaker (λ d. d.seq ≤ seq) (λ d. d.seq ≤ later) (λ d low. omega (arith, low, up)) point.drops fits.begun;
  none = fits.none;
}

-- where there is none, it fits any
pub fits_none : (point : Point) (table : ℕ → Option Pointer) (seq : ℕ) → point.group ≡ None → point.drops ≡ [] → PointFits 0 point table seq
fits_none point table seq none empty = record {
  names = [];
  each = λ o p at kept. absurd (not_held point.group p.birth none kept);
  room = omega arith;
  few = (let zero = ap (λ ds. length ds) empty in omega (arith, zero));
  apart = subst (All (λ d. (p : Pointer) → table d.object ≡ Some p → d.seq ≡ p.seq → ⊥)) (sym empty) (All-nil (λ d. (p : Pointer) → table d.object ≡ Some p → d.seq ≡ p.seq → ⊥));
  begun = subst (All (λ d. d.seq ≤ seq)) (sym empty) (All-nil (λ d. d.seq ≤ seq));
  none = λ is. empty;
}
  where
    not_held : (group : Option ℕ) (birth : ℕ) → group ≡ None → holds_birth group birth ≡ true → ⊥
    not_held group birth is held = absurd (let now : holds_birth None birth ≡ true = subst (λ g. holds_birth g birth ≡ true) is held in cc)

-- ---- blocks

-- the blocks of a shard have numbers up to one, and none of its writes is under way
pub record Numbered {R A : Type 0} (seq : ℕ) (shard : Shard R A) : Type 0 where
  pub numbered : (key : Key) (h : Held) → held_in shard.entries key ≡ Some h → key.seq ≤ seq
  pub settled : (key : Key) (h : Held) → held_in shard.entries key ≡ Some h → is_block h.stage ≡ true

numbered_kept : {R A : Type 0} (shard shard' : Shard R A) (seq : ℕ) → SameEntries shard.entries shard'.entries → Numbered seq shard → Numbered seq shard'
numbered_kept shard shard' seq same n = record {
  numbered = λ key h there. n.numbered key h (sym (same.held key) ∙ there);
  settled = λ key h there. n.settled key h (sym (same.held key) ∙ there);
}

-- a live block beside the place that changed is live yet
pub live_beside : {R A : Type 0} (shard shard' : Shard R A) (p q : Pointer) (entry : Option Entry) → SetsBlock shard shard' p entry → (q.first ≡ p.first → ⊥) → IsLive shard q → IsLive shard' q
live_beside shard shard' p q entry sets other live = sets.entry.at q.first ∙ by (q.first == p.first) refl
  where
    by : (b : Bool) → (q.first == p.first) ≡ b → (if b then entry else entry_at shard.entries q.first) ≡ Some (staged Live q)
    by true same = absurd (other (is_equal q.first p.first same))
    by false differs = live

-- one place has one live block
pub one_live : {R A : Type 0} (shard : Shard R A) (p q : Pointer) → IsLive shard p → IsLive shard q → q.first ≡ p.first → p ≡ q
one_live shard p q live also same =
    ap (λ (e : Entry). e.pointer) (some_injective (staged Live p) (staged Live q) (sym live ∙ (ap (entry_at shard.entries) (sym same) ∙ also)))

-- ---- the pool

module _ {R A : Type 0} (rack : racks.Ghosts R) (area : areas.Ghosts A) where
  pub whole_valid : (pool : Pool R A) (m : ℕ) (shard : Shard R A) → IsWhole rack area pool → slice_get pool.metaslabs.shards.items m ≡ Some shard → Valid rack shard
  whole_valid pool m shard w there = (w.shards m shard there).valid

  pub whole_geometry : (pool : Pool R A) (m : ℕ) (shard : Shard R A) → IsWhole rack area pool → slice_get pool.metaslabs.shards.items m ≡ Some shard → shard.geometry ≡ pool.geometry
  whole_geometry pool m shard w there = ap (λ (p : Part). p.geometry) (w.shards m shard there).part

  pub all_whole : (pool : Pool R A) → IsWhole rack area pool → All (Valid rack) pool.metaslabs.shards.items
  all_whole pool w k d below = whole_valid pool k (slice_index_or pool.metaslabs.shards.items k d) w (slice_get-get_or pool.metaslabs.shards.items k d below)

  pub few_whole : (pool : Pool R A) → IsWhole rack area pool → length pool.metaslabs.shards.items ≤ 64
  few_whole pool w = (let many = w.many in let most = w.layout.geometry_is.props.most_metaslabs in omega (arith, many, most))

  pub few_geometry : (pool : Pool R A) → IsWhole rack area pool → pool.geometry.props.metaslabs ≤ 64
  few_geometry pool w = w.layout.geometry_is.props.most_metaslabs

  -- ---- one shard is another

  pub record Replaces (m : ℕ) (pool new : Pool R A) (shard shard' : Shard R A) : Type 0 where
    pub there : slice_get pool.metaslabs.shards.items m ≡ Some shard
    pub sets : new.metaslabs.shards.items ≡ slice_set pool.metaslabs.shards.items m shard'
    pub geometry : new.geometry ≡ pool.geometry
    pub uber : new.uber ≡ pool.uber
    pub valid : Valid rack shard'
    pub part : part_of shard' ≡ part_of shard
    pub committed : shard'.committed ≡ shard.committed
    pub opens : shard.open_group ≤ shard'.open_group
    pub slots : KeepsArms shard.slots shard'.slots

  same_shard : (perms : Perms) (pool new : Pool R A) (k : ℕ) (z : Shard R A) → IsShardOf rack perms pool k z → new.geometry ≡ pool.geometry → new.uber ≡ pool.uber → pool.own.seq ≤ new.own.seq
      → IsShardOf rack perms new k z
  same_shard perms pool new k z is geometry uber up = record {
    valid = is.valid;
    part = is.part ∙ ap (λ (g : Geometry). record { geometry = g; perms = perms; number = k }) (sym geometry);
    numbered = λ key h there. (let low = is.numbered key h there in omega (arith, low, up));
    settled = is.settled;
    committed = is.committed ∙ ap (λ u. group_of (kept_of u)) (sym uber);
    leaves = λ leaf own. subst (λ u. leaf < ubers.next_leaf_of u) (sym uber) (is.leaves leaf own);
  }

  whole_replaced : (m : ℕ) (pool new : Pool R A) (shard shard' : Shard R A) → IsWhole rack area pool → Replaces m pool new shard shard' → pool.own.seq ≤ new.own.seq → Numbered new.own.seq shard'
      → ((o : ℕ) (q : Pointer) → get nat_eq new.own.objects o ≡ Some q → IsPointer new o q) → new.own.floor ≤ group_of (kept_of pool.uber) + 2 → new.own.floor ≤ LAST_NUMBER → new.own.floor ≤ pool.own.floor
      → PointFits 0 (ubers.point_of pool.uber) (get nat_eq new.own.objects) new.own.seq → IsWhole rack area new
  whole_replaced m pool new shard shard' w r up n objects floor low less fits = record {
    perms = w.perms;
    layout = subst (λ g. IsLayout g w.perms) (sym r.geometry) w.layout;
    many = ap (λ zs. length zs) r.sets ∙ (length-set pool.metaslabs.shards.items m shard' ∙ (w.many ∙ ap (λ (g : Geometry). g.props.metaslabs) (sym r.geometry)));
    shards = each;
    alike = all_kept pool.metaslabs.shards.items new.metaslabs.shards.items kept w.alike;
    uber = subst (ubers.Valid area.size) (sym r.uber) w.uber;
    uber_layout = same_uber_layout pool.uber new.uber pool.geometry new.geometry r.uber r.geometry w.uber_layout;
    objects = objects;
    floor = subst (λ u. new.own.floor ≤ group_of (kept_of u) + 2) (sym r.uber) floor;
    low = low;
    near = near_kept pool.own.floor new.own.floor (slice_get pool.metaslabs.shards.items) (slice_get new.metaslabs.shards.items) less stays w.near;
    point = subst (λ u. PointFits 0 (ubers.point_of u) (get nat_eq new.own.objects) new.own.seq) (sym r.uber) fits;
    behind = λ own_group k z is there. later k z there own_group (ap (λ u. (ubers.point_of u).group) (sym r.uber) ∙ is);
  }
    where
      stays : (k : ℕ) (z : Shard R A) → slice_get pool.metaslabs.shards.items k ≡ Some z → (after : Shard R A) × (slice_get new.metaslabs.shards.items k ≡ Some after) × (z.open_group ≤ after.open_group)
      stays k z at = elim (cases_eq k m) [
        | inl same ↦
            let was : shard ≡ z = some_of (slice_get pool.metaslabs.shards.items m) shard z r.there (subst (λ j. slice_get pool.metaslabs.shards.items j ≡ Some z) same at) in
            let one = ap (λ (q : Shard R A). q.open_group) was in
            let opens = r.opens in
            (shard', ap (slice_get new.metaslabs.shards.items) same ∙ (ap (λ zs. slice_get zs m) r.sets ∙ get_set_same pool.metaslabs.shards.items m shard shard' r.there), omega (arith, one, opens))
        | inr other ↦ (z, ap (λ zs. slice_get zs k) r.sets ∙ (get_set_other pool.metaslabs.shards.items m k shard' (λ same. omega (arith, same, other)) ∙ at), omega arith)
      ]

      later : (k : ℕ) (z : Shard R A) → slice_get new.metaslabs.shards.items k ≡ Some z → (group : ℕ) → (ubers.point_of pool.uber).group ≡ Some group → group < z.open_group
      later k z there group is = elim (cases_eq k m) [
        | inl same ↦
            let here : shard' ≡ z = some_of (slice_get new.metaslabs.shards.items m) shard' z (ap (λ zs. slice_get zs m) r.sets ∙ get_set_same pool.metaslabs.shards.items m shard shard' r.there)
            (subst (λ j. slice_get new.metaslabs.shards.items j ≡ Some z) same there) in
            subst (λ (q : Shard R A). group < q.open_group) here (let low = w.behind group m shard is r.there in let up = r.opens in omega (arith, low, up))
        | inr other ↦ w.behind group k z is (sym (get_set_other pool.metaslabs.shards.items m k shard' (λ same. omega (arith, same, other))) ∙ (sym (ap (λ zs. slice_get zs k) r.sets) ∙ there))
      ]

      own : IsShardOf rack w.perms new m shard'
      own =
          let was = w.shards m shard r.there in
          record {
            valid = r.valid;
            part = r.part ∙ (was.part ∙ ap (λ (g : Geometry). record { geometry = g; perms = w.perms; number = m }) (sym r.geometry));
            numbered = n.numbered;
            settled = n.settled;
            committed = r.committed ∙ (was.committed ∙ ap (λ u. group_of (kept_of u)) (sym r.uber));
            leaves = λ leaf own. subst (λ u. leaf < ubers.next_leaf_of u) (sym r.uber) (was.leaves leaf (leaf_kept shard.slots shard'.slots leaf r.slots own));
          }

      kept : (k : ℕ) (z : Shard R A) → slice_get new.metaslabs.shards.items k ≡ Some z → Kept pool.metaslabs.shards.items k z
      kept k z there = elim (cases_eq k m) [
        | inl same ↦
            let here : shard' ≡ z = some_of (slice_get new.metaslabs.shards.items m) shard' z (ap (λ zs. slice_get zs m) r.sets ∙ get_set_same pool.metaslabs.shards.items m shard shard' r.there)
            (subst (λ j. slice_get new.metaslabs.shards.items j ≡ Some z) same there) in
            record { before = shard; there = ap (slice_get pool.metaslabs.shards.items) same ∙ r.there; slots = subst (λ (q : Shard R A). KeepsArms shard.slots q.slots) here r.slots }
        | inr other ↦ record {
          before = z;
          there = sym (get_set_other pool.metaslabs.shards.items m k shard' (λ same. omega (arith, same, other))) ∙ (sym (ap (λ zs. slice_get zs k) r.sets) ∙ there);
          slots = same_arms z.slots;
        }
      ]

      each : (k : ℕ) (z : Shard R A) → slice_get new.metaslabs.shards.items k ≡ Some z → IsShardOf rack w.perms new k z
      each k z there = elim (cases_eq k m) [
        | inl same ↦
            let here : shard' ≡ z = some_of (slice_get new.metaslabs.shards.items m) shard' z (ap (λ zs. slice_get zs m) r.sets ∙ get_set_same pool.metaslabs.shards.items m shard shard' r.there)
            (subst (λ j. slice_get new.metaslabs.shards.items j ≡ Some z) same there) in
            subst (λ j. IsShardOf rack w.perms new j z) (sym same) (subst (IsShardOf rack w.perms new m) here own)
        | inr other ↦
            same_shard w.perms pool new k z (w.shards k z (sym (get_set_other pool.metaslabs.shards.items m k shard' (λ same. omega (arith, same, other))) ∙ (sym (ap (λ zs. slice_get zs k) r.sets) ∙ there)))
            r.geometry r.uber up
      ]

  -- a pointer leads there yet
  pointer_replaced : (m : ℕ) (pool new : Pool R A) (shard shard' : Shard R A) (o : ℕ) (q : Pointer) → Replaces m pool new shard shard' → (IsLive shard q → IsLive shard' q) → IsPointer pool o q → IsPointer new o q
  pointer_replaced m pool new shard shard' o q r stays of = elim (cases_eq q.metaslab m) [
    | inl same ↦
        let was : of.shard ≡ shard = some_of (slice_get pool.metaslabs.shards.items m) of.shard shard (subst (λ k. slice_get pool.metaslabs.shards.items k ≡ Some of.shard) same of.there) r.there in
        record {
          object_is = of.object_is;
          shard = shard';
          there = ap (λ k. slice_get new.metaslabs.shards.items k) same ∙ (ap (λ zs. slice_get zs m) r.sets ∙ get_set_same pool.metaslabs.shards.items m shard shard' r.there);
          live = stays (subst (λ z. IsLive z q) was of.live);
        }
    | inr other ↦
        record {
          object_is = of.object_is;
          shard = of.shard;
          there = ap (λ zs. slice_get zs q.metaslab) r.sets ∙ (get_set_other pool.metaslabs.shards.items m q.metaslab shard' (λ same. omega (arith, same, other)) ∙ of.there);
          live = of.live;
        }
  ]

  numbered_here : (pool : Pool R A) (m : ℕ) (shard : Shard R A) → IsWhole rack area pool → slice_get pool.metaslabs.shards.items m ≡ Some shard → Numbered pool.own.seq shard
  numbered_here pool m shard w there = (let is = w.shards m shard there in record { numbered = is.numbered; settled = is.settled })

  -- ---- calls

  -- no block changed
  pub whole_same : (m : ℕ) (pool new : Pool R A) (shard shard' : Shard R A) → IsWhole rack area pool → Replaces m pool new shard shard' → SameEntries shard.entries shard'.entries → new.own.seq ≡ pool.own.seq
      → new.own.floor ≡ pool.own.floor → ((q : ℕ) → get nat_eq new.own.objects q ≡ get nat_eq pool.own.objects q) → IsWhole rack area new
  whole_same m pool new shard shard' w r same seq floor objects =
      let fits = w.floor in
      let low = w.low in
      whole_replaced m pool new shard shard' w r (omega (arith, seq)) (subst (λ n. Numbered n shard') (sym seq) (numbered_kept shard shard' pool.own.seq same (numbered_here pool m shard w r.there)))
      (λ o q at. pointer_replaced m pool new shard shard' o q r (λ live. same.at q.first ∙ live) (w.objects o q (sym (objects o) ∙ at))) (omega (arith, fits, floor)) (omega (arith, low, floor)) (omega (arith, floor))
      (fits_on 0 (ubers.point_of pool.uber) (get nat_eq pool.own.objects) (get nat_eq new.own.objects) pool.own.seq new.own.seq (omega (arith, seq)) (λ o p at. sym (objects o) ∙ at) w.point)

  -- and no group
  pub whole_kept : (m : ℕ) (pool new : Pool R A) (shard shard' : Shard R A) → IsWhole rack area pool → Replaces m pool new shard shard' → KeepsBlocks shard shard' → new.own.seq ≡ pool.own.seq
      → new.own.floor ≡ pool.own.floor → ((q : ℕ) → get nat_eq new.own.objects q ≡ get nat_eq pool.own.objects q) → IsWhole rack area new
  whole_kept m pool new shard shard' w r keeps seq floor objects = whole_same m pool new shard shard' w r keeps.entries seq floor objects

  -- only the table changed
  pub whole_table : (pool new : Pool R A) → IsWhole rack area pool → new.metaslabs.shards.items ≡ pool.metaslabs.shards.items → new.geometry ≡ pool.geometry → new.uber ≡ pool.uber → new.own.seq ≡ pool.own.seq
      → new.own.floor ≡ pool.own.floor → ((o : ℕ) (q : Pointer) → get nat_eq new.own.objects o ≡ Some q → IsPointer pool o q) → PointFits 0 (ubers.point_of pool.uber) (get nat_eq new.own.objects) new.own.seq → IsWhole rack area new
  whole_table pool new w shards geometry uber seq floor objects fits_now = record {
    perms = w.perms;
    layout = subst (λ g. IsLayout g w.perms) (sym geometry) w.layout;
    many = ap (λ zs. length zs) shards ∙ (w.many ∙ ap (λ (g : Geometry). g.props.metaslabs) (sym geometry));
    shards = λ k z there. same_shard w.perms pool new k z (w.shards k z (sym (ap (λ zs. slice_get zs k) shards) ∙ there)) geometry uber (omega (arith, seq));
    alike = λ m n a b at here. w.alike m n a b (sym (ap (λ zs. slice_get zs m) shards) ∙ at) (sym (ap (λ zs. slice_get zs n) shards) ∙ here);
    uber = subst (ubers.Valid area.size) (sym uber) w.uber;
    uber_layout = same_uber_layout pool.uber new.uber pool.geometry new.geometry uber geometry w.uber_layout;
    objects = λ o q at. (let of = objects o q at in record { object_is = of.object_is; shard = of.shard; there = ap (λ zs. slice_get zs q.metaslab) shards ∙ of.there; live = of.live });
    floor = subst (λ u. new.own.floor ≤ group_of (kept_of u) + 2) (sym uber) (let fits = w.floor in omega (arith, fits, floor));
    low = (let low = w.low in omega (arith, low, floor));
    near = near_kept pool.own.floor new.own.floor (slice_get pool.metaslabs.shards.items) (slice_get new.metaslabs.shards.items) (omega (arith, floor)) (λ k z at. (z, ap (λ zs. slice_get zs k) shards ∙ at, omega arith)) w.near;
    point = subst (λ u. PointFits 0 (ubers.point_of u) (get nat_eq new.own.objects) new.own.seq) (sym uber) fits_now;
    behind = λ group k z is there. w.behind group k z (ap (λ u. (ubers.point_of u).group) (sym uber) ∙ is) (sym (ap (λ zs. slice_get zs k) shards) ∙ there);
  }
