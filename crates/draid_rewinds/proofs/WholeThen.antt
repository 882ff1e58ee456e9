-- A whole pool stays whole as blocks are freed to which its table doesn't lead, and its checkpoint is given up.
use Rattle.std.proofs.lemmas.Bool.{cases_lt}
use Rattle.std.proofs.Common.{arith, ◌≡◌, ◌+◌, ◌≤◌, ◌∙◌, inl, inr, ℕ, Bool, true, false, List, [], ◌∷◌, Option, Some, refl, sym, ap, subst, slice_set, length, max, if◌then◌else◌}
use Rattle.std.specs.Prelude.{nat_eq, slice_get}
use Rattle.std.specs.HashMap.{get}
use Rattle.std.proofs.lemmas.Bool.{cases_eq}
use Rattle.std.proofs.lemmas.List.{length-set}
use Rattle.draid_names.specs.declared.numbers.TheConstants.{LAST_NUMBER}
use Rattle.draid_names.specs.declared.pointer.Pointer.{Pointer}
use Rattle.draid_rack.specs.declared.Rack as racks
use Rattle.draid_area.specs.declared.Area as areas
use Rattle.draid_machine.specs.declared.names.Held.{Held}
use Rattle.draid_machine.specs.declared.names.Key.{Key}
use Rattle.draid_machine.specs.declared.names.Stage.TheVariants.{Freed, Live}
use Rattle.draid_machine.specs.After.{set_held}
use Rattle.draid_machine.specs.Names.{is_block, key_eq}
use Rattle.draid_machine.proofs.Small.{key_true, none_some}
use Rattle.draid_entries.specs.Entries.{held_in}
use Rattle.draid_entries.specs.Maps.{held_at, key_of, staged}
use Rattle.draid_shard.specs.Alike.{KeepsArms}
use Rattle.draid_shard.specs.Calls.{SameAreas}
use Rattle.draid_shard.specs.Fits.{AreGroups, Valid}
use Rattle.draid_shard.specs.Looks.{IsLive}
use Rattle.draid_shard.specs.States.{part_of}
use Rattle.draid_shard.specs.declared.shard.Shard.{Shard}
use Rattle.draid_shard.proofs.Changed.{arms_then, same_arms}
use Rattle.draid_shard.proofs.Held.{key_leads}
use Rattle.draid_spec.specs.declared.layout.Geometry.{Geometry}
use Rattle.draid_map.specs.Place.{IsLayout}
use Rattle.std.proofs.lemmas.Option.{slice_get_within}
use Rattle.draid_uber.specs.Slots.{group_of}
use Rattle.draid_uber.specs.Uber as ubers
use Rattle.draid_uber.specs.Checks.{count_in}
use Rattle.draid_pool.specs.Failing.{AreasLater}
use Rattle.draid_pool.specs.Pools.{group_in}
use Rattle.draid_pool.specs.Syncing.{AreIdle}
use Rattle.draid_pool.specs.Whole.{IsPointer, IsShardOf, IsWhole}
use Rattle.draid_pool.specs.declared.pool.Pool.{Pool}
use Rattle.draid_pool.proofs.Arms.{all_kept, leaf_kept}
use Rattle.draid_pool.proofs.Lists.{get_set_other, get_set_same, present, some_of}
use Rattle.draid_pool.proofs.Rises.{records_same}
use Rattle.draid_pool.specs.Threads.{IsNear}
use Rattle.draid_pool.proofs.Nears.{near_kept}
use Rattle.draid_pool.proofs.Wholes.{fits_none, live_beside, one_live, open_high}
use Rattle.draid_rewinds.specs.Giving.{ForgetsPoint, MayGiveUp}
use Rattle.draid_rewinds.specs.Sweeps.{FreesAll, FreesOne, IsOpenIn}

module _ {R A : Type 0} (rack : racks.Ghosts R) (area : areas.Ghosts A) where
  -- ---- one metaslab

  -- what frees of blocks keep of a shard, beside those to which the table doesn't lead
  pub record KeepsOwn (table : ℕ → Option Pointer) (old new : Shard R A) : Type 0 where
    pub part : part_of new ≡ part_of old
    pub committed : new.committed ≡ old.committed
    pub opens : old.open_group ≤ new.open_group
    pub slots : KeepsArms old.slots new.slots
    pub areas_are : SameAreas old new
    pub held : (key : Key) (h : Held) → held_in new.entries key ≡ Some h → (z : Held) × (held_in old.entries key ≡ Some z) × (is_block z.stage ≡ true → is_block h.stage ≡ true)
    pub live : (p : Pointer) → table p.object ≡ Some p → IsLive old p → IsLive new p

  keeps_same : (table : ℕ → Option Pointer) (shard : Shard R A) → KeepsOwn table shard shard
  keeps_same table shard = record {
    part = refl;
    committed = refl;
    opens = omega arith;
    slots = same_arms shard.slots;
    areas_are = record { even = refl; odd = refl };
    held = λ key h there. (h, there, λ is. is);
    live = λ p leads live. live;
  }

  keeps_then : (table : ℕ → Option Pointer) (old mid new : Shard R A) → KeepsOwn table old mid → KeepsOwn table mid new → KeepsOwn table old new
  keeps_then table old mid new a b = record {
    part = b.part ∙ a.part;
    committed = b.committed ∙ a.committed;
    opens = (let one = a.opens in let two = b.opens in omega (arith, one, two));
    slots = arms_then old.slots mid.slots new.slots a.slots b.slots;
    areas_are = record { even = b.areas_are.even ∙ a.areas_are.even; odd = b.areas_are.odd ∙ a.areas_are.odd };
    held = λ key h there. (let y = b.held key h there in let z = a.held key y.0 y.1 in (z.0, z.1, λ is. y.2 (z.2 is)));
    live = λ p leads live. b.live p leads (a.live p leads live);
  }

  keeps_one : (table : ℕ → Option Pointer) (group : ℕ) (p : Pointer) (old new : Shard R A) → (held_in old.entries (key_of p) ≡ Some (held_at (staged Live p))) → FreesOne rack area table group p old new → KeepsOwn table old new
  keeps_one table group p old new there f = record {
    part = f.part;
    committed = f.sets.groups.committed;
    opens = (let same = f.sets.groups.open_group_is in omega (arith, same));
    slots = f.sets.slots;
    areas_are = f.kit.areas;
    held = λ key h at. (let is = sym (f.sets.entry.held key) ∙ at in at_key key h is);
    live = λ q leads live. live_beside old new p q (Some (staged (Freed group) p)) f.sets
        (λ same. (let one : p ≡ q = one_live old p q f.live live same in f.other (subst (λ (z : Pointer). table z.object ≡ Some z) (sym one) leads))) live;
  }
    where
      at_key : (key : Key) (h : Held) → set_held (held_in old.entries) (key_of p) (Some (held_at (staged (Freed group) p))) key ≡ Some h → (z : Held) × (held_in old.entries key ≡ Some z) × (is_block z.stage ≡ true → is_block h.stage ≡ true)
      at_key key h is = by (key_eq (key_of p) key) refl is
        where
          by : (b : Bool) → key_eq (key_of p) key ≡ b → (if b then Some (held_at (staged (Freed group) p)) else held_in old.entries key) ≡ Some h
              → (z : Held) × (held_in old.entries key ≡ Some z) × (is_block z.stage ≡ true → is_block h.stage ≡ true)
          by true same is = (
            held_at (staged Live p),
            subst (λ k. held_in old.entries k ≡ Some (held_at (staged Live p))) (key_true (key_of p) key same) there,
            λ own. sym (ap (λ (z : Held). is_block z.stage) (some_of (Some (held_at (staged (Freed group) p))) (held_at (staged (Freed group) p)) h refl is)),
          )
          by false other is = (h, is, λ own. own)

  -- ---- all metaslabs

  pub record KeepsAll (table : ℕ → Option Pointer) (old new : List (Shard R A)) : Type 0 where
    pub many : length new ≡ length old
    pub each : (m : ℕ) (z : Shard R A) → slice_get new m ≡ Some z → (y : Shard R A) × (slice_get old m ≡ Some y) × KeepsOwn table y z
    pub valid : (m : ℕ) (z : Shard R A) → slice_get new m ≡ Some z → Valid rack z

  pub keeps_all : (table : ℕ → Option Pointer) (group : ℕ) (ds : List (ℕ × Pointer)) (old new : List (Shard R A)) → ((m : ℕ) (z : Shard R A) → slice_get old m ≡ Some z → Valid rack z) → FreesAll rack area table group ds old new → KeepsAll table old new
  keeps_all table group [] old new valid same = subst (KeepsAll table old) (sym same) (record { many = refl; each = λ m z there. (z, there, keeps_same table z); valid = valid })
  keeps_all table group (d ∷ ds) old new valid (mid, before, after, rest, there, one, is) = subst (KeepsAll table old) (sym is) (more (keeps_all table group ds old mid valid rest))
    where
      more : KeepsAll table old mid → KeepsAll table old (slice_set mid d.0 after)
      more s = record {
        many = length-set mid d.0 after ∙ s.many;
        each = λ m z at. elim (cases_eq m d.0) [
          | inl same ↦
              let here : after ≡ z = some_of (slice_get (slice_set mid d.0 after) d.0) after z (get_set_same mid d.0 before after there) (subst (λ j. slice_get (slice_set mid d.0 after) j ≡ Some z) same at) in
              let was = s.each d.0 before there in
              let step : KeepsOwn table before after = keeps_one table group d.1 before after (key_leads before.entries d.1.first (staged Live d.1) one.live) one in
              (was.0, subst (λ j. slice_get old j ≡ Some was.0) (sym same) was.1, subst (KeepsOwn table was.0) here (keeps_then table was.0 before after was.2 step))
          | inr other ↦ s.each m z (sym (get_set_other mid d.0 m after (λ same. omega (arith, same, other))) ∙ at)
        ];
        valid = λ m z at. elim (cases_eq m d.0) [
          | inl same ↦
              let here : after ≡ z = some_of (slice_get (slice_set mid d.0 after) d.0) after z (get_set_same mid d.0 before after there) (subst (λ j. slice_get (slice_set mid d.0 after) j ≡ Some z) same at) in
              subst (Valid rack) here one.open_.valid
          | inr other ↦ s.valid m z (sym (get_set_other mid d.0 m after (λ same. omega (arith, same, other))) ∙ at)
        ];
      }

  -- ---- the pool

  -- where no group is closing, the one behind the committed one is open in each metaslab
  pub open_idle : (pool : Pool R A) → IsWhole rack area pool → AreIdle pool.metaslabs.shards.items → (m : ℕ) (shard : Shard R A) → slice_get pool.metaslabs.shards.items m ≡ Some shard → IsOpenIn rack (group_in pool + 1) shard
  open_idle pool w idle m shard there =
      let is = w.shards m shard there in
      let groups : (shard.open_group ≡ shard.committed + 1) × (shard.sealed ≡ false) = subst (λ o. AreGroups shard.open_group o shard.committed shard.sealed) (idle m shard there) is.valid.groups in
      let at : shard.open_group ≡ group_in pool + 1 = groups.0 ∙ ap (λ n. n + 1) is.committed in
      let low = is.valid.low in
      record { valid = is.valid; is_open = at; low = omega (arith, at, low) }

  pub may_give_low : (pool : Pool R A) → IsWhole rack area pool → AreIdle pool.metaslabs.shards.items → group_in pool + 1 ≤ LAST_NUMBER
  may_give_low pool w idle =
      let many = w.many in
      let some = w.layout.geometry_is.props.some_metaslabs in
      let shard = present pool.metaslabs.shards.items 0 (omega (arith, many, some)) in
      (open_idle pool w idle 0 shard.0 shard.1).low

  pub may_give : (pool : Pool R A) → IsWhole rack area pool → AreIdle pool.metaslabs.shards.items → MayGiveUp rack area pool
  may_give pool w idle = record {
    each = open_idle pool w idle;
    few = (let many = w.many in let most = w.layout.geometry_is.props.most_metaslabs in omega (arith, many, most));
    low = may_give_low pool w idle;
    uber = w.uber;
  }

  module _ (old new : Pool R A) (w : IsWhole rack area old) (low : group_in old + 1 ≤ LAST_NUMBER) (table : ℕ → Option Pointer) (keeps : KeepsAll table old.metaslabs.shards.items new.metaslabs.shards.items) (objects_are : (o : ℕ) → get nat_eq new.own.objects o ≡ table o)
      (uber : ForgetsPoint area (group_in old + 1) old.uber new.uber) (geometry : new.geometry ≡ old.geometry) (objects : (o : ℕ) (p : Pointer) → table o ≡ Some p → IsPointer old o p) (seq : new.own.seq ≡ old.own.seq)
      (floor : new.own.floor ≡ max old.own.floor (group_in old + 1)) where
    kept_is : group_in new ≡ group_in old
    kept_is = ap group_of uber.sets.kept

    each_shard : (m : ℕ) (z : Shard R A) → slice_get new.metaslabs.shards.items m ≡ Some z → IsShardOf rack w.perms new m z
    each_shard m z at =
        let k = keeps.each m z at in
        let was = w.shards m k.0 k.1 in
        record {
          valid = keeps.valid m z at;
          part = k.2.part ∙ (was.part ∙ (λ i. record { geometry = (sym geometry) i; perms = w.perms; number = m }));
          numbered = λ key h there. (let y = k.2.held key h there in let up = was.numbered key y.0 y.1 in omega (arith, up, seq));
          settled = λ key h there. (let y = k.2.held key h there in y.2 (was.settled key y.0 y.1));
          committed = k.2.committed ∙ (was.committed ∙ sym kept_is);
          leaves = λ leaf own. (let less = was.leaves leaf (leaf_kept k.0.slots z.slots leaf k.2.slots own) in let same = uber.sets.leaf in omega (arith, less, same));
        }

    pointer_then : (o : ℕ) (p : Pointer) → get nat_eq new.own.objects o ≡ Some p → IsPointer new o p
    pointer_then o p leads =
        let own : table o ≡ Some p = sym (objects_are o) ∙ leads in
        let of = objects o p own in
        let within = slice_get_within old.metaslabs.shards.items p.metaslab of.shard of.there in
        let many = keeps.many in
        let z = present new.metaslabs.shards.items p.metaslab (omega (arith, within, many)) in
        let k = keeps.each p.metaslab z.0 z.1 in
        let same : of.shard ≡ k.0 = some_of (slice_get old.metaslabs.shards.items p.metaslab) of.shard k.0 of.there k.1 in
        record { object_is = of.object_is; shard = z.0; there = z.1; live = k.2.live p (ap table of.object_is ∙ own) (subst (λ s. IsLive s p) same of.live) }

    near_then : IsNear new.own.floor (slice_get new.metaslabs.shards.items)
    near_then = elim (cases_lt old.own.floor (group_in old + 1)) [
      | inl less ↦
          let many = w.many in
          let some = w.layout.geometry_is.props.some_metaslabs in
          let long = keeps.many in
          let z = present new.metaslabs.shards.items 0 (omega (arith, many, some, long)) in
          let is = each_shard 0 z.0 z.1 in
          let high = open_high z.0.open_group z.0.closing z.0.committed z.0.sealed is.valid.groups in
          let own = is.committed in
          let same = kept_is in
          record { metaslab = 0; shard = z.0; there = z.1; near = omega (arith, floor, less, high, own, same) }
      | inr from ↦ near_kept old.own.floor new.own.floor (slice_get old.metaslabs.shards.items) (slice_get new.metaslabs.shards.items) (omega (arith, floor, from)) stays w.near
    ]
      where
        stays : (m : ℕ) (y : Shard R A) → slice_get old.metaslabs.shards.items m ≡ Some y → (after : Shard R A) × (slice_get new.metaslabs.shards.items m ≡ Some after) × (y.open_group ≤ after.open_group)
        stays m y at =
            let within = slice_get_within old.metaslabs.shards.items m y at in
            let many = keeps.many in
            let z = present new.metaslabs.shards.items m (omega (arith, within, many)) in
            let k = keeps.each m z.0 z.1 in
            let same = ap (λ (q : Shard R A). q.open_group) (some_of (slice_get old.metaslabs.shards.items m) y k.0 at k.1) in
            let opens = k.2.opens in
            (z.0, z.1, omega (arith, same, opens))

    pub whole_then : IsWhole rack area new
    whole_then = record {
      perms = w.perms;
      layout = subst (λ g. IsLayout g w.perms) (sym geometry) w.layout;
      many = keeps.many ∙ (w.many ∙ ap (λ (g : Geometry). g.props.metaslabs) (sym geometry));
      shards = each_shard;
      alike = all_kept old.metaslabs.shards.items new.metaslabs.shards.items (λ m z at. (let k = keeps.each m z at in record { before = k.0; there = k.1; slots = k.2.slots })) w.alike;
      uber = uber.sets.valid;
      uber_layout = (λ i. ubers.layout_in (uber.sets.layout i) (geometry i).props.version) ∙ (w.uber_layout ∙ sym geometry);
      objects = pointer_then;
      floor = (let was = w.floor in let same = kept_is in omega (arith, was, floor, same));
      low = (let was = w.low in omega (arith, was, floor, low));
      near = near_then;
      point = fits_none (ubers.point_of new.uber) (get nat_eq new.own.objects) new.own.seq uber.point uber.drops;
      behind = λ own m z is there. absurd (none_some (ubers.point_of new.uber).group own uber.point is);
    }

    pub areas_then : AreasLater area.faults old new
    areas_then = record {
      uber = (let same = ap (count_in area.faults) uber.sets.areas_are in omega (arith, same));
      many = keeps.many;
      shards = λ m before after was is.
          (let k = keeps.each m after is in
          records_same area.faults before after (subst (λ (s : Shard R A). SameAreas s after) (some_of (slice_get old.metaslabs.shards.items m) k.0 before k.1 was) k.2.areas_are));
    }
