-- A whole pool stays whole as version 2 is asked for.
use Rattle.std.proofs.Common.{◌≡◌, ◌∙◌, inl, inr, ℕ, Some, arith, refl, sym, ap, subst, length}
use Rattle.std.specs.Prelude.{nat_eq, slice_get}
use Rattle.std.specs.HashMap.{get}
use Rattle.draid_checkpoint.specs.Check.{Point}
use Rattle.draid_rack.specs.declared.Rack as racks
use Rattle.draid_area.specs.declared.Area as areas
use Rattle.draid_shard.specs.Alike.{KeepsArms}
use Rattle.draid_shard.specs.Calls.{SameAreas}
use Rattle.draid_shard.specs.declared.shard.Shard.{Shard}
use Rattle.draid_shard.proofs.Changed.{same_arms, same_entries}
use Rattle.draid_uber.specs.Checks.{count_in}
use Rattle.draid_uber.specs.Slots.{group_of}
use Rattle.draid_uber.specs.Uber.{layout_of}
use Rattle.draid_pool.specs.Failing.{AreasLater}
use Rattle.draid_pool.specs.Syncing.{AreIdle}
use Rattle.draid_pool.specs.Whole.{IsWhole, PointFits}
use Rattle.draid_pool.specs.declared.pool.Pool.{Pool}
use Rattle.draid_pool.proofs.Arms.{all_kept, leaf_kept}
use Rattle.draid_pool.proofs.Lists.{some_of}
use Rattle.draid_pool.proofs.Rises.{records_same}
use Rattle.draid_pool.proofs.Versions.{layout_again}
use Rattle.draid_changes.specs.Upgrading.{MayUpgrade, UpgradesIn}
use Rattle.draid_changes.specs.Walks.{ChangedBelow, Reserves}
use Rattle.draid_changes.specs.declared.need.Need.TheVariants as needs
use Rattle.draid_changes.proofs.Upgraded.{AsksPool}
use Rattle.draid_changes.proofs.Walk.{changed_at}
use Rattle.draid_changes.proofs.Whole.{IsStill, whole_changed}

module _ {R A : Type 0} (rack : racks.Ghosts R) (area : areas.Ghosts A) where
  still : (old now : Shard R A) → UpgradesIn rack old now → IsStill rack old now
  still old now (inl s) = record { valid = s.valid; part = s.does.part; entries = s.keeps.entries; committed = s.keeps.groups.committed; opens = (let same = s.keeps.groups.open_group_is in omega (arith, same)) }
  still old now (inr s) = subst (IsStill rack old) (sym s.0) (record { valid = s.2; part = refl; entries = same_entries old.entries; committed = refl; opens = omega arith })

  slots_stay : (old now : Shard R A) → UpgradesIn rack old now → KeepsArms old.slots now.slots
  slots_stay old now (inl s) = s.slots
  slots_stay old now (inr s) = subst (λ (z : Shard R A). KeepsArms old.slots z.slots) (sym s.0) (same_arms old.slots)

  areas_stay : (old now : Shard R A) → UpgradesIn rack old now → SameAreas old now
  areas_stay old now (inl s) = s.kit.areas
  areas_stay old now (inr s) = subst (SameAreas old) (sym s.0) (record { even = refl; odd = refl })

  -- version 2 may be asked for in each metaslab, for which an event is reserved there
  pub may_upgrade : (mid late : Pool R A) → IsWhole rack area late → AreIdle late.metaslabs.shards.items
      → ChangedBelow (Reserves needs.Event) (length mid.metaslabs.shards.items) mid.metaslabs.shards.items late.metaslabs.shards.items → (m : ℕ) (z : Shard R A) → slice_get late.metaslabs.shards.items m ≡ Some z → MayUpgrade rack z
  may_upgrade mid late w idle c m z at =
      let was = changed_at (Reserves needs.Event) mid.metaslabs.shards.items late.metaslabs.shards.items c m z at in
      record { valid = (w.shards m z at).valid; reserved = was.2.reserved; idle = idle m z at }

  module _ (pool new : Pool R A) (a : AsksPool rack area pool new) where
    -- with the uberblock as it was
    before_uber : IsWhole rack area pool → IsWhole rack area (record new { uber = pool.uber })
    before_uber w =
        whole_changed rack area (UpgradesIn rack) pool (record new { uber = pool.uber }) w a.metaslabs (record { geometry = a.geometry; uber = refl; objects = a.objects; seq = a.seq; floor = a.floor }) still
        (λ k now at leaf own.
        (let was = changed_at (UpgradesIn rack) pool.metaslabs.shards.items new.metaslabs.shards.items a.metaslabs k now at in
        (w.shards k was.0 was.1).leaves leaf (leaf_kept was.0.slots now.slots leaf (slots_stay was.0 now was.2) own)))
        (all_kept pool.metaslabs.shards.items new.metaslabs.shards.items (λ k z at.
        (let was = changed_at (UpgradesIn rack) pool.metaslabs.shards.items new.metaslabs.shards.items a.metaslabs k z at in record { before = was.0; there = was.1; slots = slots_stay was.0 z was.2 })) w.alike)

    pub whole_asked : IsWhole rack area pool → IsWhole rack area new
    whole_asked whole = (let w = before_uber whole in let kept = ap group_of a.uber.kept in let next = a.uber.next_leaf in record {
      perms = w.perms;
      layout = w.layout;
      many = w.many;
      shards = λ k z at. (let is = w.shards k z at in record {
        valid = is.valid;
        part = is.part;
        numbered = is.numbered;
        settled = is.settled;
        committed = is.committed ∙ sym kept;
        leaves = λ leaf own. (let less = is.leaves leaf own in omega (arith, less, next));
      });
      alike = w.alike;
      uber = a.uber.valid;
      uber_layout = layout_again (layout_of pool.uber) (layout_of new.uber) new.geometry new.geometry a.uber.layout refl w.uber_layout;
      objects = λ o q at. (let of = w.objects o q at in record { object_is = of.object_is; shard = of.shard; there = of.there; live = of.live });
      floor = (let fits = w.floor in omega (arith, fits, kept));
      low = w.low;
      near = w.near;
      point = subst (λ p. PointFits 0 p (get nat_eq new.own.objects) new.own.seq) (sym a.uber.point) w.point;
      behind = λ own k z is at. w.behind own k z (ap (λ (p : Point). p.group) (sym a.uber.point) ∙ is) at;
    })

    -- no call on an area came
    pub areas_asked : AreasLater area.faults pool new
    areas_asked = record {
      uber = (let same = ap (count_in area.faults) a.uber.areas_is in omega (arith, same));
      many = a.metaslabs.many;
      shards = λ m before after at here.
          (let was = changed_at (UpgradesIn rack) pool.metaslabs.shards.items new.metaslabs.shards.items a.metaslabs m after here in
          records_same area.faults before after (subst (λ (s : Shard R A). SameAreas s after) (some_of (slice_get pool.metaslabs.shards.items m) was.0 before was.1 at) (areas_stay was.0 after was.2)));
    }
