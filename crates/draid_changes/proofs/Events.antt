-- An event comes in each metaslab of a pool, for which events are reserved there.
use Rattle.std.proofs.Common.{◌≡◌, ◌≤◌, ◌+◌, ◌∙◌, ℕ, false, Option, Some, None, arith, refl, sym, ap, subst, length}
use Rattle.std.specs.Prelude.{is_some, nat_eq, slice_get}
use Rattle.std.specs.HashMap.{get}
use Rattle.draid_rack.specs.declared.Rack as racks
use Rattle.draid_area.specs.declared.Area as areas
use Rattle.draid_machine.specs.declared.event.Event.{Event}
use Rattle.draid_machine.specs.State as machine
use Rattle.draid_segments.specs.Segments.{Pieces}
use Rattle.draid_shard.specs.Calls.{SameAreas}
use Rattle.draid_shard.specs.Fits.{AreGroups}
use Rattle.draid_shard.specs.Part.{Part}
use Rattle.draid_shard.specs.declared.shard.Shard.{Shard}
use Rattle.draid_uber.specs.Uber.{count_of}
use Rattle.draid_session.specs.Arms as arms
use Rattle.draid_session.specs.Phases.{Went}
use Rattle.draid_session.specs.State.{Metaslab, State}
use Rattle.draid_pool.specs.Carries.{CarriesOut}
use Rattle.draid_pool.specs.Failing.{AreasLater, RacksLater}
use Rattle.draid_pool.specs.Groups as sealing
use Rattle.draid_pool.specs.Importable.{HasPoolVersions, IsAlike, Shared}
use Rattle.draid_pool.specs.Keeping.{KeepsEach}
use Rattle.draid_pool.specs.Metaslabs.{IsMetaslab}
use Rattle.draid_pool.specs.Pools.{Represents, part_in}
use Rattle.draid_pool.specs.Syncing.{AreIdle, Phase, Turns}
use Rattle.draid_pool.specs.declared.pool.Pool.{Pool}
use Rattle.draid_pool.proofs.Lists.{some_of}
use Rattle.draid_pool.proofs.Moved.{uber_stays}
use Rattle.draid_pool.proofs.Rises.{records_same}
use Rattle.draid_pool.proofs.Steps.{carried}
use Rattle.draid_pool.proofs.Stood.{IsOneOf, Rest, Stood, represents_of, stood_of}
use Rattle.draid_changes.specs.declared.need.Need.{Need}
use Rattle.draid_changes.specs.Walks.{ChangedBelow, Reserves}
use Rattle.draid_changes.proofs.Walk.{ChangesAll, IsChanged, changed_at, changes_all}
use Rattle.draid_changes.proofs.Whole.{SameOwn}

-- what each change keeps is kept in all metaslabs
pub each_changed : {R A : Type 0} (Changes keeps : Shard R A → Shard R A → Type 0) (pool new : Pool R A) → ChangedBelow Changes (length pool.metaslabs.shards.items) pool.metaslabs.shards.items new.metaslabs.shards.items
    → ((old now : Shard R A) → Changes old now → keeps old now) → KeepsEach keeps pool new
each_changed Changes keeps pool new changes by = record {
  many = changes.many;
  each = λ m before after at here.
      (let was = changed_at Changes pool.metaslabs.shards.items new.metaslabs.shards.items changes m after here in
      subst (λ s. keeps s after) (some_of (slice_get pool.metaslabs.shards.items m) was.0 before was.1 at) (by was.0 after was.2));
}

-- no rack was called
pub racks_changed : {R A : Type 0} (faults : R → Option ℕ → ℕ) (Changes : Shard R A → Shard R A → Type 0) (pool new : Pool R A)
    → ChangedBelow Changes (length pool.metaslabs.shards.items) pool.metaslabs.shards.items new.metaslabs.shards.items → ((old now : Shard R A) → Changes old now → now.rack ≡ old.rack) → RacksLater faults pool new
racks_changed faults Changes pool new changes same =
    each_changed Changes (λ before after. faults before.rack None ≤ faults after.rack None) pool new changes
    (λ old now s. (let is = ap (λ r. faults r None) (same old now s) in omega (arith, is)))

module _ {R A : Type 0} (rack : racks.Ghosts R) (area : areas.Ghosts A) where
  -- a metaslab without a closing group has no sealed one
  pub unsealed : (part : Part) (pieces : Pieces) (shard : Shard R A) (y : Metaslab) → IsMetaslab rack area part pieces shard y → shard.closing ≡ None → y.world.sealed ≡ None
  unsealed part pieces shard y is idle =
      let groups : (shard.open_group ≡ shard.committed + 1) × (shard.sealed ≡ false) = subst (λ o. AreGroups shard.open_group o shard.committed shard.sealed) idle is.valid.groups in
      by y.world.sealed (is.stands.is_in.sealed ∙ groups.1)
    where
      by : (o : Option machine.Image) → is_some o ≡ false → o ≡ None
      by None none = refl
      by (Some image) none = absurd (cc)

  pub idle_reserved : (need : Need) (mid late : Pool R A) → AreIdle mid.metaslabs.shards.items → ChangedBelow (Reserves need) (length mid.metaslabs.shards.items) mid.metaslabs.shards.items late.metaslabs.shards.items → AreIdle late.metaslabs.shards.items
  idle_reserved need mid late idle c m z at = (let was = changed_at (Reserves need) mid.metaslabs.shards.items late.metaslabs.shards.items c m z at in was.2.groups.closing ∙ idle m was.0 was.1)

  module _ (Changes : Shard R A → Shard R A → Type 0) (pool new : Pool R A) (changes : ChangedBelow Changes (length pool.metaslabs.shards.items) pool.metaslabs.shards.items new.metaslabs.shards.items) (set : SameOwn pool new) where
    -- what all metaslabs have in common then, by what becomes of one that had what they had in common before
    pub events_done : (e : Event) (x : State) (r : Represents rack area pool x) (after : Shared) → HasPoolVersions x.kept_version x.next_version after
        → ((m : ℕ) (pieces : Pieces) (shard z : Shard R A) (y : Metaslab) → slice_get pool.metaslabs.shards.items m ≡ Some shard → IsMetaslab rack area (part_in x m) pieces shard y → Changes shard z
        → IsAlike r.stands.shared y.world → Turns rack area (part_in x m) pieces y z (λ hold v. arms.Happens x.geometry x.perms e m hold × IsChanged x after y v))
        → CarriesOut rack area new x (Phase x (arms.EventPhase x.geometry x.perms e) Went)
    unfolding stood_of
    events_done e x r after versions turn =
        carried rack area new x c.holds reached (Phase x (arms.EventPhase x.geometry x.perms e) Went) c.follows (represents_of rack area new after reached own rest) (refl, (c.each, refl))
      where
        c : ChangesAll rack area pool.metaslabs.shards.items new.metaslabs.shards.items (λ object. get nat_eq pool.own.objects object) x r.stands.shared after (arms.Happens x.geometry x.perms e) Changes changes turn
        c = changes_all rack area pool.metaslabs.shards.items new.metaslabs.shards.items (λ object. get nat_eq pool.own.objects object) x r.stands.shared after (arms.Happens x.geometry x.perms e) Changes changes turn
            (stood_of rack area pool x r)

        reached : State
        reached = record x { metaslabs = c.metaslabs }

        own : Stood rack area new.metaslabs.shards.items (λ object. get nat_eq new.own.objects object) reached (IsOneOf x.committed after)
        own = subst (λ os. Stood rack area new.metaslabs.shards.items (λ object. get nat_eq os object) (record x { metaslabs = c.metaslabs }) (IsOneOf x.committed after)) (sym set.objects) c.stood

        rest : Rest rack area new after reached
        rest = record {
          geometry = r.stands.geometry ∙ sym set.geometry;
          versions = versions;
          next = r.stands.groups.next;
          last = r.stands.groups.last;
          seq = r.stands.seq ∙ sym set.seq;
          floor = r.stands.floor ∙ sym set.floor;
          uber = uber_stays rack area pool new x c.metaslabs x.store refl set.uber r.stands.uber;
        }

    -- where no area was touched
    pub areas_changed : ((old now : Shard R A) → Changes old now → SameAreas old now) → AreasLater area.faults pool new
    areas_changed same = record {
      uber = (let same = ap (λ u. count_of area.faults u) set.uber in omega (arith, same));
      many = changes.many;
      shards = (each_changed Changes (sealing.AreasLater area.faults) pool new changes (λ old now s. records_same area.faults old now (same old now s))).each;
    }
