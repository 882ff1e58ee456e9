-- A whole pool stays whole as its uberblock names a group, or is refused it.
use Rattle.std.proofs.Common.{◌≡◌, ◌+◌, ◌<◌, ◌≤◌, ◌∙◌, ℕ, List, Some, None, arith, sym, ap, subst, length, if◌then◌else◌}
use Rattle.std.specs.Prelude.{nat_eq, slice_get}
use Rattle.std.specs.HashMap.{get}
use Rattle.std.proofs.lemmas.Option.{slice_get_within}
use Rattle.draid_names.specs.declared.numbers.TheConstants.{LAST_NUMBER}
use Rattle.draid_names.specs.declared.pointer.Pointer.{Pointer}
use Rattle.draid_rack.specs.declared.Rack as racks
use Rattle.draid_area.specs.declared.Area as areas
use Rattle.draid_spec.specs.declared.layout.Geometry.{Geometry}
use Rattle.draid_map.specs.Place.{IsLayout}
use Rattle.draid_machine.specs.declared.names.Held.{Held}
use Rattle.draid_machine.specs.declared.names.Key.{Key}
use Rattle.draid_machine.specs.After.{is_freed_block}
use Rattle.draid_machine.proofs.Small.{kept_some}
use Rattle.draid_entries.specs.Entries.{held_in}
use Rattle.draid_shard.specs.Looks.{IsLive}
use Rattle.draid_pool.specs.Committing.{DropsFreed, is_freed_entry}
use Rattle.draid_slots.specs.Changes.{Commits as CommitsSlots}
use Rattle.draid_shard.specs.Alike.{ShareArms}
use Rattle.draid_shard.specs.Fits.{AreGroups}
use Rattle.draid_shard.specs.declared.shard.Shard.{Shard}
use Rattle.draid_uber.specs.Slots.{group_of}
use Rattle.draid_uber.specs.Uber as ubers
use Rattle.draid_uber.specs.Uber.{kept_of}
use Rattle.draid_pool.specs.Syncing.{AreIdle, Commits, CommitsBelow}
use Rattle.draid_pool.specs.Whole.{IsPointer, IsShardOf, IsWhole, PointFits}
use Rattle.draid_pool.specs.declared.pool.Pool.{Pool}
use Rattle.draid_pool.proofs.Arms.{leaf_left, share_left}
use Rattle.draid_pool.proofs.Lists.{present, some_of}
use Rattle.draid_pool.proofs.Nears.{near_kept}
use Rattle.draid_pool.specs.Ubers.{Names, Refuses}
use Rattle.draid_pool.proofs.Versions.{layout_again}
use Rattle.draid_pool.proofs.Wholes.{fits_on}
use Rattle.draid_checkpoint.specs.Check.{Point}

module _ {R A : Type 0} (rack : racks.Ghosts R) (area : areas.Ghosts A) where
  -- a pool has a metaslab
  pub first_shard : (pool : Pool R A) → IsWhole rack area pool → (shard : Shard R A) × (slice_get pool.metaslabs.shards.items 0 ≡ Some shard)
  first_shard pool w = present pool.metaslabs.shards.items 0 (let many = w.many in let some = w.layout.geometry_is.props.some_metaslabs in omega (arith, many, some))

  -- a group that closes is the one behind the committed one
  pub closing_next : (pool : Pool R A) (m group : ℕ) (shard : Shard R A) → IsWhole rack area pool → slice_get pool.metaslabs.shards.items m ≡ Some shard → shard.closing ≡ Some group
      → group ≡ group_of (kept_of pool.uber) + 1
  closing_next pool m group shard w there closing =
      let is = w.shards m shard there in
      let groups : (shard.open_group ≡ group + 1) × (group ≡ shard.committed + 1) = subst (λ o. AreGroups shard.open_group o shard.committed shard.sealed) closing is.valid.groups in
      let behind = groups.1 in
      let committed = is.committed in
      omega (arith, behind, committed)

  -- and isn't the last
  pub closing_low : (pool : Pool R A) (m group : ℕ) (shard : Shard R A) → IsWhole rack area pool → slice_get pool.metaslabs.shards.items m ≡ Some shard → shard.closing ≡ Some group → group ≡ LAST_NUMBER → ⊥
  closing_low pool m group shard w there closing last =
      let is = w.shards m shard there in
      let groups : (shard.open_group ≡ group + 1) × (group ≡ shard.committed + 1) = subst (λ o. AreGroups shard.open_group o shard.committed shard.sealed) closing is.valid.groups in
      let behind = groups.0 in
      let low = is.valid.low in
      omega (arith, behind, low, last)

  -- where all committed their group none is closing
  pub idle_committed : (group : ℕ) (old new : List (Shard R A)) → CommitsBelow rack group (length old) old new → AreIdle new
  idle_committed group old new commits m z there =
      let inside = slice_get_within new m z there in
      let many = commits.many in
      let was = present old m (omega (arith, inside, many)) in
      let after = commits.below m was.0 (omega (arith, inside, many)) was.1 in
      subst (λ (q : Shard R A). q.closing ≡ None) (some_of (slice_get new m) after.0 z after.1 there) after.2.commits.closing

  -- ---- the checkpoint

  point_on : (pool new : Pool R A) → IsWhole rack area pool → ubers.point_of new.uber ≡ ubers.point_of pool.uber → new.own.objects ≡ pool.own.objects → new.own.seq ≡ pool.own.seq
      → PointFits 0 (ubers.point_of new.uber) (get nat_eq new.own.objects) new.own.seq
  point_on pool new w point objects seq = subst (λ p. PointFits 0 p (get nat_eq new.own.objects) new.own.seq) (sym point)
      (fits_on 0 (ubers.point_of pool.uber) (get nat_eq pool.own.objects) (get nat_eq new.own.objects) pool.own.seq new.own.seq (omega (arith, seq)) (λ o p at. sym (ap (λ os. get nat_eq os o) objects) ∙ at) w.point)

  -- ---- the uberblock refuses

  pub whole_refused : (pool new : Pool R A) (group : ℕ) → IsWhole rack area pool → Refuses area pool.uber new.uber group → new.metaslabs.shards.items ≡ pool.metaslabs.shards.items → new.geometry ≡ pool.geometry
      → new.own.objects ≡ pool.own.objects → new.own.seq ≡ pool.own.seq → new.own.floor ≡ pool.own.floor → IsWhole rack area new
  whole_refused pool new group w n shards geometry objects seq floor = record {
    perms = w.perms;
    layout = subst (λ g. IsLayout g w.perms) (sym geometry) w.layout;
    many = ap (λ zs. length zs) shards ∙ (w.many ∙ ap (λ (g : Geometry). g.props.metaslabs) (sym geometry));
    shards = λ k z there. (let is = w.shards k z (sym (ap (λ zs. slice_get zs k) shards) ∙ there) in record {
      valid = is.valid;
      part = is.part ∙ ap (λ (g : Geometry). record { geometry = g; perms = w.perms; number = k }) (sym geometry);
      numbered = λ key h at. (let low = is.numbered key h at in omega (arith, low, seq));
      settled = is.settled;
      committed = is.committed ∙ ap group_of (sym n.kept);
      leaves = λ leaf own. (let low = is.leaves leaf own in let same = n.next_leaf in omega (arith, low, same));
    });
    alike = λ m k a b at here. w.alike m k a b (sym (ap (λ zs. slice_get zs m) shards) ∙ at) (sym (ap (λ zs. slice_get zs k) shards) ∙ here);
    uber = n.valid;
    uber_layout = layout_again (ubers.layout_of pool.uber) (ubers.layout_of new.uber) pool.geometry new.geometry n.layout geometry w.uber_layout;
    objects = λ o q at. (let of = w.objects o q (sym (ap (λ os. get nat_eq os o) objects) ∙ at) in
        record { object_is = of.object_is; shard = of.shard; there = ap (λ zs. slice_get zs q.metaslab) shards ∙ of.there; live = of.live });
    floor = (let fits = w.floor in let same = ap group_of n.kept in omega (arith, fits, same, floor));
    low = (let low = w.low in omega (arith, low, floor));
    near = near_kept pool.own.floor new.own.floor (slice_get pool.metaslabs.shards.items) (slice_get new.metaslabs.shards.items) (omega (arith, floor)) (λ k z at. (z, ap (λ zs. slice_get zs k) shards ∙ at, omega arith)) w.near;
    point = point_on pool new w n.point objects seq;
    behind = λ own k z is there. w.behind own k z (ap (λ (p : Point). p.group) (sym n.point) ∙ is) (sym (ap (λ zs. slice_get zs k) shards) ∙ there);
  }

  -- ---- it names the group, and each metaslab commits it

  live_on : (group : ℕ) (old new : Shard R A) (q : Pointer) → DropsFreed group old.entries new.entries → IsLive old q → IsLive new q
  live_on group old new q drops live = drops.at q.first ∙ (ap (λ o. if is_freed_entry group o then None else o) live)

  held_on : (group : ℕ) (old new : Shard R A) (key : Key) (h : Held) → DropsFreed group old.entries new.entries → held_in new.entries key ≡ Some h → held_in old.entries key ≡ Some h
  held_on group old new key h drops there = (kept_some (is_freed_block group (held_in old.entries key)) (held_in old.entries key) h (sym (drops.held key) ∙ there)).1

  pub whole_committed : (pool new : Pool R A) (group : ℕ) → IsWhole rack area pool → Names area pool.uber new.uber group → CommitsBelow rack group (length pool.metaslabs.shards.items) pool.metaslabs.shards.items new.metaslabs.shards.items
      → group ≡ group_of (kept_of pool.uber) + 1 → new.geometry ≡ pool.geometry → new.own.objects ≡ pool.own.objects → new.own.seq ≡ pool.own.seq → new.own.floor ≡ pool.own.floor → IsWhole rack area new
  whole_committed pool new group w n commits next geometry objects seq floor = record {
    perms = w.perms;
    layout = subst (λ g. IsLayout g w.perms) (sym geometry) w.layout;
    many = commits.many ∙ (w.many ∙ ap (λ (g : Geometry). g.props.metaslabs) (sym geometry));
    shards = each;
    alike = alike;
    uber = n.valid;
    uber_layout = layout_again (ubers.layout_in (ubers.layout_of pool.uber) (ubers.version_of pool.uber)) (ubers.layout_of new.uber) pool.geometry new.geometry n.layout geometry w.uber_layout;
    objects = λ o q at. pointer o q (w.objects o q (sym (ap (λ os. get nat_eq os o) objects) ∙ at));
    floor = (let fits = w.floor in omega (arith, fits, named, next, floor));
    low = (let low = w.low in omega (arith, low, floor));
    near = near_kept pool.own.floor new.own.floor (slice_get pool.metaslabs.shards.items) (slice_get new.metaslabs.shards.items) (omega (arith, floor)) stays w.near;
    point = point_on pool new w n.point objects seq;
    behind = behind;
  }
    where
      stays : (k : ℕ) (z : Shard R A) → slice_get pool.metaslabs.shards.items k ≡ Some z → (after : Shard R A) × (slice_get new.metaslabs.shards.items k ≡ Some after) × (z.open_group ≤ after.open_group)
      stays k z at =
          let after = commits.below k z (slice_get_within pool.metaslabs.shards.items k z at) at in
          let same = after.2.commits.open_group_is in
          (after.0, after.1, omega (arith, same))

      behind : (own k : ℕ) (z : Shard R A) → (ubers.point_of new.uber).group ≡ Some own → slice_get new.metaslabs.shards.items k ≡ Some z → own < z.open_group
      behind own k z is there =
          let inside = slice_get_within new.metaslabs.shards.items k z there in
          let many = commits.many in
          let was = present pool.metaslabs.shards.items k (omega (arith, inside, many)) in
          let after = commits.below k was.0 (omega (arith, inside, many)) was.1 in
          let same = after.2.commits.open_group_is in
          let low = w.behind own k was.0 (ap (λ (p : Point). p.group) (sym n.point) ∙ is) was.1 in
          subst (λ (q : Shard R A). own < q.open_group) (some_of (slice_get new.metaslabs.shards.items k) after.0 z after.1 there) (omega (arith, same, low))

      named : group_of (kept_of new.uber) ≡ group
      named = ap group_of n.kept

      commits_at : (k : ℕ) (shard : Shard R A) → slice_get pool.metaslabs.shards.items k ≡ Some shard → (after : Shard R A) × (slice_get new.metaslabs.shards.items k ≡ Some after) × Commits rack group shard after
      commits_at k shard there = commits.below k shard (slice_get_within pool.metaslabs.shards.items k shard there) there

      before : (k : ℕ) (z : Shard R A) → slice_get new.metaslabs.shards.items k ≡ Some z → (was : Shard R A) × (slice_get pool.metaslabs.shards.items k ≡ Some was) × CommitsSlots was.slots z.slots group
      before k z there =
          let inside = slice_get_within new.metaslabs.shards.items k z there in
          let many = commits.many in
          let was = present pool.metaslabs.shards.items k (omega (arith, inside, many)) in
          let after = commits_at k was.0 was.1 in
          (was.0, was.1, subst (λ (q : Shard R A). CommitsSlots was.0.slots q.slots group) (some_of (slice_get new.metaslabs.shards.items k) after.0 z after.1 there) after.2.slots)

      each : (k : ℕ) (z : Shard R A) → slice_get new.metaslabs.shards.items k ≡ Some z → IsShardOf rack w.perms new k z
      each k z there =
          let inside = slice_get_within new.metaslabs.shards.items k z there in
          let many = commits.many in
          let was = present pool.metaslabs.shards.items k (omega (arith, inside, many)) in
          let after = commits_at k was.0 was.1 in
          let own : Commits rack group was.0 z = subst (λ (q : Shard R A). Commits rack group was.0 q) (some_of (slice_get new.metaslabs.shards.items k) after.0 z after.1 there) after.2 in
          let is = w.shards k was.0 was.1 in
          record {
            valid = own.valid;
            part = own.does.part ∙ (is.part ∙ ap (λ (g : Geometry). record { geometry = g; perms = w.perms; number = k }) (sym geometry));
            numbered = λ key h at. (let low = is.numbered key h (held_on group was.0 z key h own.commits.entries at) in omega (arith, low, seq));
            settled = λ key h at. is.settled key h (held_on group was.0 z key h own.commits.entries at);
            committed = own.commits.committed ∙ sym named;
            leaves = λ leaf stays. (let low = is.leaves leaf (leaf_left group was.0.slots z.slots leaf own.slots stays) in let same = n.next_leaf in omega (arith, low, same));
          }

      -- each has the arms that it had, and the same detachments are left
      alike : (m k : ℕ) (a b : Shard R A) → slice_get new.metaslabs.shards.items m ≡ Some a → slice_get new.metaslabs.shards.items k ≡ Some b → ShareArms a.slots b.slots
      alike m k a b at here =
          let p = before m a at in
          let q = before k b here in
          share_left group p.0.slots q.0.slots a.slots b.slots p.2 q.2 (w.alike m k p.0 q.0 p.1 q.1)

      pointer : (o : ℕ) (q : Pointer) → IsPointer pool o q → IsPointer new o q
      pointer o q of =
          let after = commits_at q.metaslab of.shard of.there in
          record { object_is = of.object_is; shard = after.0; there = after.1; live = live_on group of.shard after.0 q (after.2).commits.entries of.live }
