-- The uberblock of an open pool gets the number of the next leaf, while no group is closing.
use Rattle.std.proofs.Common.{◌≡◌, ◌≤◌, ◌+◌, ◌∙◌, [], ◌∷◌, inl, inr, ℕ, true, Some, arith, refl, sym, ap, subst, slice_get, ◌<◌}
use Rattle.std.specs.Prelude.{nat_eq, ◌↔◌}
use Rattle.std.specs.HashMap.{get}
use Rattle.std.proofs.lemmas.List.Elements.{All-weaker}
use Rattle.draid_rack.specs.declared.Rack as racks
use Rattle.draid_area.specs.declared.Area as areas
use Rattle.draid_machine.specs.State as machine
use Rattle.draid_machine.proofs.Rows.{reached_sound}
use Rattle.draid_machine.proofs.Small.{none_some}
use Rattle.draid_shard.specs.States.{layout_by, part_of}
use Rattle.draid_shard.specs.declared.shard.Shard.{Shard}
use Rattle.draid_shard.proofs.Homes.{lays}
use Rattle.draid_uber.specs.Checks.{AreasStand, count_in, told_by}
use Rattle.draid_uber.specs.Slots.{group_of}
use Rattle.draid_uber.specs.Uber as ubers
use Rattle.draid_uber.specs.Uber.{areas_of, kept_of, next_leaf_of}
use Rattle.draid_uber.specs.declared.uber.Uber.{Uber}
use Rattle.draid_session.specs.Arms as arms
use Rattle.draid_session.specs.Holds.{NextLeaf, OnUber}
use Rattle.draid_session.specs.Phases.{Went}
use Rattle.draid_session.specs.State.{Metaslab, State}
use Rattle.draid_pool.specs.Carries.{CarriesOut}
use Rattle.draid_pool.specs.Failing.{AreasLater}
use Rattle.draid_pool.proofs.Rises.{areas_still}
use Rattle.draid_pool.specs.Pools.{Represents, part_in}
use Rattle.draid_pool.specs.Records.{HasImage, LeavesAreBelow}
use Rattle.draid_pool.specs.Syncing.{AreIdle, Phase}
use Rattle.draid_pool.specs.Ubers.{IsPending, IsUber, kept_in, check_told}
use Rattle.draid_pool.specs.Whole.{IsWhole, PointFits}
use Rattle.draid_pool.specs.declared.pool.Pool.{Pool}
use Rattle.draid_pool.proofs.Lifted.{HasMetaslab, metaslab_of}
use Rattle.draid_pool.proofs.Steps.{carried}
use Rattle.draid_pool.proofs.Versions.{layout_again}
use Rattle.draid_pool.proofs.Stood.{IsOneOf, Rest, Stood, represents_of, stood_of}
use Rattle.draid_changes.proofs.Begun.{uber_of}
use Rattle.draid_changes.proofs.Events.{unsealed}
use Rattle.draid_uber.specs.Points.{told_at}
use Rattle.draid_checkpoint.specs.Check.{Point}
use Rattle.draid_session.specs.Points.{HasLateMark}

-- an uberblock is another one with this number, which is no lower
pub record SetsLeaf {A : Type 0} (area : areas.Ghosts A) (old new : Uber A) (next : ℕ) : Type 0 where
  pub valid : ubers.Valid area.size new
  pub above : next_leaf_of old ≤ next
  pub next_is : next_leaf_of new ≡ next
  pub areas_is : areas_of new ≡ areas_of old
  pub kept : kept_of new ≡ kept_of old
  pub layout : ubers.layout_of new ≡ ubers.layout_of old
  pub version : ubers.version_of new ≡ ubers.version_of old
  pub point : ubers.point_of new ≡ ubers.point_of old
  pub changed : ubers.changed_of new ≡ ubers.changed_of old

module _ {R A : Type 0} (rack : racks.Ghosts R) (area : areas.Ghosts A) (late : Pool R A) (u : Uber A) (next : ℕ) (set : SetsLeaf area late.uber u next) where
  pub numbered_whole : IsWhole rack area late → IsWhole rack area (record late { uber = u })
  numbered_whole w = record {
    perms = w.perms;
    layout = w.layout;
    many = w.many;
    shards = λ m z there. (let is = w.shards m z there in record {
      valid = is.valid;
      part = is.part;
      numbered = is.numbered;
      settled = is.settled;
      committed = is.committed ∙ ap group_of (sym set.kept);
      leaves = λ leaf own. (let low = is.leaves leaf own in let above = set.above in let same = set.next_is in omega (arith, low, above, same));
    });
    alike = w.alike;
    uber = set.valid;
    uber_layout = layout_again (ubers.layout_of late.uber) (ubers.layout_of u) late.geometry late.geometry set.layout refl w.uber_layout;
    objects = λ o q at. (let of = w.objects o q at in record { object_is = of.object_is; shard = of.shard; there = of.there; live = of.live });
    floor = subst (λ k. late.own.floor ≤ group_of k + 2) (sym set.kept) w.floor;
    low = w.low;
    near = w.near;
    point = subst (λ p. PointFits 0 p (get nat_eq late.own.objects) late.own.seq) (sym set.point) w.point;
    behind = λ own m z is there. w.behind own m z (ap (λ (p : Point). p.group) (sym set.point) ∙ is) there;
  }

  module _ (first : Shard R A) (there : slice_get late.metaslabs.shards.items 0 ≡ Some first) (idle : AreIdle late.metaslabs.shards.items) (x : State) (r : Represents rack area late x) where
    z : HasMetaslab rack area late x r.stands 0 first
    z = metaslab_of rack area late x r.stands 0 first there

    committed_is : z.y.world.image.group ≡ x.committed
    committed_is = (reached_sound (layout_by first) (lays (part_of first) z.is.valid.part) z.y.world z.is.stands.reached).groups.image_is ∙ r.stands.groups.committed 0 z.y z.at

    settled_uber : x.pending ≡ true → ⊥
    settled_uber pending =
        let h : HasImage (x.committed + 1) z.y = r.stands.images (x.committed + 1) 0 z.y (inr (pending, refl)) (omega arith) z.at in
        elim h.is [
          | inl own ↦ (let of = h.of in let same = ap (λ (i : machine.Image). i.group) own in let group = committed_is in omega (arith, of, same, group))
          | inr own ↦ none_some z.y.world.sealed h.image (unsealed rack area (part_in x 0) (r.stands.pieces 0) first z.y z.is (idle 0 first there)) own
        ]

    abbrev after : State
    after = record x { next_leaf = next }

    raised : (y : Metaslab) → LeavesAreBelow x.kept_leaf x.next_leaf y.world → LeavesAreBelow x.kept_leaf next y.world
    raised y l =
        let above = set.above in
        let same = r.stands.uber.next_leaf in
        record {
          kept = l.kept;
          sealed = λ image of leaf some. (let low = l.sealed image of leaf some in omega (arith, low, above, same));
          now = λ leaf some. (let low = l.now leaf some in omega (arith, low, above, same));
        }

    uber_is : IsUber area u after
    uber_is = (let is = r.stands.uber in record {
      valid = set.valid;
      layout = set.layout ∙ is.layout;
      version = set.version ∙ is.version;
      kept = set.kept ∙ is.kept;
      next_leaf = set.next_is;
      point = λ group late. ap (λ (p : Point). told_at p group) set.point ∙ is.point group late;
      late = λ group above. subst (λ n. HasLateMark group x.store.marks ↔ (group < n)) (sym set.changed) (is.late group above);
      count = is.count ∙ sym (ap (count_in area.faults) set.areas_is);
      stands = record {
        pending = is.stands.pending;
        are = All-weaker (IsPending x) (IsPending after) (λ body pending. absurd (settled_uber pending.0)) is.stands.pending is.stands.are;
        stands = subst (λ a. AreasStand (check_told x.store.marks) (kept_in x) is.stands.pending (told_by area.told a)) (sym set.areas_is) is.stands.stands;
      };
    })

    stood : Stood rack area late.metaslabs.shards.items (λ object. get nat_eq late.own.objects object) after (IsOneOf x.committed r.stands.shared)
    unfolding stood_of
    stood = (let s = stood_of rack area late x r in record {
      layout = s.layout;
      many = s.many;
      shards_are = s.shards_are;
      pieces = s.pieces;
      each = s.each;
      holds = s.holds;
      only = s.only;
      checks = s.checks;
      marked = s.marked;
      objects = s.objects;
      images = s.images;
      leaves = record {
        order = (let order = s.leaves.order in let above = set.above in let same = r.stands.uber.next_leaf in omega (arith, order, above, same));
        each = λ m y at. raised y (s.leaves.each m y at);
      };
      said = s.said;
    })

    rest : Rest rack area (record late { uber = u }) r.stands.shared after
    rest = record {
      geometry = r.stands.geometry;
      versions = r.stands.versions;
      next = r.stands.groups.next;
      last = r.stands.groups.last;
      seq = r.stands.seq;
      floor = r.stands.floor;
      uber = uber_is;
    }

    -- in one hold of the uberblock
    pub numbers_done : CarriesOut rack area (record late { uber = u }) x (Phase x (arms.Numbers x.geometry x.perms next) Went)
    numbers_done =
        carried rack area (record late { uber = u }) x (OnUber (uber_of x) (NextLeaf next) ∷ []) after (Phase x (arms.Numbers x.geometry x.perms next) Went)
        (after, record { sees = refl; acts = refl }, refl) (represents_of rack area (record late { uber = u }) r.stands.shared after stood rest) (refl, (uber_of x, refl, refl))

module _ {R A : Type 0} (rack : racks.Ghosts R) (area : areas.Ghosts A) where
  -- its area is the same
  pub areas_numbered : (late : Pool R A) (u : Uber A) → areas_of u ≡ areas_of late.uber → AreasLater area.faults late (record late { uber = u })
  areas_numbered late u same =
      let still = areas_still area.faults late in
      record { uber = (let is = ap (count_in area.faults) same in omega (arith, is)); many = still.many; shards = still.shards }
